-- What stands under the keys of a mark.
use Rattle.std.proofs.Common.{◌≡◌, ℕ, Bool, true, false, ◌&&◌, List, Option, refl}
use Rattle.linx_base.specs.declared.identity.Inc.{Inc}
use Rattle.linx_base.specs.declared.identity.LinkNo.{LinkNo}
use Rattle.linx_base.specs.declared.identity.NodeNo.{NodeNo}
use Rattle.linx_base.specs.declared.identity.Session.{Session}
use Rattle.link_tables.specs.declared.marks.Mark.{Mark}
use Rattle.link_tables.specs.declared.marks.Mark.TheVariants.{Opened, Closed, Met}

-- what holds of each kind of mark holds of every mark
pub by_mark : (p q : Mark → Bool)
    → ((inc : Inc) (name : Option (List ℕ)) → p (Opened inc name) ≡ q (Opened inc name))
    → ((inc : Inc) → p (Closed inc) ≡ q (Closed inc))
    → ((node : NodeNo) (link : LinkNo) (session : Session) (inc : Inc)
    → p (Met node link session inc) ≡ q (Met node link session inc))
    → (m : Mark) → p m ≡ q m
by_mark p q opened closed met (Opened inc name) = opened inc name
by_mark p q opened closed met (Closed inc) = closed inc
by_mark p q opened closed met (Met node link session inc) = met node link session inc

pub and_nested : (a b c : Bool) → (a && (b && c)) ≡ ((a && b) && c)
and_nested true b c = refl
and_nested false b c = refl
