-- The two sides of each trunk, where one side of one link changes.
use Rattle.std.proofs.Common.{◌≡◌, ℕ, Bool, true, false, cond, ◌&&◌, refl, sym, subst, ◌==◌}
use Rattle.std.proofs.Common.{eqb-true}
use Rattle.linx_base.specs.Sides.{other_of}
use Rattle.linx_base.specs.declared.identity.LinkNo.{LinkNo}
use Rattle.linx_base.specs.declared.identity.Side.{Side}
use Rattle.linx_base.specs.declared.identity.Side.TheVariants.{First, Second}
use Rattle.trunk_record.specs.Records.{SideRecord}
use Rattle.trunk_record.specs.Trunks.{IsHalf}
use Rattle.journal.specs.Shapes.{Shape}
use Rattle.link_laws.specs.Sides.{AllTrunks, Trunks}
use Rattle.link_laws.specs.Sessions.{same_side}
use Rattle.link_laws.proofs.AllLinks.OthersStay.{with_side}

-- what its own trunk keeps of the changed side, and what all others kept
pub one_trunk : (shape : Shape) (trunks : Trunks) (l : LinkNo) (at : Side) (A : SideRecord)
    → IsHalf A (trunks l.0 (other_of at)) → IsHalf (trunks l.0 (other_of at)) A
    → AllTrunks shape trunks → AllTrunks shape (with_side trunks l.0 at A)
one_trunk shape trunks l at A near far halves h of_h side = by_link (h.0 == l.0) refl
  where
    sides : (here side : Side) → IsHalf A (trunks l.0 (other_of here))
        → IsHalf (trunks l.0 (other_of here)) A → IsHalf
        (cond (same_side here side) A (trunks l.0 side))
        (cond (same_side here (other_of side)) A (trunks l.0 (other_of side)))
    sides First First it back = it
    sides First Second it back = back
    sides Second First it back = back
    sides Second Second it back = it

    by_link : (t : Bool) → (h.0 == l.0) ≡ t → IsHalf
        (cond (t && same_side at side) A (trunks h.0 side))
        (cond (t && same_side at (other_of side)) A (trunks h.0 (other_of side)))
    by_link false e = halves h of_h side
    by_link true e =
        let same : h.0 ≡ l.0 = eqb-true h.0 l.0 e in
        subst (λ (k : ℕ). IsHalf (cond (same_side at side) A (trunks k side))
        (cond (same_side at (other_of side)) A (trunks k (other_of side)))) (sym same)
        (sides at side near far)
