-- What holds of a link once nothing is in flight does so too after messages were offered to a side,
-- and so after what a side of a trunk says.
use Rattle.std.proofs.Common.{List, [], ◌∷◌}
use Rattle.std.specs.List.{AllByRecursion}
use Rattle.linx_base.specs.declared.frame.Message.{Message}
use Rattle.carrier.specs.Events.{LinkState}
use Rattle.link_settling.specs.Runs.{OnceEmpty}
use Rattle.link_settling.specs.Runs.Move.{offers}
use Rattle.run_settling.proofs.Offering.{Spreads}

-- any message
abbrev pub IsAny : Message → Type 0
IsAny m = Unit {0}

pub all_any : (ms : List Message) → AllByRecursion IsAny ms
all_any [] = tt
all_any (m ∷ ms) = (tt, all_any ms)

-- what holds of the first link once nothing is in flight holds so of the second one
abbrev pub StillSettles : (LinkState → Type 0) → LinkState → LinkState → Type 0
StillSettles holds v w = OnceEmpty v holds → OnceEmpty w holds

pub settling_spreads : (holds : LinkState → Type 0) → Spreads IsAny (StillSettles holds)
settling_spreads holds =
    record {
      same = λ v h. h;
      chains = λ v w x one two h. two (one h);
      offered = λ to m v up is any k h moves may. h (offers to m ∷ moves) ((up, is), may);
    }
