-- What settles a link of a run in rounds, in each of which both sides tick once.
use Rattle.std.specs.Prelude.{ℕ, suc, Option, Some, None, List, ◌∷◌}
use Rattle.linx_base.specs.Sides.{other_of}
use Rattle.linx_base.specs.declared.frame.Verdict.TheVariants.{Deliver}
use Rattle.linx_base.specs.declared.identity.LinkNo.{LinkNo}
use Rattle.linx_base.specs.declared.identity.Side.{Side}
use Rattle.journal.specs.Shapes.{Shape}
use Rattle.journal.specs.declared.effect.Step.{Step}
use Rattle.journal.specs.declared.head.Head.TheVariants.{Tick, Wire}
use Rattle.trunk_moves.specs.Trunks.{RunTrunks}
use Rattle.run_settling.specs.Resting.{IsMadeAs, NoneFlies}

-- WHAT SETTLES A LINK IN ROUNDS, from a run on: packets come, from either side, each time the
-- first; where none is in flight a side ticks, whichever is the first of the round, and where none
-- is again the other one; so many rounds. Of a round under way one side is still to tick. Nothing
-- is lost, and no other step is made
pub data Rounds (shape : Shape) (l : LinkNo) (Q : List Step) (last : RunTrunks)
    : ℕ → Option Side → List Step → RunTrunks → Type 0 where
  over : Rounds shape l Q last 0 None Q last
  comes : (rounds : ℕ) (left : Option Side) (from : Side) (P : List Step) (before : RunTrunks)
      (s : Step) (after : RunTrunks) → IsMadeAs shape P before s after (Wire l from Deliver)
      → Rounds shape l Q last rounds left (s ∷ P) after → Rounds shape l Q last rounds left P before
  begins : (rounds : ℕ) (side : Side) (P : List Step) (before : RunTrunks) (s : Step)
      (after : RunTrunks) → NoneFlies l before → IsMadeAs shape P before s after (Tick l side)
      → Rounds shape l Q last rounds (Some (other_of side)) (s ∷ P) after
      → Rounds shape l Q last (suc rounds) None P before
  ends : (rounds : ℕ) (side : Side) (P : List Step) (before : RunTrunks) (s : Step)
      (after : RunTrunks) → NoneFlies l before → IsMadeAs shape P before s after (Tick l side)
      → Rounds shape l Q last rounds None (s ∷ P) after
      → Rounds shape l Q last rounds (Some side) P before
