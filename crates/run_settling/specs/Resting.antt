-- What settles a link of a run, and when it has come to rest.
use Rattle.std.specs.Prelude.{◌≡◌, ◌≤◌, ◌⊎◌, ℕ, zero, suc, true, false, List, ◌∷◌}
use Rattle.linx_base.specs.Sides.{other_of}
use Rattle.linx_base.specs.declared.frame.Verdict.TheVariants.{Deliver}
use Rattle.linx_base.specs.declared.identity.LinkNo.{LinkNo}
use Rattle.linx_base.specs.declared.identity.Side.{Side}
use Rattle.linx_base.specs.declared.identity.Side.TheVariants.{First, Second}
use Rattle.journal.specs.Logs.{is_full}
use Rattle.journal.specs.Shapes.{Shape}
use Rattle.journal.specs.declared.effect.Step.{Step}
use Rattle.journal.specs.declared.head.Head.{Head}
use Rattle.journal.specs.declared.head.Head.TheVariants.{Tick, Wire}
use Rattle.carrier.specs.Events.{is_quiet}
use Rattle.link_settling.specs.Runs.{IsEmpty}
use Rattle.trunk.specs.Events.{kept_of}
use Rattle.trunk_moves.specs.Steps.{IsTrunkStep}
use Rattle.trunk_moves.specs.Trunks.{RunTrunks}
use Rattle.trunk_record.specs.Trunks.{IsQuiet}

-- nothing is in flight over the link of number l
abbrev pub NoneFlies : LinkNo → RunTrunks → Type 0
NoneFlies l trunks = IsEmpty (trunks l.0).link

-- A LINK IS JOINED: it is quiet, and both sides are up with each other and were given all that was
-- said
pub record IsJoined (l : LinkNo) (trunks : RunTrunks) : Type 0 where
  pub quiet : is_quiet (trunks l.0).link ≡ true
  pub sides : IsQuiet (kept_of First (trunks l.0)) (kept_of Second (trunks l.0))

-- a step of this head is made, by anybody, while the journal has room
pub record IsMadeAs (shape : Shape) (P : List Step) (before : RunTrunks) (s : Step)
    (after : RunTrunks) (head : Head) : Type 0 where
  pub room : is_full P ≡ false
  pub step : IsTrunkStep shape P before s after
  pub is : s.head ≡ head

-- WHAT SETTLES A LINK, from a run on: packets come, from either side, each time the first; where
-- none is in flight a side ticks, the next time the other one; so many ticks. Nothing is lost, and
-- no other step is made
pub data Settles (shape : Shape) (l : LinkNo) (Q : List Step) (last : RunTrunks)
    : ℕ → Side → List Step → RunTrunks → Type 0 where
  over : (side : Side) → Settles shape l Q last 0 side Q last
  comes : (ticks : ℕ) (side from : Side) (P : List Step) (before : RunTrunks) (s : Step)
      (after : RunTrunks) → IsMadeAs shape P before s after (Wire l from Deliver)
      → Settles shape l Q last ticks side (s ∷ P) after → Settles shape l Q last ticks side P before
  ticks : (ticks : ℕ) (side : Side) (P : List Step) (before : RunTrunks) (s : Step)
      (after : RunTrunks) → NoneFlies l before → IsMadeAs shape P before s after (Tick l side)
      → Settles shape l Q last ticks (other_of side) (s ∷ P) after
      → Settles shape l Q last (suc ticks) side P before

-- whose tick is next after so many, the first of which was of this side
abbrev pub after_ticks : ℕ → Side → Side
after_ticks zero side = side
after_ticks (suc n) side = after_ticks n (other_of side)

-- A LINK COMES TO REST in at most n ticks, the first of which is of this side: it can be settled
-- so, until it is joined or the journal is full
pub record ComesToRest (shape : Shape) (l : LinkNo) (n : ℕ) (side : Side) (P : List Step)
    (trunks : RunTrunks) : Type 0 where
  pub count : ℕ
  pub steps : List Step
  pub last : RunTrunks
  pub made : Settles shape l steps last count side P trunks
  pub few : count ≤ n
  pub rests : IsJoined l last ⊎ (is_full steps ≡ true)
