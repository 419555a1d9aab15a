-- The changes of these trunks are those of the trunks of a run.
use Rattle.std.specs.Prelude.{ℕ, ◌≡◌, List, length}
use Rattle.linx_base.specs.declared.identity.LinkNo.{LinkNo}
use Rattle.linx_base.specs.declared.identity.Side.{Side}
use Rattle.journal.specs.Shapes.{Shape}
use Rattle.link_laws.specs.Ends.{IsLinkOf}
use Rattle.trunk.specs.Events.{TrunkState}
use Rattle.trunk.specs.Parts.{HasOnlyGrownAt}
use Rattle.trunk_moves.specs.Trunks.{AllNew, Become, all_do, with_trunk}
use Rattle.run_trunks.specs.Changes.{at_link, each_does}
use Rattle.run_trunks.specs.States.{AllFit, OnlyChangedAt, TrunksState, both_at, kept, kept_at}
use Rattle.run_trunks.specs.States.{new_trunks, trunks_of}

-- a trunk for each link of a shape
abbrev pub AreTrunksOf : Shape → List TrunkState → Type 0
AreTrunksOf shape ts = length ts ≡ length shape.links

-- WHAT THE CALLS DO TO THE TRUNKS is what the steps of a run make of them
pub record ChangesAreOfRuns : Type 0 where
  -- new trunks are those before the first step
  pub begins :
      (shape : Shape) → AllFit shape.links → AllNew shape (trunks_of (new_trunks shape.links))
  -- what the sides of a node do
  pub all :
      (shape : Shape) (n : ℕ) (act : Side → TrunkState → TrunkState) (ts : List TrunkState)
      → AreTrunksOf shape ts
      → Become shape (trunks_of (each_does shape.links n act ts))
      (all_do shape n act (trunks_of ts))
  -- a change of one trunk
  pub one :
      (shape : Shape) (l : LinkNo) (change : TrunkState → TrunkState) (ts : List TrunkState)
      → AreTrunksOf shape ts → IsLinkOf shape l
      → Become shape (trunks_of (at_link l change ts))
      (with_trunk (trunks_of ts) l.0 (change (trunks_of ts l.0)))
  -- there is still a trunk for each link
  pub all_count :
      (shape : Shape) (n : ℕ) (act : Side → TrunkState → TrunkState) (ts : List TrunkState)
      → AreTrunksOf shape ts → AreTrunksOf shape (each_does shape.links n act ts)
  pub one_count :
      (shape : Shape) (l : LinkNo) (change : TrunkState → TrunkState) (ts : List TrunkState)
      → AreTrunksOf shape ts → AreTrunksOf shape (at_link l change ts)

-- what is read after a change of one trunk, and one change of it after the other
pub record ChangesFollow : Type 0 where
  pub read :
      (shape : Shape) (l : LinkNo) (change : TrunkState → TrunkState) (ts : List TrunkState)
      → AreTrunksOf shape ts → IsLinkOf shape l
      → trunks_of (at_link l change ts) l.0 ≡ change (trunks_of ts l.0)
  pub again :
      (l : LinkNo) (first second : TrunkState → TrunkState) (ts : List TrunkState)
      → at_link l second (at_link l first ts) ≡ at_link l (λ t. second (first t)) ts

-- what holds between the beginning of an event and its end
pub record EventsRest : Type 0 where
  -- at rest no packet was lost or exchanged
  pub grown :
      (s : TrunksState) (l : LinkNo) (from : Side) → s.was ≡ s.is
      → HasOnlyGrownAt from (both_at s l)
  -- at rest, and after changes of one trunk, no other one has changed
  pub rests : (s : TrunksState) (l : LinkNo) → s.was ≡ s.is → OnlyChangedAt l s
  pub changes :
      (s : TrunksState) (l : LinkNo) (change : TrunkState → TrunkState) → OnlyChangedAt l s
      → OnlyChangedAt l (record s { is = at_link l change s.is })
  -- so then to keep that one is to keep all
  pub keeps : (s : TrunksState) (l : LinkNo) → OnlyChangedAt l s → kept_at l s ≡ kept s
