-- That a link of a run settles, and comes to rest.
use Rattle.std.specs.Prelude.{◌≡◌, ℕ, suc, ◌-◌, ◌<◌, ◌≤◌, ◌==◌, Bool, true, false, not, List}
use Rattle.std.specs.Prelude.{length, None}
use Rattle.linx_base.specs.Sides.{other_of}
use Rattle.linx_base.specs.declared.frame.Verdict.TheVariants.{Deliver}
use Rattle.linx_base.specs.declared.identity.LinkNo.{LinkNo}
use Rattle.linx_base.specs.declared.identity.Side.{Side}
use Rattle.linx_base.specs.declared.identity.Side.TheVariants.{First, Second}
use Rattle.trunk_record.specs.Trunks.{IsQuiet}
use Rattle.journal.specs.Logs.{step_limit}
use Rattle.journal.specs.Shapes.{Shape}
use Rattle.journal.specs.declared.effect.Step.{Step}
use Rattle.journal.specs.declared.head.Head.{Head}
use Rattle.journal.specs.declared.head.Head.TheVariants.{Close, Ended, Hunt, Open, Restart, Send}
use Rattle.journal.specs.declared.head.Head.TheVariants.{Tick, Wire}
use Rattle.link_laws.specs.Ends.{IsLinkOf}
use Rattle.link_laws.specs.Sessions.{is_cut}
use Rattle.carrier.specs.Events.{is_quiet}
use Rattle.link_settling.specs.Measure.{Falls, Measure}
use Rattle.link_settling.specs.Runs.{SettlesIn}
use Rattle.trunk.specs.Events.{kept_of}
use Rattle.trunk_moves.specs.Steps.{IsTrunkStep, IsBoundedTrunkRun}
use Rattle.trunk_moves.specs.Trunks.{RunTrunks}
use Rattle.run_settling.specs.Asking.{left_over}
use Rattle.run_settling.specs.Resting.{ComesToRest, IsJoined, NoneFlies, Settles, after_ticks}
use Rattle.run_settling.specs.Rounds.{Rounds}

-- the link of number l settles in n ticks, the next of which is of this side
abbrev pub LinkSettlesIn : ℕ → Side → LinkNo → RunTrunks → Type 0
LinkSettlesIn n side l trunks = SettlesIn n side (trunks l.0).link

-- a run that has room for a step, whatever the maker of the step is
pub record RunGoesOn (shape : Shape) (P : List Step) (before : RunTrunks) (s : Step)
    (after : RunTrunks) : Type 0 where
  pub run : IsBoundedTrunkRun shape P before
  pub room : length P < step_limit
  pub step : IsTrunkStep shape P before s after

-- A LINK OF A RUN SETTLES IN SIX TICKS, whatever happened to it
pub record RunsSettle : Type 0 where
  pub begins :
      (shape : Shape) (P : List Step) (trunks : RunTrunks) → IsBoundedTrunkRun shape P trunks
      → (l : LinkNo) → IsLinkOf shape l → (side : Side) → LinkSettlesIn 6 side l trunks
  -- the first packet from a side comes, and its node answers
  pub comes :
      (shape : Shape) (P : List Step) (before : RunTrunks) (s : Step) (after : RunTrunks)
      → RunGoesOn shape P before s after → (l : LinkNo) (from : Side)
      → s.head ≡ Wire l from Deliver → (n : ℕ) (side : Side) → LinkSettlesIn n side l before
      → LinkSettlesIn n side l after
  -- once nothing is in flight a tick is one less, and the next is of the other side
  pub ticked :
      (shape : Shape) (P : List Step) (before : RunTrunks) (s : Step) (after : RunTrunks)
      → RunGoesOn shape P before s after → (l : LinkNo) (side : Side) → s.head ≡ Tick l side
      → NoneFlies l before → (n : ℕ) → LinkSettlesIn (suc n) side l before
      → LinkSettlesIn n (other_of side) l after
  -- and after the last of them the link is quiet
  pub quiet :
      (l : LinkNo) (trunks : RunTrunks) (side : Side) → NoneFlies l trunks
      → LinkSettlesIn 0 side l trunks → is_quiet (trunks l.0).link ≡ true
  -- so both sides are up with each other, and all that was said was given
  pub joined :
      (shape : Shape) (P : List Step) (trunks : RunTrunks) → IsBoundedTrunkRun shape P trunks
      → (l : LinkNo) → IsLinkOf shape l → is_quiet (trunks l.0).link ≡ true
      → IsQuiet (kept_of First (trunks l.0)) (kept_of Second (trunks l.0))

-- ---- coming to rest

-- a step of this head says nothing over the link, hands over none of its packets and ticks neither
-- of its sides
abbrev pub is_elsewhere : LinkNo → Head → Bool
is_elsewhere l (Open name) = false
is_elsewhere l Close = false
is_elsewhere l (Send q note answer) = false
is_elsewhere l (Hunt path note) = false
is_elsewhere l (Restart n) = false
is_elsewhere l (Wire m from verdict) = not (l.0 == m.0)
is_elsewhere l (Tick m side) = not (l.0 == m.0)
is_elsewhere l Ended = false
is_elsewhere l _ = true

-- THE DELIVERIES IN FLIGHT END, with all that the nodes answer
pub record DeliveriesOfRunsEnd : Type 0 where
  -- a packet that comes, with all that its node answers, leaves less to do
  pub falls :
      (shape : Shape) (P : List Step) (before : RunTrunks) (s : Step) (after : RunTrunks)
      → RunGoesOn shape P before s after → (l : LinkNo) (from : Side)
      → s.head ≡ Wire l from Deliver → Falls (left_over l after) (left_over l before)
  -- steps elsewhere leave it, so they may be made between
  pub elsewhere :
      (shape : Shape) (P : List Step) (before : RunTrunks) (s : Step) (after : RunTrunks)
      → IsTrunkStep shape P before s after → (l : LinkNo) → IsLinkOf shape l
      → is_elsewhere l s.head ≡ true → left_over l after ≡ left_over l before
  -- and what is left to do doesn't get less for ever
  pub ends : (left : ℕ → Measure) → ¬ ((n : ℕ) → Falls (left (suc n)) (left n))

-- A LINK THAT ISN'T CUT COMES TO REST, from every state that a run reaches
pub record LinksComeToRest : Type 0 where
  -- the deliveries in flight end
  pub ends : DeliveriesOfRunsEnd
  -- whoever settles it, in whatever order, is at most six ticks from its rest, and can go on until
  -- it is joined or the journal is full
  pub settles :
      (shape : Shape) (P : List Step) (trunks : RunTrunks) → IsBoundedTrunkRun shape P trunks
      → (l : LinkNo) → IsLinkOf shape l → is_cut P l.0 ≡ false → (side : Side) (ticks : ℕ)
      (Q : List Step) (last : RunTrunks) → Settles shape l Q last ticks side P trunks → ticks ≤ 6
      → ComesToRest shape l (6 - ticks) (after_ticks ticks side) Q last
  -- and after six ticks or more, once nothing is in flight, it is joined
  pub rests :
      (shape : Shape) (P : List Step) (trunks : RunTrunks) → IsBoundedTrunkRun shape P trunks
      → (l : LinkNo) → IsLinkOf shape l → (side : Side) (ticks : ℕ) (Q : List Step)
      (last : RunTrunks) → Settles shape l Q last ticks side P trunks → 6 ≤ ticks
      → NoneFlies l last → IsJoined l last
  -- and so it is after six rounds or more, in each of which both sides tick, whichever is the first
  pub rests_in_rounds :
      (shape : Shape) (P : List Step) (trunks : RunTrunks) → IsBoundedTrunkRun shape P trunks
      → (l : LinkNo) → IsLinkOf shape l → (rounds : ℕ) (Q : List Step) (last : RunTrunks)
      → Rounds shape l Q last rounds None P trunks → 6 ≤ rounds → NoneFlies l last
      → IsJoined l last
