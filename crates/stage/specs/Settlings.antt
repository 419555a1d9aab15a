-- SETTLING: after its step of Settle an actor makes the steps of the link's pump itself, until the
-- link doesn't stir.
use Rattle.std.specs.Prelude.{ℕ, zero, suc, ◌+◌, ◌≡◌, ◌≤◌, Bool, true, false, ◌&&◌, List, []}
use Rattle.std.specs.Prelude.{◌∷◌, length, nat_le, nat_lt, Option, Some, None, if◌then◌else◌}
use Rattle.linx_base.specs.declared.identity.LinkNo.{LinkNo}
use Rattle.journal.specs.declared.by.By.{By}
use Rattle.journal.specs.declared.by.By.TheVariants.{Actor, Pump}
use Rattle.journal.specs.declared.effect.Step.{Step}
use Rattle.journal.specs.declared.event.Event.{Event}
use Rattle.journal.specs.declared.event.Event.TheVariants as asks
use Rattle.journal.specs.declared.head.Head.{Head}
use Rattle.journal.specs.declared.head.Head.TheVariants.{Settle, Tick, Wire}
use Rattle.journal.specs.Laws.{IsMaker}
use Rattle.journal.specs.Shapes.{Shape}
use Rattle.link_laws.specs.Ends.{IsLinkOf}
use Rattle.link_laws.specs.Sessions.{is_cut}
use Rattle.node_kernel.specs.declared.answers.StepAnswer.{StepAnswer}
use Rattle.node_kernel.specs.declared.ask.Ask.{Ask}
use Rattle.run_trunks.specs.States.{trunks_of}
use Rattle.trunk_moves.specs.Trunks.{RunTrunks}
use Rattle.run_settling.specs.Resting.{IsJoined}
use Rattle.fabric.specs.Actings.{OnlyRuns}
use Rattle.fabric.specs.declared.stop.StepStop.{StepStop}
use Rattle.fabric.specs.Links.{are_plans_ended, stirs, tick_steps}
use Rattle.fabric.specs.Run.{IsStepped, Layout}
use Rattle.stage.specs.declared.acting.Acted.{Acted}
use Rattle.stage.specs.declared.acting.Acted.TheVariants.{Done, Halfway, Stopped}
use Rattle.stage.specs.Pumps.{settling_event}
use Rattle.stage.specs.Stops.{IsCauseOf}

-- ---- what settling a link is

-- an actor may settle any link, a pump its own
abbrev pub MaySettle : By → LinkNo → Type 0
MaySettle (Actor k) l = Unit {0}
MaySettle (Pump m) l = m.0 ≡ l.0

-- how many ticks an event is
abbrev pub ticks_of : Event → ℕ
ticks_of (asks.Tick l side) = 1
ticks_of _ = 0

-- one step of a settling: what the pump of a settled link asks for
pub record IsSettling (by : By) (l : LinkNo) (old new : Layout) : Type 0 where
  pub event : Event
  pub asked : settling_event old.log.steps (trunks_of old.trunks) l ≡ Some event
  pub answer : StepAnswer
  pub stepped : IsStepped old new by (record { event = event; hand = None }) answer
  pub fixed : OnlyRuns old new

-- so many steps of a settling
abbrev pub AreSettlings : By → LinkNo → ℕ → Layout → Layout → Type 0
AreSettlings by l zero old new = new ≡ old
AreSettlings by l (suc n) old new =
    (between : Layout) × (AreSettlings by l n old between × IsSettling by l between new)

-- a link stirs in this state of a run
abbrev pub stirs_in : Layout → LinkNo → Bool
stirs_in f l = stirs f.log.steps (trunks_of f.trunks) l.0

-- A LINK WAS SETTLED, with so many ticks: at most six. It doesn't stir, and is joined
pub record IsSettled (by : By) (l : LinkNo) (ticks : ℕ) (old new : Layout) : Type 0 where
  pub steps : ℕ
  pub made : AreSettlings by l steps old new
  pub counted : tick_steps new.log.steps l.0 ≡ tick_steps old.log.steps l.0 + ticks
  pub few : ticks ≤ 6
  pub still : stirs_in new l ≡ false
  pub joined : IsJoined l (trunks_of new.trunks)

-- a settling stopped: the next step of it is due
pub record StopsSettling (by : By) (l : LinkNo) (old new : Layout) : Type 0 where
  pub steps : ℕ
  pub made : AreSettlings by l steps old new
  pub due : stirs_in new l ≡ true

-- ---- within an actor's turn

-- the link that an event settles
abbrev pub settled_by : Event → Option LinkNo
settled_by (asks.Settle l) = Some l
settled_by _ = None

-- what an actor does after its step, in the same turn: nothing where the step settles no link, or
-- one that is cut; else it settles the link
pub data GoesOnAfter (settled : Option LinkNo) (k : ℕ) (between new : Layout) : Type 0 where
  settles_none : settled ≡ None → new ≡ between → GoesOnAfter settled k between new
  leaves_cut : (l : LinkNo) → settled ≡ Some l → is_cut between.log.steps l.0 ≡ true
      → new ≡ between → GoesOnAfter settled k between new
  settles_whole : (l : LinkNo) → settled ≡ Some l → is_cut between.log.steps l.0 ≡ false
      → (ticks : ℕ) → IsSettled (Actor k) l ticks between new
      → GoesOnAfter settled k between new

-- what an actor goes on to after its step stopped: the settling of a link that isn't cut
pub record StopsAfter (settled : Option LinkNo) (k : ℕ) (between new : Layout) : Type 0 where
  pub link : LinkNo
  pub asked : settled ≡ Some link
  pub whole : is_cut between.log.steps link.0 ≡ false
  pub stops : StopsSettling (Actor k) link between new

-- an actor that hasn't ended may go on so: its link is there, and is settled
pub record MaySettleNow (l : LinkNo) (k : ℕ) (f : Layout) : Type 0 where
  pub declared : IsLinkOf f.shape l
  pub maker : IsMaker f.shape f.log.steps (Actor k)
  pub settled : are_plans_ended f.log.steps l.0 ≡ true

-- an actor may go on as its step asks: anything where the step settles no link, else it may settle
-- that link
abbrev pub MayGoOn : Option LinkNo → ℕ → Layout → Type 0
MayGoOn None k f = Unit {0}
MayGoOn (Some l) k f = MaySettleNow l k f

module _ (old new : Layout) (k : ℕ) (ask : Ask) where
  -- WHAT AN ACTOR ASKS FOR IS DONE: its step is made and answered so, and the actor goes on as far
  -- as it has to
  pub record IsDone (answer : StepAnswer) : Type 0 where
    pub between : Layout
    pub stepped : IsStepped old between (Actor k) ask answer
    pub fixed : OnlyRuns old between
    pub goes_on : GoesOnAfter (settled_by ask.event) k between new

  -- IT IS HALF DONE: the step of a settle is made and answered so, and the settling stopped
  pub record IsHalfDone (answer : StepAnswer) : Type 0 where
    pub between : Layout
    pub stepped : IsStepped old between (Actor k) ask answer
    pub fixed : OnlyRuns old between
    pub stops : StopsAfter (settled_by ask.event) k between new

  -- nothing is done, and what was in hand is back
  pub record IsNotDone (stop : StepStop) : Type 0 where
    pub same : new ≡ old
    pub hand : stop.hand ≡ ask.hand

  -- what came of what an actor asked for: it is done, half done or not done, and a stop has its
  -- cause
  abbrev pub IsActedAs : Acted → Type 0
  IsActedAs (Done answer) = IsDone answer
  IsActedAs (Halfway answer cause) = IsHalfDone answer × IsCauseOf cause new.log.steps
  IsActedAs (Stopped stop) = IsNotDone stop × IsCauseOf stop.cause new.log.steps

-- ---- in a journal

-- an actor that settles a link
pub record Settler : Type 0 where
  pub actor : ℕ
  pub link : LinkNo

-- the actor of this number settles this link
abbrev pub settler : ℕ → LinkNo → Settler
settler k l = record { actor = k; link = l }

-- who settles a link after this last step of an actor: it, where that step settles a link that
-- isn't cut, or is a packet's or a tick's
abbrev pub settler_by : List Step → ℕ → Head → Option Settler
settler_by P k (Settle l) = if is_cut P l.0 then None else Some (settler k l)
settler_by P k (Wire l from verdict) = Some (settler k l)
settler_by P k (Tick l side) = Some (settler k l)
settler_by P k _ = None

-- who settles a link after this last step: an actor may, a pump doesn't
abbrev pub settler_after : List Step → By → Head → Option Settler
settler_after P (Actor k) head = settler_by P k head
settler_after P (Pump l) head = None

-- who settles a link after the last step of a history
abbrev pub settler_of : List Step → Option Settler
settler_of [] = None
settler_of (s ∷ P) = settler_after P s.by s.head

-- a link of the shape stirs
abbrev pub stirs_on : Shape → List Step → RunTrunks → LinkNo → Bool
stirs_on shape P trunks l =
    (nat_lt 0 l.0 && nat_le l.0 (length shape.links)) && stirs P trunks l.0

-- who settles a link, as long as the link stirs
abbrev pub if_stirs : Shape → List Step → RunTrunks → Option Settler → Option Settler
if_stirs shape P trunks None = None
if_stirs shape P trunks (Some w) = if stirs_on shape P trunks w.link then Some w else None

-- WHO SETTLES A LINK NOW, and isn't done with it
abbrev pub settler_now : Shape → List Step → RunTrunks → Option Settler
settler_now shape P trunks = if_stirs shape P trunks (settler_of P)

-- who settles a link now, in a state of a run
abbrev pub settler_in : Layout → Option Settler
settler_in f = settler_now f.shape f.log.steps (trunks_of f.trunks)
