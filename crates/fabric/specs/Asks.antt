-- What a maker may ask a fabric for.
use Rattle.std.specs.Prelude.{ℕ, ◌≡◌, ◌==◌, Bool, true, false, is_some, length}
use Rattle.linx_base.specs.declared.frame.Verdict.{Verdict}
use Rattle.linx_base.specs.declared.identity.LinkNo.{LinkNo}
use Rattle.linx_base.specs.declared.identity.Side.{Side}
use Rattle.linx_base.specs.SigNotes.{SigNote}
use Rattle.journal.specs.Laws.{IsMaker}
use Rattle.journal.specs.Shapes.{node_by}
use Rattle.journal.specs.declared.by.By.{By}
use Rattle.journal.specs.declared.by.By.TheVariants.{Actor, Pump}
use Rattle.journal.specs.declared.event.Event.{Event}
use Rattle.journal.specs.declared.event.Event.TheVariants as asks
use Rattle.node_kernel.specs.declared.ask.Ask.{Ask}
use Rattle.run_trunks.specs.States.{trunks_of}
use Rattle.fabric.specs.Fits.{FitsRun, MayMeetIn}
use Rattle.fabric.specs.Machine.{hands_over, signal_in}
use Rattle.fabric.specs.Run.{Layout}

-- a maker may ask for this: an actor for anything, a pump for what the wires and the clock of its
-- link do
abbrev pub may_ask : By → Event → Bool
may_ask (Actor k) event = true
may_ask (Pump link) (asks.Wire l from verdict) = l.0 == link.0
may_ask (Pump link) (asks.Tick l side) = l.0 == link.0
may_ask (Pump link) _ = false

-- a packet of a fabric may meet this verdict
abbrev pub MayMeet : Layout → LinkNo → Side → Verdict → Type 0
MayMeet f l from verdict =
    MayMeetIn f.shape f.log.steps (trunks_of f.trunks) l from verdict

-- what an event of a maker on this node of a fabric speaks of is there
abbrev pub FitsEvent : Layout → ℕ → Event → SigNote → Type 0
FitsEvent f node event note =
    FitsRun (length f.log.names.nodes) f.shape f.log.steps (trunks_of f.trunks) node event note

-- WHAT A MAKER MAY ASK FOR: it makes steps, and such ones; the event has a signal in hand exactly
-- where it hands one over, and what it speaks of is there
pub record MayAsk (f : Layout) (by : By) (ask : Ask) : Type 0 where
  pub maker : IsMaker f.shape f.log.steps by
  pub may : may_ask by ask.event ≡ true
  pub handed : is_some ask.hand ≡ hands_over ask.event
  pub fits : FitsEvent f (node_by f.shape by) ask.event (signal_in ask.hand)
