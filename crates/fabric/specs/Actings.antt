-- What the fabric is asked for an actor, what it makes of that, and what a stop leaves.
use Rattle.std.specs.Prelude.{ℕ, ◌≡◌, ◌+◌, ◌<◌, false, length, Option}
use Rattle.linx_base.specs.SigNotes.{SigNote}
use Rattle.journal.specs.declared.by.By.{By}
use Rattle.journal.specs.declared.by.By.TheVariants.{Actor}
use Rattle.journal.specs.declared.event.Event.{Event}
use Rattle.journal.specs.Logs.{is_full, step_limit}
use Rattle.journal.specs.Shapes.{node_by}
use Rattle.node_kernel.specs.declared.answers.StepAnswer.{StepAnswer}
use Rattle.node_kernel.specs.declared.ask.Ask.{Ask}
use Rattle.run_trunks.specs.States.{trunks_of}
use Rattle.fabric.specs.Asks.{MayAsk}
use Rattle.fabric.specs.Calls.{refusal_with}
use Rattle.fabric.specs.Links.{no_link_stirs}
use Rattle.fabric.specs.Machine.{granted_head}
use Rattle.fabric.specs.Run.{IsStepFor, Layout}
use Rattle.fabric.specs.declared.stop.StepStop.{StepStop}

-- an event, and the signal that goes with it
abbrev pub asking : Event → Option SigNote → Ask
asking event hand = record { event = event; hand = hand }

-- a maker may ask this, and the journal takes a step, so it has fewer than 200,000
pub record MayMake (f : Layout) (by : By) (ask : Ask) : Type 0 where
  pub may : MayAsk f by ask
  pub room : is_full f.log.steps ≡ false
  pub short : length f.log.steps < step_limit

-- the kernel of actor k's node stands at this place
pub record IsHomeOf (f : Layout) (k place : ℕ) : Type 0 where
  pub home : place + 1 ≡ node_by f.shape (Actor k)
  pub there : place < length f.log.names.nodes

-- what is granted to actor k is made, and answered
abbrev pub HasMade : Layout → Layout → ℕ → Ask → StepAnswer → Type 0
HasMade old new k ask answer =
    IsStepFor old new (Actor k)
    (granted_head old.shape old.log.steps
    (no_link_stirs old.shape old.log.steps (trunks_of old.trunks)) k ask) answer

-- the steps and the trunks alone have changed
abbrev pub OnlyRuns : Layout → Layout → Type 0
OnlyRuns old new =
    new ≡ record old { log = record old.log { steps = new.log.steps }; trunks = new.trunks }

-- memory was refused: the hand comes back, and nothing has changed
abbrev pub LeavesAll : Layout → Layout → Option SigNote → StepStop → Type 0
LeavesAll old new hand stop =
    (stop ≡ refusal_with hand) × (new ≡ old)
