-- THE RUN OF A SEED, of the script that bytes spell, behind the makers that its lines `order` list.
use Rattle.std.specs.Prelude.{ℕ, ◌≡◌, false, List, Ok, Err}
use Rattle.journal.specs.Logs.{Log}
use Rattle.fabric.specs.Run.{Layout}
use Rattle.fabric.specs.declared.stop.StopCause.{StopCause}
use Rattle.order_lines.specs.Fronts.{OrderedParts, ordered_of}
use Rattle.order_lines.specs.declared.ordered.Ordered.{Ordered}
use Rattle.stage.specs.Plays.{IsSoFar}
use Rattle.stage.specs.Stops.{IsCauseOf}
use Rattle.stage.specs.Turns.{is_over}
use Rattle.order_rules.specs.Orders.{Order}
use Rattle.order_rules.specs.Seeds.{rule_of}
use Rattle.orders.specs.Runs.{IsInOrder, IsStoppedInOrder}
use Rattle.orders.specs.Seeds.{span_of}
use Rattle.seed_runs.specs.declared.runs.RunStop.{RunStop}
use Rattle.seed_runs.specs.declared.runs.RunStop.TheVariants.{Bad, Stopped, NoMemory}

-- what was read of a script with its orders
abbrev pub parts_of : Ordered → OrderedParts
parts_of read = record { script = read.script; front = read.front.items }

-- the order that a number decides for a script: the makers that its lines list come first, and then
-- whom the rule of the number names
abbrev pub seeded_order : OrderedParts → ℕ → Order
seeded_order ordered seed =
    record { left = ordered.front; rule = rule_of (span_of ordered.script) seed }

-- a journal with this log is that of a script's whole run in the order of a seed
pub record IsSeedRun (ordered : OrderedParts) (seed : ℕ) (log : Log) : Type 0 where
  pub run : Layout
  pub logged : run.log ≡ log
  pub so_far : IsSoFar ordered.script run
  pub whole : IsInOrder ordered.script (seeded_order ordered seed) run

-- a journal with this log is that of a script's run in the order of a seed, which stopped before all
-- was over
pub record IsStoppedSeedRun (ordered : OrderedParts) (seed : ℕ) (cause : StopCause) (log : Log)
    : Type 0 where
  pub run : Layout
  pub logged : run.log ≡ log
  pub so_far : IsSoFar ordered.script run
  pub stopped : IsStoppedInOrder ordered.script (seeded_order ordered seed) run
  pub due : is_over run ≡ false
  pub why : IsCauseOf cause run.log.steps

-- THE RUN OF A SEED is whole, and its journal has this log
pub record IsRunOf (bytes : List ℕ) (seed : ℕ) (log : Log) : Type 0 where
  pub ordered : OrderedParts
  pub spelled : ordered_of bytes ≡ Ok ordered
  pub run : IsSeedRun ordered seed log

-- THE RUN OF A SEED STOPPED, for this cause and with a journal of this log
pub record IsStoppedRunOf (bytes : List ℕ) (seed : ℕ) (cause : StopCause) (log : Log)
    : Type 0 where
  pub ordered : OrderedParts
  pub spelled : ordered_of bytes ≡ Ok ordered
  pub run : IsStoppedSeedRun ordered seed cause log

-- why there is no whole run of a script: it stopped, or memory was refused
abbrev pub IsStopIn : OrderedParts → ℕ → RunStop → Type 0
IsStopIn ordered seed (Bad line fault) = ⊥
IsStopIn ordered seed (Stopped cause journal) = IsStoppedSeedRun ordered seed cause journal.log
IsStopIn ordered seed NoMemory = Unit {0}

-- WHY THERE IS NO WHOLE RUN OF A SEED: the bytes are no script, and this is their first bad line; or
-- the run stopped; or memory was refused
abbrev pub IsStopOf : List ℕ → ℕ → RunStop → Type 0
IsStopOf bytes seed (Bad line fault) = ordered_of bytes ≡ Err (line, fault)
IsStopOf bytes seed (Stopped cause journal) = IsStoppedRunOf bytes seed cause journal.log
IsStopOf bytes seed NoMemory = Unit {0}
