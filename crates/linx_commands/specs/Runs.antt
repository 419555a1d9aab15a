-- What a run of a script is, and what each status says of it.
use Rattle.std.specs.Prelude.{ℕ, ◌≡◌, ◌≢◌, ◌⊎◌, true, false, List, [], take, Option, Some, None, Ok}
use Rattle.std.specs.Prelude.{Err, IfSome, OnSome, IsOk}
use Rattle.journal.specs.declared.effect.Step.{Step}
use Rattle.journal.specs.Logs.{Log, is_full}
use Rattle.journal.specs.Shapes.{Shape}
use Rattle.link_laws.specs.Laws.{IsLegal}
use Rattle.link_laws.specs.Moves.{AllResting}
use Rattle.link_laws.specs.Still.{IsOver}
use Rattle.run_trunks.specs.States.{trunks_of}
use Rattle.trunk_moves.specs.Trunks.{links_of}
use Rattle.fabric.specs.declared.stop.StopCause.{StopCause}
use Rattle.fabric.specs.Run.{Layout}
use Rattle.script_lang.specs.Parts.{ScriptParts}
use Rattle.stage.specs.Plays.{AllFollowWhole, IsSoFar}
use Rattle.stage.specs.Stops.{IsCauseOf}
use Rattle.stage.specs.Turns.{IsStoppedRun, IsWhole, first_layout, is_over, shape_of}
use Rattle.workers.specs.declared.ran.Ran.{Ran}
use Rattle.linx_commands.specs.Statuses.{IsDoneOrRefused}
use Rattle.linx_commands.specs.Streams.{read_most}
use Rattle.command_words.specs.declared.request.Asked.{Asked}
use Rattle.command_words.specs.declared.request.TurnOrder.{TurnOrder}
use Rattle.command_words.specs.declared.request.TurnOrder.TheVariants.{Fixed, Seed}
use Rattle.command_words.specs.declared.request.Asked.TheVariants.{Run, InOrder, Gen}
use Rattle.order_rules.specs.Orders.{Order}
use Rattle.order_lines.specs.Fronts.{OrderedParts, ordered_of}
use Rattle.order_lines.specs.declared.ordered.Ordered.{Ordered}
use Rattle.order_rules.specs.Seeds.{rule_of}
use Rattle.order_rules.specs.declared.rule.Rule.TheVariants.{Rounds}
use Rattle.orders.specs.Runs.{IsInOrder, IsStoppedInOrder}
use Rattle.orders.specs.Seeds.{span_of}
use Rattle.linx_commands.specs.declared.outcome.Status.{Status}
use Rattle.linx_commands.specs.declared.outcome.Status.TheVariants.{Done, Script, ReadFault}
use Rattle.linx_commands.specs.declared.outcome.Status.TheVariants.{WriteFault, JournalFull}
use Rattle.linx_commands.specs.declared.outcome.Status.TheVariants.{NoMemory}

-- a run so far of a script, whose journal has this log
pub record IsRunAs (script : ScriptParts) (run : Layout) (log : Log) : Type 0 where
  pub logged : run.log ≡ log
  pub so_far : IsSoFar script run

-- a whole run of a script, whose journal has this log: each actor's steps are all that its commands
-- ask for, and all is over; as the journal tells, every actor has ended, and every link is still.
-- Every link rests: it is cut and up at neither end, or both sides are up with each other, and what
-- each said in the session is what the other was given, signals that it freed included
pub record IsWholeAs (script : ScriptParts) (run : Layout) (log : Log) : Type 0 where
  pub so_far : IsRunAs script run log
  pub follows : AllFollowWhole script log.steps
  pub over : is_over run ≡ true
  pub still : IsOver (shape_of script) log.steps
  pub rest : AllResting (shape_of script) log.steps (links_of (trunks_of run.trunks))

-- A JOURNAL IS THAT OF A WHOLE RUN of a script, in whichever order the turns came
abbrev pub IsRunOf : ScriptParts → Log → Type 0
IsRunOf script log = (run : Layout) × IsWholeAs script run log

-- what was read of a script with its orders
abbrev pub parts_of : Ordered → OrderedParts
parts_of read = record { script = read.script; front = read.front.items }

-- a script with no maker that comes first
abbrev pub unordered : ScriptParts → OrderedParts
unordered script = record { script = script; front = [] }

-- the order that a number decides for a script: the makers that its lines list come first, and then
-- whom the rule of the number names
abbrev pub seeded_order : OrderedParts → ℕ → Order
seeded_order ordered seed =
    record { left = ordered.front; rule = rule_of (span_of ordered.script) seed }

-- the order of rounds behind these makers
abbrev pub rounds_behind : List ℕ → Order
rounds_behind front = record { left = front; rule = Rounds 0 }

-- a whole run in the fixed order: what rounds make until all is over; behind the makers that come
-- first, where there are any
abbrev pub IsWholeBehind : List ℕ → ScriptParts → Layout → Type 0
IsWholeBehind [] script run = IsWhole script run
IsWholeBehind front script run = IsInOrder script (rounds_behind front) run

-- a run in the fixed order that stopped: behind so many rounds, and of the next one so many turns;
-- or, where makers come first, behind so many turns of these and of the rounds behind them
abbrev pub IsStoppedBehind : List ℕ → ScriptParts → Layout → Type 0
IsStoppedBehind [] script run = IsStoppedRun script (first_layout script) run
IsStoppedBehind front script run = IsStoppedInOrder script (rounds_behind front) run

-- a whole run in an order: the fixed one, or the one that a number decides
abbrev pub IsWholeIn : TurnOrder → OrderedParts → Layout → Type 0
IsWholeIn Fixed ordered run = IsWholeBehind ordered.front ordered.script run
IsWholeIn (Seed n) ordered run = IsInOrder ordered.script (seeded_order ordered n) run

-- a run in an order that stopped
abbrev pub IsStoppedIn : TurnOrder → OrderedParts → Layout → Type 0
IsStoppedIn Fixed ordered run = IsStoppedBehind ordered.front ordered.script run
IsStoppedIn (Seed n) ordered run = IsStoppedInOrder ordered.script (seeded_order ordered n) run

-- A JOURNAL IS THAT OF THE WHOLE RUN IN AN ORDER
pub record IsRunInOrder (order : TurnOrder) (ordered : OrderedParts) (log : Log) : Type 0 where
  pub run : Layout
  pub is : IsWholeAs ordered.script run log
  pub whole : IsWholeIn order ordered run

-- the whole run that a command asks for: under `serial` and `seed` the one in their order
abbrev pub IsRunUnder : Asked → OrderedParts → Log → Type 0
IsRunUnder Run ordered log = IsRunOf ordered.script log
IsRunUnder (InOrder order) ordered log = IsRunInOrder order ordered log
IsRunUnder (Gen n) ordered log = IsRunOf ordered.script log

-- a run is over: under `serial` and `seed` it is that of their order
abbrev pub IsOverUnder : Asked → OrderedParts → Layout → Type 0
IsOverUnder Run ordered run = is_over run ≡ true
IsOverUnder (InOrder order) ordered run = IsWholeIn order ordered run
IsOverUnder (Gen n) ordered run = is_over run ≡ true

-- a run was stopped: under `serial` and `seed` in their order
abbrev pub IsStoppedUnder : Asked → OrderedParts → Layout → Type 0
IsStoppedUnder Run ordered run = Unit {0}
IsStoppedUnder (InOrder order) ordered run = IsStoppedIn order ordered run
IsStoppedUnder (Gen n) ordered run = Unit {0}

-- a script was run in an order: until all was over, or as far as memory and the journal let it
pub record IsRanBy (turns : Order) (script : ScriptParts) (ran : Ran) : Type 0 where
  pub of : ran.stage.script ≡ script
  pub over : ran.stop ≡ None → IsInOrder script turns ran.stage.run
  pub order : (cause : StopCause) → ran.stop ≡ Some cause → IsStoppedInOrder script turns ran.stage.run
  pub cause : IfSome ran.stop (λ cause. IsCauseOf cause ran.stage.run.log.steps)
  pub turn : OnSome ran.stop (is_over ran.stage.run ≡ false)

-- a script was run: until all was over, or as far as memory and the journal let it
pub record IsRan (asked : Asked) (ordered : OrderedParts) (ran : Ran) : Type 0 where
  pub of : ran.stage.script ≡ ordered.script
  pub over : ran.stop ≡ None → IsOverUnder asked ordered ran.stage.run
  pub order : (cause : StopCause) → ran.stop ≡ Some cause
      → IsStoppedUnder asked ordered ran.stage.run
  pub cause : IfSome ran.stop (λ cause. IsCauseOf cause ran.stage.run.log.steps)
  pub turn : OnSome ran.stop (is_over ran.stage.run ≡ false)

-- a run of a script stopped where an actor or a link has a turn to take, and the journal takes no
-- further step; under `serial` and `seed` in their order
pub record IsStoppedFull (asked : Asked) (ordered : OrderedParts) (log : Log) : Type 0 where
  pub run : Layout
  pub so_far : IsRunAs ordered.script run log
  pub full : is_full log.steps ≡ true
  pub turn : is_over run ≡ false
  pub order : IsStoppedUnder asked ordered run

-- memory was refused to a run where an actor or a link has a turn to take, and the journal has room;
-- under `serial` and `seed` in their order
pub record IsRefusedUnder (asked : Asked) (ordered : OrderedParts) (run : Layout) : Type 0 where
  pub room : is_full run.log.steps ≡ false
  pub turn : is_over run ≡ false
  pub order : IsStoppedUnder asked ordered run

-- A JOURNAL IS THAT OF A RUN SO FAR of a script, to which memory was refused: a whole run, before
-- its text was made, or one that stopped
pub record IsRunSoFar (asked : Asked) (ordered : OrderedParts) (log : Log) : Type 0 where
  pub run : Layout
  pub so_far : IsRunAs ordered.script run log
  pub order : IsOverUnder asked ordered run ⊎ IsRefusedUnder asked ordered run

-- an empty journal: it has no names and no steps
abbrev pub IsEmptyLog : Log → Type 0
IsEmptyLog log = log ≡ record { names = record { nodes = []; links = [] }; steps = [] }

-- a journal is legal, whatever it was laid out on
abbrev pub IsLegalSomehow : List Step → Type 0
IsLegalSomehow P = (shape : Shape) × IsLegal shape P

-- what each status says of a script and of the journal, under a command
abbrev pub IsAnswerTo : Asked → Status → OrderedParts → Log → Type 0
IsAnswerTo asked Done ordered log = IsRunUnder asked ordered log
IsAnswerTo asked WriteFault ordered log = IsRunUnder asked ordered log
IsAnswerTo asked JournalFull ordered log = IsStoppedFull asked ordered log
IsAnswerTo asked NoMemory ordered log = IsRunSoFar asked ordered log
IsAnswerTo asked _ ordered log = ⊥

-- what each status says of a script that is at hand: its answer, or that memory was refused before
-- the first step
abbrev pub IsOutcomeOf : Asked → Status → OrderedParts → Log → Type 0
IsOutcomeOf asked status ordered log =
    ((status ≡ NoMemory) × IsEmptyLog log) ⊎ IsAnswerTo asked status ordered log

-- the status and the journal are those of a run of the source's script, which its bytes spell where
-- the source tells them
pub record IsOfSource (asked : Asked) (status : Status) (told : Option (List ℕ)) (log : Log)
    : Type 0 where
  pub ordered : OrderedParts
  pub spelled : IfSome told (λ bytes. ordered_of bytes ≡ Ok ordered)
  pub answer : IsAnswerTo asked status ordered log

-- the bytes that a run reads of these
abbrev pub read_of : List ℕ → List ℕ
read_of bytes = take read_most bytes

-- The cause of each status under a command that reads a script: what it says of the bytes that a
-- source had, where it told them, and of the journal
abbrev pub IsCaused : Asked → Status → Option (List ℕ) → Log → Type 0
IsCaused asked Done told log = IsOfSource asked Done told log
IsCaused asked (Script line fault) told log =
    IfSome told (λ bytes. ordered_of (read_of bytes) ≡ Err (line, fault)) × IsEmptyLog log
IsCaused asked ReadFault told log = IsEmptyLog log
IsCaused asked WriteFault told log = IsOfSource asked WriteFault told log
IsCaused asked JournalFull told log = IsOfSource asked JournalFull told log
IsCaused asked NoMemory told log = IsEmptyLog log ⊎ IsOfSource asked NoMemory told log
IsCaused asked _ told log = ⊥

-- where bytes spell a script, neither a read nor a write failed and the journal has room, the run
-- is done, or memory was refused
abbrev pub Completes : List ℕ → Status → Log → Type 0
Completes bytes status log =
    IsOk (ordered_of bytes) → is_full log.steps ≡ false → status ≢ ReadFault → status ≢ WriteFault
    → IsDoneOrRefused status
