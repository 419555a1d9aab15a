-- A run of the machine: what a step makes of the journal and of the trunks, and which runs there
-- are.
use Rattle.std.specs.Prelude.{ℕ, ◌≡◌, false, List, [], ◌∷◌, length, Option, Some, None}
use Rattle.journal.specs.Logs.{Log, is_full}
use Rattle.journal.specs.Shapes.{Shape, node_by}
use Rattle.journal.specs.declared.by.By.{By}
use Rattle.journal.specs.declared.effect.Effect.{Effect}
use Rattle.journal.specs.declared.effect.Step.{Step}
use Rattle.journal.specs.declared.head.Head.{Head}
use Rattle.node_kernel.specs.Answers.{answer_of, event_of, hand_of, named}
use Rattle.node_kernel.specs.declared.answers.StepAnswer.{StepAnswer}
use Rattle.node_kernel.specs.declared.answers.StepAnswer.TheVariants.{NotYet}
use Rattle.node_kernel.specs.declared.ask.Ask.{Ask}
use Rattle.run_trunks.specs.States.{new_trunks, trunks_of}
use Rattle.trunk.specs.Events.{TrunkState}
use Rattle.trunk_moves.specs.Steps.{IsTrunkStep}
use Rattle.trunk_moves.specs.Trunks.{AllNew, Become, RunTrunks}
use Rattle.fabric.specs.Fits.{FitsRun}
use Rattle.fabric.specs.Links.{no_link_stirs}
use Rattle.fabric.specs.Machine.{head_for, signal_in}

-- what a fabric is seen as: what it is laid out on, its log, and the trunk of each link
pub record Layout : Type 0 where
  pub shape : Shape
  pub log : Log
  pub trunks : List TrunkState

-- A STEP IS MADE on so many nodes where the journal isn't full before it, the machine gives its head
-- to what that head names, and what it speaks of is there
pub record IsMade (nodes : ℕ) (shape : Shape) (P : List Step) (trunks : RunTrunks) (s : Step)
    : Type 0 where
  pub room : is_full P ≡ false
  pub given : head_for shape P (no_link_stirs shape P trunks) s.by (named s.head) ≡ Some s.head
  pub fits :
      FitsRun nodes shape P trunks (node_by shape s.by) (event_of s.head)
      (signal_in (hand_of s.head))

-- before the first step each link's trunk is new, with the window and the piece of its declaration
abbrev pub AreFirst : Shape → RunTrunks → Type 0
AreFirst shape trunks =
    AllNew shape trunks × Become shape trunks (trunks_of (new_trunks shape.links))

-- THE RUNS on so many nodes: from the first trunks on, each step is made, and makes of the trunks
-- what its kind makes
abbrev pub IsReached : ℕ → Shape → List Step → RunTrunks → Type 0
IsReached nodes shape [] trunks = AreFirst shape trunks
IsReached nodes shape (s ∷ P) after =
    (before : RunTrunks)
    × (IsReached nodes shape P before × (IsTrunkStep shape P before s after
    × IsMade nodes shape P before s))

-- the run of a layout is one of the machine's
abbrev pub IsReachedBy : Layout → Type 0
IsReachedBy f = IsReached (length f.log.names.nodes) f.shape f.log.steps (trunks_of f.trunks)

-- A STEP WITH THIS HEAD is added, and this is its answer
pub record IsStepOf (old new : Layout) (by : By) (head : Head) (answer : StepAnswer) : Type 0 where
  pub effects : List Effect
  pub steps :
      new.log.steps ≡ record { by = by; head = head; effects = effects } ∷ old.log.steps
  pub makes :
      IsTrunkStep old.shape old.log.steps (trunks_of old.trunks)
      (record { by = by; head = head; effects = effects }) (trunks_of new.trunks)
  pub answered : answer ≡ answer_of old.log.steps head effects

-- the step with this head is added and answered; where there is none, nothing is changed, and the
-- answer is that there is none yet
abbrev pub IsStepFor : Layout → Layout → By → Option Head → StepAnswer → Type 0
IsStepFor old new by None answer = (new ≡ old) × (answer ≡ NotYet)
IsStepFor old new by (Some head) answer = IsStepOf old new by head answer

-- WHAT A MAKER ASKS FOR is made, and answered
abbrev pub IsStepped : Layout → Layout → By → Ask → StepAnswer → Type 0
IsStepped old new by ask answer =
    IsStepFor old new by
    (head_for old.shape old.log.steps (no_link_stirs old.shape old.log.steps (trunks_of old.trunks)) by
    ask) answer
