-- That the steps of a journal leave no choice of the trunks, and their heads none of the effects.
use Rattle.std.specs.Prelude.{◌≡◌, List}
use Rattle.journal.specs.Shapes.{Shape}
use Rattle.journal.specs.declared.by.By.{By}
use Rattle.journal.specs.declared.effect.Effect.{Effect}
use Rattle.journal.specs.declared.effect.Step.{Step}
use Rattle.journal.specs.declared.head.Head.{Head}
use Rattle.link_laws.specs.Ends.{HasTwoEnds}
use Rattle.trunk_moves.specs.Steps.{IsTrunkRun, IsTrunkStep}
use Rattle.trunk_moves.specs.Trunks.{AllNew, Become, RunTrunks}
use Rattle.run_states.specs.Runs.{IsRunFrom}

-- what a run from new trunks began with
pub record HasBegun (shape : Shape) (P : List Step) (trunks : RunTrunks) : Type 0 where
  pub first : RunTrunks
  pub new : AllNew shape first
  pub run : IsRunFrom shape first P trunks

-- A JOURNAL REACHES ONE STATE, on links between two nodes each, and its heads decide their effects
pub record RunsReachOneState : Type 0 where
  -- a step makes the same of the same trunks
  pub step :
      (shape : Shape) → HasTwoEnds shape → (P : List Step) (one two : RunTrunks) (s : Step)
      (after_one after_two : RunTrunks) → Become shape one two
      → IsTrunkStep shape P one s after_one → IsTrunkStep shape P two s after_two
      → Become shape after_one after_two
  -- the head of a step leaves no choice of its effects
  pub effects :
      (shape : Shape) (P : List Step) (one two : RunTrunks) (by : By) (head : Head)
      (es fs : List Effect) (after_one after_two : RunTrunks) → Become shape one two
      → IsTrunkStep shape P one (record { by = by; head = head; effects = es }) after_one
      → IsTrunkStep shape P two (record { by = by; head = head; effects = fs }) after_two
      → es ≡ fs
  -- so two runs that begin with the same trunks end with the same trunks
  pub same :
      (shape : Shape) → HasTwoEnds shape → (first : RunTrunks) (P : List Step)
      (one two : RunTrunks) → IsRunFrom shape first P one → IsRunFrom shape first P two
      → Become shape one two
  -- and each run with trunks begins with some
  pub begun :
      (shape : Shape) (P : List Step) (trunks : RunTrunks) → IsTrunkRun shape P trunks
      → HasBegun shape P trunks
