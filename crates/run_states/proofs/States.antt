-- A JOURNAL REACHES ONE STATE: by induction over its steps.
use Rattle.std.proofs.Common.{◌≡◌, List, [], ◌∷◌, refl, sym, ◌∙◌}
use Rattle.journal.specs.History.{endpoint_by}
use Rattle.journal.specs.Shapes.{Shape, node_by}
use Rattle.journal.specs.declared.by.By.{By}
use Rattle.journal.specs.declared.effect.Effect.{Effect}
use Rattle.journal.specs.declared.effect.Step.{Step}
use Rattle.journal.specs.declared.head.Head.{Head}
use Rattle.link_laws.specs.Ends.{HasTwoEnds}
use Rattle.trunk_moves.specs.Steps.{IsTrunkRun, IsTrunkStep}
use Rattle.trunk_moves.specs.Trunks.{Become, RunTrunks}
use Rattle.run_states.specs.Laws.{HasBegun, RunsReachOneState}
use Rattle.run_states.specs.Runs.{IsRunFrom}
use Rattle.run_states.proofs.Effects.{effects_alike}
use Rattle.run_states.proofs.Making.{makes_same}

-- ---- a step

step_same : (shape : Shape) → HasTwoEnds shape → (P : List Step) (one two : RunTrunks) (s : Step)
    (after_one after_two : RunTrunks) → Become shape one two
    → IsTrunkStep shape P one s after_one → IsTrunkStep shape P two s after_two
    → Become shape after_one after_two
step_same shape ends P one two s after_one after_two same first second =
    makes_same shape ends P one two after_one after_two same (node_by shape s.by)
    (endpoint_by P s.by) s.head s.effects first.makes second.makes

step_effects : (shape : Shape) (P : List Step) (one two : RunTrunks) (by : By) (head : Head)
    (es fs : List Effect) (after_one after_two : RunTrunks) → Become shape one two
    → IsTrunkStep shape P one (record { by = by; head = head; effects = es }) after_one
    → IsTrunkStep shape P two (record { by = by; head = head; effects = fs }) after_two → es ≡ fs
step_effects shape P one two by head es fs after_one after_two same first second =
    effects_alike shape P one two after_one after_two same es fs (node_by shape by)
    (endpoint_by P by) head first.laws.effects second.laws.effects first.makes second.makes

-- ---- a run

-- two runs that begin with the same trunks end with the same trunks
ends_same : (shape : Shape) → HasTwoEnds shape → (first : RunTrunks) (P : List Step)
    (one two : RunTrunks) → IsRunFrom shape first P one → IsRunFrom shape first P two
    → Become shape one two
ends_same shape ends first [] one two run_one run_two =
    λ l of_shape. run_one l of_shape ∙ sym (run_two l of_shape)
ends_same shape ends first (s ∷ P) one two run_one run_two =
    step_same shape ends P run_one.0 run_two.0 s one two
    (ends_same shape ends first P run_one.0 run_two.0 run_one.1.0 run_two.1.0)
    run_one.1.1 run_two.1.1

begun : (shape : Shape) (P : List Step) (trunks : RunTrunks) → IsTrunkRun shape P trunks
    → HasBegun shape P trunks
begun shape [] trunks new = record { first = trunks; new = new; run = λ l of_shape. refl }
begun shape (s ∷ P) after run =
    let was : HasBegun shape P run.0 = begun shape P run.0 run.1.0 in
    record { first = was.first; new = was.new; run = (run.0, (was.run, run.1.1)) }

pub runs_reach_one_state : RunsReachOneState
runs_reach_one_state = record {
  step = step_same;
  effects = step_effects;
  same = ends_same;
  begun = begun;
}
