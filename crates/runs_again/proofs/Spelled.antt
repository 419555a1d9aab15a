-- A script with the lines of a run of it behind spells the script, and the turns of the run.
use Rattle.std.proofs.Common.{◌∙◌, ℕ, ◌++◌, List, Result, Ok, sym, ap}
use Rattle.std.specs.List.{AllByRecursion}
use Rattle.journal.specs.declared.effect.Step.{Step}
use Rattle.order_lines.specs.Fronts.{beside, makers_of, with_front}
use Rattle.order_lines.specs.declared.turns.Makers.{Makers}
use Rattle.run_trunks.specs.States.{trunks_of}
use Rattle.script_words.specs.declared.fault.Fault.{Fault}
use Rattle.turn_lines.specs.Reading.{AreFew, IsAmong}
use Rattle.turn_lines.specs.Text.{order_text}
use Rattle.turn_lines.specs.Turns.{turn_makers}
use Rattle.turn_lines.proofs.Fronts.{turns_read_back}
use Rattle.runs_again.specs.Laws.{TurnsAreSpelled}
use Rattle.runs_again.proofs.Comments.{turns_say_nothing}
use Rattle.runs_again.proofs.Makers.{are_among, are_few, turns_are_few}
use Rattle.runs_again.proofs.Numbers.{turns_are_one}
use Rattle.runs_again.proofs.Scripts.{script_stays}

-- makers that were read
abbrev good_front : List ℕ → Result (List ℕ) (ℕ × Fault)
good_front makers = Ok makers

-- THE TURNS ARE SPELLED
pub turns_are_spelled : TurnsAreSpelled
turns_are_spelled bytes script run alone so_far short =
    let P : List Step = run.log.steps in
    let lines : List ℕ = order_text (turn_makers P) in
    let makers : Makers = makers_of script in
    let few : AreFew makers = are_few script so_far.declared in
    let among : AllByRecursion (IsAmong makers) (turn_makers P) =
    are_among script P so_far.legal in
    let turns = turns_are_few script P (trunks_of run.trunks) so_far.run in
    ap (beside (bytes ++ lines))
    (script_stays bytes lines alone.none script alone.spelled
    (turns_say_nothing makers few (turn_makers P) among turns) short)
    ∙ ap (with_front script) (turns_read_back makers bytes P few alone.none among turns)
    ∙ ap (λ (front : List ℕ). with_front script (good_front front)) (sym (turns_are_one script P))
