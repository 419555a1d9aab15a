-- Which texts are those of legal runs.
use Rattle.std.proofs.Common.{◌≡◌, ℕ, List, map, None, Ok, Result, sym, subst}
use Rattle.std.proofs.Common.{IsSomeAnd}
use Rattle.std.specs.Result.{result_ok}
use Rattle.std.proofs.lemmas.List.{length-map}
use Rattle.linx_base.specs.declared.name.Names.{Names}
use Rattle.image_laws.specs.Told.{told_of}
use Rattle.journal.specs.Shapes.{Shape}
use Rattle.journal.specs.declared.effect.Step.{Step}
use Rattle.journal_read.specs.Printed.{AllFit, PrintedIsRead, read_step}
use Rattle.journal_read.specs.Reading.{read_in}
use Rattle.journal_text.specs.Text.{text_of}
use Rattle.link_laws.specs.Laws.{IsLegal}
use Rattle.log_laws.specs.Laws.{LogsAreFound, TextIsPrintedAgain}
use Rattle.printed_laws.specs.Laws.{IsRunAsShown, PassingAreRuns, PrintedStaysLegal}
use Rattle.reading_laws.specs.Forms.{AreNames}
use Rattle.reading_laws.specs.Printed.{shown_of}
use Rattle.script_lang.specs.Fits.{IsScript}
use Rattle.script_lang.specs.Parts.{ScriptParts}
use Rattle.stage.specs.Turns.{shape_of}
use Rattle.text_logs.specs.First.{first_other, front_of}
use Rattle.text_check.specs.Laws.{LegalTextsArePrinted, TextsOfLegalRunsPass}

are_names : (script : ScriptParts) → IsScript script → AreNames script.names
are_names script is = (is.named_nodes, is.named_links)

-- the text of a legal run
pub legal_run_passes : PrintedIsRead → PrintedStaysLegal → LogsAreFound → TextsOfLegalRunsPass
legal_run_passes read stays found script log is named fit legal =
    let of_log : AllFit log.names log.steps =
    subst (λ (names : Names). AllFit names log.steps) (sym named) fit in
    let are : AreNames log.names = subst AreNames (sym named) (are_names script is) in
    record {
      steps = map read_step log.steps;
      read = subst (λ (names : Names). read_in names (text_of log) ≡ Ok (map read_step log.steps)) named
          (read log are of_log);
      legal = stays (shape_of script) log.steps legal;
      logs = subst (λ (names : Names).
          first_other (text_of log)
          (front_of (record { names = names; steps = map read_step log.steps })) ≡ None)
          named (found log);
      counted = sym (length-map log.steps read_step);
    }

passing_part : (names : Names) (shape : Shape) (text : List ℕ) (R : List Step)
    (told : Result (List Step) ℕ) → told ≡ Ok R
    → IsSomeAnd (result_ok told) (λ Q. IsRunAsShown names shape text Q)
    → IsRunAsShown names shape text R
passing_part names shape text R told at shown =
    subst (λ (t : Result (List Step) ℕ). IsSomeAnd (result_ok t) (λ Q. IsRunAsShown names shape text Q))
    at shown

-- a text that passes
pub legal_text_is_printed : PassingAreRuns → TextIsPrintedAgain → LegalTextsArePrinted
legal_text_is_printed passing again script text count is legal =
    let are = are_names script is in
    let passes : IsSomeAnd (result_ok (read_in script.names text))
    (λ R. IsLegal (shape_of script) (told_of shown_of R)) =
    subst (λ (t : Result (List Step) ℕ). IsSomeAnd (result_ok t)
    (λ R. IsLegal (shape_of script) (told_of shown_of R))) (sym legal.read) legal.legal in
    record {
      printed = again script.names text legal.steps are legal.read legal.logs;
      shown = passing_part script.names (shape_of script) text legal.steps
          (read_in script.names text) legal.read (passing script.names are (shape_of script) text passes);
    }
