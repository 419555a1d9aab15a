-- Which texts pass.
use Rattle.std.proofs.Common.{◌≡◌, ℕ, List, Option, Some, None, Result, refl, sym, subst}
use Rattle.std.proofs.Common.{IsSomeAnd}
use Rattle.std.specs.Result.{result_ok}
use Rattle.linx_base.specs.declared.name.Names.{Names}
use Rattle.journal.specs.Shapes.{Shape}
use Rattle.journal.specs.declared.effect.Step.{Step}
use Rattle.link_laws.specs.Laws.{IsLegal}
use Rattle.reading_laws.specs.Forms.{AreNames}
use Rattle.reading_laws.specs.Printed.{shown_of}
use Rattle.journal_read.specs.Printed.{PrintedIsRead}
use Rattle.journal_read.specs.Reading.{read_in}
use Rattle.journal_read.specs.Spelled.{TextsAreRead}
use Rattle.image_laws.specs.Laws.{AcceptedAreNoticed}
use Rattle.image_laws.specs.Told.{told_of}
use Rattle.printed_laws.specs.Laws.{IsRunAsShown, LegalRunsPass, PassingAreRuns, PrintedStaysLegal}

pub legal_passes : PrintedIsRead → PrintedStaysLegal → LegalRunsPass
legal_passes read stays log shape are fit legal =
    subst (λ (r : Result (List Step) ℕ). IsSomeAnd (result_ok r)
    (λ R. IsLegal shape (told_of shown_of R)))
    (sym (read log are fit)) (stays shape log.steps legal)

-- what a text gives where it passes
passing : TextsAreRead → AcceptedAreNoticed → (names : Names) → AreNames names → (shape : Shape)
    (text : List ℕ) (o : Option (List Step)) → result_ok (read_in names text) ≡ o
    → IsSomeAnd o (λ R. IsLegal shape (told_of shown_of R))
    → IsSomeAnd o (λ R. IsRunAsShown names shape text R)
passing read accepted names are shape text None at legal = legal
passing read accepted names are shape text (Some R) at legal = record {
  spelled = (read names are).found R text at;
  noticed = accepted shown_of shape R legal;
  legal = legal;
}

pub passing_run : TextsAreRead → AcceptedAreNoticed → PassingAreRuns
passing_run read accepted names are shape text passes =
    passing read accepted names are shape text (result_ok (read_in names text)) refl passes
