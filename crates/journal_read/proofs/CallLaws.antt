-- What the law of texts says of what a call returned.
use Rattle.std.proofs.Common.{◌≡◌, ℕ, List, Some, None, Result, Ok, Err, IfOk, sym, ◌∙◌, ap}
use Rattle.std.specs.Result.{result_ok}
use Rattle.linx_base.specs.declared.name.Names.{Names}
use Rattle.journal.specs.declared.effect.Step.{Step}
use Rattle.reading_laws.specs.Forms.{AreNames}
use Rattle.journal_read.specs.declared.unread.Unread.{Unread}
use Rattle.journal_read.specs.declared.unread.Unread.TheVariants.{Bad, Full, NoMemory}
use Rattle.journal_read.specs.Reading.{read_in}
use Rattle.journal_read.specs.Results.{Reads, IsNotBad}
use Rattle.journal_read.specs.Spelled.{SpellsText}
use Rattle.journal_read.proofs.TextLaws.{text_again, text_found}

-- what was read is spelled by the text
pub reads_spell : {X : Type 0} (view : X → List Step) (names : Names) (text : List ℕ)
    (r : Result X Unread) → Reads view r (read_in names text)
    → IfOk r (λ x. SpellsText names (view x) text)
reads_spell view names text (Ok x) reads =
    text_found names (view x) text (ap (λ (o : Result (List Step) ℕ). result_ok o) reads)
reads_spell view names text (Err e) reads = tt

-- a text that spells steps has no bad line
pub spelled_reads : {X : Type 0} (view : X → List Step) (names : Names) (text : List ℕ)
    (r : Result X Unread) → Reads view r (read_in names text) → AreNames names → (P : List Step)
    → SpellsText names P text → IsNotBad r
spelled_reads view names text (Ok x) reads are P spells = tt
spelled_reads view names text (Err NoMemory) reads are P spells = tt
spelled_reads view names text (Err (Full line)) reads are P spells = tt
spelled_reads view names text (Err (Bad line)) reads are P spells =
    let none : None ≡ Some P =
    sym (ap (λ (o : Result (List Step) ℕ). result_ok o) reads)
    ∙ text_again names P text are spells in
    cc
