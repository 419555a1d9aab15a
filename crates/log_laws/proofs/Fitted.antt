-- What is read of a text has the bounds of a run's steps.
use Rattle.std.proofs.Common.{◌≡◌, ℕ, suc, List, [], ◌∷◌, ◌++◌, length, map}
use Rattle.std.specs.List.{AllByRecursion}
use Rattle.linx_base.specs.declared.name.Names.{Names}
use Rattle.linx_base.specs.SigNotes.{SigNote}
use Rattle.journal.specs.declared.effect.Effect.{Effect}
use Rattle.journal.specs.declared.effect.Effect.TheVariants.{Arrived, Found, Notified}
use Rattle.journal.specs.declared.effect.Step.{Step}
use Rattle.journal.specs.declared.head.Head.{Head}
use Rattle.journal.specs.declared.head.Head.TheVariants.{Send, Hunt, Attach, Refused}
use Rattle.journal_words.specs.declared.lines.Line.{Line}
use Rattle.journal_words.specs.declared.lines.Line.TheVariants.{Happened}
use Rattle.reading_laws.specs.Fits.{FitsNote, FitsHead, FitsEffect}
use Rattle.reading_laws.specs.Forms.{IsNote, IsHead, IsEffect}
use Rattle.journal_read.specs.Printed.{AllFit}
use Rattle.journal_read.specs.Spelled.{step_lines, lines_of_steps, AreLines}
use Rattle.journal_read.proofs.StepLaws.{back_lines}

note_fits : (note : SigNote) → IsNote note → FitsNote note
note_fits note is = record {
  number = is.number;
  are_bytes = is.bytes.are_bytes;
  short = is.bytes.short;
}

head_fits : (names : Names) (head : Head) → IsHead names head → FitsHead names head
head_fits names (Send peer note answer) is = (is.0, note_fits note is.1)
head_fits names (Hunt path note) is = (is.0, note_fits note is.1)
head_fits names (Attach peer note) is = (is.0, note_fits note is.1)
head_fits names (Refused reason) is = tt
head_fits names _ is = is

effect_fits : (names : Names) (e : Effect) → IsEffect names e → FitsEffect names e
effect_fits names (Arrived inc peer note) is = (is.0, is.1, note_fits note is.2)
effect_fits names (Found inc peer note hunt) is = (is.0, is.1, note_fits note is.2, is.3)
effect_fits names (Notified inc peer note reference reason) is =
    (is.0, is.1, note_fits note is.2, is.3)
effect_fits names _ is = is

effects_fit : (names : Names) (es : List Effect) → AreLines names (map Happened es)
    → AllByRecursion (FitsEffect names) es
effects_fit names [] whole = tt
effects_fit names (e ∷ es) whole = (effect_fits names e whole.0, effects_fit names es whole.1)

lines_before : (names : Names) (xs ys : List Line) → AreLines names (xs ++ ys) → AreLines names xs
lines_before names [] ys whole = tt
lines_before names (x ∷ xs) ys whole = (whole.0, lines_before names xs ys whole.1)

-- steps that their lines show whole
pub all_fit : (names : Names) (P : List Step) → AreLines names (lines_of_steps P)
    → AllFit names P
all_fit names [] whole = tt
all_fit names (s ∷ P) whole =
    let last = step_lines (suc (length P)) s in
    let here = back_lines names (lines_of_steps P) last whole in (
      all_fit names P (lines_before names (lines_of_steps P) last whole),
      record {
        placed = here.0.0;
        maker = here.0.1;
        head = head_fits names s.head here.0.2;
        effects = effects_fit names s.effects here.1;
      },
    )
