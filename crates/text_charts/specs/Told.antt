-- WHAT BYTES TELL that are drawn: a printed text, its steps, and what these stand among.
use Rattle.std.specs.Prelude.{ℕ, List, Option, Some, None, Result, Ok, Err}
use Rattle.chart_drawing.specs.declared.setting.Setting.{Setting}
use Rattle.chart_drawing.specs.declared.view.View.{View}
use Rattle.journal.specs.declared.effect.Step.{Step}
use Rattle.journal_charts.specs.Named.{named_setting}
use Rattle.journal_charts.specs.Setting.{setting_of}
use Rattle.journal_read.specs.Bounds.{full_in}
use Rattle.journal_read.specs.Reading.{read_in}
use Rattle.journal_read.specs.declared.unread.Unread.{Unread}
use Rattle.journal_read.specs.declared.unread.Unread.TheVariants as reads
use Rattle.linx_base.specs.declared.name.Names.{Names}
use Rattle.order_lines.specs.Fronts.{OrderedParts, ordered_of}
use Rattle.script_lang.specs.Parts.{ScriptParts}
use Rattle.script_texts.specs.Places.{script_in, text_in}
use Rattle.script_words.specs.declared.fault.Fault.{Fault}
use Rattle.text_names.specs.Numbering.{names_in}
use Rattle.text_charts.specs.declared.stop.ChartStop.{ChartStop}
use Rattle.text_charts.specs.declared.stop.ChartStop.TheVariants.{Bad, Unread as UnreadAt, Full as FullAt}
use Rattle.text_charts.specs.declared.stop.ChartStop.TheVariants.{NoMemory}

-- a script that was read, without its orders, or its first bad line
abbrev pub without_front : Result OrderedParts (ℕ × Fault) → Result ScriptParts ChartStop
without_front (Ok ordered) = Ok ordered.script
without_front (Err bad) = Err (Bad bad.0 bad.1)

-- THE SCRIPT THAT BYTES SPELL, whose lines `order` mean nothing here, or its first bad line
abbrev pub script_told : List ℕ → Result ScriptParts ChartStop
script_told bytes = without_front (ordered_of bytes)

-- the steps of a reading, unless a line was bad or, before one, they noted more than they may
abbrev pub within : Option ℕ → Result (List Step) ℕ → Result (List Step) ChartStop
within (Some line) reading = Err (FullAt line)
within None (Ok S) = Ok S
within None (Err line) = Err (UnreadAt line)

-- why a text that isn't read has no chart
abbrev pub read_stop : Unread → ChartStop
read_stop (reads.Bad line) = UnreadAt line
read_stop (reads.Full line) = FullAt line
read_stop reads.NoMemory = NoMemory

-- THE STEPS THAT A TEXT SPELLS, read with these names, or the line at which there are none
abbrev pub steps_told : Names → List ℕ → Result (List Step) ChartStop
steps_told names text = within (full_in names text) (read_in names text)

-- a text, the steps that it spells, and what they stand among
pub record Told : Type 0 where
  pub text : List ℕ
  pub steps : List Step
  pub setting : Setting

-- what a text tells with these steps, if there are any, which stand among what they say
abbrev pub told_with : List ℕ → (List Step → Setting) → Result (List Step) ChartStop
    → Result Told ChartStop
told_with text among (Ok S) = Ok (record { text = text; steps = S; setting = among S })
told_with text among (Err stop) = Err stop

-- what a text tells by itself: it is read with the names that it spells, and stands among what it tells
abbrev pub told_alone : View → List ℕ → Result Told ChartStop
told_alone view text =
    told_with text (λ S. setting_of (names_in text) S view) (steps_told (names_in text) text)

-- what a text tells behind a script, if there is one: it is read with its names, and stands among all
-- that the script declares, which these bytes spell
abbrev pub told_by : View → List ℕ → List ℕ → Result ScriptParts ChartStop → Result Told ChartStop
told_by view bytes text (Ok script) =
    told_with text (λ S. named_setting bytes script view) (steps_told script.names text)
told_by view bytes text (Err stop) = Err stop

-- what a text tells behind the bytes of its script
abbrev pub told_behind : View → List ℕ → List ℕ → Result Told ChartStop
told_behind view bytes text = told_by view bytes text (script_told bytes)

-- what bytes tell behind whose line `text` this stands, where they have one
abbrev pub told_in : View → List ℕ → Option (List ℕ) → Result Told ChartStop
told_in view bytes None = told_alone view bytes
told_in view bytes (Some text) = told_behind view (script_in bytes) text

-- WHAT BYTES TELL: a text behind its script, where a line is exactly `text`, and else a text alone
abbrev pub told_of : View → List ℕ → Result Told ChartStop
told_of view bytes = told_in view bytes (text_in bytes)
