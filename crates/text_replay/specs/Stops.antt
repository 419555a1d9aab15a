-- What the parts of a replay give, each by itself.
use Rattle.std.specs.Prelude.{ℕ, ◌≡◌, List, length, Some, Err}
use Rattle.fabric.specs.declared.stop.StopCause.TheVariants.{JournalFull}
use Rattle.journal.specs.Logs.{Log}
use Rattle.journal.specs.declared.effect.Step.{Step}
use Rattle.journal_text.specs.Text.{text_of}
use Rattle.order_lines.specs.Fronts.{ordered_of}
use Rattle.script_lang.specs.Parts.{ScriptParts}
use Rattle.text_replay.specs.Lines.{other_line}
use Rattle.text_replay.specs.Replays.{IsToldStop}
use Rattle.text_replay.specs.declared.stop.ReplayStop.{ReplayStop}
use Rattle.text_replay.specs.declared.stop.ReplayStop.TheVariants.{Bad, Other, NoMemory}
use Rattle.text_replay.specs.declared.stop.ReplayStop.TheVariants.{JournalFull as Filled}

-- why bytes gave no script
abbrev pub IsScriptStop : List ℕ → ReplayStop → Type 0
IsScriptStop bytes (Bad line fault) = ordered_of bytes ≡ Err (line, fault)
IsScriptStop bytes NoMemory = Unit {0}
IsScriptStop bytes _ = ⊥

-- why a script has no whole run in the order that steps tell
abbrev pub IsPlayStop : ScriptParts → List Step → ReplayStop → Type 0
IsPlayStop script P Filled = IsToldStop script P JournalFull
IsPlayStop script P NoMemory = Unit {0}
IsPlayStop script P _ = ⊥

-- a text is that of a journal with so many steps
pub record IsTextWith (log : Log) (text : List ℕ) (count : ℕ) : Type 0 where
  pub is : text ≡ text_of log
  pub counted : count ≡ length log.steps

-- why a text isn't that of a journal
abbrev pub IsTextStop : Log → List ℕ → ReplayStop → Type 0
IsTextStop log text (Other line) = other_line text (text_of log) ≡ Some line
IsTextStop log text NoMemory = Unit {0}
IsTextStop log text _ = ⊥
