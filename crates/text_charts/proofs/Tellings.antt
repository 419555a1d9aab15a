-- What is drawn of what bytes tell, by what was read of them.
use Rattle.std.proofs.Common.{◌≡◌, ◌∙◌, ℕ, List, Option, None, Some, Result, Ok, Err, sym, ap}
use Rattle.chart_drawing.specs.declared.setting.Setting.{Setting}
use Rattle.chart_drawing.specs.declared.view.View.{View}
use Rattle.journal.specs.Logs.{Log}
use Rattle.journal.specs.declared.effect.Step.{Step}
use Rattle.journal_charts.specs.Named.{named_setting}
use Rattle.journal_charts.specs.Setting.{setting_of}
use Rattle.linx_base.specs.declared.name.Names.{Names}
use Rattle.script_lang.specs.Parts.{ScriptParts}
use Rattle.script_texts.specs.Places.{script_in, text_in}
use Rattle.text_names.specs.Numbering.{names_in}
use Rattle.text_charts.specs.Drawn.{chart_in_kind, drawn_of, drawn_or_stop, drawn_told}
use Rattle.text_charts.specs.Told.{script_told, steps_told, told_alone, told_behind, told_by}
use Rattle.text_charts.specs.Told.{told_in, told_with}
use Rattle.text_charts.specs.declared.kind.Kind.{Kind}
use Rattle.text_charts.specs.declared.stop.ChartStop.{ChartStop}

module _ (kind : Kind) (view : View) (text : List ℕ) where
  -- the steps of a text by itself
  alone_by : (read : Result (List Step) ChartStop) → steps_told (names_in text) text ≡ read
      → drawn_told kind (told_alone view text)
      ≡ drawn_told kind (told_with text (λ S. setting_of (names_in text) S view) read)
  alone_by read is =
      ap (λ (r : Result (List Step) ChartStop).
      drawn_told kind (told_with text (λ S. setting_of (names_in text) S view) r)) is

  pub alone_drawn : (log : Log) (setting : Setting)
      → steps_told (names_in text) text ≡ Ok log.steps → log.names ≡ names_in text
      → setting ≡ setting_of log.names log.steps view
      → drawn_or_stop (chart_in_kind kind setting text log.steps)
      ≡ drawn_told kind (told_alone view text)
  alone_drawn log setting read names is =
      ap (λ (s : Setting). drawn_or_stop (chart_in_kind kind s text log.steps))
      (is ∙ ap (λ (n : Names). setting_of n log.steps view) names)
      ∙ sym (alone_by (Ok log.steps) read)

  pub alone_stopped : (stop : ChartStop) → steps_told (names_in text) text ≡ Err stop
      → drawn_told kind (told_alone view text) ≡ Err stop
  alone_stopped stop read = alone_by (Err stop) read

  module _ (bytes : List ℕ) where
    pub script_stopped : (stop : ChartStop) → script_told bytes ≡ Err stop
        → drawn_told kind (told_behind view bytes text) ≡ Err stop
    script_stopped stop bad =
        ap (λ (r : Result ScriptParts ChartStop). drawn_told kind (told_by view bytes text r)) bad

    module _ (script : ScriptParts) (spelled : script_told bytes ≡ Ok script) where
      -- the steps of a text behind its script
      behind_by : (read : Result (List Step) ChartStop) → steps_told script.names text ≡ read
          → drawn_told kind (told_behind view bytes text)
          ≡ drawn_told kind (told_with text (λ S. named_setting bytes script view) read)
      behind_by read is =
          ap (λ (r : Result ScriptParts ChartStop). drawn_told kind (told_by view bytes text r))
          spelled
          ∙ ap (λ (r : Result (List Step) ChartStop).
          drawn_told kind (told_with text (λ S. named_setting bytes script view) r)) is

      pub behind_drawn : (S : List Step) (setting : Setting) → steps_told script.names text ≡ Ok S
          → setting ≡ named_setting bytes script view
          → drawn_or_stop (chart_in_kind kind setting text S)
          ≡ drawn_told kind (told_behind view bytes text)
      behind_drawn S setting read is =
          ap (λ (s : Setting). drawn_or_stop (chart_in_kind kind s text S)) is
          ∙ sym (behind_by (Ok S) read)

      pub behind_stopped : (stop : ChartStop) → steps_told script.names text ≡ Err stop
          → drawn_told kind (told_behind view bytes text) ≡ Err stop
      behind_stopped stop read = behind_by (Err stop) read

module _ (kind : Kind) (view : View) (bytes : List ℕ) where
  -- bytes without a script
  pub drawn_alone : text_in bytes ≡ None
      → drawn_told kind (told_alone view bytes) ≡ drawn_of kind view bytes
  drawn_alone none = sym (ap (λ (t : Option (List ℕ)). drawn_told kind (told_in view bytes t)) none)

  -- bytes with one
  pub drawn_behind : (script text : List ℕ) → script ≡ script_in bytes → text_in bytes ≡ Some text
      → drawn_told kind (told_behind view script text) ≡ drawn_of kind view bytes
  drawn_behind script text is there =
      ap (λ (b : List ℕ). drawn_told kind (told_behind view b text)) is
      ∙ sym (ap (λ (t : Option (List ℕ)). drawn_told kind (told_in view bytes t)) there)
