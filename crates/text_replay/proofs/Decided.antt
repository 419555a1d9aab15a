-- The makers of its turns decide whether a text is that of a run.
use Rattle.std.proofs.Common.{◌≡◌, ◌∙◌, ℕ, true, List, map, sym, ap, subst, Option, Some, None}
use Rattle.std.proofs.Common.{Result, Ok}
use Rattle.fabric.specs.Run.{Layout}
use Rattle.fabric.specs.declared.stop.StopCause.TheVariants.{JournalFull}
use Rattle.journal.specs.Logs.{Log}
use Rattle.journal.specs.declared.effect.Step.{Step}
use Rattle.journal_read.specs.Printed.{AllFit, PrintedIsRead, read_step}
use Rattle.journal_read.specs.Reading.{read_in}
use Rattle.journal_text.specs.Text.{text_of}
use Rattle.linx_base.specs.declared.name.Names.{Names}
use Rattle.order_rules.specs.Orders.{Order}
use Rattle.order_rules.specs.declared.rule.Rule.TheVariants.{Rounds}
use Rattle.orders.specs.Laws.{IsFilledInOrder, IsPlayedAgain, OrderDecides}
use Rattle.orders.specs.Turns.{turns_of}
use Rattle.reading_laws.specs.Forms.{AreNames}
use Rattle.script_lang.specs.Parts.{ScriptParts}
use Rattle.stage.specs.Plays.{IsSoFar}
use Rattle.stage.specs.Turns.{is_over}
use Rattle.text_replay.specs.Front.{told_front, told_order}
use Rattle.text_replay.specs.Laws.{FilledAreNone, OthersAreNone}
use Rattle.text_replay.specs.Lines.{other_line}
use Rattle.text_replay.specs.Replays.{IsToldRun, IsToldStop}
use Rattle.text_replay.proofs.OneFront.{legal_front, read_front}
use Rattle.text_replay.proofs.OneText.{alike}

-- steps that were read
abbrev good_steps : List Step → Result (List Step) ℕ
good_steps P = Ok P

same_steps : (P Q : List Step) → good_steps P ≡ good_steps Q → P ≡ Q
same_steps P Q is = cc

-- rounds behind these makers
abbrev behind : List ℕ → Order
behind front = record { left = front; rule = Rounds 0 }

module _ (read : PrintedIsRead) (decides : OrderDecides) (script : ScriptParts) (text : List ℕ)
    (P : List Step) (told : read_in script.names text ≡ Ok P) (run : Layout)
    (so_far : IsSoFar script run) (over : is_over run ≡ true)
    (fit : AllFit script.names run.log.steps) (is : text ≡ text_of run.log) where
  named : script.names ≡ run.log.names
  named = sym so_far.names

  are_names : AreNames script.names
  are_names = (so_far.declared.named_nodes, so_far.declared.named_links)

  -- of the text of a run its steps are read
  run_read : read_in script.names text ≡ Ok (map read_step run.log.steps)
  run_read =
      subst (λ (names : Names). read_in names text ≡ Ok (map read_step run.log.steps)) (sym named)
      (subst (λ (t : List ℕ). read_in run.log.names t ≡ Ok (map read_step run.log.steps)) (sym is)
      (read run.log (subst AreNames named are_names)
      (subst (λ (names : Names). AllFit names run.log.steps) named fit)))

  one_front : told_front script P ≡ turns_of script run.log.steps
  one_front =
      ap (told_front script) (same_steps P (map read_step run.log.steps) (sym told ∙ run_read))
      ∙ read_front script run.log.steps
      ∙ legal_front script run.log.steps so_far.legal

  -- so the order that it tells makes the run again
  played : IsPlayedAgain script (told_order script P) run
  played =
      subst (λ (front : List ℕ). IsPlayedAgain script (behind front) run) (sym one_front)
      (decides.replayed script run so_far over (Rounds 0))

  pub one_log : (log : Log) → IsToldRun script P log → run.log ≡ log
  one_log log made =
      sym played.log
      ∙ sym (decides.one script so_far.declared (told_order script P) made.run played.again made.whole played.in_order)
      ∙ made.logged

  none_filled : IsToldStop script P JournalFull → ⊥
  none_filled stop =
      decides.apart script (told_order script P) played.again stop.run played.so_far played.in_order
      (record { so_far = stop.so_far; stopped = stop.stopped; full = stop.why; due = stop.due })

none_some : (other : Option ℕ) (line : ℕ) → other ≡ None → other ≡ Some line → ⊥
none_some other line none some = absurd cc

-- A TEXT WITH ANOTHER LINE is that of no whole run
pub others_are_none : PrintedIsRead → OrderDecides → OthersAreNone
others_are_none read decides script text P log line told made other run so_far over fit is =
    let one : run.log ≡ log = one_log read decides script text P told run so_far over fit is log made in
    none_some (other_line text (text_of log)) line
    (ap (other_line text) (ap text_of (sym one) ∙ sym is) ∙ alike text)
    other

-- and so is one whose makers fill the journal
pub filled_are_none : PrintedIsRead → OrderDecides → FilledAreNone
filled_are_none read decides script text P told stop run so_far over fit is =
    none_filled read decides script text P told run so_far over fit is stop
