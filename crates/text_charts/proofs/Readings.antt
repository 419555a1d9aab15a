-- What is read of a script and of a text, as what they tell.
use Rattle.std.proofs.Common.{◌≡◌, ◌≢◌, ◌∙◌, ℕ, List, Option, None, Some, Result, Ok, Err, refl, ap}
use Rattle.journal.specs.declared.effect.Step.{Step}
use Rattle.journal_read.specs.Results.{EndsBy, IsUnread}
use Rattle.journal_read.specs.declared.unread.Unread.{Unread}
use Rattle.journal_read.specs.declared.unread.Unread.TheVariants.{Bad, Full, NoMemory}
use Rattle.order_lines.specs.Fronts.{OrderedParts}
use Rattle.script_words.specs.declared.fault.Fault.{Fault}
use Rattle.text_charts.specs.Told.{read_stop, within, without_front}
use Rattle.text_charts.specs.declared.stop.ChartStop.TheVariants.{Bad as BadAt, NoMemory as OutOfMemory}

pub front_left : (read : Result OrderedParts (ℕ × Fault)) (ordered : OrderedParts)
    → read ≡ Ok ordered → without_front read ≡ Ok ordered.script
front_left read ordered is = ap without_front is

pub script_bad : (read : Result OrderedParts (ℕ × Fault)) (line : ℕ) (fault : Fault)
    → read ≡ Err (line, fault) → without_front read ≡ Err (BadAt line fault)
script_bad read line fault is = ap without_front is

-- a reading and its bound, one by one
within_by : (full : Option ℕ) (reading : Result (List Step) ℕ) (bound : Option ℕ)
    (read : Result (List Step) ℕ) → full ≡ bound → reading ≡ read
    → within full reading ≡ within bound read
within_by full reading bound read room is =
    ap (λ (o : Option ℕ). within o reading) room
    ∙ ap (λ (r : Result (List Step) ℕ). within bound r) is

-- the steps that were read
pub steps_within : (full : Option ℕ) (reading : Result (List Step) ℕ) (S : List Step)
    → reading ≡ Ok S → full ≡ None → within full reading ≡ Ok S
steps_within full reading S read room = within_by full reading None (Ok S) room read

-- why none were
pub stop_within : (full : Option ℕ) (reading : Result (List Step) ℕ) (unread : Unread)
    → IsUnread unread reading → EndsBy unread full → read_stop unread ≢ OutOfMemory
    → within full reading ≡ Err (read_stop unread)
stop_within full reading (Bad line) read room apart =
    within_by full reading None (Err line) room read
stop_within full reading (Full line) read room apart =
    ap (λ (o : Option ℕ). within o reading) room
stop_within full reading NoMemory read room apart = absurd (apart refl)
