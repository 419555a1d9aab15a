use Rattle.std.proofs.Common.{◌≡◌}
use Rattle.journal.specs.Histories.{first_steps}
use Rattle.turn_lines.specs.Rows.{rows_of}
use Rattle.turn_lines.specs.Turns.{turn_makers}
use Rattle.turn_lines.proofs.rows.rows_told.Given as goal

-- the rows of the first steps
abbrev pub invariant-loop-done : goal.invariant-loop-done
invariant-loop-done l =
    l.rows.items ≡ rows_of (turn_makers (first_steps l.done l.journal.log.steps))
