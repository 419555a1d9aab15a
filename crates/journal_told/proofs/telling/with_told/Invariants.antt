use Rattle.std.proofs.Common.{◌≡◌, ◌+◌, ◌≤◌, length}
use Rattle.journal.specs.Histories.{first_steps}
use Rattle.reading_laws.specs.Printed.{shown_of}
use Rattle.image_laws.specs.Told.{told_of}
use Rattle.journal_told.proofs.telling.with_told.Given as goal

-- the first steps are told, and there is room for the others
abbrev pub invariant-loop-done : goal.invariant-loop-done
invariant-loop-done l = record {
  names : l.told.log.names ≡ l.journal.log.names;
  steps : l.told.log.steps ≡ told_of shown_of (first_steps l.done l.journal.log.steps);
  room : length l.journal.log.steps ≤ l.told.spare + l.done;
}
