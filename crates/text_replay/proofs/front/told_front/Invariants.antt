use Rattle.std.proofs.Common.{◌≡◌}
use Rattle.journal.specs.Histories.{first_steps}
use Rattle.text_replay.specs.Front.{told_front}
use Rattle.text_replay.proofs.front.told_front.Given as goal

-- the turns of the first steps
abbrev pub invariant-loop-done : goal.invariant-loop-done
invariant-loop-done l = l.front.items ≡ told_front l.script (first_steps l.done l.told.log.steps)
