-- Why nothing further is done.
use Rattle.std.specs.Prelude.{◌≡◌, true, false, List}
use Rattle.journal.specs.declared.effect.Step.{Step}
use Rattle.journal.specs.Logs.{is_full}
use Rattle.fabric.specs.declared.stop.StopCause.{StopCause}
use Rattle.fabric.specs.declared.stop.StopCause.TheVariants.{JournalFull, NoMemory}

-- THE CAUSE OF A STOP, by the journal that it leaves: the journal is full, or memory was refused
-- while the journal wasn't full
abbrev pub IsCauseOf : StopCause → List Step → Type 0
IsCauseOf JournalFull P = is_full P ≡ true
IsCauseOf NoMemory P = is_full P ≡ false
