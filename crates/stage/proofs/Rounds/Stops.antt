-- The cause of a stop.
use Rattle.std.proofs.Common.{◌≡◌, true, List, subst}
use Rattle.journal.specs.declared.effect.Step.{Step}
use Rattle.journal.specs.Logs.{is_full}
use Rattle.fabric.specs.declared.stop.StopCause.{StopCause}
use Rattle.fabric.specs.declared.stop.StopCause.TheVariants.{JournalFull}
use Rattle.stage.specs.Stops.{IsCauseOf}

-- a stop for a full journal is one at a full journal
pub stops-full : (cause : StopCause) (P : List Step) → IsCauseOf cause P → cause ≡ JournalFull
    → is_full P ≡ true
stops-full cause P is full = subst (λ (c : StopCause). IsCauseOf c P) full is
