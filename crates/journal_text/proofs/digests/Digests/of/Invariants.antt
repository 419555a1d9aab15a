use Rattle.std.proofs.Common.{◌≡◌}
use Rattle.journal_text.specs.declared.digests.DigestBy.TheVariants.{Sha256}
use Rattle.journal_text.specs.Known.{Fits}
use Rattle.journal_text.proofs.digests.Digests.of.Given as goal

-- what is kept so far fits, and is made by SHA-256
abbrev pub invariant-loop-done : goal.invariant-loop-done
invariant-loop-done l = Fits l.digests l.journal.log.steps × (l.digests.by ≡ Sha256)
