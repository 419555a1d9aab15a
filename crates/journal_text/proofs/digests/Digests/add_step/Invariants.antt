use Rattle.std.proofs.Common.{◌≡◌}
use Rattle.journal_text.specs.Known.{Fits}
use Rattle.journal_text.proofs.digests.Digests.add_step.Given as goal

-- what is kept so far fits, and is made as before
abbrev pub invariant-loop-index : goal.invariant-loop-index
invariant-loop-index l = Fits l.self l.journal.log.steps × (l.self.by ≡ l.initial.self.by)
