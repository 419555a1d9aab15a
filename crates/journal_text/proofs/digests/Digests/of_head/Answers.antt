use Rattle.journal_text.specs.Known.{signal_in}
use Rattle.journal_text.proofs.digests.Digests.of_head.Goals as goal

pub returns-in-Some-clause-known : goal.returns-in-Some-clause-known
returns-in-Some-clause-known c = c.known.ensures.known (signal_in c.args.step.now.head) (c.requires 0)
