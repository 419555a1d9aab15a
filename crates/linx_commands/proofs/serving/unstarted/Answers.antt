use Rattle.std.proofs.Common.{ap}
use Rattle.journal.specs.Logs.{Log}
use Rattle.linx_commands.proofs.Answering.{legal-none}
use Rattle.linx_commands.proofs.serving.unstarted.Goals as goal

pub returns-clause-legal : goal.returns-clause-legal
returns-clause-legal c =
    legal-none c.new-journal.result.log.steps (ap (λ (l : Log). l.steps) c.new-journal.ensures.log)
