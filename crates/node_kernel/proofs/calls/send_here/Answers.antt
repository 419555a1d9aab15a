use Rattle.std.proofs.Common.{◌∙◌, sym, ap, List}
use Rattle.node_kernel.specs.Nodes.{OpenEndpoint}
use Rattle.node_kernel.proofs.Calling.{sent_dead}
use Rattle.node_kernel.proofs.calls.send_here.Goals as goal

pub returns-in-Ok-false-clause-ok : goal.returns-in-Ok-false-clause-ok
returns-in-Ok-false-clause-ok c =
    c.in-Ok-false.ensures.queued
    ∙ ap (λ (l : List OpenEndpoint). record c.args.roster.now { endpoints = l })
    (sent_dead c.args.roster.now.endpoints c.args.to _ c.args.from c.args.signal c.args.step
    (sym c.in-Ok-false.ensures.answer ∙ c.in-Ok-false.field-0-test))
