use Rattle.std.proofs.Common.{subst, sym}
use Rattle.work_gen.specs.Generated.{generated}
use Rattle.linx_commands.specs.Commands.{CompletesUnder}
use Rattle.command_words.specs.declared.request.Asked.TheVariants.{Gen, Run}
use Rattle.linx_commands.specs.Headline.{HeadlineUnder}
use Rattle.linx_commands.specs.Programs.{asked_in}
use Rattle.linx_commands.specs.Runs.{unordered}
use Rattle.linx_commands.specs.declared.serving.InThreads.{InThreads}
use Rattle.linx_commands.proofs.Causes.{completes_outcome}
use Rattle.linx_commands.proofs.Headline.{headline_under}
use Rattle.linx_commands.proofs.in_threads.serve.Goals as goal

pub returns-in-Gen-clause-complete : goal.returns-in-Gen-clause-complete
returns-in-Gen-clause-complete g c =
    let number = c.in-Gen.number in
    let status = c.generate.result.status in
    let log = c.generate.result.journal.log in
    let left = g.S.Source.left c.args.script.now in
    subst (λ (t : InThreads). CompletesUnder (asked_in t) left status log) (sym c.in-Gen.is)
    (completes_outcome (Gen number) status (unordered (generated number)) log c.generate.ensures.cause)

pub returns-in-Run-clause-headline : goal.returns-in-Run-clause-headline
returns-in-Run-clause-headline g c =
    let log = c.threaded.result.journal.log in
    let left = g.S.Source.left c.args.script.now in
    subst (λ (t : InThreads). HeadlineUnder (asked_in t) left log) (sym c.in-Run.is)
    (headline_under Run c.threaded.result.status left log c.threaded.ensures.cause)

pub returns-in-Gen-clause-headline : goal.returns-in-Gen-clause-headline
returns-in-Gen-clause-headline g c =
    let number = c.in-Gen.number in
    let log = c.generate.result.journal.log in
    let left = g.S.Source.left c.args.script.now in
    subst (λ (t : InThreads). HeadlineUnder (asked_in t) left log) (sym c.in-Gen.is)
    (headline_under (Gen number) c.generate.result.status left log c.generate.ensures.cause)
