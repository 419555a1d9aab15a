use Rattle.std.proofs.Common.{inl}
use Rattle.command_words.specs.declared.request.Asked.TheVariants.{InOrder}
use Rattle.linx_commands.specs.Runs.{parts_of}
use Rattle.linx_commands.proofs.Causes.{completes_unread}
use Rattle.linx_commands.proofs.Headline.{headline_read}
use Rattle.linx_commands.proofs.serving.in_order.Goals as goal

pub returns-in-Err-clause-complete : goal.returns-in-Err-clause-complete
returns-in-Err-clause-complete g c =
    completes_unread c.unstarted.result.status c.in-Err.status
    (g.S.Source.left c.args.script.now) c.unstarted.result.journal.log
    c.unstarted.ensures.status c.in-Err.ensures.unread c.unstarted.ensures.empty

pub returns-in-Ok-clause-headline : goal.returns-in-Ok-clause-headline
returns-in-Ok-clause-headline g c =
    headline_read (InOrder c.args.order) c.conclude.result.status (g.S.Source.left c.args.script.now)
    (parts_of c.in-Ok.ordered) c.conclude.result.journal.log c.in-Ok.ensures.spelled
    (c.conclude.ensures.answer (parts_of c.in-Ok.ordered) c.play_in_order.ensures)

pub returns-in-Err-clause-headline : goal.returns-in-Err-clause-headline
returns-in-Err-clause-headline g c = inl c.unstarted.ensures.empty
