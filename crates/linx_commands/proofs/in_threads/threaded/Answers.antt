use Rattle.command_words.specs.declared.request.Asked.TheVariants.{Run}
use Rattle.linx_commands.specs.Runs.{parts_of}
use Rattle.linx_commands.proofs.Causes.{caused_read, completes_unread}
use Rattle.linx_commands.proofs.in_threads.threaded.Goals as goal

pub returns-in-Ok-clause-cause : goal.returns-in-Ok-clause-cause
returns-in-Ok-clause-cause g c =
    caused_read Run c.conclude.result.status (g.S.Source.left c.args.script.now)
    (parts_of c.in-Ok.ordered) c.conclude.result.journal.log c.in-Ok.ensures.spelled
    (c.conclude.ensures.answer (parts_of c.in-Ok.ordered) c.play_in_threads-played.ensures)

pub returns-in-Err-clause-complete : goal.returns-in-Err-clause-complete
returns-in-Err-clause-complete g c =
    completes_unread c.unstarted.result.status c.in-Err.status
    (g.S.Source.left c.args.script.now) c.unstarted.result.journal.log
    c.unstarted.ensures.status c.in-Err.ensures.unread c.unstarted.ensures.empty
