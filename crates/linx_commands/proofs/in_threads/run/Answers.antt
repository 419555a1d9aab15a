use Rattle.command_words.specs.Requests.{request_of}
use Rattle.linx_commands.proofs.Working.{never_worked}
use Rattle.linx_commands.proofs.in_threads.run.Goals as goal

pub returns-in-Ok-clause-worked : goal.returns-in-Ok-clause-worked
returns-in-Ok-clause-worked g c =
    never_worked (request_of c.args.words.now) _ c.in-Ok.ensures.no_work
