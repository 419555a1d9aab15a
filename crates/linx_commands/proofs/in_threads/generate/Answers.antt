use Rattle.std.proofs.Common.{◌∙◌, ap, subst, IfOk}
use Rattle.order_lines.specs.Fronts.{OrderedParts}
use Rattle.work_gen.specs.Generated.{generated}
use Rattle.linx_commands.specs.Runs.{IsRan, unordered}
use Rattle.command_words.specs.declared.request.Asked.TheVariants.{Run}
use Rattle.linx_commands.proofs.Answering.{ran-generated}
use Rattle.linx_commands.proofs.in_threads.generate.Goals as goal

pub returns-in-Ok-clause-cause : goal.returns-in-Ok-clause-cause
returns-in-Ok-clause-cause g c =
    let number = c.args.number in
    let played = c.play_in_threads-played.result in
    c.conclude.ensures.answer (unordered (generated number))
    (ran-generated number (unordered (generated number)) played
    (subst (λ (o : OrderedParts). IfOk played (IsRan Run o))
    (c.unordered.ensures ∙ ap unordered c.in-Ok.ensures.is) c.play_in_threads-played.ensures))
