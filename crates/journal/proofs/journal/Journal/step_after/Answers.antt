use Rattle.std.proofs.Common.{◌≡◌, ◌+◌, Some, None, sym, ◌∙◌, ap, option_copied}
use Rattle.journal.specs.Logs.{step_at}
use Rattle.journal.proofs.Positions.{first_steps_next, step_at_stands}
use Rattle.journal.proofs.journal.Journal.step_after.Goals as goal

pub unreachable-requires : goal.unreachable-requires
unreachable-requires c =
    let nothing : step_at c.args.self.now.log.steps (c.args.done + 1) ≡ None =
    sym c.step.ensures ∙ ap option_copied c.in-None.is in
    step_at_stands c.args.self.now.log.steps c.args.done c.requires nothing

pub returns-clause-next : goal.returns-clause-next
returns-clause-next c =
    let found : step_at c.args.self.now.log.steps (c.args.done + 1) ≡ Some c.in-Some.step.now =
    sym c.step.ensures ∙ ap option_copied c.in-Some.is in
    first_steps_next c.args.self.now.log.steps c.args.done c.in-Some.step.now found c.requires
