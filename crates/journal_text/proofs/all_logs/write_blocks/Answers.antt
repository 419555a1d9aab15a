use Rattle.std.proofs.Common.{◌≡◌, ◌++◌, ℕ, List, length, flat_map, ap, ◌∙◌, arith}
use Rattle.journal.specs.declared.effect.Step.{Step}
use Rattle.journal.specs.History.{effects_of}
use Rattle.journal_text.specs.Known.{digest_by}
use Rattle.journal_text.specs.Collected.{opened_log}
use Rattle.journal_text.proofs.Openings.{logs_text-effects}
use Rattle.journal.proofs.Positions.{first_steps_done}
use Rattle.journal_text.proofs.all_logs.write_blocks.Goals as goal

pub returns : goal.returns
returns c =
    let digest = digest_by c.args.logs.now.by in
    let S : List Step = c.args.journal.now.log.steps in
    let all : c.loop-done.done ≡ length S = omega arith in
    c.loop-done.invariant
    ∙ ap (λ (P : List Step). c.args.out.now.items
    ++ flat_map (opened_log digest c.args.journal.now.log) (effects_of P))
    (first_steps_done S c.loop-done.done all)
    ∙ ap (λ (text : List ℕ). c.args.out.now.items ++ text)
    (logs_text-effects digest c.args.journal.now.log)
