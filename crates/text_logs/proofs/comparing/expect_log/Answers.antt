use Rattle.std.proofs.Common.{◌≡◌, ◌++◌, ℕ, List, arith}
use Rattle.std.proofs.lemmas.Grind.{common_steps}
use Rattle.journal.specs.History.{opening_name}
use Rattle.journal.specs.Logs.{Log}
use Rattle.journal_text.specs.Blocks.{title_text}
use Rattle.text_logs.proofs.Walks.{log_more}
use Rattle.text_logs.proofs.comparing.expect_log.Goals as goal

pub returns-clause-begun : goal.returns-clause-begun
returns-clause-begun c so_far is =
    let log : Log = c.args.journal.now.log in
    let title : List ℕ = c.deref.result.now in
    let titled : title ≡ title_text log.names c.args.inc (opening_name log.steps c.args.inc) =
    grind (arith, common_steps) in
    log_more log c.args.text.now c.args.inc so_far title c.lines.result.now c.args.logs.now
    c.expect.result titled c.lines.ensures c.requires.logs
    (c.expect.ensures.begun (so_far ++ title) (c.expect-titled.ensures.begun so_far is))
