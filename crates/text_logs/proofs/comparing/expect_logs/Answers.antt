use Rattle.std.proofs.Common.{◌≡◌, ℕ, false, length, refl, arith}
use Rattle.journal.specs.Logs.{Log}
use Rattle.text_logs.specs.declared.comparing.Begun.{Begun}
use Rattle.text_logs.proofs.Walks.{before_steps, behind_steps, none_begun}
use Rattle.text_logs.proofs.comparing.expect_logs.Goals as goal

pub loop-done-init : goal.loop-done-init
loop-done-init c =
    let none : Begun = record { alike = 0; apart = false } in (
      omega arith,
      before_steps c.args.journal.now.log c.args.text.now none
          (none_begun c.args.text.now none refl refl),
    )

pub returns-clause-begun : goal.returns-clause-begun
returns-clause-begun c =
    let log : Log = c.args.journal.now.log in
    let all : c.loop-done.done ≡ length log.steps = omega arith in
    behind_steps log c.args.text.now c.loop-done.done c.loop-done.next all
    c.loop-done.invariant.1
