use Rattle.std.proofs.Common.{◌≤◌, ◌∙◌, ℕ, ap, length, subst, OnOk}
use Rattle.script_lang.specs.Limits.{script_limit}
use Rattle.order_lines.proofs.Lengths.{length-without_orders}
use Rattle.order_lines.proofs.ordered.script_in.Goals as goal

pub returns-in-Ok-clause-short : goal.returns-in-Ok-clause-short
returns-in-Ok-clause-short c =
    subst (λ (n : ℕ). OnOk c.parse.result (n ≤ script_limit))
    (ap length (c.as_slice.ensures.value ∙ c.in-Ok.ensures)
    ∙ length-without_orders c.args.bytes.now)
    c.parse.ensures.short
