use Rattle.std.proofs.Common.{◌∙◌, arith, sym}
use Rattle.std.proofs.lemmas.Bool.Decides.{nat_tests}
use Rattle.text_replay.proofs.OneText.{ends_first, ends_second}
use Rattle.text_replay.proofs.lines.other_from.Goals as goal

pub returns-then-is_empty : goal.returns-then-is_empty
returns-then-is_empty c =
    sym (ends_second c.lines.number c.lines.lines.now c.lines.others.now
    (grind (arith, nat_tests, c.lines-test.true, c.is_empty.ensures))
    (grind (arith, nat_tests, c.if-is_empty.true, c.is_empty-in-lines.ensures)))
    ∙ c.lines.invariant.0

pub returns-else-is_empty-2 : goal.returns-else-is_empty-2
returns-else-is_empty-2 c =
    sym (ends_first c.lines.number c.lines.lines.now c.lines.others.now
    (grind (arith, nat_tests, c.lines-test.false, c.is_empty.ensures))
    (grind (arith, nat_tests, c.if-is_empty-2.false, c.is_empty-2.ensures)))
    ∙ c.lines.invariant.0
