use Rattle.std.proofs.Common.{◌≡◌, length}
use Rattle.order_lines.specs.Lines.{behind_blanks}
use Rattle.order_lines.proofs.lines.behind_blanks.Given as goal

-- blanks alone were passed over
abbrev pub invariant-blanks : goal.invariant-blanks
invariant-blanks l = behind_blanks l.text ≡ behind_blanks l.line

abbrev pub decreases-blanks : goal.decreases-blanks
decreases-blanks l = length l.text
