use Rattle.std.proofs.Common.{◌≡◌, replicate}
use Rattle.link_check.specs.Lines.{fresh_line}
use Rattle.link_check.proofs.book.fresh_lines.Given as goal

-- the lines so far
abbrev pub invariant-loop-place : goal.invariant-loop-place
invariant-loop-place l = l.lines.items ≡ replicate l._place fresh_line
