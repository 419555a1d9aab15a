use Rattle.std.proofs.Common.{◌≡◌}
use Rattle.link_check.specs.Told.{all_still}
use Rattle.link_check.proofs.book.Book.all_still.Given as goal

-- whether those so far are
abbrev pub invariant-loop-place : goal.invariant-loop-place
invariant-loop-place l = l.all ≡ all_still l.self l.kernels l.place
