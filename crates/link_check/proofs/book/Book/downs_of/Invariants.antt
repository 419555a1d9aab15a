use Rattle.std.proofs.Common.{◌≡◌}
use Rattle.link_check.specs.Downs.{downs_in}
use Rattle.link_check.proofs.book.Book.downs_of.Given as goal

-- the ends over the links so far
abbrev pub invariant-loop-place : goal.invariant-loop-place
invariant-loop-place l = l.downs.items ≡ downs_in l.self l.node.0 l.place
