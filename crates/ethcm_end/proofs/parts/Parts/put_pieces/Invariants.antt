use Rattle.std.proofs.Common.{◌≡◌}
use Rattle.ethcm_end.specs.Rules.{put_pieces}
use Rattle.ethcm_end.proofs.parts.Parts.put_pieces.Given as goal

-- what was put and what is left are all, and what was stays
abbrev pub invariant-putting : goal.invariant-putting
invariant-putting l =
    (put_pieces l.self.is l.dst l.sent-iterator.rest.items
    ≡ put_pieces l.fn.self.is l.dst l.fn.sent)
    × ((l.self.was ≡ l.fn.self.was) × (l.next ≡ l.self.is.rx.expected))
