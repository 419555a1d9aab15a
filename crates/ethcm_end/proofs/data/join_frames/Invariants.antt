use Rattle.std.proofs.Common.{◌≡◌, length}
use Rattle.ethcm_end.specs.Rules.{take_behind, take_kept}
use Rattle.ethcm_end.proofs.data.join_frames.Given as goal

-- what is still taken gives what all is, and what was stays
abbrev pub invariant-joining : goal.invariant-joining
invariant-joining l =
    (take_kept l.rx.is.expected l.rx.is.kept l.joiner.is l.made
    ≡ take_behind l.fn.rx.is l.fn.joiner.is l.fn.frame)
    × ((l.rx.was ≡ l.fn.rx.was) × (l.joiner.was ≡ l.fn.joiner.was))

abbrev pub decreases-joining : goal.decreases-joining
decreases-joining l = length l.rx.is.kept
