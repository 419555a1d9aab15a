use Rattle.std.proofs.Common.{◌≡◌, ◌+◌, ◌-◌, drop, length, map}
use Rattle.run_outcomes.specs.Differences.{apart_at}
use Rattle.run_outcomes.proofs.differences.write_first.Given as goal

-- the lines so far are the same, and nothing was written
abbrev pub invariant-lines : goal.invariant-lines
invariant-lines l = record {
  same : apart_at (l.place + 1) (drop l.place (map (λ w. w.now) l.one))
      (drop l.place (map (λ w. w.now) l.other))
      ≡ apart_at 1 (map (λ w. w.now) l.one) (map (λ w. w.now) l.other);
  unwritten : l.out.items ≡ l.initial.out.items;
}

abbrev pub decreases-lines : goal.decreases-lines
decreases-lines l = (length l.one + length l.other) - l.place
