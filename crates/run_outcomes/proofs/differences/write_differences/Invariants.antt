use Rattle.std.proofs.Common.{◌≡◌, ◌++◌}
use Rattle.run_outcomes.specs.Differences.{differences_text}
use Rattle.run_outcomes.proofs.differences.write_differences.Given as goal

-- the differences of the actors so far
abbrev pub invariant-loop-before : goal.invariant-loop-before
invariant-loop-before l =
    l.out.items ≡ l.initial.out.items ++ differences_text l.before l.one l.other
