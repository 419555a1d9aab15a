use Rattle.std.proofs.Common.{◌≡◌, ◌≤◌, take, count_by}
use Rattle.report.specs.Summary.{is_of_kind}
use Rattle.report.proofs.counting.count_effects.Given as goal

-- those of the kind so far, which are no more than all
abbrev pub invariant-loop-effect : goal.invariant-loop-effect
invariant-loop-effect l = record {
  is : l.count ≡ count_by (is_of_kind l.kind) (take l.effect-index l.effects);
  few : l.count ≤ l.effect-index;
}
