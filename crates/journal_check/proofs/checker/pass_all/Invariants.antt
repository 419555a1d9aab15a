use Rattle.std.proofs.Common.{◌≡◌, ℕ, suc, ◌<◌, ◌≤◌, length, Some, slice_get}
use Rattle.journal.specs.History.{is_by}
use Rattle.journal_check.specs.Standings.{standing_past}
use Rattle.journal_check.specs.declared.standing.Standing.{Standing}
use Rattle.journal_check.proofs.checker.pass_all.Given as goal

-- those so far are past the step, and the rest are as they were
abbrev pub invariant-loop-place : goal.invariant-loop-place
invariant-loop-place l = record {
  counted : length l.standings ≡ length l.initial.standings;
  done : (k : ℕ) (x : Standing) → k < l.place → slice_get l.initial.standings k ≡ Some x
      → slice_get l.standings k
      ≡ Some (standing_past (is_by l.step.by (suc k)) l.step.head l.step.effects x);
  rest : (k : ℕ) → l.place ≤ k → slice_get l.standings k ≡ slice_get l.initial.standings k;
}
