use Rattle.std.proofs.Common.{◌≡◌, ℕ, suc, ◌<◌, ◌≤◌, length, Some, slice_get}
use Rattle.linx_base.specs.declared.frame.LinkDecl.{LinkDecl}
use Rattle.link_check.specs.Lines.{LineSoFar, line_after}
use Rattle.link_check.proofs.book.pass_all.Given as goal

-- those so far are past the step, and the rest are as they were
abbrev pub invariant-loop-place : goal.invariant-loop-place
invariant-loop-place l = record {
  counted : length l.lines ≡ length l.initial.lines;
  done : (k : ℕ) (x : LineSoFar) (ends : LinkDecl) → k < l.place
      → slice_get l.initial.lines k ≡ Some x → slice_get l.links k ≡ Some ends
      → slice_get l.lines k ≡ Some (line_after (suc k) ends l.me l.step x);
  rest : (k : ℕ) → l.place ≤ k → slice_get l.lines k ≡ slice_get l.initial.lines k;
}
