use Rattle.std.proofs.Common.{◌≡◌, map, length}
use Rattle.text_names.specs.Numbering.{step_lines}
use Rattle.text_names.proofs.names.step_lines.Given as goal

-- what stands behind the first one of those that are left
abbrev pub invariant-loop-rest : goal.invariant-loop-rest
invariant-loop-rest l =
    step_lines (map (λ w. w.now) l.rest) ≡ step_lines (map (λ w. w.now) l.fn.lines)

abbrev pub decreases-loop-rest : goal.decreases-loop-rest
decreases-loop-rest l = length l.rest
