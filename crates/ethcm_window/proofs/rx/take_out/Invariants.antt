use Rattle.std.proofs.Common.{◌≡◌, vec_len}
use Rattle.ethcm_window.specs.WaysBack.{without_put}
use Rattle.ethcm_window.proofs.rx.take_out.Given as goal

-- what is left to take out leaves what all would leave
abbrev pub invariant-loop-place : goal.invariant-loop-place
invariant-loop-place l =
    without_put l.put.items l.kept.items ≡ without_put l.initial.put.items l.initial.kept.items

abbrev pub decreases-loop-place : goal.decreases-loop-place
decreases-loop-place l = vec_len l.put
