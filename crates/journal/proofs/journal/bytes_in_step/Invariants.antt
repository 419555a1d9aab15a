use Rattle.std.proofs.Common.{◌≡◌, ◌+◌, ◌-◌, ◌^◌, min, take, sum_by}
use Rattle.journal.specs.Logs.{head_bytes, effect_bytes}
use Rattle.journal.proofs.journal.bytes_in_step.Given as goal

-- the bytes so far are those of the head and of the effects so far
abbrev pub invariant-loop-effect : goal.invariant-loop-effect
invariant-loop-effect l =
    l.total ≡ min (head_bytes l.step.head + sum_by effect_bytes
    (take l.effect-index l.effect-items)) (2 ^ 64 - 1)
