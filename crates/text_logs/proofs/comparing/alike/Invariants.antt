use Rattle.std.proofs.Common.{◌≡◌, ◌≤◌, ◌+◌, drop, length}
use Rattle.text_logs.specs.First.{alike}
use Rattle.text_logs.proofs.comparing.alike.Given as goal

-- the bytes so far are alike
abbrev pub invariant-loop-index : goal.invariant-loop-index
invariant-loop-index l =
    (alike l.text l.other ≡ l.index + alike (drop l.index l.text) (drop l.index l.other))
    × (l.index ≤ length l.text)
