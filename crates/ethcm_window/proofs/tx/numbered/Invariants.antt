use Rattle.std.proofs.Common.{◌≡◌, take, drop}
use Rattle.ethcm_window.specs.Sending.{numbered_from}
use Rattle.ethcm_window.proofs.tx.numbered.Given as goal

-- so many frames are copied with their numbers
abbrev pub invariant-loop-k : goal.invariant-loop-k
invariant-loop-k l = l.sent.items ≡ numbered_from l.number (take l.k (drop l.place l.frames.items))
