use Rattle.std.proofs.Common.{◌≡◌, ◌≤◌, ◌*◌, length, IsSome}
use Rattle.std.specs.List.{AllByRecursion}
use Rattle.linx_base.specs.Frames.{IsMessage}
use Rattle.ethcm_window.specs.Sending.{left_of}
use Rattle.ethcm_end.specs.States.{peer_of}
use Rattle.carrier.specs.Events.{half_of}
use Rattle.trunk.specs.Events.{taken_out}
use Rattle.trunk.specs.Parts.{offers_to}
use Rattle.trunk.proofs.parts.send_all.Given as goal

-- what went over the link and what is left are all, what was stays, and what is left may go
abbrev pub invariant-sending : goal.invariant-sending
invariant-sending l =
    (offers_to l.fn.at l.half.is.end.out l.link.is
    ≡ offers_to l.fn.at l.fn.half.is.end.out l.fn.link.is)
    × ((record l.half.is { end = taken_out l.half.is.end }
    ≡ record l.fn.half.is { end = taken_out l.fn.half.is.end })
    × ((l.half.was ≡ l.fn.half.was) × ((l.link.was ≡ l.fn.link.was)
    × (IsSome (peer_of (half_of l.fn.at l.link.is).end)
    × (AllByRecursion IsMessage l.half.is.end.out
    × (length l.half.is.end.out * 1024 ≤ left_of (half_of l.fn.at l.link.is).end.tx))))))

abbrev pub decreases-sending : goal.decreases-sending
decreases-sending l = length l.half.is.end.out
