use Rattle.std.proofs.Common.{◌≡◌, ◌-◌, ◌≤◌, ◌++◌, length, drop}
use Rattle.fragmenter.specs.Pieces.{pieces_of, followers, cut}
use Rattle.fragmenter.proofs.cutting.pieces.Given as goal

-- the frames so far and the frames of the rest are the frames of the message
abbrev pub invariant-cutting : goal.invariant-cutting
invariant-cutting l =
    record {
      within : l.from ≤ length l.message.body;
      frames : l.frames.items ++ followers
          (cut (length (drop l.from l.message.body)) l.each (drop l.from l.message.body))
          ≡ pieces_of l.message l.each;
    }

abbrev pub decreases-cutting : goal.decreases-cutting
decreases-cutting l = l.size - l.from
