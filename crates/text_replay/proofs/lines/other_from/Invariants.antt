use Rattle.std.proofs.Common.{◌≡◌, ◌<◌, ◌+◌, ◌^◌, length}
use Rattle.script_words.specs.Lines.{lines_of}
use Rattle.text_replay.specs.Lines.{other_from}
use Rattle.text_replay.proofs.lines.other_from.Given as goal

-- the lines so far are the same
abbrev pub invariant-lines : goal.invariant-lines
invariant-lines l =
    (other_from l.number (lines_of l.lines) (lines_of l.others)
    ≡ other_from l.first (lines_of l.text) (lines_of l.run))
    × (l.number + length l.lines < 2 ^ 64)

abbrev pub decreases-lines : goal.decreases-lines
decreases-lines l = length l.lines
