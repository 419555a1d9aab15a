use Rattle.std.proofs.Common.{◌≡◌, ◌≤◌, ◌+◌, length}
use Rattle.script_words.specs.Lines.{lines_of}
use Rattle.text_replay.specs.Lines.{number_behind, steps_behind}
use Rattle.text_replay.proofs.lines.steps_behind.Given as goal

-- none of the lines so far is the heading
abbrev pub invariant-lines : goal.invariant-lines
invariant-lines l =
    (number_behind l.first (lines_of l.rest) ≡ number_behind 1 (lines_of l.text))
    × (steps_behind (lines_of l.rest) ≡ steps_behind (lines_of l.text))
    × (l.first + length l.rest ≤ 1 + length l.text)

abbrev pub decreases-lines : goal.decreases-lines
decreases-lines l = length l.rest
