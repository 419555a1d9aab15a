use Rattle.std.proofs.Common.{◌≡◌, ◌≤◌, ◌-◌, length}
use Rattle.script_words.specs.Lines.{lines_of}
use Rattle.script_texts.specs.Places.{place_behind, text_place}
use Rattle.script_texts.proofs.parts.text_place.Given as goal

-- none of the lines so far is it
abbrev pub invariant-lines : goal.invariant-lines
invariant-lines l =
    (place_behind (length l.bytes - length l.rest) (lines_of l.rest) ≡ text_place l.bytes)
    × (length l.rest ≤ length l.bytes)

abbrev pub decreases-lines : goal.decreases-lines
decreases-lines l = length l.rest
