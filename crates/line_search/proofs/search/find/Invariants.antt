use Rattle.std.proofs.Common.{◌≡◌, length, map, string_bytes}
use Rattle.script_words.specs.Lines.{lines_of}
use Rattle.line_search.specs.Search.{find_in, first_with}
use Rattle.line_search.proofs.search.find.Given as goal

-- no line so far says them
abbrev pub invariant-lines : goal.invariant-lines
invariant-lines l =
    first_with (map string_bytes l.wanted) (lines_of l.rest)
    ≡ find_in (map string_bytes l.wanted) l.text

abbrev pub decreases-lines : goal.decreases-lines
decreases-lines l = length l.rest
