use Rattle.std.proofs.Common.{◌≡◌, ◌++◌, flat_map, take}
use Rattle.turn_lines.specs.Text.{word_text}
use Rattle.turn_lines.proofs.text.write_words.Given as goal

-- the words so far
abbrev pub invariant-loop-row : goal.invariant-loop-row
invariant-loop-row l =
    l.out.items ≡ l.initial.out.items ++ flat_map word_text (take l.row-index l.rows)
