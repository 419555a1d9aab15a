use Rattle.std.proofs.Common.{◌≡◌, ◌++◌, take, flat_map}
use Rattle.command_words.specs.Pages.{pages_line}
use Rattle.command_words.proofs.page.push_lines.Given as goal

-- the lines so far
abbrev pub invariant-loop-word : goal.invariant-loop-word
invariant-loop-word l =
    l.text.items ≡ l.initial.text.items ++ flat_map pages_line (take l.word-index l.words)
