use Rattle.std.proofs.Common.{◌≡◌, ◌≤◌, ◌+◌, ◌*◌, ◌++◌, length, take}
use Rattle.command_words.specs.Lines.{named_list}
use Rattle.command_words.proofs.line.Line.push_names.Given as goal

-- the names so far, and their room
abbrev pub invariant-loop-word : goal.invariant-loop-word
invariant-loop-word l = record {
  names : l.self ≡ l.initial.self ++ named_list (take l.word-index l.words);
  room : length l.self ≤ length l.initial.self + 16 * l.word-index;
}
