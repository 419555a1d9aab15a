use Rattle.std.proofs.Common.{◌≡◌, ◌≤◌, ◌+◌, ◌++◌, length, map, take}
use Rattle.command_words.specs.Lines.{printable}
use Rattle.command_words.proofs.line.Line.push_shown.Given as goal

-- what is shown so far
abbrev pub invariant-loop-byte : goal.invariant-loop-byte
invariant-loop-byte l = record {
  shown : l.self ≡ l.initial.self ++ map printable (take l.byte-index l.cut);
  room : length l.self ≡ length l.initial.self + l.byte-index;
  cut : length l.cut ≤ 64;
}
