use Rattle.std.proofs.Common.{◌≡◌, ◌++◌, take, flat_map}
use Rattle.svg_text.specs.Words.{byte_text}
use Rattle.svg_text.proofs.writing.write_words.Given as goal

-- the bytes so far were written
abbrev pub invariant-loop-byte : goal.invariant-loop-byte
invariant-loop-byte l =
    l.out.items ≡ l.initial.out.items ++ flat_map byte_text (take l.byte-index l.words)
