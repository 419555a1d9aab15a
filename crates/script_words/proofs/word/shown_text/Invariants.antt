use Rattle.std.proofs.Common.{◌≡◌, take}
use Rattle.script_words.specs.Failures.{shown}
use Rattle.script_words.proofs.word.shown_text.Given as goal

-- the bytes so far are shown
abbrev pub invariant-loop-byte : goal.invariant-loop-byte
invariant-loop-byte l = l.text.bytes ≡ shown (take l.byte-index l.bytes)
