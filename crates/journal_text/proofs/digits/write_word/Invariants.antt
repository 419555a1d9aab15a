use Rattle.std.proofs.Common.{◌≡◌, ◌≤◌, ◌+◌, ◌++◌, ◌-◌, take, vec_len, vec_capacity}
use Rattle.journal_text.proofs.digits.write_word.Given as goal

-- the bytes so far were written, and there is room for the others
abbrev pub invariant-loop-byte : goal.invariant-loop-byte
invariant-loop-byte g l = (l.out.items ≡ l.initial.out.items ++ take l.byte-index l.word)
    × (vec_len l.out + (g.row.N - l.byte-index) ≤ vec_capacity l.out)
