-- How much the steps of a text may note. A journal that notes as much as fills it takes no further
-- step, and its last step may note as much as all before it; so the text of a run has less than
-- half of what may be read.
use Rattle.std.specs.Prelude.{ℕ, suc, Bool, nat_lt, List, [], ◌∷◌, Option, Some, None}
use Rattle.std.specs.Prelude.{if◌then◌else◌}
use Rattle.linx_base.specs.declared.name.Names.{Names}
use Rattle.journal.specs.declared.effect.Step.{Step}
use Rattle.journal.specs.Logs.{head_bytes, effect_bytes, signal_bytes_of}
use Rattle.journal_words.specs.declared.lines.Line.{Line}
use Rattle.journal_words.specs.declared.lines.Line.TheVariants.{Made, Happened}
use Rattle.text_words.specs.Words.{lines_of}
use Rattle.journal_read.specs.Reading.{SoFar, unread, take_line}

-- the size of the signal that a line notes
abbrev pub line_bytes : Line → ℕ
line_bytes (Made position by head) = head_bytes head
line_bytes (Happened effect) = effect_bytes effect

-- the most bytes of signals that steps may note: four times those that fill a journal
abbrev pub noted_limit : ℕ
noted_limit = 268435456

-- the steps note more signals than may be read
abbrev pub is_over_full : List Step → Bool
is_over_full P = nat_lt noted_limit (signal_bytes_of P)

-- the first line that makes steps note more, where the line of this number made this
abbrev pub full_at : ℕ → Option SoFar → (SoFar → Option ℕ) → Option ℕ
full_at line None go_on = None
full_at line (Some r) go_on = if is_over_full r.steps then Some line else go_on r

-- the first of these lines, from this number on, that makes the steps note more than they may, if
-- there is one before a bad line
abbrev pub full_lines : SoFar → ℕ → List (List ℕ) → Option ℕ
full_lines r line [] = None
full_lines r line (bytes ∷ lines) =
    full_at line (take_line r bytes) (λ q. full_lines q (suc line) lines)

-- the first line of a text that makes its steps note more than they may
abbrev pub full_in : Names → List ℕ → Option ℕ
full_in names text = full_lines (unread names) 1 (lines_of text)
