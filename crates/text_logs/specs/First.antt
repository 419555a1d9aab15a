-- The first line in which a text is another than expected.
use Rattle.std.specs.Prelude.{ℕ, ◌+◌, ◌==◌, ◌++◌, nat_lt, List, [], ◌∷◌, length, take, filter, codes}
use Rattle.std.specs.Prelude.{Option, Some, None, if◌then◌else◌}
use Rattle.std.specs.List.{common_prefix_len}
use Rattle.journal.specs.declared.effect.Step.{Step}
use Rattle.journal.specs.Logs.{Log}
use Rattle.journal_text.specs.Blocks.{logs_text}
use Rattle.journal_text.specs.Values.{first_bytes}

-- how many bytes two texts begin with alike
abbrev pub alike : List ℕ → List ℕ → ℕ
alike text other = common_prefix_len (λ b c. b == c) text other

-- the line, from 1, that the byte behind so many stands in
abbrev pub line_at : List ℕ → ℕ → ℕ
line_at text count = length (filter (λ b. b == 10) (take count text)) + 1

-- the first line in which a text doesn't begin as expected: that of the first byte which is
-- another, or of the text's end; none where it begins so
abbrev pub first_other : List ℕ → List ℕ → Option ℕ
first_other text expected =
    if nat_lt (alike text expected) (length expected) then Some (line_at text (alike text expected))
    else None

-- what a text begins with that shows these steps of a journal: nothing where there are none
abbrev pub front_if_steps : Log → List Step → List ℕ
front_if_steps log [] = []
front_if_steps log (s ∷ P) = logs_text first_bytes log ++ codes "journal "

-- what a text begins with of which a journal was read: the logs by the first bytes of long data, and
-- the word of the line behind them
abbrev pub front_of : Log → List ℕ
front_of log = front_if_steps log log.steps
