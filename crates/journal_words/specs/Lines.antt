-- A line of a printed step: the step's own, or one of an effect.
use Rattle.std.specs.Prelude.{ℕ, Option, Some, None, List, [], ◌∷◌, codes, if◌then◌else◌}
use Rattle.std.specs.Str.{bytes_eq}
use Rattle.linx_base.specs.declared.name.Names.{Names}
use Rattle.journal.specs.declared.head.Head.{Head}
use Rattle.journal.specs.declared.effect.Effect.{Effect}
use Rattle.journal_words.specs.declared.lines.Line.{Line}
use Rattle.journal_words.specs.declared.lines.Line.TheVariants.{Made, Happened}
use Rattle.text_words.specs.Gives.{◌>>=◌, made}
use Rattle.text_words.specs.Words.{words_of}
use Rattle.text_words.specs.Numbers.{u64_in}
use Rattle.journal_words.specs.Peers.{maker_in}
use Rattle.journal_words.specs.Heads.{head_in}
use Rattle.journal_words.specs.Effects.{effect_in}

-- the head of its words
abbrev pub head_at : Names → List (List ℕ) → Option Head
head_at names [] = None
head_at names (first ∷ words) = head_in names first words

-- the effect of its words
abbrev pub effect_at : Names → List (List ℕ) → Option Effect
effect_at names [] = None
effect_at names (first ∷ words) = effect_in names first words

-- a step's position, its maker and its head
unfoldable pub step_line_in : Names → List ℕ → List (List ℕ) → Option Line
step_line_in names first [] = None
step_line_in names first (maker ∷ words) = do
  position ← u64_in first
  by ← maker_in maker
  head ← head_at names words
  Some (Made position by head)

-- a line by its words: `+` stands before an effect
unfoldable pub line_by : Names → List (List ℕ) → Option Line
line_by names [] = None
line_by names (first ∷ words) =
    if bytes_eq first (codes "+") then made Happened (effect_at names words)
    else step_line_in names first words

-- the line that bytes are, its line feed not among them
abbrev pub line_in : Names → List ℕ → Option Line
line_in names line = line_by names (words_of line)
