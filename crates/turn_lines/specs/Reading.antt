-- THE TURNS ARE READ BACK from the lines that list them.
use Rattle.std.specs.Prelude.{◌≡◌, ℕ, ◌+◌, ◌≤◌, ◌==◌, ◌||◌, true, false, Ok, List, ◌++◌, length}
use Rattle.std.specs.Prelude.{map}
use Rattle.std.specs.Io.BufRead.{ends_with_byte}
use Rattle.std.specs.List.{AllByRecursion}
use Rattle.journal.specs.declared.by.By.{By}
use Rattle.journal.specs.declared.by.By.TheVariants.{Actor, Pump}
use Rattle.journal.specs.declared.effect.Step.{Step}
use Rattle.order_lines.specs.Fronts.{front_of}
use Rattle.order_lines.specs.Lines.{is_order_line}
use Rattle.order_lines.specs.Turns.{turn_limit}
use Rattle.order_lines.specs.declared.turns.Makers.{Makers}
use Rattle.script_words.specs.Lines.{lines_of}
use Rattle.turn_lines.specs.Text.{order_text}
use Rattle.turn_lines.specs.Turns.{turn_makers}

-- a maker's number: those of the links come behind those of the actors
abbrev pub number_among : Makers → By → ℕ
number_among makers (Actor k) = k
number_among makers (Pump l) = makers.actors + l.0

-- the maker is one of so many actors or links, which have their numbers from 1
abbrev pub IsAmong : Makers → By → Type 0
IsAmong makers (Actor k) = (1 ≤ k) × (k ≤ makers.actors)
IsAmong makers (Pump l) = (1 ≤ l.0) × (l.0 ≤ makers.links)

-- the numbers of the makers have six digits at most
pub record AreFew (makers : Makers) : Type 0 where
  pub actors : makers.actors ≤ 999999
  pub links : makers.links ≤ 999999

-- a text that lists no turns, whose last line has its line feed (10)
pub record ListsNone (text : List ℕ) : Type 0 where
  pub ended : ((length text == 0) || ends_with_byte 10 text) ≡ true
  pub unordered : AllByRecursion (λ line. is_order_line line ≡ false) (lines_of text)

-- what stands behind a text that lists no turns lists those of the journal
abbrev pub TurnsReadBack : Type 0
TurnsReadBack =
    (makers : Makers) (text : List ℕ) (P : List Step) → AreFew makers → ListsNone text
    → AllByRecursion (IsAmong makers) (turn_makers P) → length (turn_makers P) ≤ turn_limit
    → front_of makers (text ++ order_text (turn_makers P))
    ≡ Ok (map (number_among makers) (turn_makers P))
