-- THE TURNS THAT A WORD SPELLS: `A3` is a turn of actor 3, `P1*25` twenty-five turns of link 1.
use Rattle.std.specs.Prelude.{ℕ, ◌+◌, ◌&&◌, ◌==◌, Option, Some, None, Result, Ok, Err, List, []}
use Rattle.std.specs.Prelude.{◌∷◌, length, nat_le, replicate, if◌then◌else◌}
use Rattle.std.specs.Char.{is_ascii_digit}
use Rattle.std.specs.List.{list_all}
use Rattle.script_words.specs.Faults.{bad, bad_shape}
use Rattle.script_words.specs.Gives.{◌>>=◌}
use Rattle.script_words.specs.Numbers.{decimal_of, is_within}
use Rattle.script_words.specs.Words.{cut_at}
use Rattle.script_words.specs.declared.bad_kind.BadKind.TheVariants.{UnknownName}
use Rattle.script_words.specs.declared.fault.Fault.{Fault}
use Rattle.order_lines.specs.declared.turns.Makers.{Makers}
use Rattle.order_lines.specs.declared.turns.Turns.{Turns}

-- the most turns that come first
abbrev pub turn_limit : ℕ
turn_limit = 200000

-- the number that one to six decimal digits spell
abbrev pub number_spelled : List ℕ → Option ℕ
number_spelled word =
    if nat_le 1 (length word) && nat_le (length word) 6 && list_all is_ascii_digit word
    then Some (decimal_of word)
    else None

-- the maker of a number among so many, which have their numbers behind those before
abbrev pub numbered : List ℕ → ℕ → ℕ → Option ℕ → Result ℕ Fault
numbered word before many None = Err (bad_shape word)
numbered word before many (Some n) =
    if is_within 1 many n then Ok (before + n) else Err (bad UnknownName word)

-- the maker that a part of the word names: actors by `A` (65) and links by `P` (80), whose numbers
-- stand behind those of the actors
abbrev pub maker_named : Makers → List ℕ → List ℕ → Result ℕ Fault
maker_named makers word [] = Err (bad_shape word)
maker_named makers word (letter ∷ digits) =
    if letter == 65 then numbered word 0 makers.actors (number_spelled digits)
    else if letter == 80
    then numbered word makers.actors makers.links (number_spelled digits)
    else Err (bad_shape word)

-- how often a maker takes its turn, by the number that is spelled
abbrev pub times_in : List ℕ → Option ℕ → Result ℕ Fault
times_in word None = Err (bad_shape word)
times_in word (Some n) = if is_within 1 turn_limit n then Ok n else Err (bad_shape word)

-- the turns that the parts of a word spell, which a star (42) cuts
abbrev pub turns_of_parts : Makers → List ℕ → Option (List ℕ × List ℕ) → Result Turns Fault
turns_of_parts makers word None = do
  maker ← maker_named makers word word
  Ok (record { maker = maker; times = 1 })
turns_of_parts makers word (Some parts) = do
  maker ← maker_named makers word parts.0
  times ← times_in word (number_spelled parts.1)
  Ok (record { maker = maker; times = times })

-- THE TURNS THAT A WORD SPELLS
abbrev pub turns_spelled : Makers → List ℕ → Result Turns Fault
turns_spelled makers word = turns_of_parts makers word (cut_at 42 word)

-- the turns that a word spells as the list of their makers: the maker as often as it comes
abbrev pub written_out : Turns → List ℕ
written_out turns = replicate turns.times turns.maker
