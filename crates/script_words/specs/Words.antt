-- where a word is cut, and how many stand behind the first one of a line
use Rattle.std.specs.Prelude.{ℕ, ◌+◌, ◌==◌, Option, option_map, Result, Ok, Err, List, [], ◌∷◌}
use Rattle.std.specs.Prelude.{take, drop, position}
use Rattle.script_words.specs.declared.fault.Fault.{Fault}
use Rattle.script_words.specs.Faults.{bad_shape}
use Rattle.script_words.specs.Gives.{◌>>=◌}

-- what stands before the first such byte, and what behind it
abbrev pub cut_at : ℕ → List ℕ → Option (List ℕ × List ℕ)
cut_at byte word =
    option_map (λ k. (take k word, drop (k + 1) word)) (position (λ b. b == byte) word)

-- the word, where it is the only one behind that statement
abbrev pub only : List ℕ → List (List ℕ) → Result (List ℕ) Fault
only statement [] = Err (bad_shape statement)
only statement (word ∷ []) = Ok word
only statement (word ∷ more ∷ words) = Err (bad_shape more)

-- the value, where no words follow
abbrev pub alone : {A : Type 0} → List (List ℕ) → A → Result A Fault
alone [] value = Ok value
alone (word ∷ words) value = Err (bad_shape word)

-- what each word is read as
abbrev pub each_of : {A : Type 0} → (List ℕ → Result A Fault) → List (List ℕ)
    → Result (List A) Fault
each_of read [] = Ok []
each_of read (word ∷ words) = do
  value ← read word
  values ← each_of read words
  Ok (value ∷ values)
