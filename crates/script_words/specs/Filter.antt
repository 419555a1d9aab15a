-- words as the filter of a receive
use Rattle.std.specs.Prelude.{ℕ, Bool, true, Result, Ok, Err, List, [], ◌∷◌, length, codes}
use Rattle.std.specs.Prelude.{if◌then◌else◌}
use Rattle.std.specs.Str.{bytes_eq}
use Rattle.sigsel.specs.declared.sigsel.Sigsel.{Sigsel}
use Rattle.sigsel.specs.declared.sigsel.Sigsel.TheVariants.{Any, Only, Not}
use Rattle.script_words.specs.declared.fault.Fault.{Fault}
use Rattle.script_words.specs.Faults.{bad_shape}
use Rattle.script_words.specs.Gives.{◌>>=◌, made}
use Rattle.script_words.specs.Limits.{filter_limit}
use Rattle.script_words.specs.Words.{alone}
use Rattle.script_words.specs.Numbers.{is_within, numbers_of}

-- a filter has room for these numbers, and lists one at least
abbrev pub lists_few : List ℕ → Bool
lists_few numbers = is_within 1 filter_limit (length numbers)

-- a filter lists as many numbers as it may
abbrev pub fits_filter : Sigsel → Bool
fits_filter Any = true
fits_filter (Only numbers) = lists_few numbers
fits_filter (Not numbers) = lists_few numbers

-- the numbers that a filter lists behind a word
abbrev pub listed_of : List ℕ → List (List ℕ) → Result (List ℕ) Fault
listed_of word words = do
  numbers ← numbers_of words
  if lists_few numbers then Ok numbers else Err (bad_shape word)

-- `any`, or numbers, or `not` and numbers, behind the statement
unfoldable pub filter_of : List ℕ → List (List ℕ) → Result Sigsel Fault
filter_of statement [] = Err (bad_shape statement)
filter_of statement (first ∷ words) =
    if bytes_eq first (codes "any") then alone words Any
    else if bytes_eq first (codes "not") then made Not (listed_of first words)
    else made Only (listed_of statement (first ∷ words))
