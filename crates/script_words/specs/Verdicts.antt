-- words as the verdicts of a direction
use Rattle.std.specs.Prelude.{ℕ, ◌-◌, ◌&&◌, ◌==◌, Result, Ok, Err, List, [], ◌∷◌, codes}
use Rattle.std.specs.Prelude.{if◌then◌else◌}
use Rattle.std.specs.Str.{bytes_eq}
use Rattle.linx_base.specs.declared.identity.Side.{Side}
use Rattle.linx_base.specs.declared.identity.Side.TheVariants.{First, Second}
use Rattle.linx_base.specs.declared.frame.Verdict.{Verdict}
use Rattle.linx_base.specs.declared.frame.Verdict.TheVariants.{Deliver, Lose, Repeat, Swap}
use Rattle.script_words.specs.declared.fault.Fault.{Fault}
use Rattle.script_words.specs.Faults.{bad_shape}
use Rattle.script_words.specs.Words.{each_of}
use Rattle.script_words.specs.Numbers.{is_within}

-- the direction of a plan, by the side that sends
unfoldable pub side_in : List ℕ → Result Side Fault
side_in word =
    if bytes_eq word (codes ">") then Ok First
    else if bytes_eq word (codes "<") then Ok Second
    else Err (bad_shape word)

-- `S1` to `S9`
abbrev pub swap_of : List ℕ → Result Verdict Fault
swap_of [] = Err (bad_shape [])
swap_of (letter ∷ []) = Err (bad_shape (letter ∷ []))
swap_of (letter ∷ digit ∷ []) =
    if (letter == 83) && is_within 49 57 digit then Ok (Swap (digit - 48))
    else Err (bad_shape (letter ∷ digit ∷ []))
swap_of (letter ∷ digit ∷ b ∷ bs) = Err (bad_shape (letter ∷ digit ∷ b ∷ bs))

-- a verdict: `D`, `L`, `R` or an exchange
unfoldable pub verdict_of : List ℕ → Result Verdict Fault
verdict_of word =
    if bytes_eq word (codes "D") then Ok Deliver
    else if bytes_eq word (codes "L") then Ok Lose
    else if bytes_eq word (codes "R") then Ok Repeat
    else swap_of word

-- the words as verdicts
abbrev pub verdicts_of : List (List ℕ) → Result (List Verdict) Fault
verdicts_of words = each_of verdict_of words

-- the words behind that statement as verdicts, one at least
abbrev pub some_verdicts_of : List ℕ → List (List ℕ) → Result (List Verdict) Fault
some_verdicts_of statement [] = Err (bad_shape statement)
some_verdicts_of statement (word ∷ words) = verdicts_of (word ∷ words)
