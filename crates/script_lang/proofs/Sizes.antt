-- how many bytes a script has at most
use Rattle.std.proofs.Common.{◌≡◌, ℕ, ◌+◌, ◌≤◌, Bool, true, false, cond, List, [], ◌∷◌, Result, Ok}
use Rattle.std.proofs.Common.{Err, length, refl, arith, sum_by, nat_lt, ltb-false}
use Rattle.std.proofs.lemmas.List.Sums.{sum_by-cons}
use Rattle.script_words.specs.declared.fault.Fault.{Fault}
use Rattle.script_words.specs.declared.bad_kind.BadKind.TheVariants.{ScriptTooLong}
use Rattle.script_words.specs.Faults.{bad}
use Rattle.script_words.specs.Gives.{◌>>=◌}
use Rattle.script_words.specs.Lines.{lines_of, words_in}
use Rattle.script_words.proofs.Cuts.{sum_by-lines_of}
use Rattle.script_lang.specs.declared.reading.Reading.{Reading}
use Rattle.script_lang.specs.Limits.{script_limit}
use Rattle.script_lang.specs.Parts.{ScriptParts}
use Rattle.script_lang.specs.Reading.{nothing_read, lined, worded, behind, read_from, script_of}

within_limit : (long : Bool) (total : ℕ) (text : Result Reading Fault) (s : Reading)
    → nat_lt script_limit total ≡ long → cond long (Err (bad ScriptTooLong [])) text ≡ Ok s
    → total ≤ script_limit
within_limit true total text s is good = absurd cc
within_limit false total text s is good = ltb-false script_limit total is

-- a line that was taken ends within the limit
taken : (r s : Reading) (before : ℕ) (line : List ℕ)
    → lined r before line ≡ Ok s → before + length line ≤ script_limit
unfolding lined
taken r s before line good =
    let total = before + length line in
    within_limit (nat_lt script_limit total) total (words_in line >>= worded r) s refl good

-- the rest of the lines, behind one
module _ (before line : ℕ) (next : List ℕ) (rest : List (List ℕ)) (s : ScriptParts) where
  on : (r : Reading) (one : Result Reading Fault) → lined r before next ≡ one
      → behind one (line + 1) (λ t. read_from t (before + length next) (line + 1) rest) ≡ Ok s
      → ((t : Reading) → read_from t (before + length next) (line + 1) rest ≡ Ok s
      → before + length next ≤ script_limit
      → before + length next + sum_by length rest ≤ script_limit)
      → before + sum_by length (next ∷ rest) ≤ script_limit
  on r (Err fault) is good more = absurd cc
  on r (Ok t) is good more =
      let here : before + length next ≤ script_limit = taken r t before next is in
      omega (arith, more t good here, sum_by-cons length next rest)

read_within : (r : Reading) (before line : ℕ) (lines : List (List ℕ)) (s : ScriptParts)
    → read_from r before line lines ≡ Ok s → before ≤ script_limit
    → before + sum_by length lines ≤ script_limit
unfolding read_from
read_within r before line [] s good small = omega (arith, small)
read_within r before line (next ∷ rest) s good small =
    on before line next rest s r (lined r before next) refl good
    (λ t more here. read_within t (before + length next) (line + 1) rest s more here)

-- what is a script has at most 1,048,576 bytes
pub script_within : (bytes : List ℕ) (s : ScriptParts)
    → script_of bytes ≡ Ok s → length bytes ≤ script_limit
unfolding script_of
script_within bytes s is =
    let all = read_within nothing_read 0 0 (lines_of bytes) s is (omega arith) in
    omega (arith, all, sum_by-lines_of bytes)
