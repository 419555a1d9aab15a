-- the lines of a script, one after the other
use Rattle.std.proofs.Common.{◌≡◌, ℕ, ◌+◌, ◌-◌, ◌≤◌, List, [], ◌∷◌, Result, Ok, Err, length, sym}
use Rattle.std.proofs.Common.{subst, arith}
use Rattle.script_words.specs.declared.fault.Fault.{Fault}
use Rattle.script_words.specs.declared.line_error.LineError.{LineError}
use Rattle.script_words.specs.declared.line_error.LineError.TheVariants as errors
use Rattle.script_words.specs.Gives.{Fails}
use Rattle.script_words.specs.Lines.{lines_of}
use Rattle.script_lang.specs.declared.reading.Reading.{Reading}
use Rattle.script_lang.specs.Parts.{ScriptParts}
use Rattle.script_lang.specs.Reading.{lined, finished, read_from, error_in, IsBadOf}

module _ (r : Reading) (line : ℕ) (total : Result ScriptParts (ℕ × Fault)) where
  module _ (before : ℕ) (next : List ℕ) (rest : List (List ℕ)) where
    -- a good line, and then the rest
    goes_on : (s : Reading) → lined r before next ≡ Ok s
        → read_from r before line (next ∷ rest) ≡ total
        → read_from s (before + length next) (line + 1) rest ≡ total
    unfolding read_from
    goes_on s good h = rw good at h

    -- a bad line
    stops : (fault : Fault) → lined r before next ≡ Err fault
        → read_from r before line (next ∷ rest) ≡ total → total ≡ Err (line + 1, fault)
    unfolding read_from
    stops fault bad h = sym (rw bad at h)

  -- no byte is left
  pub last_line : (before : ℕ) (rest : List ℕ) → length rest ≡ 0
      → read_from r before line (lines_of rest) ≡ total → total ≡ finished r.script r.place line
  unfolding read_from
  last_line before [] none h = sym h
  last_line before (b ∷ rest) none h = absurd (omega arith)

  module _ (bytes rest next after : List ℕ) (cut : lines_of rest ≡ next ∷ lines_of after)
      (reads : read_from r (length bytes - length rest) line (lines_of rest) ≡ total) where
    cut_up : read_from r (length bytes - length rest) line (next ∷ lines_of after) ≡ total
    cut_up = rw cut at reads

    -- a good line of some bytes, and then the rest
    pub next_line : (s : Reading) → length next + length after ≡ length rest
        → length rest ≤ length bytes
        → lined r (length bytes - length rest) next ≡ Ok s
        → read_from s (length bytes - length after) (line + 1) (lines_of after) ≡ total
    next_line s whole shorter good =
        let before = length bytes - length rest in
        let passed : before + length next ≡ length bytes - length after = omega arith in
        subst (λ (n : ℕ). read_from s n (line + 1) (lines_of after) ≡ total) passed
        (goes_on before next (lines_of after) s good cut_up)

    -- a line that isn't taken
    pub bad_line : (error : LineError) → Fails error (lined r (length bytes - length rest) next)
        → IsBadOf total (error_in error (line + 1))
    bad_line errors.NoMemory bad = tt
    bad_line (errors.Bad fault) bad =
        stops (length bytes - length rest) next (lines_of after) fault bad cut_up
