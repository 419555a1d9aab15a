-- The orders of a text, one line after the other.
use Rattle.std.proofs.Common.{◌≡◌, ℕ, ◌+◌, List, [], ◌∷◌, Result, Ok, length, sym, arith}
use Rattle.script_words.specs.Gives.{Fails}
use Rattle.script_words.specs.Lines.{lines_of}
use Rattle.script_words.specs.declared.fault.Fault.{Fault}
use Rattle.script_words.specs.declared.line_error.LineError.{LineError}
use Rattle.script_words.specs.declared.line_error.LineError.TheVariants as errors
use Rattle.order_lines.specs.Faults.{IsBadOf, error_in}
use Rattle.order_lines.specs.Fronts.{front_from, with_line}
use Rattle.order_lines.specs.declared.turns.Makers.{Makers}

module _ (makers : Makers) (front : List ℕ) (line : ℕ) (total : Result (List ℕ) (ℕ × Fault)) where
  -- no byte is left
  pub last_line : (rest : List ℕ) → length rest ≡ 0
      → front_from makers front line (lines_of rest) ≡ total → total ≡ Ok front
  unfolding front_from
  last_line [] none reads = sym reads
  last_line (b ∷ rest) none reads = absurd (omega arith)

  module _ (rest next after : List ℕ) (cut : lines_of rest ≡ next ∷ lines_of after)
      (reads : front_from makers front line (lines_of rest) ≡ total) where
    cut_up : front_from makers front line (next ∷ lines_of after) ≡ total
    cut_up = rw cut at reads

    -- a good line, and then the rest
    pub next_line : (longer : List ℕ) → with_line makers front next ≡ Ok longer
        → front_from makers longer (line + 1) (lines_of after) ≡ total
    unfolding front_from
    next_line longer good = rw good at cut_up

    -- a line that isn't taken
    pub bad_line : (error : LineError) → Fails error (with_line makers front next)
        → IsBadOf total (error_in error (line + 1))
    unfolding front_from
    bad_line errors.NoMemory bad = tt
    bad_line (errors.Bad fault) bad = sym (rw bad at cut_up)
