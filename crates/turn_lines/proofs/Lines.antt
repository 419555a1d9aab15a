-- Rows are cut into lines of sixteen.
use Rattle.std.proofs.Common.{◌≡◌, ℕ, zero, suc, ◌+◌, ◌<◌, ◌≤◌, ◌==◌, Bool, true, false}
use Rattle.std.proofs.Common.{cond, List, [], ◌∷◌, length, take, drop, refl, ap, arith}
use Rattle.std.proofs.Common.{eqb-true}
use Rattle.std.proofs.lemmas.Bool.{eqb-false}
use Rattle.std.specs.List.{onto_first}
use Rattle.turn_lines.specs.Text.{in_lines}
use Rattle.turn_lines.specs.declared.rows.Row.{Row}

-- the rows with one before them, by whether the line is full with it
abbrev lines_with : Bool → ℕ → Row → List Row → List (List Row)
lines_with full n row rows =
    cond full ((row ∷ []) ∷ in_lines 0 rows) (onto_first row (in_lines (n + 1) rows))

-- the rows cut behind so many
abbrev cut_behind : ℕ → List Row → List (List Row)
cut_behind k rows = take k rows ∷ in_lines 0 (drop k rows)

cut_by : (full : Bool) (n j : ℕ) (row : Row) (rows : List Row) → (n + 1 == 16) ≡ full
    → (0 < j → j ≤ length rows → n + 1 + j ≤ 16 → (j < length rows → n + 1 + j ≡ 16)
    → in_lines (n + 1) rows ≡ cut_behind j rows)
    → j ≤ length rows → n + suc j ≤ 16 → (j < length rows → n + suc j ≡ 16)
    → lines_with full n row rows ≡ cut_behind (suc j) (row ∷ rows)
cut_by true n zero row rows is later within short whole = refl
cut_by true n (suc j) row rows is later within short whole =
    let last : n + 1 ≡ 16 = eqb-true (n + 1) 16 is in absurd (omega arith)
cut_by false n zero row [] is later within short whole = refl
cut_by false n zero row (next ∷ rows) is later within short whole =
    let more : n + 1 ≡ 16 → ⊥ = eqb-false (n + 1) 16 is in absurd (omega arith)
cut_by false n (suc j) row rows is later within short whole =
    ap (onto_first row)
    (later (omega arith) within (omega arith) (λ less. let all = whole less in omega arith))

-- the first line has sixteen rows, or all
cut_first : (rows : List Row) (n k : ℕ) → 0 < k → k ≤ length rows → n + k ≤ 16
    → (k < length rows → n + k ≡ 16) → in_lines n rows ≡ cut_behind k rows
cut_first [] n k some within short whole = absurd (omega arith)
cut_first (row ∷ rows) n zero some within short whole = absurd (omega arith)
cut_first (row ∷ rows) n (suc j) some within short whole =
    cut_by (n + 1 == 16) n j row rows refl (cut_first rows (n + 1) j) (omega arith) short
    (λ less. whole (omega arith))

-- the first line, where more follow
pub full_line : (rows : List Row) → 16 < length rows
    → in_lines 0 rows ≡ take 16 rows ∷ in_lines 0 (drop 16 rows)
full_line rows more =
    cut_first rows 0 16 (omega arith) (omega arith) (omega arith) (λ less. omega arith)

-- and where none do
pub last_line : (rows : List Row) → 0 < length rows → length rows ≤ 16
    → in_lines 0 rows ≡ take (length rows) rows ∷ in_lines 0 (drop (length rows) rows)
last_line rows some few =
    cut_first rows 0 (length rows) some (omega arith) (omega arith) (λ less. absurd (omega arith))
