-- What is known of the rows of makers, and of the lines that they are cut into.
use Rattle.std.proofs.Common.{◌≡◌, ◌∙◌, ℕ, suc, ◌+◌, ◌<◌, ◌≤◌, ◌++◌, ◌==◌, Bool, true, false, cond}
use Rattle.std.proofs.Common.{List, [], ◌∷◌, length, refl, sym, ap, arith, append-nil, append_assoc}
use Rattle.std.proofs.Common.{flat_map, map, length-append, replicate}
use Rattle.std.specs.List.{AllByRecursion, onto_first}
use Rattle.std.proofs.Math.ListN.{length-replicate}
use Rattle.std.proofs.lemmas.Bool.{eqb-false}
use Rattle.journal.specs.declared.by.By.{By}
use Rattle.journal.specs.declared.by.By.TheVariants.{Actor, Pump}
use Rattle.order_lines.specs.declared.turns.Makers.{Makers}
use Rattle.turn_lines.specs.Reading.{AreFew, IsAmong, number_among}
use Rattle.turn_lines.specs.Rows.{before_rows, is_same, longer, one_turn, rows_of, turns_in}
use Rattle.turn_lines.specs.Text.{in_lines}
use Rattle.turn_lines.specs.declared.rows.Row.{Row}
use Rattle.turn_lines.proofs.Bytes.{AreSmall, number_in_name}
use Rattle.turn_lines.proofs.MoreTurns.{same_maker}

module _ (makers : Makers) where
  -- a row of a maker that is there, with a turn
  pub record IsListed (row : Row) : Type 0 where
    pub among : IsAmong makers row.maker
    pub some : 1 ≤ row.times

  abbrev pub AreListed : List Row → Type 0
  AreListed [] = Unit {0}
  AreListed (row ∷ rows) = IsListed row × AreListed rows

  -- the turns of a row, and of rows
  abbrev pub written : Row → List ℕ
  written row = replicate row.times (number_among makers row.maker)

  abbrev pub all_written : List Row → List ℕ
  all_written rows = flat_map written rows

  abbrev pub lines_written : List (List Row) → List ℕ
  lines_written lines = flat_map all_written lines

  pub length-written : (rows : List Row) → length (all_written rows) ≡ turns_in rows
  length-written [] = refl
  length-written (row ∷ rows) =
      length-append (written row) (all_written rows)
      ∙ omega (
        arith,
        length-replicate row.times (number_among makers row.maker),
        length-written rows,
      )

  -- ---- numbers of few digits

  small_number : AreFew makers → (maker : By) → IsAmong makers maker → number_in_name maker ≤ 999999
  small_number few (Actor k) among = omega (arith, among.1, few.actors)
  small_number few (Pump l) among = omega (arith, among.1, few.links)

  pub small_rows : AreFew makers → (rows : List Row) → AreListed rows → turns_in rows ≤ 200000
      → AreSmall rows
  small_rows few [] listed low = tt
  small_rows few (row ∷ rows) listed low = (
    record {
      number = small_number few row.maker listed.0.among;
      times = omega (arith, low);
    },
    small_rows few rows listed.1 (omega (arith, low)),
  )

  -- ---- the rows of makers

  abbrev before_by : Bool → By → Row → List Row → List Row
  before_by same a row rows = cond same (longer row ∷ rows) (one_turn a ∷ row ∷ rows)

  listed_by : (same : Bool) (a : By) (row : Row) (rows : List Row) → IsAmong makers a
      → AreListed (row ∷ rows) → AreListed (before_by same a row rows)
  listed_by true a row rows among listed =
      (record { among = listed.0.among; some = omega arith }, listed.1)
  listed_by false a row rows among listed =
      (record { among = among; some = omega arith }, listed)

  one_listed : (a : By) (rows : List Row) → IsAmong makers a → AreListed rows
      → AreListed (before_rows a rows)
  one_listed a [] among listed = (record { among = among; some = omega arith }, tt)
  one_listed a (row ∷ rows) among listed =
      listed_by (is_same a row.maker) a row rows among listed

  pub all_listed : (ms : List By) → AllByRecursion (IsAmong makers) ms → AreListed (rows_of ms)
  all_listed [] among = tt
  all_listed (a ∷ ms) among = one_listed a (rows_of ms) among.0 (all_listed ms among.1)

  written_by : (same : Bool) (a : By) (row : Row) (rows : List Row) → is_same a row.maker ≡ same
      → all_written (before_by same a row rows)
      ≡ number_among makers a ∷ all_written (row ∷ rows)
  written_by true a row rows is =
      let n : ℕ = number_among makers row.maker in
      let more : row.times + 1 ≡ suc row.times = omega arith in
      ap (λ (k : ℕ). replicate k n ++ all_written rows) more
      ∙ ap (λ (m : By). number_among makers m ∷ all_written (row ∷ rows))
      (sym (same_maker a row.maker is))
  written_by false a row rows is = refl

  one_written : (a : By) (rows : List Row)
      → all_written (before_rows a rows) ≡ number_among makers a ∷ all_written rows
  one_written a [] = refl
  one_written a (row ∷ rows) = written_by (is_same a row.maker) a row rows refl

  -- the turns of the rows are those of the makers
  pub written_again : (ms : List By) → all_written (rows_of ms) ≡ map (number_among makers) ms
  written_again [] = refl
  written_again (a ∷ ms) =
      one_written a (rows_of ms)
      ∙ ap (λ (l : List ℕ). number_among makers a ∷ l) (written_again ms)

  -- ---- lines

  -- a line of at most sixteen rows, where so many stand before it
  pub record IsLine (before : ℕ) (line : List Row) : Type 0 where
    pub listed : AreListed line
    pub some : 0 < length line
    pub few : before + length line ≤ 16

  abbrev pub AreLines : ℕ → List (List Row) → Type 0
  AreLines before [] = Unit {0}
  AreLines before (line ∷ lines) = IsLine before line × AreLines 0 lines

  onto_lines : (n : ℕ) (row : Row) (lines : List (List Row)) → n < 16 → IsListed row
      → AreLines (n + 1) lines → AreLines n (onto_first row lines)
  onto_lines n row [] few listed are =
      (record { listed = (listed, tt); some = omega arith; few = omega arith }, tt)
  onto_lines n row (line ∷ lines) few listed are = (
    record {
      listed = (listed, are.0.listed);
      some = omega arith;
      few = omega (arith, are.0.few);
    },
    are.1,
  )

  lines_by : (full : Bool) (n : ℕ) (row : Row) (rows : List Row) → (n + 1 == 16) ≡ full → n < 16
      → IsListed row → AreLines 0 (in_lines 0 rows)
      → (n + 1 < 16 → AreLines (n + 1) (in_lines (n + 1) rows))
      → AreLines n (cond full ((row ∷ []) ∷ in_lines 0 rows) (onto_first row (in_lines (n + 1) rows)))
  lines_by true n row rows is few listed new on =
      (record { listed = (listed, tt); some = omega arith; few = omega arith }, new)
  lines_by false n row rows is few listed new on =
      let no : n + 1 ≡ 16 → ⊥ = eqb-false (n + 1) 16 is in
      onto_lines n row (in_lines (n + 1) rows) few listed (on (omega arith))

  pub are_lines : (rows : List Row) (n : ℕ) → n < 16 → AreListed rows → AreLines n (in_lines n rows)
  are_lines [] n few listed = tt
  are_lines (row ∷ rows) n few listed =
      lines_by (n + 1 == 16) n row rows refl few listed.0
      (are_lines rows 0 (omega arith) listed.1)
      (λ less. are_lines rows (n + 1) less listed.1)

  onto_written : (row : Row) (lines : List (List Row))
      → lines_written (onto_first row lines) ≡ written row ++ lines_written lines
  onto_written row [] = append-nil (written row ++ [])
  onto_written row (line ∷ lines) =
      append_assoc (written row) (all_written line) (lines_written lines)

  cut_by : (full : Bool) (n : ℕ) (row : Row) (rows : List Row)
      → lines_written (in_lines 0 rows) ≡ all_written rows
      → lines_written (in_lines (n + 1) rows) ≡ all_written rows
      → lines_written
      (cond full ((row ∷ []) ∷ in_lines 0 rows) (onto_first row (in_lines (n + 1) rows)))
      ≡ all_written (row ∷ rows)
  cut_by true n row rows new on =
      ap (λ (l : List ℕ). l ++ lines_written (in_lines 0 rows)) (append-nil (written row))
      ∙ ap (λ (l : List ℕ). written row ++ l) new
  cut_by false n row rows new on =
      onto_written row (in_lines (n + 1) rows) ∙ ap (λ (l : List ℕ). written row ++ l) on

  -- the turns of the lines are those of the rows
  pub cut_written : (rows : List Row) (n : ℕ) → lines_written (in_lines n rows) ≡ all_written rows
  cut_written [] n = refl
  cut_written (row ∷ rows) n =
      cut_by (n + 1 == 16) n row rows (cut_written rows 0) (cut_written rows (n + 1))
