-- A script that is read is read too where lines without words follow.
use Rattle.std.proofs.Common.{◌≡◌, ◌∙◌, ℕ, ◌+◌, ◌≤◌, ◌++◌, ◌==◌, Bool, true, false, cond, List, []}
use Rattle.std.proofs.Common.{◌∷◌, length, refl, sym, ap, arith, flat_map, le-ltb, nat_lt, sum_by}
use Rattle.std.proofs.Common.{length-append, Ok, Err, Result}
use Rattle.std.specs.List.{AllByRecursion, onto_first}
use Rattle.std.proofs.lemmas.Bool.{cond-false}
use Rattle.std.proofs.lemmas.Grind.{flat_map-append}
use Rattle.std.proofs.lemmas.List.Sums.{sum_by-cons}
use Rattle.order_lines.specs.Lines.{is_order_line, plain_line, without_orders}
use Rattle.order_lines.proofs.Lengths.{length-without_orders}
use Rattle.script_lang.specs.Parts.{ScriptParts}
use Rattle.script_lang.specs.Reading.{behind, finished, lined, nothing_read, read_from, script_of}
use Rattle.script_lang.specs.Reading.{worded}
use Rattle.script_words.specs.Gives.{◌>>=◌}
use Rattle.script_words.specs.Lines.{lines_of}
use Rattle.script_words.specs.declared.fault.Fault.{Fault}
use Rattle.script_words.proofs.Cuts.{sum_by-lines_of}
use Rattle.turn_lines.specs.Reading.{ListsNone}
use Rattle.turn_lines.proofs.Fronts.{lines_behind}
use Rattle.runs_again.proofs.Comments.{HasNoWords}

module _ (script : ScriptParts) where
  -- the end may stand on any line
  end_at : (s : ScriptParts) (place : _) (k n : ℕ) → finished s place k ≡ Ok script
      → finished s place n ≡ Ok script
  end_at s place k n is = grind arith

  ends_later : (r : _) (before after k n : ℕ) → read_from r before k [] ≡ Ok script
      → read_from r after n [] ≡ Ok script
  unfolding read_from
  ends_later r before after k n is = end_at r.script r.place k n is

  -- a line without words
  passed : (r : _) (before : ℕ) (line : List ℕ) → HasNoWords line
      → before + length line ≤ 1048576 → lined r before line ≡ Ok r
  unfolding lined worded
  passed r before line none low =
      cond-false (nat_lt 1048576 (before + length line)) _ _ (le-ltb _ _ low)
      ∙ ap (λ (words : Result (List (List ℕ)) Fault). words >>= worded r) none

  -- lines without words
  all_passed : (lines : List (List ℕ)) (r : _) (before k : ℕ) → read_from r before k [] ≡ Ok script
      → AllByRecursion HasNoWords lines → before + sum_by length lines ≤ 1048576
      → read_from r before k lines ≡ Ok script
  unfolding read_from
  all_passed [] r before k ends none low = ends
  all_passed (line ∷ lines) r before k ends none low =
      let sum = sum_by-cons length line lines in
      ap (λ one. behind one (k + 1) (λ s. read_from s (before + length line) (k + 1) lines))
      (passed r before line none.0 (omega (arith, low, sum)))
      ∙ all_passed lines r (before + length line) (k + 1)
      (ends_later r before (before + length line) k (k + 1) ends) none.1
      (omega (arith, low, sum))

  -- the lines of a script, and behind them lines without words
  on : (one : _) (before k : ℕ) (lines more : List (List ℕ))
      → behind one k (λ s. read_from s before k lines) ≡ Ok script
      → ((s : _) → read_from s before k lines ≡ Ok script
      → read_from s before k (lines ++ more) ≡ Ok script)
      → behind one k (λ s. read_from s before k (lines ++ more)) ≡ Ok script
  on (Ok s) before k lines more is each = each s is
  on (Err fault) before k lines more is each = absurd cc

  read_longer : (lines more : List (List ℕ)) (r : _) (before k : ℕ)
      → read_from r before k lines ≡ Ok script → AllByRecursion HasNoWords more
      → before + sum_by length lines + sum_by length more ≤ 1048576
      → read_from r before k (lines ++ more) ≡ Ok script
  unfolding read_from
  read_longer [] more r before k is none low =
      all_passed more r before k is none (omega (arith, low))
  read_longer (line ∷ lines) more r before k is none low =
      on (lined r before line) (before + length line) (k + 1) lines more is
      (λ s so_far. read_longer lines more s (before + length line) (k + 1) so_far none
      (omega (arith, low, sum_by-cons length line lines)))

-- ---- a text that lists no turns stays as it is

onto_whole : (b : ℕ) (lines : List (List ℕ))
    → flat_map (λ (line : List ℕ). line) (onto_first b lines) ≡ b ∷ flat_map (λ (line : List ℕ). line) lines
onto_whole b [] = refl
onto_whole b (line ∷ lines) = refl

whole_by : (feed : Bool) (b : ℕ) (bs : List ℕ) → flat_map (λ (line : List ℕ). line) (lines_of bs) ≡ bs
    → flat_map (λ (line : List ℕ). line) (cond feed ((b ∷ []) ∷ lines_of bs) (onto_first b (lines_of bs)))
    ≡ b ∷ bs
whole_by true b bs rest = ap (λ (text : List ℕ). b ∷ text) rest
whole_by false b bs rest =
    onto_whole b (lines_of bs) ∙ ap (λ (text : List ℕ). b ∷ text) rest

-- its lines are the text
whole : (text : List ℕ) → flat_map (λ (line : List ℕ). line) (lines_of text) ≡ text
whole [] = refl
whole (b ∷ bs) = whole_by (b == 10) b bs (whole bs)

plain : (lines : List (List ℕ)) → AllByRecursion (λ line. is_order_line line ≡ false) lines
    → flat_map plain_line lines ≡ flat_map (λ (line : List ℕ). line) lines
plain [] none = refl
plain (line ∷ lines) none =
    ap (λ (text : List ℕ). text ++ flat_map plain_line lines)
    (cond-false (is_order_line line) _ line none.0)
    ∙ ap (λ (text : List ℕ). line ++ text) (plain lines none.1)

module _ (text more : List ℕ) (none : ListsNone text) where
  stays : without_orders text ≡ text
  stays = plain (lines_of text) none.unordered ∙ whole text

  -- and what follows it becomes what it becomes alone
  stays_before : without_orders (text ++ more) ≡ text ++ without_orders more
  stays_before =
      ap (flat_map plain_line) (lines_behind text more none)
      ∙ flat_map-append plain_line (lines_of text) (lines_of more)
      ∙ ap (λ (front : List ℕ). front ++ without_orders more) stays

  -- THE SCRIPT STAYS where what follows it says nothing
  pub script_stays : (script : ScriptParts) → script_of (without_orders text) ≡ Ok script
      → AllByRecursion HasNoWords (lines_of (without_orders more))
      → length (text ++ more) ≤ 1048576
      → script_of (without_orders (text ++ more)) ≡ Ok script
  unfolding script_of
  script_stays script is nothing low =
      let rest : List ℕ = without_orders more in
      ap (λ (bytes : List ℕ). read_from nothing_read 0 0 (lines_of bytes)) stays_before
      ∙ ap (read_from nothing_read 0 0) (lines_behind text rest none)
      ∙ read_longer script (lines_of text) (lines_of rest) nothing_read 0 0
      (ap (λ (bytes : List ℕ). read_from nothing_read 0 0 (lines_of bytes)) (sym stays) ∙ is)
      nothing
      (omega (
        arith,
        low,
        length-append text more,
        sum_by-lines_of text,
        sum_by-lines_of rest,
        length-without_orders more,
      ))
