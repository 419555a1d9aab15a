-- The words of a line that lists turns are read again.
use Rattle.std.proofs.Common.{◌≡◌, ◌∙◌, ℕ, ◌-◌, ◌≤◌, ◌++◌, ◌==◌, ◌&&◌, Bool}
use Rattle.std.proofs.Common.{true, false, not, List, [], ◌∷◌, length, take, get_or}
use Rattle.std.proofs.Common.{refl, ap, arith, append-nil, length-append}
use Rattle.std.proofs.Common.{le-ltb, lt-ltb, eq-eqb, ne_eqb, filter, take_while, flat_map, map, Ok}
use Rattle.std.proofs.Common.{codes, Result, nat_lt}
use Rattle.std.specs.Io.BufRead.{ends_with_byte, strip_last}
use Rattle.std.specs.List.{list_all, onto_first, slice_split}
use Rattle.std.proofs.lemmas.Bool.{and_from, and_parts, cond-false, cond-true, not-true}
use Rattle.std.proofs.lemmas.Bool.{not_from_false}
use Rattle.std.proofs.lemmas.List.Folds.{list_all-append}
use Rattle.std.proofs.lemmas.List.Splits.{slice_split-cons_no}
use Rattle.std.proofs.lemmas.List.Sums.{AllPass-from_list_all, take_while-cons}
use Rattle.std.proofs.Math.Seq.{take-append_seam}
use Rattle.order_lines.specs.Lines.{is_order_line}
use Rattle.script_words.specs.Lines.{is_comment, is_plain, is_space, words_in, words_in_text, words_of}
use Rattle.script_words.specs.declared.fault.Fault.{Fault}
use Rattle.turn_lines.specs.Text.{line_text, row_text, word_text}
use Rattle.turn_lines.specs.declared.rows.Row.{Row}
use Rattle.turn_lines.proofs.Bytes.{AreSmall, all_within, is_printed, is_shown, length-row}
use Rattle.turn_lines.proofs.Bytes.{length-words, printed_no_feed, printed_no_return, printed_plain}
use Rattle.turn_lines.proofs.Bytes.{printed_words, shown_no_mark, shown_no_space, shown_row}

-- ---- the end of a line

last_at : (xs : List ℕ) (b : ℕ) → get_or (xs ++ b ∷ []) (length xs) 0 ≡ b
last_at [] b = refl
last_at (x ∷ xs) b = last_at xs b

strip_feed : (xs : List ℕ) → strip_last 10 (xs ++ 10 ∷ []) ≡ xs
strip_feed xs =
    let long = length-append xs (10 ∷ []) in
    let before : length (xs ++ 10 ∷ []) - 1 ≡ length xs = omega (arith, long) in
    let some : nat_lt 0 (length (xs ++ 10 ∷ [])) ≡ true = lt-ltb _ _ (omega (arith, long)) in
    let last : (get_or (xs ++ 10 ∷ []) (length (xs ++ 10 ∷ []) - 1) 0 == 10) ≡ true =
    ap (λ (k : ℕ). get_or (xs ++ 10 ∷ []) k 0 == 10) before ∙ eq-eqb _ 10 (last_at xs 10)
    in
    cond-true (ends_with_byte 10 (xs ++ 10 ∷ [])) _ _ (and_from _ _ some last)
    ∙ ap (λ (k : ℕ). take k (xs ++ 10 ∷ [])) before ∙ take-append_seam xs (10 ∷ [])

-- a text that lacks the byte
strip_none : (byte b : ℕ) (xs : List ℕ) → list_all (λ x. not (x == byte)) (b ∷ xs) ≡ true
    → strip_last byte (b ∷ xs) ≡ b ∷ xs
strip_none byte b xs lacks =
    let here =
    AllPass-from_list_all (λ x. not (x == byte)) (b ∷ xs) lacks (length (b ∷ xs) - 1) 0 (omega arith)
    in
    let last : (get_or (b ∷ xs) (length (b ∷ xs) - 1) 0 == byte) ≡ false = not-true _ here in
    let some : nat_lt 0 (length (b ∷ xs)) ≡ true = lt-ltb _ _ (omega arith) in
    cond-false (ends_with_byte byte (b ∷ xs)) _ _
    (ap (λ (t : Bool). t && (get_or (b ∷ xs) (length (b ∷ xs) - 1) 0 == byte)) some ∙ last)

-- ---- the words between spaces

split_front : (front rest : List ℕ) → list_all is_shown front ≡ true
    → slice_split is_space (front ++ 32 ∷ rest) ≡ front ∷ slice_split is_space rest
split_front [] rest shown = refl
split_front (b ∷ front) rest shown =
    let parts = and_parts (is_shown b) (list_all is_shown front) shown in
    slice_split-cons_no is_space b (front ++ 32 ∷ rest) (shown_no_space b parts.0)
    ∙ ap (onto_first b) (split_front front rest parts.1)

split_last : (front : List ℕ) → list_all is_shown front ≡ true
    → slice_split is_space front ≡ front ∷ []
split_last [] shown = refl
split_last (b ∷ front) shown =
    let parts = and_parts (is_shown b) (list_all is_shown front) shown in
    slice_split-cons_no is_space b front (shown_no_space b parts.0)
    ∙ ap (onto_first b) (split_last front parts.1)

split_words : (front : List ℕ) (rows : List Row) → list_all is_shown front ≡ true → AreSmall rows
    → slice_split is_space (front ++ flat_map word_text rows) ≡ front ∷ map row_text rows
split_words front [] shown small =
    ap (slice_split is_space) (append-nil front) ∙ split_last front shown
split_words front (row ∷ rows) shown small =
    split_front front (row_text row ++ flat_map word_text rows) shown
    ∙ ap (λ (words : List (List ℕ)). front ∷ words)
    (split_words (row_text row) rows (shown_row row small.0) small.1)

-- ---- no word is left out

abbrev pub has_bytes : List ℕ → Bool
has_bytes word = not (length word == 0)

abbrev pub is_no_comment : List ℕ → Bool
is_no_comment word = not (is_comment word)

module _ {X : Type 0} (p : X → Bool) where
  all_filtered : (xs : List X) → list_all p xs ≡ true → filter p xs ≡ xs
  all_filtered [] all = refl
  all_filtered (x ∷ xs) all =
      let parts = and_parts (p x) (list_all p xs) all in
      cond-true (p x) _ _ parts.0 ∙ ap (λ (l : List X). x ∷ l) (all_filtered xs parts.1)

  all_taken : (xs : List X) → list_all p xs ≡ true → take_while p xs ≡ xs
  all_taken [] all = refl
  all_taken (x ∷ xs) all =
      let parts = and_parts (p x) (list_all p xs) all in
      take_while-cons p x xs ∙ cond-true (p x) _ _ parts.0
      ∙ ap (λ (l : List X). x ∷ l) (all_taken xs parts.1)

no_comment : (word : List ℕ) → list_all is_shown word ≡ true → is_no_comment word ≡ true
no_comment [] shown = refl
no_comment (b ∷ word) shown =
    let parts = and_parts (is_shown b) (list_all is_shown word) shown in
    not_from_false _ (shown_no_mark b parts.0)

some_bytes : (rows : List Row) → AreSmall rows → list_all has_bytes (map row_text rows) ≡ true
some_bytes [] small = refl
some_bytes (row ∷ rows) small =
    let long = length-row row small.0 in
    and_from _ _
    (not_from_false _ (ne_eqb (length (row_text row)) 0 (λ none. omega (arith, long.0))))
    (some_bytes rows small.1)

no_comments : (rows : List Row) → AreSmall rows → list_all is_no_comment (map row_text rows) ≡ true
no_comments [] small = refl
no_comments (row ∷ rows) small =
    and_from _ _ (no_comment (row_text row) (shown_row row small.0)) (no_comments rows small.1)

-- ---- a whole line

-- words that were read
abbrev pub good_words : List (List ℕ) → Result (List (List ℕ)) Fault
good_words words = Ok words

-- a line without its line feed
abbrev pub body : List Row → List ℕ
body rows = codes "order" ++ flat_map word_text rows

words_of_body : (rows : List Row) → AreSmall rows
    → words_of (body rows) ≡ codes "order" ∷ map row_text rows
unfolding words_of
words_of_body rows small =
    let words : List (List ℕ) = codes "order" ∷ map row_text rows in
    ap (λ (parts : List (List ℕ)). take_while is_no_comment (filter has_bytes parts))
    (split_words (codes "order") rows refl small)
    ∙ ap (take_while is_no_comment) (all_filtered has_bytes words (some_bytes rows small))
    ∙ all_taken is_no_comment words (no_comments rows small)

-- the words of a line of printed bytes
module _ (b : ℕ) (bs : List ℕ) (printed : list_all is_printed (b ∷ bs) ≡ true)
    (short : length (b ∷ bs) ≤ 4096) where
  kept : strip_last 13 (b ∷ bs) ≡ b ∷ bs
  kept =
      strip_none 13 b bs
      (all_within is_printed (λ x. not (x == 13)) (b ∷ bs) printed_no_return printed)

  plain : list_all is_plain (strip_last 13 (b ∷ bs)) ≡ true
  plain =
      ap (list_all is_plain) kept
      ∙ all_within is_printed is_plain (b ∷ bs) printed_plain printed

  pub words_of_printed : words_in ((b ∷ bs) ++ 10 ∷ []) ≡ good_words (words_of (b ∷ bs))
  unfolding words_in
  words_of_printed =
      ap words_in_text (strip_feed (b ∷ bs))
      ∙ cond-false (nat_lt 4096 (length (b ∷ bs))) _ _ (le-ltb _ _ short)
      ∙ cond-true (list_all is_plain (strip_last 13 (b ∷ bs))) _ _ plain
      ∙ ap (λ (text : List ℕ). good_words (words_of text)) kept

module _ (rows : List Row) (small : AreSmall rows) (few : length rows ≤ 16) where
  -- the words behind the first are printed, and so are they all behind one of five printed bytes
  pub printed_behind : (first : List ℕ) → list_all is_printed first ≡ true
      → list_all is_printed (first ++ flat_map word_text rows) ≡ true
  printed_behind first shown =
      list_all-append is_printed first (flat_map word_text rows)
      ∙ and_from _ _ shown (printed_words rows small)

  pub short_behind : (first : List ℕ) → length first ≡ 5
      → length (first ++ flat_map word_text rows) ≤ 4096
  short_behind first five =
      omega (
        arith,
        length-append first (flat_map word_text rows),
        length-words rows small,
        few,
        five,
      )

  printed_body : list_all is_printed (body rows) ≡ true
  printed_body = printed_behind (codes "order") refl

  -- the words of the line
  pub words_again : words_in (line_text rows) ≡ good_words (codes "order" ∷ map row_text rows)
  unfolding line_text
  words_again =
      words_of_printed 111 (codes "rder" ++ flat_map word_text rows) printed_body
      (short_behind (codes "order") refl)
      ∙ ap good_words (words_of_body rows small)

  -- no line feed stands within it
  pub feeds_no_line : list_all (λ b. not (b == 10)) (body rows) ≡ true
  feeds_no_line =
      all_within is_printed (λ b. not (b == 10)) (body rows) printed_no_feed printed_body

-- it says an order
pub says_order : (row : Row) (rows : List Row) → is_order_line (line_text (row ∷ rows)) ≡ true
unfolding is_order_line line_text
says_order row rows = refl
