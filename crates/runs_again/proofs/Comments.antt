-- The lines that list turns say nothing where orders are comments.
use Rattle.std.proofs.Common.{◌≡◌, ◌∙◌, ℕ, suc, ◌≤◌, ◌<◌, ◌++◌, ◌==◌, true, not, List, [], ◌∷◌}
use Rattle.std.proofs.Common.{length, refl, sym, ap, arith, codes, filter, flat_map, map, subst}
use Rattle.std.proofs.Common.{length-append, ne_eqb, take_while}
use Rattle.std.specs.List.{AllByRecursion, list_all, onto_first, slice_split}
use Rattle.std.proofs.lemmas.Bool.{cond-true, not_from_false}
use Rattle.std.proofs.lemmas.List.Splits.{slice_split-cons_no}
use Rattle.std.proofs.lemmas.List.Sums.{take_while-cons}
use Rattle.journal.specs.declared.by.By.{By}
use Rattle.order_lines.specs.Lines.{is_order_line, plain_line, without_orders}
use Rattle.order_lines.specs.declared.turns.Makers.{Makers}
use Rattle.script_words.specs.Lines.{is_space, lines_of, words_in, words_of}
use Rattle.turn_lines.specs.Reading.{AreFew, IsAmong}
use Rattle.turn_lines.specs.Rows.{rows_of}
use Rattle.turn_lines.specs.Text.{in_lines, line_text, order_text, word_text}
use Rattle.turn_lines.specs.declared.rows.Row.{Row}
use Rattle.turn_lines.proofs.Bytes.{AreSmall, all_within, is_printed, printed_no_feed}
use Rattle.turn_lines.proofs.Fronts.{line_ended, lines_again}
use Rattle.turn_lines.proofs.Listed.{AreLines, all_listed, all_written, are_lines, cut_written}
use Rattle.turn_lines.proofs.Listed.{length-written, lines_written, small_rows}
use Rattle.turn_lines.proofs.MoreTurns.{turns_of_rows}
use Rattle.turn_lines.proofs.Words.{good_words, has_bytes, is_no_comment, printed_behind}
use Rattle.turn_lines.proofs.Words.{says_order, short_behind, words_of_printed}

-- a line that has no words
abbrev pub HasNoWords : List ℕ → Type 0
HasNoWords line = words_in line ≡ good_words []

-- ---- a comment

-- the words of the parts of a text that begins with its mark (35)
marked_parts : (part : List ℕ) (parts : List (List ℕ))
    → take_while is_no_comment (filter has_bytes ((35 ∷ part) ∷ parts)) ≡ []
marked_parts part parts =
    ap (take_while is_no_comment)
    (cond-true (has_bytes (35 ∷ part)) _ (filter has_bytes parts)
    (not_from_false _ (ne_eqb (suc (length part)) 0 (λ e. omega (arith, e)))))
    ∙ take_while-cons is_no_comment (35 ∷ part) (filter has_bytes parts)

marked : (parts : List (List ℕ))
    → take_while is_no_comment (filter has_bytes (onto_first 35 parts)) ≡ []
marked [] = marked_parts [] []
marked (part ∷ parts) = marked_parts part parts

no_words : (text : List ℕ) → words_of (35 ∷ text) ≡ []
unfolding words_of
no_words text =
    ap (λ (parts : List (List ℕ)). take_while is_no_comment (filter has_bytes parts))
    (slice_split-cons_no is_space 35 text refl)
    ∙ marked (slice_split is_space text)

-- the comment of a line that lists turns, without its line feed
abbrev comment : List Row → List ℕ
comment rows = codes "#rder" ++ flat_map word_text rows

module _ (rows : List Row) (small : AreSmall rows) (few : length rows ≤ 16) where
  printed_comment : list_all is_printed (comment rows) ≡ true
  printed_comment = printed_behind rows small few (codes "#rder") refl

  comment_says_nothing : HasNoWords (comment rows ++ 10 ∷ [])
  comment_says_nothing =
      words_of_printed 35 (codes "rder" ++ flat_map word_text rows) printed_comment
      (short_behind rows small few (codes "#rder") refl)
      ∙ ap good_words (no_words (codes "rder" ++ flat_map word_text rows))

  -- no line feed stands within it
  feeds_no_line : list_all (λ b. not (b == 10)) (comment rows) ≡ true
  feeds_no_line =
      all_within is_printed (λ b. not (b == 10)) (comment rows) printed_no_feed printed_comment

-- the line itself is one where orders are comments
line_is : (rows : List Row) → 0 < length rows
    → plain_line (line_text rows) ≡ comment rows ++ 10 ∷ []
unfolding line_text
line_is [] some = absurd (omega arith)
line_is (row ∷ rows) some =
    cond-true (is_order_line (line_text (row ∷ rows))) _ (line_text (row ∷ rows))
    (says_order row rows)

-- ---- all lines

module _ (makers : Makers) (few : AreFew makers) where
  says_nothing : (lines : List (List Row)) → AreLines makers 0 lines
      → length (lines_written makers lines) ≤ 200000
      → AllByRecursion HasNoWords (lines_of (flat_map plain_line (map line_text lines)))
  says_nothing [] are low = tt
  says_nothing (line ∷ lines) are low =
      let long = length-append (all_written makers line) (lines_written makers lines) in
      let turns = length-written makers line in
      let small : AreSmall line =
      small_rows makers few line are.0.listed (omega (arith, low, long, turns)) in
      let short : length line ≤ 16 = omega (arith, are.0.few) in
      let rest : List ℕ = flat_map plain_line (map line_text lines) in
      let first : List ℕ = comment line ++ 10 ∷ [] in
      let cut : lines_of (plain_line (line_text line) ++ rest) ≡ first ∷ lines_of rest =
      ap (λ (text : List ℕ). lines_of (text ++ rest)) (line_is line are.0.some)
      ∙ line_ended (comment line) rest (feeds_no_line line small short)
      in
      subst (AllByRecursion HasNoWords) (sym cut) (
        comment_says_nothing line small short,
        says_nothing lines are.1 (omega (arith, low, long)),
      )

  -- THE LINES SAY NOTHING where orders are comments
  pub turns_say_nothing : (ms : List By) → AllByRecursion (IsAmong makers) ms → length ms ≤ 200000
      → AllByRecursion HasNoWords (lines_of (without_orders (order_text ms)))
  turns_say_nothing ms among short =
      let lines : List (List Row) = in_lines 0 (rows_of ms) in
      let are : AreLines makers 0 lines =
      are_lines makers (rows_of ms) 0 (omega arith) (all_listed makers ms among) in
      let low : length (lines_written makers lines) ≤ 200000 =
      omega (
        arith,
        short,
        ap length (cut_written makers (rows_of ms) 0),
        length-written makers (rows_of ms),
        turns_of_rows ms,
      ) in
      subst (λ (cut : List (List ℕ)). AllByRecursion HasNoWords (lines_of (flat_map plain_line cut)))
      (sym (lines_again makers few lines are low)) (says_nothing lines are low)
