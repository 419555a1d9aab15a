-- The turns of a journal are read back from the lines that list them.
use Rattle.std.proofs.Common.{◌≡◌, ◌∙◌, ℕ, suc, ◌+◌, ◌-◌, ◌<◌, ◌≤◌, ◌++◌, ◌==◌, ◌||◌, Bool, true}
use Rattle.std.proofs.Common.{false, not, cond, List, [], ◌∷◌, length, drop, get_or, refl, sym, ap}
use Rattle.std.proofs.Common.{arith, append-nil, append_assoc, flat_map, map, length-append}
use Rattle.std.proofs.Common.{eqb-true, le-leb, lt-ltb, nat_le, nat_lt, Ok, Result}
use Rattle.std.specs.Io.BufRead.{ends_with_byte}
use Rattle.std.specs.List.{AllByRecursion, list_all, onto_first}
use Rattle.std.proofs.lemmas.Bool.{and_from, and_parts, cond-false, cond-true, not-true}
use Rattle.std.proofs.Math.ListN.{length-replicate}
use Rattle.journal.specs.declared.by.By.{By}
use Rattle.order_lines.specs.Fronts.{behind, front_from, with_line, with_turns, with_words}
use Rattle.order_lines.specs.Lines.{is_order_line}
use Rattle.order_lines.specs.declared.turns.Makers.{Makers}
use Rattle.order_lines.specs.declared.turns.Turns.{Turns}
use Rattle.script_words.specs.Gives.{◌>>=◌}
use Rattle.script_words.specs.Lines.{lines_of}
use Rattle.script_words.specs.declared.fault.Fault.{Fault}
use Rattle.turn_lines.specs.Reading.{AreFew, ListsNone, TurnsReadBack, number_among}
use Rattle.turn_lines.specs.Rows.{rows_of, turns_in}
use Rattle.turn_lines.specs.Text.{in_lines, line_text, order_text, row_text}
use Rattle.turn_lines.specs.Turns.{turn_makers}
use Rattle.turn_lines.specs.declared.rows.Row.{Row}
use Rattle.turn_lines.proofs.Bytes.{AreSmall}
use Rattle.turn_lines.proofs.Listed.{AreLines, AreListed, IsLine, all_listed, all_written, are_lines}
use Rattle.turn_lines.proofs.Listed.{cut_written, length-written, lines_written, small_rows, written}
use Rattle.turn_lines.proofs.Listed.{written_again}
use Rattle.turn_lines.proofs.Named.{row_again}
use Rattle.turn_lines.proofs.MoreTurns.{turns_of_rows}
use Rattle.turn_lines.proofs.Words.{body, feeds_no_line, says_order, words_again}

-- ---- the lines of a text

-- a line, and what follows it
pub line_ended : (line more : List ℕ) → list_all (λ b. not (b == 10)) line ≡ true
    → lines_of ((line ++ 10 ∷ []) ++ more) ≡ (line ++ 10 ∷ []) ∷ lines_of more
line_ended [] more lacks = refl
line_ended (b ∷ line) more lacks =
    let parts = and_parts (not (b == 10)) (list_all (λ c. not (c == 10)) line) lacks in
    cond-false (b == 10) _ (onto_first b (lines_of ((line ++ 10 ∷ []) ++ more)))
    (not-true (b == 10) parts.0)
    ∙ ap (onto_first b) (line_ended line more parts.1)

abbrev lines_with : Bool → ℕ → List ℕ → List (List ℕ)
lines_with feed b bs = cond feed ((b ∷ []) ∷ lines_of bs) (onto_first b (lines_of bs))

some_with : (feed : Bool) (b : ℕ) (bs : List ℕ) (lines : List (List ℕ)) → lines ≡ lines_of bs
    → 0 < length (cond feed ((b ∷ []) ∷ lines) (onto_first b lines))
some_with true b bs lines is = omega arith
some_with false b bs [] is = omega arith
some_with false b bs (line ∷ lines) is = omega arith

some_lines : (b : ℕ) (bs : List ℕ) → 0 < length (lines_of (b ∷ bs))
some_lines b bs = some_with (b == 10) b bs (lines_of bs) refl

onto_both : (b : ℕ) (lines more : List (List ℕ)) → 0 < length lines
    → onto_first b (lines ++ more) ≡ onto_first b lines ++ more
onto_both b [] more some = absurd (omega arith)
onto_both b (line ∷ lines) more some = refl

both_by : (feed : Bool) (b : ℕ) (bs more : List ℕ) → 0 < length (lines_of bs)
    → lines_of (bs ++ more) ≡ lines_of bs ++ lines_of more
    → lines_with feed b (bs ++ more) ≡ lines_with feed b bs ++ lines_of more
both_by true b bs more some rest = ap (λ (l : List (List ℕ)). (b ∷ []) ∷ l) rest
both_by false b bs more some rest =
    ap (onto_first b) rest ∙ onto_both b (lines_of bs) (lines_of more) some

end_behind : (b c : ℕ) (bs : List ℕ) → ends_with_byte 10 (b ∷ c ∷ bs) ≡ true
    → ends_with_byte 10 (c ∷ bs) ≡ true
end_behind b c bs ends =
    let parts =
    and_parts (nat_lt 0 (length (b ∷ c ∷ bs)))
    (get_or (b ∷ c ∷ bs) (length (b ∷ c ∷ bs) - 1) 0 == 10) ends
    in
    let last : length (b ∷ c ∷ bs) - 1 ≡ suc (length (c ∷ bs) - 1) = omega arith in
    and_from (nat_lt 0 (length (c ∷ bs))) (get_or (c ∷ bs) (length (c ∷ bs) - 1) 0 == 10)
    (lt-ltb 0 (length (c ∷ bs)) (omega arith))
    (sym (ap (λ (k : ℕ). get_or (b ∷ c ∷ bs) k 0 == 10) last) ∙ parts.1)

end_alone : (b : ℕ) → ends_with_byte 10 (b ∷ []) ≡ true → (b == 10) ≡ true
end_alone b ends = ends

-- a text whose last line is ended, and what follows it
both_lines : (text more : List ℕ) → ends_with_byte 10 text ≡ true
    → lines_of (text ++ more) ≡ lines_of text ++ lines_of more
both_lines [] more ends = refl
both_lines (b ∷ []) more ends =
    let feed : (b == 10) ≡ true = end_alone b ends in
    cond-true (b == 10) _ (onto_first b (lines_of more)) feed
    ∙ ap (λ (lines : List (List ℕ)). lines ++ lines_of more)
    (sym (cond-true (b == 10) ((b ∷ []) ∷ []) (onto_first b []) feed))
both_lines (b ∷ c ∷ text) more ends =
    both_by (b == 10) b (c ∷ text) more (some_lines c text)
    (both_lines (c ∷ text) more (end_behind b c text ends))

by_length : (text more : List ℕ) (none : Bool) → (length text == 0) ≡ none
    → (none || ends_with_byte 10 text) ≡ true
    → lines_of (text ++ more) ≡ lines_of text ++ lines_of more
by_length [] more none is ended = refl
by_length (b ∷ text) more true is ended =
    let no : suc (length text) ≡ 0 = eqb-true (suc (length text)) 0 is in absurd (omega arith)
by_length (b ∷ text) more false is ended = both_lines (b ∷ text) more ended

-- what follows a text that lists no turns
pub lines_behind : (text more : List ℕ) → ListsNone text
    → lines_of (text ++ more) ≡ lines_of text ++ lines_of more
lines_behind text more none = by_length text more (length text == 0) refl none.ended

-- ---- the turns of each line

-- makers that were read, of a line and of a text
abbrev good_makers : List ℕ → Result (List ℕ) Fault
good_makers makers = Ok makers

abbrev good_front : List ℕ → Result (List ℕ) (ℕ × Fault)
good_front makers = Ok makers

module _ (makers : Makers) (few : AreFew makers) where
  abbrev W : Row → List ℕ
  W row = written makers row

  words_read : (rows : List Row) (front : List ℕ) → AreListed makers rows
      → length front + turns_in rows ≤ 200000
      → with_words makers front (map row_text rows) ≡ good_makers (front ++ all_written makers rows)
  words_read [] front listed low = ap good_makers (sym (append-nil front))
  words_read (row ∷ rows) front listed low =
      let turns : Turns = record { maker = number_among makers row.maker; times = row.times } in
      let on : List ℕ → Result (List ℕ) Fault =
      λ longer. with_words makers longer (map row_text rows) in
      ap (λ (r : Result Turns Fault). r >>= (λ t. with_turns front (row_text row) t >>= on))
      (row_again makers few row listed.0.among listed.0.some (omega (arith, low)))
      ∙ ap (λ (r : Result (List ℕ) Fault). r >>= on)
      (cond-true (nat_le (length front + row.times) 200000) _ _
      (le-leb (length front + row.times) 200000 (omega (arith, low))))
      ∙ words_read rows (front ++ W row) listed.1
      (omega (
        arith,
        low,
        length-append front (W row),
        length-replicate row.times (number_among makers row.maker),
      ))
      ∙ ap good_makers (append_assoc front (W row) (all_written makers rows))

  line_read : (line : List Row) (front : List ℕ) → IsLine makers 0 line
      → length front + turns_in line ≤ 200000
      → with_line makers front (line_text line) ≡ good_makers (front ++ all_written makers line)
  line_read [] front is low = let some = is.some in absurd (omega arith)
  line_read (row ∷ rows) front is low =
      let small : AreSmall (row ∷ rows) =
      small_rows makers few (row ∷ rows) is.listed (omega (arith, low)) in
      cond-true (is_order_line (line_text (row ∷ rows))) _ (good_makers front) (says_order row rows)
      ∙ ap (λ (r : Result (List (List ℕ)) Fault). r >>= (λ words. with_words makers front (drop 1 words)))
      (words_again (row ∷ rows) small (omega (arith, is.few)))
      ∙ words_read (row ∷ rows) front is.listed low

  lines_read : (lines : List (List Row)) (front : List ℕ) (k : ℕ) → AreLines makers 0 lines
      → length front + length (lines_written makers lines) ≤ 200000
      → front_from makers front k (map line_text lines)
      ≡ good_front (front ++ lines_written makers lines)
  unfolding front_from
  lines_read [] front k are low = ap good_front (sym (append-nil front))
  lines_read (line ∷ lines) front k are low =
      let all : List ℕ = all_written makers line in
      let long = length-append all (lines_written makers lines) in
      let both = length-append front all in
      let turns = length-written makers line in
      ap (λ (r : Result (List ℕ) Fault). behind r (k + 1)
      (λ longer. front_from makers longer (k + 1) (map line_text lines)))
      (line_read line front are.0 (omega (arith, low, long, turns)))
      ∙ lines_read lines (front ++ all) (k + 1) are.1 (omega (arith, low, long, both))
      ∙ ap good_front (append_assoc front all (lines_written makers lines))

  -- the lines of the text
  pub lines_again : (lines : List (List Row)) → AreLines makers 0 lines
      → length (lines_written makers lines) ≤ 200000
      → lines_of (flat_map line_text lines) ≡ map line_text lines
  unfolding line_text
  lines_again [] are low = refl
  lines_again (line ∷ lines) are low =
      let long = length-append (all_written makers line) (lines_written makers lines) in
      let turns = length-written makers line in
      let small : AreSmall line =
      small_rows makers few line are.0.listed (omega (arith, low, long, turns)) in
      line_ended (body line) (flat_map line_text lines)
      (feeds_no_line line small (omega (arith, are.0.few)))
      ∙ ap (λ (rest : List (List ℕ)). line_text line ∷ rest)
      (lines_again lines are.1 (omega (arith, low, long)))

  -- lines that list no turns
  passed_over : (xs ys : List (List ℕ)) (front : List ℕ) (k : ℕ) (total : List ℕ)
      → AllByRecursion (λ line. is_order_line line ≡ false) xs
      → ((n : ℕ) → front_from makers front n ys ≡ good_front total)
      → front_from makers front k (xs ++ ys) ≡ good_front total
  unfolding front_from
  passed_over [] ys front k total none each = each k
  passed_over (x ∷ xs) ys front k total none each =
      ap (λ (r : Result (List ℕ) Fault). behind r (k + 1)
      (λ longer. front_from makers longer (k + 1) (xs ++ ys)))
      (cond-false (is_order_line x) _ (good_makers front) none.0)
      ∙ passed_over xs ys front (k + 1) total none.1 each

-- THE TURNS ARE READ BACK
pub turns_read_back : TurnsReadBack
turns_read_back makers text P few none among short =
    let ms : List By = turn_makers P in
    let lines : List (List Row) = in_lines 0 (rows_of ms) in
    let are : AreLines makers 0 lines =
    are_lines makers (rows_of ms) 0 (omega arith) (all_listed makers ms among) in
    let all : lines_written makers lines ≡ map (number_among makers) ms =
    cut_written makers (rows_of ms) 0 ∙ written_again makers ms in
    let low : length (lines_written makers lines) ≤ 200000 =
    omega (
      arith,
      short,
      ap length (cut_written makers (rows_of ms) 0),
      length-written makers (rows_of ms),
      turns_of_rows ms,
    ) in
    let each : (n : ℕ) → front_from makers [] n (lines_of (order_text ms))
    ≡ good_front (lines_written makers lines) =
    λ n. ap (front_from makers [] n) (lines_again makers few lines are low)
    ∙ lines_read makers few lines [] n are (omega (arith, low)) in
    ap (front_from makers [] 0) (lines_behind text (order_text ms) none)
    ∙ passed_over makers few (lines_of text) (lines_of (order_text ms)) [] 0
    (lines_written makers lines) none.unordered each
    ∙ ap good_front all
