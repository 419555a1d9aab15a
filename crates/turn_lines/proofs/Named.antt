-- The word of a row is read as its turns.
use Rattle.std.proofs.Common.{◌≡◌, ◌∙◌, ℕ, suc, ◌+◌, ◌<◌, ◌≤◌, ◌++◌, ◌==◌, ◌&&◌, Bool, true, false, not}
use Rattle.std.proofs.Common.{cond, List, [], ◌∷◌, length, take, drop, refl, sym, ap, arith}
use Rattle.std.proofs.Common.{add-one, decimal, eq-eqb, eqb-true, le-leb, le-ltb, lt-ltb, nat_lt}
use Rattle.std.proofs.Common.{length-append, nat_le, option_map, position, Ok, Some, None}
use Rattle.std.proofs.Common.{Result, zero-add, append-nil}
use Rattle.std.specs.Char.{is_ascii_digit}
use Rattle.std.specs.List.{list_all, position_or_len}
use Rattle.std.proofs.lemmas.Bool.{and_from, and_parts, cond-false, cond-true}
use Rattle.std.proofs.lemmas.Bool.{not_from_true}
use Rattle.std.proofs.Math.Seq.{drop-append_seam, drop-cons, take-append_seam}
use Rattle.journal.specs.declared.by.By.{By}
use Rattle.journal.specs.declared.by.By.TheVariants.{Actor, Pump}
use Rattle.order_lines.specs.Turns.{maker_named, number_spelled, numbered, times_in, turns_of_parts}
use Rattle.order_lines.specs.Turns.{turns_spelled}
use Rattle.order_lines.specs.declared.turns.Makers.{Makers}
use Rattle.order_lines.specs.declared.turns.Turns.{Turns}
use Rattle.script_words.specs.Gives.{◌>>=◌}
use Rattle.script_words.specs.Numbers.{is_within}
use Rattle.script_words.specs.Words.{cut_at}
use Rattle.script_words.specs.declared.fault.Fault.{Fault}
use Rattle.turn_lines.specs.Reading.{AreFew, IsAmong, number_among}
use Rattle.turn_lines.specs.Text.{maker_text, row_text}
use Rattle.turn_lines.specs.declared.rows.Row.{Row}
use Rattle.turn_lines.proofs.Bytes.{all_within, digit_no_star, digits_of_number, few_digits}
use Rattle.turn_lines.proofs.Bytes.{some_digits, value_of_number}

-- ---- where a word is cut

abbrev lacks : ℕ → List ℕ → Bool
lacks byte word = list_all (λ b. not (b == byte)) word

place_again : (byte : ℕ) (front back : List ℕ) → lacks byte front ≡ true
    → position_or_len (λ b. b == byte) (front ++ byte ∷ back) ≡ length front
place_again byte [] back none =
    cond-false (not (byte == byte)) _ 0 (not_from_true _ (eq-eqb byte byte refl))
place_again byte (b ∷ front) back none =
    let parts = and_parts (not (b == byte)) (lacks byte front) none in
    let rest = place_again byte front back parts.1 in
    cond-true (not (b == byte)) _ 0 parts.0 ∙ omega (arith, rest)

place_none : (byte : ℕ) (word : List ℕ) → lacks byte word ≡ true
    → position_or_len (λ b. b == byte) word ≡ length word
place_none byte [] none = refl
place_none byte (b ∷ word) none =
    let parts = and_parts (not (b == byte)) (lacks byte word) none in
    let rest = place_none byte word parts.1 in
    cond-true (not (b == byte)) _ 0 parts.0 ∙ omega (arith, rest)

cut_again : (byte : ℕ) (front back : List ℕ) → lacks byte front ≡ true
    → cut_at byte (front ++ byte ∷ back) ≡ Some (front, back)
cut_again byte front back none =
    let word = front ++ byte ∷ back in
    let e = place_again byte front back none in
    let within : length front < length word = omega (arith, length-append front (byte ∷ back)) in
    let lt : nat_lt (length front) (length word) ≡ true = lt-ltb _ _ within in
    let at : position (λ b. b == byte) word ≡ Some (length front) =
    cond-true _ _ None (ap (λ (n : ℕ). nat_lt n (length word)) e ∙ lt) ∙ ap Some e
    in
    let before = take-append_seam front (byte ∷ back) in
    let behind = drop-append_seam front (byte ∷ back) in
    let cell = drop-cons word (length front) 0 within in
    let after : drop (suc (length front)) word ≡ back = cc in
    ap (option_map (λ k. (take k word, drop (k + 1) word))) at
    ∙ rw (add-one, before, after) refl

cut_nowhere : (byte : ℕ) (word : List ℕ) → lacks byte word ≡ true → cut_at byte word ≡ None
cut_nowhere byte word none =
    let e = place_none byte word none in
    let ge : nat_lt (length word) (length word) ≡ false = le-ltb _ _ (omega arith) in
    let at : position (λ b. b == byte) word ≡ None =
    cond-false _ _ None (ap (λ (n : ℕ). nat_lt n (length word)) e ∙ ge)
    in
    ap (option_map (λ k. (take k word, drop (k + 1) word))) at

-- ---- numbers and makers

number_again : (n : ℕ) → n ≤ 999999 → number_spelled (decimal n) ≡ Some n
number_again n small =
    let some = le-leb 1 (length (decimal n)) (some_digits n small) in
    let few = le-leb (length (decimal n)) 6 (few_digits n small) in
    cond-true
    (nat_le 1 (length (decimal n)) && nat_le (length (decimal n)) 6
    && list_all is_ascii_digit (decimal n))
    _ None (and_from _ _ (and_from _ _ some few) (digits_of_number n small))
    ∙ ap Some (value_of_number n small)

within_again : (low high n : ℕ) → low ≤ n → n ≤ high → is_within low high n ≡ true
within_again low high n some few = and_from _ _ (le-leb low n some) (le-leb n high few)

-- a number that was read
abbrev good_number : ℕ → Result ℕ Fault
good_number n = Ok n

numbered_again : (word : List ℕ) (before many n : ℕ) → 1 ≤ n → n ≤ many → many ≤ 999999
    → numbered word before many (number_spelled (decimal n)) ≡ good_number (before + n)
numbered_again word before many n some few small =
    ap (numbered word before many) (number_again n (omega arith))
    ∙ cond-true (is_within 1 many n) _ _ (within_again 1 many n some few)

-- so many turns of a maker
abbrev pub good_turns : ℕ → ℕ → Result Turns Fault
good_turns number n = Ok (record { maker = number; times = n })

module _ (makers : Makers) (few : AreFew makers) where
  maker_again : (word : List ℕ) (maker : By) → IsAmong makers maker
      → maker_named makers word (maker_text maker) ≡ good_number (number_among makers maker)
  maker_again word (Actor k) among =
      numbered_again word 0 makers.actors k among.0 among.1 few.actors
      ∙ ap good_number (zero-add k)
  maker_again word (Pump l) among =
      numbered_again word makers.actors makers.links l.0 among.0 among.1 few.links

  no_star : (maker : By) → IsAmong makers maker → lacks 42 (maker_text maker) ≡ true
  no_star (Actor k) among =
      all_within is_ascii_digit (λ b. not (b == 42)) (decimal k) digit_no_star
      (digits_of_number k (omega (arith, among.1, few.actors)))
  no_star (Pump l) among =
      all_within is_ascii_digit (λ b. not (b == 42)) (decimal l.0) digit_no_star
      (digits_of_number l.0 (omega (arith, among.1, few.links)))

  -- by whether there is one turn
  module _ (maker : By) (among : IsAmong makers maker) (n : ℕ) (some : 1 ≤ n) (low : n ≤ 200000) where
    abbrev name : List ℕ
    name = maker_text maker

    abbrev number : ℕ
    number = number_among makers maker

    alone_again : n ≡ 1 → turns_spelled makers name ≡ good_turns number n
    alone_again one =
        ap (turns_of_parts makers name) (cut_nowhere 42 name (no_star maker among))
        ∙ ap (λ (r : Result ℕ Fault). r >>= (λ m. good_turns m 1)) (maker_again name maker among)
        ∙ ap (good_turns number) (sym one)

    abbrev starred : List ℕ
    starred = name ++ 42 ∷ decimal n

    times_again : times_in starred (number_spelled (decimal n)) ≡ good_number n
    times_again =
        ap (times_in starred) (number_again n (omega (arith, low)))
        ∙ cond-true (is_within 1 200000 n) _ _ (within_again 1 200000 n some low)

    starred_again : turns_spelled makers starred ≡ good_turns number n
    starred_again =
        ap (turns_of_parts makers starred)
        (cut_again 42 name (decimal n) (no_star maker among))
        ∙ ap (λ (r : Result ℕ Fault). r >>= (λ m. times_in starred (number_spelled (decimal n)) >>= good_turns m))
        (maker_again starred maker among)
        ∙ ap (λ (r : Result ℕ Fault). r >>= good_turns number) times_again

    by_times : (one : Bool) → (n == 1) ≡ one
        → turns_spelled makers (name ++ cond one [] (42 ∷ decimal n)) ≡ good_turns number n
    by_times true is =
        ap (turns_spelled makers) (append-nil name) ∙ alone_again (eqb-true n 1 is)
    by_times false is = starred_again

  -- a row's word
  pub row_again : (row : Row) → IsAmong makers row.maker → 1 ≤ row.times → row.times ≤ 200000
      → turns_spelled makers (row_text row)
      ≡ good_turns (number_among makers row.maker) row.times
  unfolding row_text
  row_again row among some low = by_times row.maker among row.times some low (row.times == 1) refl
