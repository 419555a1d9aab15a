-- The bytes of the words of turns: no space, no end of a line, and nothing that begins a comment.
use Rattle.std.proofs.Common.{◌≡◌, ◌∙◌, ℕ, ◌+◌, ◌*◌, ◌-◌, ◌<◌, ◌≤◌, ◌==◌, ◌&&◌, ◌||◌, Bool}
use Rattle.std.proofs.Common.{true, false, not, cond, List, [], ◌∷◌, length, refl, arith}
use Rattle.std.proofs.Common.{rules, decimal, fold, nat_le, le-leb, leb-true, ne_eqb, flat_map}
use Rattle.std.proofs.Common.{length-append}
use Rattle.std.specs.Char.{is_ascii_digit}
use Rattle.std.specs.List.{list_all}
use Rattle.std.proofs.lemmas.Bool.{and_from, and_parts, not_from_false}
use Rattle.std.proofs.lemmas.Fmt.{digits_decimal, digits_value-decimal, length-decimal-le}
use Rattle.std.proofs.lemmas.Fmt.{decimal_nonempty}
use Rattle.std.proofs.lemmas.List.Folds.{list_all-append}
use Rattle.std.proofs.lemmas.Str.Parse.{IsNumeralModel, numerals_by_fold}
use Rattle.journal.specs.declared.by.By.{By}
use Rattle.journal.specs.declared.by.By.TheVariants.{Actor, Pump}
use Rattle.script_words.specs.Lines.{is_plain, is_space}
use Rattle.script_words.specs.Numbers.{decimal_of}
use Rattle.turn_lines.specs.Text.{maker_text, row_text, times_text, word_text}
use Rattle.turn_lines.specs.declared.rows.Row.{Row}

-- ---- classes of bytes

pub all_within : (p q : ℕ → Bool) (xs : List ℕ) → ((b : ℕ) → p b ≡ true → q b ≡ true)
    → list_all p xs ≡ true → list_all q xs ≡ true
all_within p q [] each all = refl
all_within p q (b ∷ xs) each all =
    let parts = and_parts (p b) (list_all p xs) all in
    and_from _ _ (each b parts.0) (all_within p q xs each parts.1)

-- a byte that is no space
abbrev pub is_shown : ℕ → Bool
is_shown b = nat_le 42 b && nat_le b 126

-- or a space
abbrev pub is_printed : ℕ → Bool
is_printed b = nat_le 32 b && nat_le b 126

shown_bounds : (b : ℕ) → is_shown b ≡ true → (42 ≤ b) × (b ≤ 126)
shown_bounds b shown =
    let parts = and_parts (nat_le 42 b) (nat_le b 126) shown in
    (leb-true 42 b parts.0, leb-true b 126 parts.1)

printed_bounds : (b : ℕ) → is_printed b ≡ true → (32 ≤ b) × (b ≤ 126)
printed_bounds b printed =
    let parts = and_parts (nat_le 32 b) (nat_le b 126) printed in
    (leb-true 32 b parts.0, leb-true b 126 parts.1)

shown_printed : (b : ℕ) → is_shown b ≡ true → is_printed b ≡ true
shown_printed b shown =
    let bounds = shown_bounds b shown in
    and_from _ _ (le-leb 32 b (omega (arith, bounds.0))) (le-leb b 126 bounds.1)

or_from : (x y : Bool) → x ≡ false → y ≡ false → (x || y) ≡ false
or_from true y first last = first
or_from false y first last = last

pub shown_no_space : (b : ℕ) → is_shown b ≡ true → is_space b ≡ false
shown_no_space b shown =
    let bounds = shown_bounds b shown in
    or_from (b == 32) (b == 9) (ne_eqb b 32 (λ e. omega (arith, bounds.0)))
    (ne_eqb b 9 (λ e. omega (arith, bounds.0)))

pub shown_no_mark : (b : ℕ) → is_shown b ≡ true → (b == 35) ≡ false
shown_no_mark b shown =
    let bounds = shown_bounds b shown in ne_eqb b 35 (λ e. omega (arith, bounds.0))

pub printed_no_feed : (b : ℕ) → is_printed b ≡ true → not (b == 10) ≡ true
printed_no_feed b printed =
    let bounds = printed_bounds b printed in
    not_from_false _ (ne_eqb b 10 (λ e. omega (arith, bounds.0)))

pub printed_no_return : (b : ℕ) → is_printed b ≡ true → not (b == 13) ≡ true
printed_no_return b printed =
    let bounds = printed_bounds b printed in
    not_from_false _ (ne_eqb b 13 (λ e. omega (arith, bounds.0)))

or_first : (x y : Bool) → x ≡ true → (x || y) ≡ true
or_first true y first = refl
or_first false y first = cc

pub printed_plain : (b : ℕ) → is_printed b ≡ true → is_plain b ≡ true
printed_plain b printed = or_first (is_printed b) (b == 9) printed

digit_bounds : (b : ℕ) → is_ascii_digit b ≡ true → (48 ≤ b) × (b ≤ 57)
digit_bounds b digit =
    let parts = and_parts (nat_le 48 b) (nat_le b 57) digit in
    (leb-true 48 b parts.0, leb-true b 57 parts.1)

digit_shown : (b : ℕ) → is_ascii_digit b ≡ true → is_shown b ≡ true
digit_shown b digit =
    let bounds = digit_bounds b digit in
    and_from _ _ (le-leb 42 b (omega (arith, bounds.0))) (le-leb b 126 (omega (arith, bounds.1)))

pub digit_no_star : (b : ℕ) → is_ascii_digit b ≡ true → not (b == 42) ≡ true
digit_no_star b digit =
    let bounds = digit_bounds b digit in
    not_from_false _ (ne_eqb b 42 (λ e. omega (arith, bounds.0)))

-- ---- numbers

own : IsNumeralModel (λ ds. list_all is_ascii_digit ds ≡ true) decimal_of
own =
    numerals_by_fold _ (search rules) (λ n ds. fold (λ n d. n * 10 + (d - 48)) n ds) (search rules)

module _ (n : ℕ) (small : n ≤ 999999) where
  pub digits_of_number : list_all is_ascii_digit (decimal n) ≡ true
  digits_of_number = digits_decimal own n (omega arith)

  pub value_of_number : decimal_of (decimal n) ≡ n
  value_of_number = digits_value-decimal own n (omega arith)

  pub some_digits : 1 ≤ length (decimal n)
  some_digits = decimal_nonempty n (omega arith)

  pub few_digits : length (decimal n) ≤ 6
  few_digits = length-decimal-le 6 n (omega arith) (omega arith) (omega arith)

  shown_number : list_all is_shown (decimal n) ≡ true
  shown_number = all_within is_ascii_digit is_shown (decimal n) digit_shown digits_of_number

-- ---- words

-- the number behind the letter of a maker
abbrev pub number_in_name : By → ℕ
number_in_name (Actor k) = k
number_in_name (Pump l) = l.0

-- a row whose numbers have six digits at most
pub record IsSmall (row : Row) : Type 0 where
  pub number : number_in_name row.maker ≤ 999999
  pub times : row.times ≤ 999999

shown_maker : (maker : By) → number_in_name maker ≤ 999999
    → list_all is_shown (maker_text maker) ≡ true
shown_maker (Actor k) small = shown_number k small
shown_maker (Pump l) small = shown_number l.0 small

shown_times_by : (one : Bool) (n : ℕ) → n ≤ 999999
    → list_all is_shown (cond one [] (42 ∷ decimal n)) ≡ true
shown_times_by true n small = refl
shown_times_by false n small = shown_number n small

length-times_by : (one : Bool) (n : ℕ) → n ≤ 999999 → length (cond one [] (42 ∷ decimal n)) ≤ 7
length-times_by true n small = omega arith
length-times_by false n small = omega (arith, few_digits n small)

length-maker : (maker : By) → number_in_name maker ≤ 999999
    → (0 < length (maker_text maker)) × (length (maker_text maker) ≤ 7)
length-maker (Actor k) small = (omega arith, omega (arith, few_digits k small))
length-maker (Pump l) small = (omega arith, omega (arith, few_digits l.0 small))

module _ (row : Row) (small : IsSmall row) where
  pub shown_row : list_all is_shown (row_text row) ≡ true
  unfolding row_text
  shown_row =
      list_all-append is_shown (maker_text row.maker) (times_text row.times)
      ∙ and_from _ _ (shown_maker row.maker small.number)
      (shown_times_by (row.times == 1) row.times small.times)

  pub length-row : (0 < length (row_text row)) × (length (row_text row) ≤ 14)
  unfolding row_text
  length-row =
      let long = length-append (maker_text row.maker) (times_text row.times) in
      let maker = length-maker row.maker small.number in
      let times : length (times_text row.times) ≤ 7 =
      length-times_by (row.times == 1) row.times small.times in
      (omega (arith, long, maker.0), omega (arith, long, maker.1, times))

  printed_word : list_all is_printed (word_text row) ≡ true
  printed_word = all_within is_shown is_printed (row_text row) shown_printed shown_row

-- rows whose numbers have six digits at most
abbrev pub AreSmall : List Row → Type 0
AreSmall [] = Unit {0}
AreSmall (row ∷ rows) = IsSmall row × AreSmall rows

pub printed_words : (rows : List Row) → AreSmall rows
    → list_all is_printed (flat_map word_text rows) ≡ true
printed_words [] small = refl
printed_words (row ∷ rows) small =
    list_all-append is_printed (word_text row) (flat_map word_text rows)
    ∙ and_from _ _ (printed_word row small.0) (printed_words rows small.1)

pub length-words : (rows : List Row) → AreSmall rows
    → length (flat_map word_text rows) ≤ 15 * length rows
length-words [] small = omega arith
length-words (row ∷ rows) small =
    omega (
      arith,
      length-append (word_text row) (flat_map word_text rows),
      (length-row row small.0).1,
      length-words rows small.1,
    )
