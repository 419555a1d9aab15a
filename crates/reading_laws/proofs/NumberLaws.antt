-- A number is read from its spelling alone.
use Rattle.std.proofs.Common.{inl, inr, ◌≡◌, ℕ, zero, suc, ◌+◌, ◌*◌, ◌/◌, ◌%◌, ◌<◌, ◌≤◌, ◌^◌, Bool}
use Rattle.std.proofs.Common.{true, false, not, List, ◌⊎◌, [], ◌∷◌, ◌++◌, length, get_or, refl, sym}
use Rattle.std.proofs.Common.{ap, ◌∙◌, Option, Some, None, arith, rules, ◌==◌, ◌-◌, ◌&&◌, nat_le}
use Rattle.std.proofs.Common.{fold, decimal, le-leb, leb-true, ne_eqb}
use Rattle.std.specs.Char.{is_ascii_digit}
use Rattle.std.specs.List.{list_all}
use Rattle.std.proofs.lemmas.Bool.{and_parts, and_from, cond-true, cases_lt, not-true}
use Rattle.std.proofs.lemmas.Bool.{not_from_false, eqb-false}
use Rattle.std.proofs.lemmas.Fmt.{digits_decimal, digits_value-decimal, decimal-digits_value}
use Rattle.std.proofs.lemmas.Fmt.{length-decimal-le, decimal_nonempty, first_decimal, decimal_digit}
use Rattle.std.proofs.lemmas.Str.Parse.{IsNumeralModel, numerals_by_fold}
use Rattle.linx_base.specs.Numbers.{high_half, low_half, number_of}
use Rattle.journal_text.specs.Values.{halves_text}
use Rattle.text_words.specs.Numbers.{decimal_of, has_no_zero_in_front, are_digits, number_in}
use Rattle.text_words.specs.Numbers.{half_limit, whole_limit, u32_in, halves_of, halves_in}
use Rattle.text_words.specs.Words.{cut_at}
use Rattle.text_words.specs.Gives.{◌>>=◌}
use Rattle.reading_laws.proofs.Tools.{bind_some, if_some_yes}
use Rattle.reading_laws.proofs.Cuts.{seam, lacks, class_lacks, cut_again, cut_found}

-- the digits, and the number that they spell
pub own : IsNumeralModel (λ ds. list_all is_ascii_digit ds ≡ true) decimal_of
own =
    numerals_by_fold _ (search rules) (λ n ds. fold (λ n d. n * 10 + (d - 48)) n ds) (search rules)

-- digits with no zero in front
front_from : (ds : List ℕ) → 0 < length ds → (48 < get_or ds 0 0) ⊎ (length ds ≡ 1)
    → has_no_zero_in_front ds ≡ true
front_from [] some either = absurd (omega arith)
front_from (d ∷ []) some either = refl
front_from (d ∷ e ∷ ds) some (inl large) =
    not_from_false _ (ne_eqb d 48 (λ same. absurd (omega arith)))
front_from (d ∷ e ∷ ds) some (inr one) = absurd (omega arith)

front_to : (ds : List ℕ) → has_no_zero_in_front ds ≡ true
    → (0 < length ds) × (get_or ds 0 0 ≡ 48 → length ds ≡ 1)
front_to [] front = cc
front_to (d ∷ []) front = (omega arith, λ zero. refl)
front_to (d ∷ e ∷ ds) front =
    (omega arith, λ zero. absurd (eqb-false d 48 (not-true _ front) zero))

front_decimal : (n : ℕ) → n < 2 ^ 64 → has_no_zero_in_front (decimal n) ≡ true
front_decimal n small =
    elim (cases_lt 0 n) [
      | inl some ↦
          front_from (decimal n) (decimal_nonempty n small) (inl (first_decimal n some small))
      | inr none ↦
          let is : n ≡ 0 = omega arith in
          let one : length (decimal n) ≡ 1 = ap length (decimal_digit n (omega arith)) in
          front_from (decimal n) (decimal_nonempty n small) (inr one)
    ]

pub digits_all : (n : ℕ) → n ≤ whole_limit → list_all is_ascii_digit (decimal n) ≡ true
digits_all n small = digits_decimal own n (omega arith)

pub number_again : (most n : ℕ) → n ≤ most → most ≤ whole_limit
    → number_in most (decimal n) ≡ Some n
unfolding number_in
number_again most n within limit =
    let small : n < 2 ^ 64 = omega arith in
    let value : decimal_of (decimal n) ≡ n = digits_value-decimal own n small in
    let few : nat_le (length (decimal n)) 20 ≡ true =
    le-leb _ _ (length-decimal-le 20 n (omega arith) (omega arith) small)
    in
    let digits : are_digits (decimal n) ≡ true =
    and_from _ _ (and_from _ _ (front_decimal n small) few) (digits_decimal own n small)
    in
    let in_range : nat_le (decimal_of (decimal n)) most ≡ true =
    le-leb _ _ (omega (arith, value))
    in
    cond-true _ _ None (and_from _ _ digits in_range) ∙ ap Some value

pub number_found : (most n : ℕ) (word : List ℕ) → most ≤ whole_limit → number_in most word ≡ Some n
    → (word ≡ decimal n) × (n ≤ most)
unfolding number_in
number_found most n word limit h =
    let in_range = nat_le (decimal_of word) most in
    let chosen = if_some_yes (are_digits word && in_range) (Some (decimal_of word)) n h in
    let tests = and_parts (are_digits word) in_range chosen.0 in
    let few = nat_le (length word) 20 in
    let first = has_no_zero_in_front word in
    let digits = and_parts (first && few) (list_all is_ascii_digit word) tests.0 in
    let begins = and_parts first few digits.0 in
    let is : decimal_of word ≡ n = cc in
    let within : decimal_of word ≤ most = leb-true (decimal_of word) most tests.1 in
    let front = front_to word begins.0 in
    let same : decimal (decimal_of word) ≡ word =
    decimal-digits_value own word digits.1 front.0 front.1 (omega arith)
    in
    (sym same ∙ ap decimal is, omega (arith, is))

pub halves_spelled : (n : ℕ) → halves_text n ≡ decimal (high_half n) ++ 46 ∷ decimal (low_half n)
unfolding halves_text
halves_spelled n = seam (decimal (high_half n)) (decimal (low_half n)) 46

halves_of_spelled : (h l : ℕ) → h ≤ half_limit → l ≤ half_limit
    → halves_of (decimal h, decimal l) ≡ Some (number_of h l)
halves_of_spelled h l high low =
    rw (number_again half_limit h high (omega arith), number_again half_limit l low (omega arith))
    refl

-- a word cut into the decimals of two numbers
halves_joined : (word : List ℕ) (parts : List ℕ × List ℕ) (n h l : ℕ)
    → word ≡ parts.0 ++ 46 ∷ parts.1 → parts.0 ≡ decimal h → parts.1 ≡ decimal l
    → high_half n ≡ h → low_half n ≡ l → word ≡ halves_text n
halves_joined word parts n h l cut first second up down =
    cut ∙ rw (first, second, ← up, ← down) (sym (halves_spelled n))

pub halves_again : (n : ℕ) → n ≤ whole_limit → halves_in (halves_text n) ≡ Some n
unfolding halves_in
halves_again n limit =
    let high = high_half n in
    let low = low_half n in
    let high_fits : high ≤ half_limit = omega arith in
    let low_fits : low ≤ half_limit = omega arith in
    let none = class_lacks is_ascii_digit 46 (decimal high) refl (digits_all high (omega arith)) in
    let parts = cut_again 46 (decimal high) (decimal low) none in
    let whole : number_of high low ≡ n = omega arith in
    ap halves_in (halves_spelled n)
    ∙ ap (λ (o : Option (List ℕ × List ℕ)). o >>= halves_of) parts
    ∙ halves_of_spelled high low high_fits low_fits ∙ ap Some whole

pub halves_found : (n : ℕ) (word : List ℕ) → halves_in word ≡ Some n
    → (word ≡ halves_text n) × (n ≤ whole_limit)
unfolding halves_in
halves_found n word h =
    let parts = bind_some (cut_at 46 word) halves_of n h in
    let cut = cut_found 46 word parts.0 parts.1 in
    let high = bind_some (u32_in parts.0.0) _ n parts.2 in
    let low = bind_some (u32_in parts.0.1) _ n high.2 in
    let first = number_found half_limit high.0 parts.0.0 (omega arith) high.1 in
    let second = number_found half_limit low.0 parts.0.1 (omega arith) low.1 in
    let is : n ≡ high.0 * 4294967296 + low.0 = cc in
    let high_fits = first.1 in
    let low_fits = second.1 in
    let up : high_half n ≡ high.0 = omega arith in
    let down : low_half n ≡ low.0 = omega arith in
    (halves_joined word parts.0 n high.0 low.0 cut first.0 second.0 up down, omega arith)
