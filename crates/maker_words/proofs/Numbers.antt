-- The number of a word, as std reads it.
use Rattle.std.proofs.Common.{◌≡◌, ◌∙◌, ◌<◌, ◌≤◌, ◌^◌, ◌&&◌, ◌+◌, ◌-◌, ◌*◌, ℕ, Bool, List, refl, ap}
use Rattle.std.proofs.Common.{sym, cond, true, false, true≢false, length, nat_le, arith, le-leb}
use Rattle.std.proofs.Common.{leb-true, Option, Some, None, Result, Ok, Err, fold, OkIff}
use Rattle.std.specs.Char.{is_ascii_digit}
use Rattle.std.specs.List.{list_all}
use Rattle.std.specs.Result.{result_ok}
use Rattle.std.specs.Str.Parse.{ParsesUnsigned}
use Rattle.std.proofs.lemmas.Str.Parse.{IsDigitsTest, IsNumeralModel, numerals_by_fold}
use Rattle.std.proofs.lemmas.Str.Parse.{parse_digits}
use Rattle.script_words.specs.Limits.{digit_limit, number_limit}
use Rattle.script_words.specs.Numbers.{decimal_of, is_number, number_spelled}

abbrev AreDigits : List ℕ → Type 0
AreDigits word = list_all is_ascii_digit word ≡ true

both : (a b : Bool) → (a && b) ≡ true → (a ≡ true) × (b ≡ true)
both true b e = (refl, e)
both false b e = absurd (true≢false (sym e))

tells : IsDigitsTest AreDigits
tells = record {
  empty = refl;
  parts = λ c cs e.
      let k = both (is_ascii_digit c) (list_all is_ascii_digit cs) e in
      let m = both (nat_le 48 c) (nat_le c 57) k.0 in
      ((leb-true 48 c m.0, leb-true c 57 m.1), k.1);
  more = λ c cs k e i. (le-leb 48 c k.0 i && le-leb c 57 k.1 i) && e i;
}

own : IsNumeralModel AreDigits decimal_of
own = numerals_by_fold AreDigits tells (λ n ds. fold (λ n d. n * 10 + (d - 48)) n ds) (record {
  empty = λ n. refl;
  more = λ n c cs k. refl;
})

is_spelled : (word : List ℕ) → 1 ≤ length word → length word ≤ digit_limit → AreDigits word
    → decimal_of word ≤ number_limit → is_number word ≡ true
is_spelled word some few digits small i =
    le-leb 1 (length word) some i && le-leb (length word) digit_limit few i && digits i
    && le-leb (decimal_of word) number_limit small i

none_else : (b : Bool) (number : ℕ) → (b ≡ true → ⊥) → None ≡ cond b (Some number) None
none_else true number fails = absurd (fails refl)
none_else false number fails = refl

spelled : {E : Type 0} (word : List ℕ) (r : Result ℕ E) → length word ≤ digit_limit
    → AreDigits word
    → OkIff r ((0 < length word) × (decimal_of word < 2 ^ 32)) (decimal_of word)
    → result_ok r ≡ number_spelled word
unfolding number_spelled
spelled word (Ok n) few digits is =
    ap (λ (k : ℕ). Some k) is.1
    ∙ sym (ap (λ (b : Bool). cond b (Some (decimal_of word)) None)
    (is_spelled word (omega (arith, is.0.0)) few digits (omega (arith, is.0.1))))
spelled word (Err e) few digits is = none_else (is_number word) (decimal_of word) none
  where
    none : is_number word ≡ true → ⊥
    none test =
        let c = both _ (nat_le (decimal_of word) number_limit) test in
        let b = both _ (list_all is_ascii_digit word) c.0 in
        let a = both (nat_le 1 (length word)) _ b.0 in
        let some : 1 ≤ length word = leb-true 1 (length word) a.0 in
        let small : decimal_of word ≤ number_limit = leb-true (decimal_of word) number_limit c.1 in
        is (omega arith, omega arith)

-- what std reads of a few digits is the number that they spell
pub read_is_spelled : {E : Type 0} (word : List ℕ) (r : Result ℕ E) (read : Option ℕ)
    → length word ≤ digit_limit → AreDigits word → ParsesUnsigned 32 10 word r
    → read ≡ result_ok r → read ≡ number_spelled word
read_is_spelled word r read few digits parses is =
    is ∙ spelled word r few digits (parse_digits own 32 word r parses digits)
