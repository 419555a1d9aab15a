-- What stands behind a first letter, as std strips it.
use Rattle.std.proofs.Common.{◌≡◌, ◌≢◌, ◌∙◌, ◌==◌, ℕ, Bool, List, [], ◌∷◌, refl, ap, sym, true, false}
use Rattle.std.proofs.Common.{Option, Some, None, option_map, Bor, arith}
use Rattle.std.proofs.lemmas.Bool.Decides.{nat_tests}
use Rattle.std.specs.Option.{MatchOption}
use Rattle.maker_words.specs.Makers.{behind}

behind_itself : (letter : ℕ) (rest : List ℕ) → behind letter (letter ∷ rest) ≡ Some rest
behind_itself letter rest = by_test (letter == letter) refl (grind (arith, nat_tests))
  where
    by_test : (test : Bool) → (letter == letter) ≡ test → test ≡ true
        → behind letter (letter ∷ rest) ≡ Some rest
    by_test true is same = rw is
    by_test false is same = absurd cc

-- the clause of `strip_prefix` at a letter
pub behind_letter : (letter : ℕ) (word : List ℕ) (r : Option (Bor (List ℕ)))
    → MatchOption r ((rest : List ℕ) → word ≢ letter ∷ rest) (λ x. word ≡ letter ∷ x.now)
    → option_map (λ digits. digits.now) r ≡ behind letter word
behind_letter letter [] None is = refl
behind_letter letter [] (Some x) is = cc
behind_letter letter (b ∷ bs) None is = by_test (b == letter) refl
  where
    by_test : (test : Bool) → (b == letter) ≡ test → None ≡ behind letter (b ∷ bs)
    by_test true same = absurd (is bs (ap (λ n. n ∷ bs) (grind (arith, nat_tests))))
    by_test false same = rw same
behind_letter letter (b ∷ bs) (Some x) is =
    sym (ap (behind letter) is ∙ behind_itself letter x.now)
