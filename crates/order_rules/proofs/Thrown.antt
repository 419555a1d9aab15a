-- Tables of what a die throws, place by place.
use Rattle.std.proofs.Common.{◌≡◌, ℕ, zero, suc, ◌+◌, ◌^◌, List, replicate, refl, sym, ◌∙◌, ap}
use Rattle.std.proofs.Common.{slice_set}
use Rattle.order_rules.specs.Dice.{below, with_next, word, words}
use Rattle.order_rules.specs.Seeds.{changes, with_change}

pub words_none : (dice : ℕ) → words zero dice ≡ (replicate 97 0, dice)
unfolding words
words_none dice = refl

words_more : (n dice : ℕ) → words (suc n) dice ≡ with_next n (words n dice)
unfolding words
words_more n dice = refl

-- a further word is thrown
pub words_on : (n start : ℕ) (table : List ℕ) (dice w after : ℕ) → (table, dice) ≡ words n start
    → (w, after) ≡ word dice → (slice_set table n w, after) ≡ words (suc n) start
words_on n start table dice w after is thrown =
    ap (λ (x : ℕ × ℕ). (slice_set table n x.0, x.1)) thrown
    ∙ ap (with_next n) is
    ∙ sym (words_more n start)

pub changes_none : (span dice : ℕ) → changes span zero dice ≡ (replicate 5 0, dice)
unfolding changes
changes_none span dice = refl

changes_more : (span n dice : ℕ)
    → changes span (suc n) dice ≡ with_change span n (changes span n dice)
unfolding changes
changes_more span n dice = refl

-- a further turn is thrown
pub changes_on : (span n start : ℕ) (table : List ℕ) (dice w after : ℕ)
    → (table, dice) ≡ changes span n start → (w, after) ≡ below span dice
    → (slice_set table n (2 ^ 32 + w), after) ≡ changes span (suc n) start
changes_on span n start table dice w after is thrown =
    ap (λ (x : ℕ × ℕ). (slice_set table n (2 ^ 32 + x.0), x.1)) thrown
    ∙ ap (with_change span n) is
    ∙ sym (changes_more span n start)
