-- Two lists of lines, from a place on.
use Rattle.std.proofs.Common.{◌≡◌, ◌∙◌, ◌≤◌, ◌<◌, ◌+◌, ◌++◌, ℕ, zero, suc, Bool, true, false, List, []}
use Rattle.std.proofs.Common.{◌∷◌, Option, Some, None, ap, sym, refl, arith, length, drop, flat_map}
use Rattle.std.proofs.Common.{append_assoc, subst}
use Rattle.std.specs.Prelude.{slice_get}
use Rattle.script_words.specs.Lines.{lines_of}
use Rattle.run_outcomes.specs.Differences.{Apart, apart_at, are_same, line_told}

-- a line stands at a place where it is the first from there on
pub drop_some : (xs : List (List ℕ)) (n : ℕ) (x : List ℕ) → slice_get xs n ≡ Some x
    → drop n xs ≡ x ∷ drop (suc n) xs
drop_some [] n x here = absurd (cc)
drop_some (y ∷ xs) zero x here = let same : y ≡ x = cc in rw same refl
drop_some (y ∷ xs) (suc n) x here = drop_some xs n x here

-- no line does where none is from there on
pub drop_none : (xs : List (List ℕ)) (n : ℕ) → slice_get xs n ≡ None → drop n xs ≡ []
drop_none [] zero none = refl
drop_none [] (suc n) none = refl
drop_none (y ∷ xs) zero none = absurd (cc)
drop_none (y ∷ xs) (suc n) none = drop_none xs n none

-- the lines so far, and one line more
pub lines_more : (name rest line after : List ℕ) (total before now : List (List ℕ))
    → lines_of rest ≡ line ∷ lines_of after
    → before ++ flat_map (line_told name) (lines_of rest) ≡ total
    → now ≡ before ++ line_told name line
    → now ++ flat_map (line_told name) (lines_of after) ≡ total
lines_more name rest line after total before now cut so_far is =
    ap (λ (b : List (List ℕ)). b ++ flat_map (line_told name) (lines_of after)) is
    ∙ append_assoc before (line_told name line) (flat_map (line_told name) (lines_of after))
    ∙ ap (λ (ls : List (List ℕ)). before ++ flat_map (line_told name) ls) (sym cut)
    ∙ so_far

-- nor from the next place on
drop_further : (xs : List (List ℕ)) (n : ℕ) → slice_get xs n ≡ None → drop (suc n) xs ≡ []
drop_further [] n none = refl
drop_further (y ∷ xs) zero none = absurd (cc)
drop_further (y ∷ xs) (suc n) none = drop_further xs n none

-- behind the last line there is none
drop_all : (xs : List (List ℕ)) (n : ℕ) → length xs ≤ n → drop n xs ≡ []
drop_all [] zero few = refl
drop_all [] (suc n) few = refl
drop_all (y ∷ xs) zero few = absurd (omega arith)
drop_all (y ∷ xs) (suc n) few = drop_all xs n (omega arith)

module _ (xs ys : List (List ℕ)) (n k : ℕ) where
  -- where two lists have the same line at a place, or neither has one, they differ further on
  pub apart_further : are_same (slice_get xs n) (slice_get ys n) ≡ true
      → apart_at k (drop n xs) (drop n ys) ≡ apart_at (k + 1) (drop (suc n) xs) (drop (suc n) ys)
  apart_further same = by_case (slice_get xs n) (slice_get ys n) refl refl same
    where
      by_case : (here there : Option (List ℕ)) → slice_get xs n ≡ here → slice_get ys n ≡ there
          → are_same here there ≡ true
          → apart_at k (drop n xs) (drop n ys)
          ≡ apart_at (k + 1) (drop (suc n) xs) (drop (suc n) ys)
      by_case (Some x) (Some y) here there same =
          rw (drop_some xs n x here, drop_some ys n y there, same) refl
      by_case (Some x) None here there same = absurd (cc)
      by_case None (Some y) here there same = absurd (cc)
      by_case None None here there same =
          rw (
            drop_none xs n here,
            drop_none ys n there,
            drop_further xs n here,
            drop_further ys n there,
          ) refl

  -- where they don't, that is the first difference
  pub apart_here : are_same (slice_get xs n) (slice_get ys n) ≡ false
      → apart_at k (drop n xs) (drop n ys)
      ≡ Some (record { place = k; one = slice_get xs n; other = slice_get ys n })
  apart_here differ = by_case (slice_get xs n) (slice_get ys n) refl refl differ
    where
      by_case : (here there : Option (List ℕ)) → slice_get xs n ≡ here → slice_get ys n ≡ there
          → are_same here there ≡ false
          → apart_at k (drop n xs) (drop n ys)
          ≡ Some (record { place = k; one = here; other = there })
      by_case (Some x) (Some y) here there differ =
          rw (drop_some xs n x here, drop_some ys n y there, differ) refl
      by_case (Some x) None here there differ =
          rw (drop_some xs n x here, drop_none ys n there) refl
      by_case None (Some y) here there differ =
          rw (drop_none xs n here, drop_some ys n y there) refl
      by_case None None here there differ = absurd (cc)

  -- behind the last line of both there is no difference
  pub apart_nowhere : length xs ≤ n → length ys ≤ n → apart_at k (drop n xs) (drop n ys) ≡ None
  apart_nowhere here there = rw (drop_all xs n here, drop_all ys n there) refl

module _ (xs ys : List (List ℕ)) (n : ℕ)
    (so_far : apart_at (n + 1) (drop n xs) (drop n ys) ≡ apart_at 1 xs ys) where
  module _ (here there : Option (List ℕ)) (at_here : here ≡ slice_get xs n)
      (at_there : there ≡ slice_get ys n) where
    both : are_same here there ≡ are_same (slice_get xs n) (slice_get ys n)
    both =
        ap (λ (h : Option (List ℕ)). are_same h there) at_here
        ∙ ap (λ (t : Option (List ℕ)). are_same (slice_get xs n) t) at_there

    -- where the lines at the next place differ, that is the first difference
    pub first_apart : are_same here there ≡ false
        → apart_at 1 xs ys ≡ Some (record { place = n + 1; one = here; other = there })
    first_apart differ =
        sym so_far ∙ apart_here xs ys n (n + 1) (sym both ∙ differ)
        ∙ ap (λ (h : Option (List ℕ)). Some (record { place = n + 1; one = h; other = slice_get ys n }))
        (sym at_here)
        ∙ ap (λ (t : Option (List ℕ)). Some (record { place = n + 1; one = here; other = t }))
        (sym at_there)

    -- where they don't, it comes further on
    pub next_apart : are_same here there ≡ true
        → apart_at (n + 1 + 1) (drop (n + 1) xs) (drop (n + 1) ys) ≡ apart_at 1 xs ys
    next_apart same =
        let next : suc n ≡ n + 1 = omega arith in
        subst (λ (m : ℕ). apart_at (n + 1 + 1) (drop m xs) (drop m ys) ≡ apart_at 1 xs ys) next
        (sym (apart_further xs ys n (n + 1) (sym both ∙ same)) ∙ so_far)

  -- behind the last lines there is none
  pub no_apart : length xs ≤ n → length ys ≤ n → apart_at 1 xs ys ≡ None
  no_apart few some = sym so_far ∙ apart_nowhere xs ys n (n + 1) few some
