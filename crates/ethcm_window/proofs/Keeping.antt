-- Frames that are kept in order of their numbers.
use Rattle.std.proofs.Common.{◌≡◌, ◌≢◌, ℕ, zero, suc, ◌+◌, ◌<◌, ◌≤◌, min, Bool, true, false, List}
use Rattle.std.proofs.Common.{[], ◌∷◌, ◌++◌, length, take, drop, get_or, refl, ap, sym, ◌∙◌, arith}
use Rattle.std.proofs.Common.{◌⊎◌, inl, inr, eqb, ltb, filter, find, ◌-◌, None, insert}
use Rattle.std.proofs.Common.{if◌then◌else◌, ltb-true, ltb-false, eq-eqb, lt-ltb, get_or-drop}
use Rattle.std.proofs.Common.{drop-drop, length-drop}
use Rattle.std.proofs.lemmas.List.{get_or_default, drop_more, drop_all}
use Rattle.std.proofs.Math.Dec.{lit≤}
use Rattle.std.proofs.lemmas.Bool.Decides.{nat_tests, eqb_tells}
use Rattle.linx_base.specs.declared.frame.SentFrame.{SentFrame}
use Rattle.ethcm_window.specs.Sending.{number_limit}
use Rattle.ethcm_window.specs.Receiving.{RisesWithin, NumbersRise, KeepsInOrder, early_limit}
use Rattle.ethcm_window.specs.Receiving.{has_number, keeps_number, kept_at, kept_below, kept_above}
use Rattle.ethcm_window.specs.Receiving.{kept_with, missing_count, distance_to, CountsMissing}
use Rattle.ethcm_window.specs.WaysBack.{IsPlaceOf}

-- ---- numbers

not_below : (a b : ℕ) → b ≤ a → ltb a b ≡ false
not_below a b h = grind (arith, nat_tests)

other_number : (a b : ℕ) → (a ≡ b → ⊥) → eqb a b ≡ false
other_number a b h = elim (eqb_tells a b) [ inl w ↦ absurd (h w.1) | inr w ↦ w.0 ]

lt_cases : (a b : ℕ) → (a < b) ⊎ (b ≤ a)
lt_cases a b = grind arith

number_is : (s t : SentFrame) → s ≡ t → s.number ≡ t.number
number_is s t e = ap (λ (x : SentFrame). x.number) e

-- ---- bounds of what is kept

-- above what is kept for this expected number
abbrev pub top : ℕ → ℕ
top expected = min (expected + early_limit) number_limit

-- wider bounds
rises_wider : (low high under over : ℕ) (kept : List SentFrame) → under ≤ low → high ≤ over
    → RisesWithin low high kept → RisesWithin under over kept
rises_wider low high under over [] l h r = tt
rises_wider low high under over (s ∷ kept) l h r =
    let from = r.0 in
    let to = r.1.0 in
    let rest = rises_wider (suc s.number) high (suc s.number) over kept (omega arith) h r.1.1 in
    (omega arith, (omega arith, rest))

module _ (expected : ℕ) (kept : List SentFrame) (r : KeepsInOrder expected kept) where
  pub rises_from_zero : NumbersRise kept
  rises_from_zero =
      rises_wider expected (top expected) 0 number_limit kept (omega arith) (omega arith) r

  pub rises_from_expected : RisesWithin expected number_limit kept
  rises_from_expected =
      rises_wider expected (top expected) expected number_limit kept (omega arith) (omega arith) r

-- no number is below the bound
rises_from : (low high : ℕ) (kept : List SentFrame) (j : ℕ) (d : SentFrame)
    → RisesWithin low high kept → j < length kept → low ≤ (get_or kept j d).number
rises_from low high [] j d r h = absurd (omega arith)
rises_from low high (s ∷ kept) zero d r h = r.0
rises_from low high (s ∷ kept) (suc j) d r h =
    let from = r.0 in
    let rest = rises_from (suc s.number) high kept j d r.1.1 (omega arith) in
    omega arith

-- a later number isn't lower
rises_along : (low high : ℕ) (kept : List SentFrame) (i j : ℕ) (d : SentFrame)
    → RisesWithin low high kept → i ≤ j → j < length kept
    → (get_or kept i d).number ≤ (get_or kept j d).number
rises_along low high [] i j d r le h = absurd (omega arith)
rises_along low high (s ∷ kept) zero zero d r le h = omega arith
rises_along low high (s ∷ kept) zero (suc j) d r le h =
    let rest = rises_from (suc s.number) high kept j d r.1.1 (omega arith) in omega arith
rises_along low high (s ∷ kept) (suc i) zero d r le h = absurd (omega arith)
rises_along low high (s ∷ kept) (suc i) (suc j) d r le h =
    rises_along (suc s.number) high kept i j d r.1.1 (omega arith) (omega arith)

-- what is kept from above a number on
record AllAbove (n : ℕ) (kept : List SentFrame) : Type 0 where
  pub missing : keeps_number n kept ≡ false
  pub below : kept_below n kept ≡ []
  pub above : kept_above n kept ≡ kept
  pub none : find (has_number n) kept ≡ None

all_above : (low high n : ℕ) (kept : List SentFrame) → RisesWithin low high kept → n < low
    → AllAbove n kept
all_above low high n [] r h =
    record { missing = refl; below = refl; above = refl; none = refl }
all_above low high n (s ∷ kept) r h =
    let from = r.0 in
    let rest = all_above (suc s.number) high n kept r.1.1 (omega arith) in
    let other = other_number s.number n (λ e. omega arith) in
    let under = not_below s.number n (omega arith) in
    let over = lt-ltb n s.number (omega arith) in
    record {
      missing = rw (other, rest.missing) refl;
      below = rw (under, rest.below) refl;
      above = rw (over, rest.above) refl;
      none = rw (other, rest.none) refl;
    }

-- ---- the place of a number

-- at the place of a number that isn't kept the frames split into those below and those above
record SplitsAt (n : ℕ) (kept : List SentFrame) (at : ℕ) : Type 0 where
  pub missing : keeps_number n kept ≡ false
  pub below : kept_below n kept ≡ take at kept
  pub above : kept_above n kept ≡ drop at kept

module _ (n : ℕ) (s : SentFrame) (kept : List SentFrame) where
  place_later : (at : ℕ) → IsPlaceOf n (s ∷ kept) (suc at) → IsPlaceOf n kept at
  place_later at place = (
    λ k d low below. place.0 (suc k) d (omega arith) (omega arith),
    λ k d low below. place.1 (suc k) d (omega arith) (omega arith),
  )

  place_same : IsPlaceOf n (s ∷ kept) zero → IsPlaceOf n kept zero
  place_same place = (
    λ k d low below. absurd (omega arith),
    λ k d low below. place.1 (suc k) d (omega arith) (omega arith),
  )

kept_found : (n : ℕ) (kept : List SentFrame) (at : ℕ) (d : SentFrame)
    → at < length kept → (get_or kept at d).number ≡ n → keeps_number n kept ≡ true
kept_found n [] at d h e = absurd (omega arith)
kept_found n (s ∷ kept) zero d h e = rw (eq-eqb s.number n e) refl
kept_found n (s ∷ kept) (suc at) d h e =
    let rest : keeps_number n kept ≡ true = kept_found n kept at d (omega arith) e in
    grind (arith, rest)

kept_missing : (low high n : ℕ) (kept : List SentFrame) (at : ℕ)
    → RisesWithin low high kept → IsPlaceOf n kept at → at ≤ length kept
    → ((d : SentFrame) → at < length kept → (get_or kept at d).number ≢ n) → SplitsAt n kept at
kept_missing low high n [] zero r place h other =
    record { missing = refl; below = refl; above = refl }
kept_missing low high n [] (suc at) r place h other = absurd (omega arith)
kept_missing low high n (s ∷ kept) zero r place h other =
    let not_under : n ≤ s.number = ltb-false _ _ (place.1 0 s (omega arith) (omega arith)) in
    let apart : s.number ≢ n = other s (omega arith) in
    let all = all_above s.number high n (s ∷ kept) ((omega arith), r.1) (omega arith) in
    record { missing = all.missing; below = all.below; above = all.above }
kept_missing low high n (s ∷ kept) (suc at) r place h other =
    let test : ltb s.number n ≡ true = place.0 0 s (omega arith) (omega arith) in
    let under : s.number < n = ltb-true _ _ test in
    let later = place_later n s kept at place in
    let rest = kept_missing (suc s.number) high n kept at r.1.1 later (omega arith)
    (λ d below. other d (omega arith)) in
    let apart = other_number s.number n (λ e. omega arith) in
    let not_over = not_below n s.number (omega arith) in
    record {
      missing = rw (apart, rest.missing) refl;
      below = rw (test, rest.below) refl;
      above = rw (not_over, rest.above) refl;
    }

module _ (n : ℕ) (kept : List SentFrame) (at : ℕ)
    (r : NumbersRise kept) (place : IsPlaceOf n kept at) where
  split_where : ((d : SentFrame) → at < length kept → (get_or kept at d).number ≢ n)
      → at ≤ length kept → SplitsAt n kept at
  split_where other within = kept_missing 0 number_limit n kept at r place within other

  -- whether the frame at the place of a number has it
  pub kept_here : (s : SentFrame) → at < length kept → s ≡ get_or kept at s
      → eqb s.number n ≡ keeps_number n kept
  kept_here s h read =
      let number : (get_or kept at s).number ≡ s.number = number_is _ _ (sym read) in
      elim (eqb_tells s.number n) [
        | inl same ↦ same.0 ∙ sym (kept_found n kept at s h (number ∙ same.1))
        | inr other ↦
            let same = λ (d : SentFrame) (within : at < length kept).
            number_is _ _ (get_or_default kept at s d within) in
            let splits = split_where (λ d within e. other.1 (sym number ∙ same d within ∙ e)) in
            other.0 ∙ sym (splits (omega arith)).missing
      ]

  pub kept_past : length kept ≡ at → false ≡ keeps_number n kept
  kept_past h = sym (split_where (λ d within. absurd (omega arith)) (omega arith)).missing

-- the frame put in its place
pub kept_inserted : (s : SentFrame) (kept : List SentFrame) (at : ℕ) → NumbersRise kept
    → IsPlaceOf s.number kept at → at ≤ length kept → keeps_number s.number kept ≡ false
    → insert kept at s ≡ kept_with s kept
kept_inserted s kept at r place h missing =
    let splits = kept_missing 0 number_limit s.number kept at r place h
    (λ d below e. let found = kept_found s.number kept at d below e in cc) in
    let below = splits.below in
    let above = splits.above in
    rw (missing, below, above) refl

-- ---- the search for a place behind those that are gone

module _ (gone n at : ℕ) (kept : List SentFrame) (r : NumbersRise (drop gone kept)) (s : SentFrame)
    (within : gone + at < length kept) (read : s ≡ get_or kept (gone + at) s) where
  number_there : (d : SentFrame) → (get_or (drop gone kept) at d).number ≡ s.number
  number_there d =
      let rest = get_or_default (drop gone kept) at d s (omega (arith, length-drop gone kept)) in
      number_is _ _ (rest ∙ get_or-drop gone kept at s ∙ sym read)

  pub lower_before : s.number < n → (k : ℕ) (d : SentFrame) → k < at + 1
      → ltb (get_or (drop gone kept) k d).number n ≡ true
  lower_before low k d le =
      let there = number_there d in
      let along = rises_along 0 number_limit (drop gone kept) k at d r (omega arith)
      (omega (arith, length-drop gone kept)) in
      lt-ltb _ _ (omega arith)

  pub none_lower_behind : n ≤ s.number → (k : ℕ) (d : SentFrame) → at ≤ k
      → k < length (drop gone kept) → ltb (get_or (drop gone kept) k d).number n ≡ false
  none_lower_behind high k d le below =
      let there = number_there d in
      let along = rises_along 0 number_limit (drop gone kept) at k d r le below in
      not_below _ _ (omega arith)

-- ---- what is kept afterwards

-- a filter of frames whose numbers rise
rises_filter : (p : SentFrame → Bool) (low high under over : ℕ) (kept : List SentFrame)
    → RisesWithin low high kept
    → ((s : SentFrame) → low ≤ s.number → s.number < high → p s ≡ true
    → (under ≤ s.number) × (s.number < over))
    → RisesWithin under over (filter p kept)
rises_filter p low high under over [] r within = tt
rises_filter p low high under over (s ∷ kept) r within =
    let from = r.0 in
    let to = r.1.0 in
    let rest = rises_filter p (suc s.number) high (suc s.number) over kept r.1.1
    (λ t l h q. (l, (within t (omega arith) h q).1)) in
    let others = rises_filter p (suc s.number) high under over kept r.1.1
    (λ t l h q. within t (omega arith) h q) in
    let passed : (b : Bool) → p s ≡ b → RisesWithin under over (filter p (s ∷ kept)) =
    λ b. elim b as (λ v. p s ≡ v → RisesWithin under over (filter p (s ∷ kept))) [
      | true ↦ λ e. rw e ((within s from to e).0, ((within s from to e).1, rest))
      | false ↦ λ e. rw e others
    ] in
    passed (p s) refl

rises_append : (low mid high : ℕ) (xs ys : List SentFrame) → low ≤ mid → mid ≤ high
    → RisesWithin low mid xs → RisesWithin mid high ys → RisesWithin low high (xs ++ ys)
rises_append low mid high [] ys l h r q = rises_wider mid high low high ys l (omega arith) q
rises_append low mid high (s ∷ xs) ys l h r q =
    let from = r.0 in
    let to = r.1.0 in
    (from, (omega arith, rises_append (suc s.number) mid high xs ys (omega arith) h r.1.1 q))

-- one more frame within the bounds
rises_with : (low high : ℕ) (s : SentFrame) (kept : List SentFrame) → low ≤ s.number
    → s.number < high → RisesWithin low high kept → RisesWithin low high (kept_with s kept)
rises_with low high s kept l h r =
    let n : ℕ = s.number in
    let below : RisesWithin low s.number (kept_below s.number kept) =
    rises_filter (λ t. ltb t.number s.number) low high low s.number kept r
    (λ t from to e. (from, ltb-true _ _ e)) in
    let above : RisesWithin (suc s.number) high (kept_above s.number kept) =
    rises_filter (λ t. ltb s.number t.number) low high (suc s.number) high kept r
    (λ t from to e. (let over = ltb-true _ _ e in omega arith, to)) in
    let all = rises_append low s.number high _ (s ∷ kept_above s.number kept) l (omega arith) below
    ((omega arith), (h, above)) in
    elim (keeps_number n kept) as (λ b. RisesWithin low high
    (if b then kept else kept_below s.number kept ++ s ∷ kept_above s.number kept)) [
      | true ↦ r
      | false ↦ all
    ]

module _ (expected : ℕ) (kept : List SentFrame) (r : KeepsInOrder expected kept) where
  -- what stays above the expected number
  pub rises_taken : KeepsInOrder (expected + 1) (kept_above expected kept)
  rises_taken =
      rises_filter (λ s. ltb expected s.number) expected (top expected) (expected + 1)
      (top (expected + 1)) kept r
      (λ s from to e. (let over = ltb-true _ _ e in omega arith, omega arith))

  -- what is kept after a frame came early
  pub rises_early : (s : SentFrame) → s.number < expected + early_limit → expected < s.number
      → s.number < number_limit → KeepsInOrder expected (kept_with s kept)
  rises_early s near early numbered =
      rises_with expected (top expected) s kept (omega arith) (omega arith) r

-- ---- the first kept frame

module _ (n : ℕ) where
  first_missing : (kept : List SentFrame) (d : SentFrame) → RisesWithin n number_limit kept
      → (0 < length kept → (get_or kept 0 d).number ≢ n)
      → (None ≡ kept_at n kept) × (kept ≡ kept_above n kept)
  first_missing [] d r other = (refl, refl)
  first_missing (s ∷ kept) d r other =
      let from = r.0 in
      let apart : s.number ≢ n = other (omega arith) in
      let all = all_above s.number number_limit n (s ∷ kept) ((omega arith), r.1) (omega arith) in
      let none = all.none in
      (rw none refl, sym all.above)

  first_kept : (kept : List SentFrame) (d : SentFrame) → RisesWithin n number_limit kept
      → 0 < length kept → (get_or kept 0 d).number ≡ n
      → (drop 1 kept ≡ kept_above n kept) × (n < number_limit)
  first_kept [] d r h e = absurd (omega arith)
  first_kept (s ∷ kept) d r h e =
      let to = r.1.0 in
      let above = (all_above (suc s.number) number_limit n kept r.1.1 (omega arith)).above in
      let not_over = not_below n s.number (omega arith) in
      (rw (not_over, above) refl, omega arith)

-- the first kept frame behind those that are gone
module _ (gone n : ℕ) (kept : List SentFrame) (s : SentFrame)
    (r : RisesWithin n number_limit (drop gone kept)) (read : s ≡ get_or kept gone s) where
  front_number : (get_or (drop gone kept) 0 s).number ≡ s.number
  front_number =
      let there : gone + 0 ≡ gone = omega arith in
      number_is _ _ (get_or-drop gone kept 0 s ∙ ap (λ k. get_or kept k s) there ∙ sym read)

  pub front_missing : s.number ≢ n
      → (None ≡ kept_at n (drop gone kept)) × (drop gone kept ≡ kept_above n (drop gone kept))
  front_missing other =
      first_missing n (drop gone kept) s r (λ h e. other (sym front_number ∙ e))

  pub front_kept : gone < length kept → s.number ≡ n
      → (drop (gone + 1) kept ≡ kept_above n (drop gone kept)) × (n < number_limit)
  front_kept within same =
      let some : 0 < length (drop gone kept) = omega (arith, length-drop gone kept) in
      let found = first_kept n (drop gone kept) s r some (front_number ∙ same) in
      (sym (drop-drop 1 gone kept) ∙ found.0, found.1)

-- ---- the count of the missing numbers

-- the place behind all numbers up to the expected one
above_from : (expected : ℕ) (kept : List SentFrame) (at : ℕ) → IsPlaceOf (expected + 1) kept at
    → at ≤ length kept → kept_above expected kept ≡ drop at kept
above_from expected [] zero place h = refl
above_from expected [] (suc at) place h = absurd (omega arith)
above_from expected (s ∷ kept) zero place h =
    let test = place.1 0 s (omega arith) (omega arith) in
    let here : expected + 1 ≤ s.number = ltb-false _ _ test in
    let over = lt-ltb expected s.number (omega arith) in
    let same = place_same (expected + 1) s kept place in
    let rest : kept_above expected kept ≡ drop 0 kept =
    above_from expected kept 0 same (omega arith) in
    rw (over, rest) refl
above_from expected (s ∷ kept) (suc at) place h =
    let test = place.0 0 s (omega arith) (omega arith) in
    let here : s.number < expected + 1 = ltb-true _ _ test in
    let not_over = not_below expected s.number (omega arith) in
    let later = place_later (expected + 1) s kept at place in
    rw not_over (above_from expected kept at later (omega arith))

module _ (expected : ℕ) (kept : List SentFrame) (at : ℕ)
    (place : IsPlaceOf (expected + 1) kept at) where
  -- the count by that place
  pub count_here : (s : SentFrame) → at < length kept → s ≡ get_or kept at s
      → s.number - expected ≡ missing_count expected kept
  count_here s h read =
      let rest : drop at kept ≡ s ∷ drop (at + 1) kept =
      drop_more kept at s h ∙ ap (λ t. t ∷ drop (at + 1) kept) (sym read) in
      rw (above_from expected kept at place (omega arith), rest) refl

  pub count_past : length kept ≡ at → early_limit ≡ missing_count expected kept
  count_past h =
      rw (above_from expected kept at place (omega arith), drop_all at kept (omega arith)) refl

-- what is kept above a number
kept_among : (n expected : ℕ) (kept : List SentFrame) → expected < n
    → keeps_number n kept ≡ keeps_number n (kept_above expected kept)
kept_among n expected [] h = refl
kept_among n expected (s ∷ kept) h =
    let rest = kept_among n expected kept h in
    elim (lt_cases expected s.number) [
      | inl over ↦ let t = lt-ltb expected s.number over in rw (t, rest) refl
      | inr under ↦
          let t = not_below expected s.number under in
          let other = other_number s.number n (λ e. omega arith) in
          rw (t, other) rest
    ]

module _ (expected : ℕ) (kept : List SentFrame) where
  counts_above : (above : List SentFrame)
      → RisesWithin (suc expected) (expected + early_limit) above
      → ((n : ℕ) → expected < n → keeps_number n kept ≡ keeps_number n above)
      → CountsMissing (record { expected = expected; kept = kept }) (distance_to expected above)
  counts_above [] r same =
      record {
        at_least = lit≤ tt;
        at_most = lit≤ tt;
        missing = λ n over below. same n over;
        next = λ h. absurd (omega arith);
      }
  counts_above (s ∷ above) r same =
      let from = r.0 in
      let to = r.1.0 in
      let there : expected + (s.number - expected) ≡ s.number = omega arith in
      let itself = eq-eqb s.number s.number refl in
      let within : RisesWithin s.number (expected + early_limit) (s ∷ above) =
      ((omega arith), r.1) in
      let all = all_above s.number (expected + early_limit) in
      record {
        at_least = omega arith;
        at_most = omega arith;
        missing = λ n over below. same n over ∙ (all n (s ∷ above) within (omega arith)).missing;
        next = λ h. rw there (same s.number (omega arith) ∙ rw itself refl);
      }

  -- the count is that of the missing numbers
  pub counts_missing : KeepsInOrder expected kept
      → CountsMissing (record { expected = expected; kept = kept }) (missing_count expected kept)
  counts_missing r =
      let above = rises_filter (λ s. ltb expected s.number) expected (top expected)
      (suc expected) (expected + early_limit) kept r
      (λ s from to e. (let over = ltb-true _ _ e in omega arith, omega arith)) in
      counts_above (kept_above expected kept) above (λ n over. kept_among n expected kept over)
