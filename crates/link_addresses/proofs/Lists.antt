-- The meanings of addresses, by their places in the list.
use Rattle.std.proofs.Common.{◌≡◌, ◌≢◌, ℕ, zero, suc, ◌+◌, ◌-◌, ◌<◌, ◌≤◌, cond, List, [], ◌∷◌, ◌++◌}
use Rattle.std.proofs.Common.{length, get_or, refl, sym, ap, ◌∙◌, inl, inr, arith, slice_set}
use Rattle.std.proofs.Common.{sum_by, length-set, get_or-set_same, get_or-set_other, length-append}
use Rattle.std.proofs.lemmas.Bool.{cases_lt}
use Rattle.std.proofs.lemmas.Bool.Decides.{eqb_tells}
use Rattle.std.proofs.lemmas.List.{get_or_past, get_or_append_left}
use Rattle.std.proofs.Math.Seq.{get_or-append_seam}
use Rattle.std.proofs.lemmas.List.Sums.{sum_by-set, sum_by-cons, sum_by_push}
use Rattle.linx_base.specs.declared.identity.Inc.{Inc}
use Rattle.link_addresses.specs.declared.meaning.Meaning.{Meaning}
use Rattle.link_addresses.specs.declared.meaning.Meaning.TheVariants.{Free, Live, Closing}
use Rattle.link_addresses.specs.Meanings.{meaning_of, with_meaning, lowest_free, with_lowest}
use Rattle.link_addresses.specs.Meanings.{is_used, used_in, ChangesMeaning, IsLowestFree, KeepsUsed}
use Rattle.link_addresses.specs.Finding.{NoneFree, IsFirstFree, IsPut}
use Rattle.link_addresses.specs.WayBack.{changes_left, changes_left_in}

pub meaning-suc : (ms : List Meaning) (k : ℕ) → meaning_of ms (suc k) ≡ get_or ms k Free
meaning-suc ms k = refl

-- an address that isn't free is in the list
pub in_list : (ms : List Meaning) (addr : ℕ) → meaning_of ms addr ≢ Free → (k : ℕ) × (addr ≡ suc k)
    × (k < length ms)
in_list ms zero taken = absurd (taken refl)
in_list ms (suc k) taken =
    elim (cases_lt k (length ms)) [
      | inl lt ↦ (k, refl, lt)
      | inr le ↦ absurd (taken (meaning-suc ms k ∙ get_or_past ms k Free le))
    ]

pub live_taken : (ms : List Meaning) (addr : ℕ) (inc : Inc) → meaning_of ms addr ≡ Live inc
    → meaning_of ms addr ≢ Free
live_taken ms addr inc live free = absurd cc

pub closing_taken : (ms : List Meaning) (addr : ℕ) (inc : Inc) → meaning_of ms addr ≡ Closing inc
    → meaning_of ms addr ≢ Free
closing_taken ms addr inc closing free = absurd cc

pub closing_not_free : (i : Inc) → Closing i ≢ Free
closing_not_free i e = absurd cc

pub closing_isnt_live : (i j : Inc) → Closing i ≢ Live j
closing_isnt_live i j e = absurd cc

pub free_isnt_live : (i : Inc) → Free ≢ Live i
free_isnt_live i e = absurd cc

pub live_isnt_free : (i : Inc) → Live i ≢ Free
live_isnt_free i e = absurd cc

-- ---- the lowest free address

none_free_rest : (m : Meaning) (ms : List Meaning) (k : ℕ) → NoneFree (m ∷ ms) 0 (suc k)
    → NoneFree ms 0 k
none_free_rest m ms k none place from to = λ free.
    none (suc place) (omega arith) (omega arith) (meaning-suc (m ∷ ms) (suc place)
    ∙ sym (meaning-suc ms place) ∙ free)

module _ (m : Meaning) (ms : List Meaning) (k : ℕ) (none : NoneFree (m ∷ ms) 0 (suc k))
    (free : meaning_of (m ∷ ms) (suc (suc k)) ≡ Free) where
  free_rest : meaning_of ms (suc k) ≡ Free
  free_rest = meaning-suc ms k ∙ sym (meaning-suc (m ∷ ms) (suc k)) ∙ free

-- the place behind those that aren't free, itself free, is the lowest
lowest_at : (ms : List Meaning) (k : ℕ) → NoneFree ms 0 k → meaning_of ms (suc k) ≡ Free
    → lowest_free ms ≡ suc k
unfolding lowest_free
lowest_at [] zero none free = refl
lowest_at [] (suc k) none free = absurd (none 0 (omega arith) (omega arith) refl)
lowest_at (Free ∷ ms) zero none free = refl
lowest_at (Free ∷ ms) (suc k) none free = absurd (none 0 (omega arith) (omega arith) refl)
lowest_at (Live inc ∷ ms) zero none free = absurd cc
lowest_at (Live inc ∷ ms) (suc k) none free =
    ap suc (lowest_at ms k (none_free_rest (Live inc) ms k none)
    (free_rest (Live inc) ms k none free))
lowest_at (Closing inc ∷ ms) zero none free = absurd cc
lowest_at (Closing inc ∷ ms) (suc k) none free =
    ap suc (lowest_at ms k (none_free_rest (Closing inc) ms k none)
    (free_rest (Closing inc) ms k none free))

pub lowest_is : (ms : List Meaning) (k : ℕ) → IsFirstFree ms k → lowest_free ms ≡ suc k
lowest_is ms k first = lowest_at ms k first.none first.free

-- a meaning at the lowest free place
with_lowest_is : (ms : List Meaning) (k : ℕ) (m : Meaning) → NoneFree ms 0 k
    → meaning_of ms (suc k) ≡ Free → k < length ms → with_lowest ms m ≡ slice_set ms k m
unfolding with_lowest
with_lowest_is [] k m none free lt = absurd (omega arith)
with_lowest_is (Free ∷ ms) zero m none free lt = refl
with_lowest_is (Free ∷ ms) (suc k) m none free lt = absurd (none 0 (omega arith) (omega arith) refl)
with_lowest_is (Live inc ∷ ms) zero m none free lt = absurd cc
with_lowest_is (Live inc ∷ ms) (suc k) m none free lt =
    ap (λ (rest : List Meaning). Live inc ∷ rest)
    (with_lowest_is ms k m (none_free_rest (Live inc) ms k none)
    (free_rest (Live inc) ms k none free) (omega arith))
with_lowest_is (Closing inc ∷ ms) zero m none free lt = absurd cc
with_lowest_is (Closing inc ∷ ms) (suc k) m none free lt =
    ap (λ (rest : List Meaning). Closing inc ∷ rest)
    (with_lowest_is ms k m (none_free_rest (Closing inc) ms k none)
    (free_rest (Closing inc) ms k none free) (omega arith))

with_lowest_past : (ms : List Meaning) (m : Meaning) → NoneFree ms 0 (length ms)
    → with_lowest ms m ≡ ms ++ m ∷ []
unfolding with_lowest
with_lowest_past [] m none = refl
with_lowest_past (Free ∷ ms) m none = absurd (none 0 (omega arith) (omega arith) refl)
with_lowest_past (Live inc ∷ ms) m none = ap (λ (rest : List Meaning). Live inc ∷ rest)
    (with_lowest_past ms m (none_free_rest (Live inc) ms (length ms) none))
with_lowest_past (Closing inc ∷ ms) m none = ap (λ (rest : List Meaning). Closing inc ∷ rest)
    (with_lowest_past ms m (none_free_rest (Closing inc) ms (length ms) none))

-- those that aren't free are used
used_to : (ms : List Meaning) (k : ℕ) → NoneFree ms 0 k → k ≤ length ms → k ≤ used_in ms
used_to ms zero none le = omega arith
used_to [] (suc k) none le = absurd (omega arith)
used_to (Free ∷ ms) (suc k) none le = absurd (none 0 (omega arith) (omega arith) refl)
used_to (Live inc ∷ ms) (suc k) none le = let rest =
    used_to ms k (none_free_rest (Live inc) ms k none) (omega arith) in
    omega (arith, sum_by-cons (λ m. cond (is_used m) 1 0) (Live inc) ms)
used_to (Closing inc ∷ ms) (suc k) none le = let rest =
    used_to ms k (none_free_rest (Closing inc) ms k none) (omega arith) in
    omega (arith, sum_by-cons (λ m. cond (is_used m) 1 0) (Closing inc) ms)

-- a used address changes at most twice more
pub left_used : (ms : List Meaning) → changes_left_in ms ≤ used_in ms + used_in ms
left_used [] = omega arith
left_used (Free ∷ ms) = let rest = left_used ms in
    omega (arith, sum_by-cons (λ m. cond (is_used m) 1 0) Free ms, sum_by-cons changes_left Free ms)
left_used (Live inc ∷ ms) = let rest = left_used ms in
    omega (
      arith,
      sum_by-cons (λ m. cond (is_used m) 1 0) (Live inc) ms,
      sum_by-cons changes_left (Live inc) ms,
    )
left_used (Closing inc ∷ ms) = let rest = left_used ms in
    omega (
      arith,
      sum_by-cons (λ m. cond (is_used m) 1 0) (Closing inc) ms,
      sum_by-cons changes_left (Closing inc) ms,
    )

-- the first free place is below a number that is above the count of used addresses
pub first_below : (ms lent now : List Meaning) (k bound : ℕ) → lent ≡ ms → ms ≡ now
    → IsFirstFree lent k → used_in now < bound → k < bound
first_below ms lent now k bound lend same first room =
    let few = used_to lent k first.none first.within in
    omega (arith, few, ap used_in lend, ap used_in same, room)

-- ---- a meaning put at a place, or one past the end

pub set_changes : (ms : List Meaning) (k : ℕ) (m : Meaning) → k < length ms
    → ChangesMeaning ms (slice_set ms k m) (suc k) m
set_changes ms k m lt = record {
  here = meaning-suc (slice_set ms k m) k
      ∙ get_or-set_same ms k m Free lt;
  others = others;
}
  where
    others : (other : ℕ) → other ≢ suc k → meaning_of (slice_set ms k m) other ≡ meaning_of ms other
    others zero apart = refl
    others (suc b) apart = meaning-suc (slice_set ms k m) b
        ∙ get_or-set_other ms k b m Free (λ e. apart (ap suc e)) ∙ sym (meaning-suc ms b)

push_changes : (ms : List Meaning) (m : Meaning)
    → ChangesMeaning ms (ms ++ m ∷ []) (suc (length ms)) m
push_changes ms m = record { here = get_or-append_seam ms m [] Free; others = others }
  where
    others : (other : ℕ) → other ≢ suc (length ms)
        → meaning_of (ms ++ m ∷ []) other ≡ meaning_of ms other
    others zero apart = refl
    others (suc b) apart =
        elim (cases_lt b (length ms)) [
          | inl lt ↦ get_or_append_left ms (m ∷ []) Free b lt
          | inr le ↦ get_or_past (ms ++ m ∷ []) b Free
              (omega (arith, length-append ms (m ∷ []), len_apart b apart))
              ∙ sym (get_or_past ms b Free le)
        ]
      where
        len_apart : (b : ℕ) → suc b ≢ suc (length ms) → b ≢ length ms
        len_apart b apart e = apart (ap suc e)

abbrev pub used_count : Meaning → ℕ
used_count m = cond (is_used m) 1 0

module _ (ms new : List Meaning) (k : ℕ) (m : Meaning) (put : IsPut ms k m new) where
  pub put_changes : ChangesMeaning ms new (suc k) m
  put_changes =
      elim (cases_lt k (length ms)) [
        | inl lt ↦ rw (put.inside lt) (set_changes ms k m lt)
        | inr ge ↦
            let e : k ≡ length ms = omega (arith, put.within) in
            rw (put.past e, e) (push_changes ms m)
      ]

  pub put_lowest : IsFirstFree ms k → new ≡ with_lowest ms m
  put_lowest first =
      elim (cases_lt k (length ms)) [
        | inl lt ↦ put.inside lt ∙ sym (with_lowest_is ms k m first.none first.free lt)
        | inr ge ↦
            let e : k ≡ length ms = omega (arith, put.within) in
            put.past e ∙ sym (with_lowest_past ms m (rw (← e) first.none))
      ]

  -- a sum over the meanings
  pub put_sum : (f : Meaning → ℕ) → f Free ≡ 0 → sum_by f new + f (meaning_of ms (suc k))
      ≡ sum_by f ms + f m
  put_sum f none =
      elim (cases_lt k (length ms)) [
        | inl lt ↦ rw (put.inside lt) (sum_by-set f ms k m Free lt)
        | inr ge ↦
            let e : k ≡ length ms = omega (arith, put.within) in
            let free : meaning_of ms (suc k) ≡ Free = meaning-suc ms k
            ∙ get_or_past ms k Free (omega arith) in
            rw (put.past e, free, none) (omega (arith, sum_by_push f ms m))
      ]

  pub put_length : k < length new
  put_length =
      elim (cases_lt k (length ms)) [
        | inl lt ↦ rw (put.inside lt) (omega (arith, length-set {A = Meaning}))
        | inr ge ↦
            let e : k ≡ length ms = omega (arith, put.within) in
            rw (put.past e) (omega (arith, length-append ms (m ∷ [])))
      ]

  -- only the one past the end is new
  pub put_within : (place : ℕ) → place < length new → place ≢ k → place < length ms
  put_within place lt apart =
      elim (cases_lt k (length ms)) [
        | inl inner ↦ omega (arith, lt, ap length (put.inside inner), length-set {A = Meaning})
        | inr ge ↦
            let e : k ≡ length ms = omega (arith, put.within) in
            omega (arith, lt, apart, ap length (put.past e), length-append ms (m ∷ []))
      ]

  pub put_bound : (bound : ℕ) → length ms ≤ bound → k < bound → length new ≤ bound
  put_bound bound least lt =
      elim (cases_lt k (length ms)) [
        | inl inner ↦ omega (arith, least, ap length (put.inside inner), length-set {A = Meaning})
        | inr ge ↦
            let e : k ≡ length ms = omega (arith, put.within) in
            omega (arith, lt, ap length (put.past e), length-append ms (m ∷ []))
      ]

-- ---- what the public calls say

module _ (x : Meaning) (ms : List Meaning) (k : ℕ) where
  changes_behind : (new : List Meaning) (m : Meaning) → ChangesMeaning ms new (suc k) m
      → ChangesMeaning (x ∷ ms) (x ∷ new) (suc (suc k)) m
  changes_behind new m change = record { here = change.here; others = others }
    where
      others : (other : ℕ) → other ≢ suc (suc k) → meaning_of (x ∷ new) other
          ≡ meaning_of (x ∷ ms) other
      others zero apart = refl
      others (suc zero) apart = refl
      others (suc (suc b)) apart = change.others (suc b) (λ e. apart (ap suc e))

  found_behind : x ≢ Free → IsLowestFree ms (suc k) → IsLowestFree (x ∷ ms) (suc (suc k))
  found_behind taken found = record { is_address = omega arith; free = found.free; lowest = lowest }
    where
      lowest : (lower : ℕ) → 0 < lower → lower < suc (suc k) → meaning_of (x ∷ ms) lower ≢ Free
      lowest zero pos lt = absurd (omega arith)
      lowest (suc zero) pos lt = taken
      lowest (suc (suc b)) pos lt = found.lowest (suc b) (omega arith) (omega arith)

found_at_1 : (ms : List Meaning) → meaning_of ms 1 ≡ Free → IsLowestFree ms 1
found_at_1 ms free = record {
  is_address = omega arith;
  free = free;
  lowest = λ lower pos lt. absurd (omega arith);
}

-- the place of the lowest free address
lowest_place : (ms : List Meaning) → (k : ℕ) × (lowest_free ms ≡ suc k)
unfolding lowest_free
lowest_place [] = (0, refl)
lowest_place (Free ∷ ms) = (0, refl)
lowest_place (Live inc ∷ ms) = (lowest_free ms, refl)
lowest_place (Closing inc ∷ ms) = (lowest_free ms, refl)

module _ (x : Meaning) (ms : List Meaning) (a k : ℕ) (e : a ≡ suc k) where
  changes_next : (new : List Meaning) (m : Meaning) → ChangesMeaning ms new a m
      → ChangesMeaning (x ∷ ms) (x ∷ new) (suc a) m
  changes_next new m change = rw e (changes_behind x ms k new m (rw (← e) change))

  found_next : x ≢ Free → IsLowestFree ms a → IsLowestFree (x ∷ ms) (suc a)
  found_next taken found = rw e (found_behind x ms k taken (rw (← e) found))

pub lowest_changes : (ms : List Meaning) (m : Meaning)
    → ChangesMeaning ms (with_lowest ms m) (lowest_free ms) m
unfolding lowest_free with_lowest
lowest_changes [] m = push_changes [] m
lowest_changes (Free ∷ ms) m = set_changes (Free ∷ ms) 0 m (omega arith)
lowest_changes (Live inc ∷ ms) m = let p = lowest_place ms in
    changes_next (Live inc) ms (lowest_free ms) p.0 p.1 (with_lowest ms m) m (lowest_changes ms m)
lowest_changes (Closing inc ∷ ms) m = let p = lowest_place ms in
    changes_next (Closing inc) ms (lowest_free ms) p.0 p.1 (with_lowest ms m) m
    (lowest_changes ms m)

pub lowest_found : (ms : List Meaning) → IsLowestFree ms (lowest_free ms)
unfolding lowest_free
lowest_found [] = found_at_1 [] refl
lowest_found (Free ∷ ms) = found_at_1 (Free ∷ ms) refl
lowest_found (Live inc ∷ ms) = let p = lowest_place ms in
    found_next (Live inc) ms (lowest_free ms) p.0 p.1 (live_isnt_free inc) (lowest_found ms)
lowest_found (Closing inc ∷ ms) = let p = lowest_place ms in
    found_next (Closing inc) ms (lowest_free ms) p.0 p.1 (closing_not_free inc) (lowest_found ms)

at_place : (ms : List Meaning) (addr k : ℕ) (m : Meaning) → addr ≡ suc k → k < length ms
    → ChangesMeaning ms (slice_set ms (addr - 1) m) addr m
at_place ms addr k m e lt =
    let d : addr - 1 ≡ k = omega arith in
    rw (d, e) (set_changes ms k m lt)

pub changes_at : (ms : List Meaning) (addr : ℕ) (m : Meaning) → meaning_of ms addr ≢ Free
    → ChangesMeaning ms (slice_set ms (addr - 1) m) addr m
changes_at ms addr m taken =
    let p = in_list ms addr taken in
    at_place ms addr p.0 m p.1 p.2

pub keeps_used : (old new : List Meaning) (a : ℕ) (m : Meaning) → ChangesMeaning old new a m
    → m ≢ Free → KeepsUsed old new
keeps_used old new a m change taken addr was free =
    elim (eqb_tells addr a) [
      | inl p ↦ taken (sym change.here ∙ ap (meaning_of new) (sym p.1) ∙ free)
      | inr p ↦ was (sym (change.others addr p.1) ∙ free)
    ]

module _ (ms new : List Meaning) (addr : ℕ) (inc : Inc) where
  pub given_lowest : addr ≡ lowest_free ms → IsLowestFree ms addr
  given_lowest e = rw e (lowest_found ms)

  pub given_changes : addr ≡ lowest_free ms → new ≡ with_lowest ms (Live inc)
      → ChangesMeaning ms new addr (Live inc)
  given_changes e put = rw (e, put) (lowest_changes ms (Live inc))

  pub given_keeps : new ≡ with_lowest ms (Live inc) → KeepsUsed ms new
  given_keeps put = rw put (keeps_used ms (with_lowest ms (Live inc)) (lowest_free ms) (Live inc)
      (lowest_changes ms (Live inc)) (live_isnt_free inc))

  pub closed_changes : meaning_of ms addr ≡ Live inc → new ≡ with_meaning ms addr (Closing inc)
      → ChangesMeaning ms new addr (Closing inc)
  closed_changes live set = rw set (changes_at ms addr (Closing inc) (live_taken ms addr inc live))

  pub closed_keeps : meaning_of ms addr ≡ Live inc → new ≡ with_meaning ms addr (Closing inc)
      → KeepsUsed ms new
  closed_keeps live set = keeps_used ms new addr (Closing inc) (closed_changes live set)
      (closing_not_free inc)

  pub freed_changes : meaning_of ms addr ≡ Closing inc → new ≡ with_meaning ms addr Free
      → ChangesMeaning ms new addr Free
  freed_changes closing set = rw set (changes_at ms addr Free (closing_taken ms addr inc closing))
