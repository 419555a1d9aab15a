-- Open endpoints in order of incarnation.
use Rattle.std.proofs.Common.{◌≡◌, ℕ, zero, suc, ◌<◌, ◌≤◌, ◌⊎◌, inl, inr, Bool, true, false, cond}
use Rattle.std.proofs.Common.{List, [], ◌∷◌, length, map, get_or, arith, Some, None, nat_lt}
use Rattle.std.proofs.Common.{position}
use Rattle.std.specs.List.{AllByRecursion}
use Rattle.std.specs.List.Sorted.{IsNonDecreasingBy, IsPartitionedBy, IsPartitionPoint}
use Rattle.std.proofs.lemmas.Bool.Decides.{nat_tests}
use Rattle.std.proofs.lemmas.List.{get_or_default}
use Rattle.std.proofs.lemmas.List.Sorted.{IsPartitionedBy-ltb}
use Rattle.linx_base.specs.FirstMatch.{without_match}
use Rattle.linx_base.specs.declared.identity.Inc.{Inc}
use Rattle.linx_base.proofs.FirstMatches.{position_at, position_none}
use Rattle.node_kernel.specs.Nodes.{OpenEndpoint, is_at}
use Rattle.node_kernel.specs.Kept.{AreRising}

module _ {X : Type 0} where
  pub all_at : (P : X → Type 0) (xs : List X) → AllByRecursion P xs → (k : ℕ) (d : X)
      → k < length xs → P (get_or xs k d)
  all_at P [] all k d inside = absurd (omega arith)
  all_at P (x ∷ xs) all zero d inside = all.0
  all_at P (x ∷ xs) all (suc k) d inside = all_at P xs all.1 k d (omega arith)

  pub all_mapped : {Y : Type 0} (f : X → Y) (P : X → Type 0) (Q : Y → Type 0)
      → ((x : X) → P x → Q (f x)) → (xs : List X) → AllByRecursion P xs
      → AllByRecursion Q (map f xs)
  all_mapped f P Q h [] all = tt
  all_mapped f P Q h (x ∷ xs) all = (h x all.0, all_mapped f P Q h xs all.1)

  pub all_without : (P : X → Type 0) (p : X → Bool) (xs : List X) → AllByRecursion P xs
      → AllByRecursion P (without_match p xs)
  all_without P p [] all = tt
  all_without P p (x ∷ xs) all =
      elim (p x) as (λ b. AllByRecursion P (cond b xs (x ∷ without_match p xs))) [
        | true ↦ all.1
        | false ↦ (all.0, all_without P p xs all.1)
      ]

pub rising_at : (es : List OpenEndpoint) → AreRising es → (i j : ℕ) (d : OpenEndpoint) → i < j
    → j < length es → (get_or es i d).inc.0 < (get_or es j d).inc.0
rising_at [] rising i j d below inside = absurd (omega arith)
rising_at (e ∷ es) rising i zero d below inside = absurd (omega arith)
rising_at (e ∷ es) rising zero (suc j) d below inside =
    all_at (λ f. e.inc.0 < f.inc.0) es rising.0 j d (omega arith)
rising_at (e ∷ es) rising (suc i) (suc j) d below inside =
    rising_at es rising.1 i j d (omega arith) (omega arith)

up_to : (i j : ℕ) → i ≤ j → (i < j) ⊎ (i ≡ j)
up_to i j le = grind arith

never_falls : (es : List OpenEndpoint) → AreRising es → IsNonDecreasingBy (λ e. e.inc.0) es
never_falls es rising i j d le inside =
    elim (up_to i j le) as (λ _. (get_or es i d).inc.0 ≤ (get_or es j d).inc.0) [
      | inl below ↦ let less = rising_at es rising i j d below inside in omega arith
      | inr same ↦ rw same (omega arith)
    ]

-- no endpoint of an earlier incarnation stands behind one that isn't
pub split_by : (inc : Inc) (es : List OpenEndpoint) → AreRising es
    → IsPartitionedBy (λ e. nat_lt e.inc.0 inc.0) es
split_by inc es rising = IsPartitionedBy-ltb (λ e. e.inc.0) es inc.0 (never_falls es rising)

abbrev pub SplitsAt : Inc → List OpenEndpoint → ℕ → Type 0
SplitsAt inc es at = IsPartitionPoint (λ e. nat_lt e.inc.0 inc.0 ≡ true) (λ e. nat_lt e.inc.0 inc.0
    ≡ false) es at

earlier_is_other : (inc : Inc) (e : OpenEndpoint) → nat_lt e.inc.0 inc.0 ≡ true
    → is_at inc e ≡ false
earlier_is_other inc e before = grind (arith, nat_tests)

module _ (inc : Inc) (es : List OpenEndpoint) (at : ℕ) (splits : SplitsAt inc es at) where
  -- the incarnation stands where the earlier ones end
  pub found_at : (d : OpenEndpoint) → at < length es → is_at inc (get_or es at d) ≡ true
      → position (is_at inc) es ≡ Some at
  found_at d inside passes = position_at (is_at inc) es at d inside passes
      (λ j below. earlier_is_other inc (get_or es j d) (splits.0 j d (omega arith) below))

  -- or nowhere
  pub not_past : length es ≤ at → position (is_at inc) es ≡ None
  not_past past = position_none (is_at inc) es (λ k d inside. earlier_is_other inc (get_or es k d)
      (splits.0 k d (omega arith) (omega arith)))

  pub not_found : AreRising es → (d : OpenEndpoint) → at < length es
      → is_at inc (get_or es at d) ≡ false → position (is_at inc) es ≡ None
  not_found rising d inside fails = position_none (is_at inc) es
      (λ k e within. by_place k e within (three k))
    where
      three : (k : ℕ) → (k < at) ⊎ ((k ≡ at) ⊎ (at < k))
      three k = grind arith

      later_is_other : (first later : OpenEndpoint) → nat_lt first.inc.0 inc.0 ≡ false
          → first.inc.0 < later.inc.0 → is_at inc later ≡ false
      later_is_other first later from above = grind (arith, nat_tests)

      same_read : (k : ℕ) (e : OpenEndpoint) → k < length es → get_or es k e ≡ get_or es k d
      same_read k e within = get_or_default es k e d within

      by_place : (k : ℕ) (e : OpenEndpoint) → k < length es → (k < at) ⊎ ((k ≡ at) ⊎ (at < k))
          → is_at inc (get_or es k e) ≡ false
      by_place k e within (inl below) = earlier_is_other inc (get_or es k e)
          (splits.0 k e (omega arith) below)
      by_place k e within (inr (inl same)) = rw (same_read k e within, same) fails
      by_place k e within (inr (inr above)) =
          later_is_other (get_or es at e) (get_or es k e) (splits.1 at e (omega arith) inside)
          (rising_at es rising at k e above within)
