-- The groups follow each change.
use Rattle.std.proofs.Common.{◌≡◌, ◌≢◌, ℕ, suc, ◌+◌, ◌*◌, ◌/◌, ◌<◌, ◌≤◌, Bool, true, false, List}
use Rattle.std.proofs.Common.{length, take, get_or, sym, ap, ◌∙◌, inl, inr, arith, slice_set, ◌⊎◌}
use Rattle.std.proofs.Common.{length-set, get_or-set_same, get_or-set_other, get_or-take}
use Rattle.std.proofs.Common.{length-take}
use Rattle.std.proofs.lemmas.Bool.{cases_lt}
use Rattle.std.proofs.lemmas.Bool.Decides.{eqb_tells}
use Rattle.link_addresses.specs.declared.meaning.Meaning.{Meaning}
use Rattle.link_addresses.specs.declared.meaning.Meaning.TheVariants.{Free}
use Rattle.link_addresses.specs.Meanings.{meaning_of, ChangesMeaning}
use Rattle.link_addresses.specs.Finding.{group_size, group_limit, AreGroups, NoneFree}

-- groups that tell the same of each place
pub groups_same : (full wider : List Bool) (ms : List Meaning) → AreGroups full ms
    → length full ≤ length wider → length wider ≤ group_limit
    → ((group : ℕ) → get_or wider group false ≡ get_or full group false) → AreGroups wider ms
groups_same full wider ms groups le few same = record {
  few = few;
  grouped = omega (arith, groups.grouped);
  taken = λ place lt is_full. groups.taken place lt (sym (same (place / group_size)) ∙ is_full);
}

-- a front of the list
pub groups_front : (full : List Bool) (ms : List Meaning) (k : ℕ) → AreGroups full ms
    → AreGroups full (take k ms)
groups_front full ms k groups = record {
  few = groups.few;
  grouped = omega (arith, groups.grouped, length-take k ms);
  taken = taken;
}
  where
    taken : (place : ℕ) → place < length (take k ms) → get_or full (place / group_size) false ≡ true
        → meaning_of (take k ms) (suc place) ≢ Free
    taken place lt is_full free =
        let within : place < k = omega (arith, length-take k ms) in
        let there : place < length ms = omega (arith, length-take k ms) in
        groups.taken place there is_full (sym (get_or-take k ms place Free within) ∙ free)

module _ (full : List Bool) (old new : List Meaning) (k : ℕ) (m : Meaning)
    (groups : AreGroups full old) (change : ChangesMeaning old new (suc k) m)
    (grouped : length new ≤ group_size * length full) (within : (place : ℕ) → place < length new
    → place ≢ k → place < length old) where
  taken_other : (place : ℕ) → place < length new → place ≢ k
      → get_or full (place / group_size) false ≡ true → meaning_of new (suc place) ≢ Free
  taken_other place lt apart is_full free =
      groups.taken place (within place lt apart) is_full
      (sym (change.others (suc place) (λ e. apart (suc_same place k e))) ∙ free)
    where
      suc_same : (a b : ℕ) → suc a ≡ suc b → a ≡ b
      suc_same a b e = omega arith

  -- a place that isn't free after the change
  pub groups_changed : m ≢ Free → AreGroups full new
  groups_changed not_free = record { few = groups.few; grouped = grouped; taken = taken }
    where
      taken : (place : ℕ) → place < length new → get_or full (place / group_size) false ≡ true
          → meaning_of new (suc place) ≢ Free
      taken place lt is_full free =
          elim (eqb_tells place k) [
            | inl p ↦ not_free (sym change.here ∙ ap (λ (n : ℕ). meaning_of new (suc n)) (sym p.1)
                ∙ free)
            | inr p ↦ taken_other place lt p.1 is_full free
          ]

  -- a place that may be free after the change
  pub groups_released : k < group_size * length full
      → AreGroups (slice_set full (k / group_size) false) new
  groups_released inside = record {
    few = omega (arith, groups.few, length-set {A = Bool});
    grouped = omega (arith, grouped, length-set {A = Bool});
    taken = taken;
  }
    where
      taken : (place : ℕ) → place < length new → get_or (slice_set full (k / group_size) false)
          (place / group_size) false ≡ true → meaning_of new (suc place) ≢ Free
      taken place lt is_full free =
          elim (eqb_tells (place / group_size) (k / group_size)) [
            | inl p ↦
                let there : k / group_size < length full = omega arith in
                let same = get_or-set_same full (k / group_size) false false there in
                let now : get_or (slice_set full (k / group_size) false) (k / group_size) false
                ≡ true = ap (λ n. get_or (slice_set full (k / group_size) false) n false)
                (sym p.1) ∙ is_full in
                absurd cc
            | inr p ↦
                let same = get_or-set_other full (k / group_size) (place / group_size) false false
                (λ e. p.1 e) in
                taken_other place lt (λ e. p.1 (ap (λ n. n / group_size) e)) (sym same
                ∙ is_full) free
          ]

module _ (full : List Bool) (ms : List Meaning) (group : ℕ) (groups : AreGroups full ms)
    (none : (place : ℕ) → place < length ms → place < group * group_size
    → meaning_of ms (suc place) ≢ Free) where
  -- none is free up to the end of a full group
  pub past_full : get_or full group false ≡ true → (place : ℕ) → place < length ms
      → place < (group + 1) * group_size → meaning_of ms (suc place) ≢ Free
  past_full is_full place lt below =
      elim (cases_lt place (group * group_size)) [
        | inl before ↦ none place lt before
        | inr here ↦
            let e : place / group_size ≡ group = omega arith in
            groups.taken place lt (ap (λ (n : ℕ). get_or full n false) e ∙ is_full)
      ]

  -- nor up to the end of a group in which none was found
  pub past_searched : (to : ℕ) → NoneFree ms (group * group_size) to
      → (length ms ≤ to) ⊎ ((group + 1) * group_size ≤ to)
      → (place : ℕ) → place < length ms → place < (group + 1) * group_size
      → meaning_of ms (suc place) ≢ Free
  past_searched to found far place lt below =
      elim (cases_lt place (group * group_size)) [
        | inl before ↦ none place lt before
        | inr here ↦ found place here (reach far place lt below)
      ]
    where
      reach : (length ms ≤ to) ⊎ ((group + 1) * group_size ≤ to) → (place : ℕ) → place < length ms
          → place < (group + 1) * group_size → place < to
      reach (inl le) place lt below = omega arith
      reach (inr le) place lt below = omega arith

  -- so that group is full
  pub groups_noted : ((place : ℕ) → place < length ms → place < (group + 1) * group_size
      → meaning_of ms (suc place) ≢ Free) → AreGroups (slice_set full group true) ms
  groups_noted past = record {
    few = omega (arith, groups.few, length-set {A = Bool});
    grouped = omega (arith, groups.grouped, length-set {A = Bool});
    taken = taken;
  }
    where
      taken : (place : ℕ) → place < length ms → get_or (slice_set full group true)
          (place / group_size) false ≡ true → meaning_of ms (suc place) ≢ Free
      taken place lt is_full =
          elim (eqb_tells (place / group_size) group) [
            | inl p ↦
                let e : place / group_size ≡ group = p.1 in
                let below : place < (group + 1) * group_size = omega arith in
                past place lt below
            | inr p ↦ groups.taken place lt (sym (get_or-set_other full group (place / group_size)
                true false (λ e. p.1 e)) ∙ is_full)
          ]
