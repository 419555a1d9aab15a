-- A change that is undone leaves what was before it.
use Rattle.std.proofs.Common.{◌≡◌, ℕ, zero, suc, ◌+◌, ◌-◌, ◌<◌, ◌≤◌, List, [], ◌∷◌, ◌++◌, length}
use Rattle.std.proofs.Common.{get_or, take, Option, Some, None, refl, sym, ap, subst, ◌∙◌, inl, inr}
use Rattle.std.proofs.Common.{arith, slice_get, slice_set, IsSome}
use Rattle.std.proofs.lemmas.Bool.{cases_lt}
use Rattle.std.proofs.lemmas.List.{take_more}
use Rattle.link_addresses.specs.declared.meaning.Meaning.{Meaning}
use Rattle.link_addresses.specs.declared.meaning.Meaning.TheVariants.{Free, Live, Closing}
use Rattle.link_addresses.specs.declared.change.Change.{Change}
use Rattle.link_addresses.specs.Meanings.{meaning_of}
use Rattle.link_addresses.specs.Finding.{IsPut}
use Rattle.link_addresses.specs.WayBack.{with_former, undone, CanReturn, CanUndo}

former_behind : (x : Meaning) (ms : List Meaning) (k : ℕ) (o : Option Meaning)
    → with_former (x ∷ ms) (suc k) o ≡ x ∷ with_former ms k o
former_behind x ms k (Some m) = refl
former_behind x ms k None = refl

set_back : (ms : List Meaning) (k : ℕ) (m : Meaning) → k < length ms
    → with_former (slice_set ms k m) k (slice_get ms k) ≡ ms
set_back [] k m lt = absurd (omega arith)
set_back (x ∷ ms) zero m lt = refl
set_back (x ∷ ms) (suc k) m lt = former_behind x (slice_set ms k m) k (slice_get ms k)
    ∙ ap (λ (l : List Meaning). x ∷ l) (set_back ms k m (omega arith))

push_back : (ms : List Meaning) (m : Meaning)
    → with_former (ms ++ m ∷ []) (length ms) (slice_get ms (length ms)) ≡ ms
push_back [] m = refl
push_back (x ∷ ms) m = former_behind x (ms ++ m ∷ []) (length ms) (slice_get ms (length ms))
    ∙ ap (λ (l : List Meaning). x ∷ l) (push_back ms m)

-- what was put at a place goes away again
pub put_back : (ms new : List Meaning) (k : ℕ) (m : Meaning) → IsPut ms k m new
    → with_former new k (slice_get ms k) ≡ ms
put_back ms new k m put =
    elim (cases_lt k (length ms)) [
      | inl lt ↦ rw (put.inside lt) (set_back ms k m lt)
      | inr ge ↦
          let e : k ≡ length ms = omega (arith, put.within) in
          rw (put.past e, e) (push_back ms m)
    ]

-- ---- the last change

module _ (c : Change) (ms : List Meaning) where
  pub undone_last : (cs : List Change) → undone (cs ++ c ∷ []) ms
      ≡ undone cs (with_former ms c.place c.former)
  undone_last [] = refl
  undone_last (d ∷ cs) = ap (λ (l : List Meaning). with_former l d.place d.former) (undone_last cs)

  pub can_with_last : (f : ℕ → Option ℕ) (cs : List Change) → CanReturn f ms c.place c.former
      → CanUndo f cs (with_former ms c.place c.former) → CanUndo f (cs ++ c ∷ []) ms
  can_with_last f [] here can = (here, can)
  can_with_last f (d ∷ cs) here can = (
    subst (λ (l : List Meaning). CanReturn f l d.place d.former) (sym (undone_last cs)) can.0,
    can_with_last f cs here can.1,
  )

  pub can_last : (f : ℕ → Option ℕ) (cs : List Change) → CanUndo f (cs ++ c ∷ []) ms
      → CanReturn f ms c.place c.former
  can_last f [] can = can.0
  can_last f (d ∷ cs) can = can_last f cs can.1

  pub can_others : (f : ℕ → Option ℕ) (cs : List Change) → CanUndo f (cs ++ c ∷ []) ms
      → CanUndo f cs (with_former ms c.place c.former)
  can_others f [] can = can.1
  can_others f (d ∷ cs) can = (
    subst (λ (l : List Meaning). CanReturn f l d.place d.former) (undone_last cs) can.0,
    can_others f cs can.1,
  )

-- ---- an index with further entries

module _ (f g : ℕ → Option ℕ) (grown : (number : ℕ) → IsSome (f number) → IsSome (g number)) where
  return_more : (ms : List Meaning) (k : ℕ) (o : Option Meaning) → CanReturn f ms k o
      → CanReturn g ms k o
  return_more ms k None can = can
  return_more ms k (Some Free) can = can
  return_more ms k (Some (Live inc)) can = (can.0, can.1, can.2, grown inc.0 can.3)
  return_more ms k (Some (Closing inc)) can = can

  pub can_more : (cs : List Change) (ms : List Meaning) → CanUndo f cs ms → CanUndo g cs ms
  can_more [] ms can = can
  can_more (c ∷ cs) ms can = (
    return_more (undone cs ms) c.place c.former can.0,
    can_more cs ms can.1,
  )

-- ---- a change more

module _ (f g : ℕ → Option ℕ) (cs : List Change) (ms new : List Meaning) (c : Change)
    (back : with_former new c.place c.former ≡ ms) where
  pub undone_more : undone (cs ++ c ∷ []) new ≡ undone cs ms
  undone_more = undone_last c new cs ∙ ap (undone cs) back

  pub can_undo_more : ((number : ℕ) → IsSome (f number) → IsSome (g number))
      → CanReturn g new c.place c.former → CanUndo f cs ms → CanUndo g (cs ++ c ∷ []) new
  can_undo_more grown here can =
      can_with_last c new g cs here (subst (λ (l : List Meaning). CanUndo g cs l) (sym back)
      (can_more f g grown cs ms can))

-- what may stand at a place that is free, live or closing
pub free_returns : (f : ℕ → Option ℕ) (ms new : List Meaning) (k : ℕ) → meaning_of ms (suc k) ≡ Free
    → k < length new → CanReturn f new k (slice_get ms k)
free_returns f ms new k free lt = by_slot (slice_get ms k) (slot_free ms k free)
  where
    slot_free : (ms : List Meaning) (k : ℕ) → meaning_of ms (suc k) ≡ Free → (m : Meaning)
        → slice_get ms k ≡ Some m → m ≡ Free
    slot_free [] k free m e = absurd cc
    slot_free (x ∷ ms) zero free m e = cc
    slot_free (x ∷ ms) (suc k) free m e = slot_free ms k free m e

    by_slot : (o : Option Meaning) → ((m : Meaning) → o ≡ Some m → m ≡ Free) → CanReturn f new k o
    by_slot None is_free = tt
    by_slot (Some Free) is_free = lt
    by_slot (Some (Live inc)) is_free = lt_absurd (is_free (Live inc) refl)
      where
        lt_absurd : Live inc ≡ Free → CanReturn f new k (Some (Live inc))
        lt_absurd e = absurd cc
    by_slot (Some (Closing inc)) is_free = lt

pub slot_is : (ms : List Meaning) (k : ℕ) → k < length ms
    → slice_get ms k ≡ Some (meaning_of ms (suc k))
slot_is [] k lt = absurd (omega arith)
slot_is (x ∷ ms) zero lt = refl
slot_is (x ∷ ms) (suc k) lt = slot_is ms k (omega arith)

-- ---- undoing the last of some changes

module _ (f : ℕ → Option ℕ) (cs : List Change) (left : ℕ) (d : Change) (some : 0 < left)
    (within : left ≤ length cs) (ms : List Meaning)
    (can : CanUndo f (take left cs) ms) where
  last_of : take left cs ≡ take (left - 1) cs ++ get_or cs (left - 1) d ∷ []
  last_of =
      let e : left ≡ left - 1 + 1 = omega arith in
      ap (λ (n : ℕ). take n cs) e ∙ take_more cs (left - 1) d (omega arith)

  split : CanUndo f (take (left - 1) cs ++ get_or cs (left - 1) d ∷ []) ms
  split = subst (λ (l : List Change). CanUndo f l ms) last_of can

  pub last_returns : CanReturn f ms (get_or cs (left - 1) d).place (get_or cs (left - 1) d).former
  last_returns = can_last (get_or cs (left - 1) d) ms f (take (left - 1) cs) split

  module _ (new : List Meaning) (former : new ≡ with_former ms (get_or cs (left - 1) d).place
      (get_or cs (left - 1) d).former) where
    pub undone_before : undone (take (left - 1) cs) new ≡ undone (take left cs) ms
    undone_before =
        ap (undone (take (left - 1) cs)) former
        ∙ sym (undone_last (get_or cs (left - 1) d) ms (take (left - 1) cs))
        ∙ ap (λ (l : List Change). undone l ms) (sym last_of)

    pub can_before : (g : ℕ → Option ℕ) → ((number : ℕ) → IsSome (f number) → IsSome (g number))
        → CanUndo g (take (left - 1) cs) new
    can_before g grown =
        subst (λ (l : List Meaning). CanUndo g (take (left - 1) cs) l) (sym former)
        (can_more f g grown (take (left - 1) cs) (with_former ms (get_or cs (left - 1) d).place
        (get_or cs (left - 1) d).former)
        (can_others (get_or cs (left - 1) d) ms f (take (left - 1) cs) split))
