-- What may be said in a session, and what of it is given.
use Rattle.std.proofs.Common.{[], ◌≡◌, ℕ, Bool, true, false, cond, not, ◌||◌, ◌&&◌, inl, inr, List}
use Rattle.std.proofs.Common.{◌∷◌, ◌++◌, map, refl, sym, ◌∙◌, ap, subst, append_assoc, append-nil}
use Rattle.std.proofs.Common.{filter, true≢false, eq-eqb, eqb-true}
use Rattle.std.specs.List.{list_any}
use Rattle.std.proofs.lemmas.Bool.{or_cases, or_left, or_right, or_parts, false_from_ne_true}
use Rattle.std.proofs.lemmas.List.Folds.{list_any-append}
use Rattle.linx_base.specs.Peers.{same_inc}
use Rattle.linx_base.specs.declared.identity.Inc.{Inc}
use Rattle.linx_base.specs.SigNotes.{SigNote}
use Rattle.trunk_record.specs.Sayings.{Said, published, asked, signaled, unpublished, Given, met}
use Rattle.trunk_record.specs.Sayings.{asked_for, arrived, freed, gone, heard_as, unpublishes}
use Rattle.trunk_record.specs.Sayings.{was_published, was_unpublished, is_live, signals_between}
use Rattle.trunk_record.specs.Sayings.{IsProper, frees, is_shown, is_signal, has_met, has_gone}
use Rattle.trunk_record.specs.Sayings.{AreInTurn}

pub same_inc-itself : (i : Inc) → same_inc i i ≡ true
same_inc-itself i = eq-eqb i.0 i.0 refl

pub same_inc-is : (i j : Inc) → same_inc i j ≡ true → i ≡ j
same_inc-is i j is = ap (λ (n : ℕ). record { 0 = n }) (eqb-true i.0 j.0 is)

-- what is proper, was proper before
pub proper-before : (later before : List Said) → IsProper (later ++ before) → IsProper before
proper-before [] before proper = proper
proper-before (published i name ∷ later) before proper = proper-before later before proper.1
proper-before (asked name ∷ later) before proper = proper-before later before proper
proper-before (signaled i j note ∷ later) before proper = proper-before later before proper.1
proper-before (unpublished i ∷ later) before proper = proper-before later before proper.1

pub live-published : (i : Inc) (said : List Said) → is_live i said ≡ true
    → was_published i said ≡ true
live-published i [] is = is
live-published i (published j name ∷ before) is =
    elim (or_cases (same_inc i j) (is_live i before) is) [
      | inl e ↦ or_left (same_inc i j) (was_published i before) e
      | inr e ↦ or_right (same_inc i j) (was_published i before) (live-published i before e)
    ]
live-published i (asked name ∷ before) is = live-published i before is
live-published i (signaled a b note ∷ before) is = live-published i before is
live-published i (unpublished j ∷ before) is = live-published i before (second (same_inc i j) is)
  where
    second : (t : Bool) → (not t && is_live i before) ≡ true → is_live i before ≡ true
    second true e = absurd (true≢false (sym e))
    second false e = e

-- what was published and not unpublished is live
pub published-live : (i : Inc) (said : List Said) → was_published i said ≡ true
    → was_unpublished i said ≡ false → is_live i said ≡ true
published-live i [] was not_yet = was
published-live i (published j name ∷ before) was not_yet =
    elim (or_cases (same_inc i j) (was_published i before) was) [
      | inl e ↦ or_left (same_inc i j) (is_live i before) e
      | inr e ↦ or_right (same_inc i j) (is_live i before) (published-live i before e not_yet)
    ]
published-live i (asked name ∷ before) was not_yet = published-live i before was not_yet
published-live i (signaled a b note ∷ before) was not_yet = published-live i before was not_yet
published-live i (unpublished j ∷ before) was not_yet =
    let parts = or_parts (same_inc i j) (was_unpublished i before) not_yet in
    ap (λ t. not t && is_live i before) parts.0 ∙ published-live i before was parts.1

pub unpublished-published : (i : Inc) (said : List Said) → IsProper said
    → was_unpublished i said ≡ true → was_published i said ≡ true
unpublished-published i [] proper is = is
unpublished-published i (published j name ∷ before) proper is =
    or_right (same_inc i j) (was_published i before) (unpublished-published i before proper.1 is)
unpublished-published i (asked name ∷ before) proper is = unpublished-published i before proper is
unpublished-published i (signaled a b note ∷ before) proper is =
    unpublished-published i before proper.1 is
unpublished-published i (unpublished j ∷ before) proper is =
    elim (or_cases (same_inc i j) (was_unpublished i before) is) [
      | inl e ↦ let same : i ≡ j = same_inc-is i j e in
          subst (λ (k : Inc). was_published k before ≡ true) (sym same)
          (live-published j before proper.0)
      | inr e ↦ unpublished-published i before proper.1 e
    ]

-- what is live was not unpublished
pub live-not_unpublished : (i : Inc) (said : List Said) → IsProper said → is_live i said ≡ true
    → was_unpublished i said ≡ false
live-not_unpublished i [] proper is = refl
live-not_unpublished i (published j name ∷ before) proper is =
    elim (or_cases (same_inc i j) (is_live i before) is) [
      | inl e ↦ false_from_ne_true (was_unpublished i before) (λ was.
          let same : i ≡ j = same_inc-is i j e in
          true≢false (sym (unpublished-published i before proper.1 was)
          ∙ subst (λ (k : Inc). was_published k before ≡ false) (sym same) proper.0))
      | inr e ↦ live-not_unpublished i before proper.1 e
    ]
live-not_unpublished i (asked name ∷ before) proper is = live-not_unpublished i before proper is
live-not_unpublished i (signaled a b note ∷ before) proper is =
    live-not_unpublished i before proper.1 is
live-not_unpublished i (unpublished j ∷ before) proper is =
    by_test (same_inc i j) (live-not_unpublished i before proper.1) is
  where
    by_test : (t : Bool) → (is_live i before ≡ true → was_unpublished i before ≡ false)
        → (not t && is_live i before) ≡ true → (t || was_unpublished i before) ≡ false
    by_test true before_it e = absurd (true≢false (sym e))
    by_test false before_it e = before_it e

-- signals, said one after the other
pub signals-append : (a b : Inc) (later before : List Said)
    → signals_between a b (later ++ before) ≡ signals_between a b before
    ++ signals_between a b later
signals-append a b [] before = sym (append-nil (signals_between a b before))
signals-append a b (published i name ∷ later) before = signals-append a b later before
signals-append a b (asked name ∷ later) before = signals-append a b later before
signals-append a b (signaled i j note ∷ later) before =
    ap (λ l. l ++ cond (same_inc i a && same_inc j b) (note ∷ []) [])
    (signals-append a b later before)
    ∙ append_assoc (signals_between a b before) (signals_between a b later)
    (cond (same_inc i a && same_inc j b) (note ∷ []) [])
signals-append a b (unpublished i ∷ later) before = signals-append a b later before

pub signals-only : (a b : Inc) (said : List Said)
    → signals_between a b (filter is_signal said) ≡ signals_between a b said
signals-only a b [] = refl
signals-only a b (published i name ∷ before) = signals-only a b before
signals-only a b (asked name ∷ before) = signals-only a b before
signals-only a b (signaled i j note ∷ before) =
    ap (λ l. l ++ cond (same_inc i a && same_inc j b) (note ∷ []) []) (signals-only a b before)
signals-only a b (unpublished i ∷ before) = signals-only a b before

-- after its unpublishing nothing is said from an incarnation
pub none_after : (a b : Inc) (later before : List Said) → IsProper (later ++ before)
    → was_unpublished a before ≡ true → signals_between a b later ≡ []
none_after a b [] before proper was = refl
none_after a b (published i name ∷ later) before proper was =
    none_after a b later before proper.1 was
none_after a b (asked name ∷ later) before proper was = none_after a b later before proper was
none_after a b (signaled i j note ∷ later) before proper was =
    let dead : same_inc i a ≡ false = false_from_ne_true (same_inc i a) (λ e.
    let same : i ≡ a = same_inc-is i a e in
    let live : is_live a (later ++ before) ≡ true =
    subst (λ (k : Inc). is_live k (later ++ before) ≡ true) same proper.0 in
    let there : was_unpublished a (later ++ before) ≡ true =
    list_any-append (unpublishes a) later before
    ∙ or_right (list_any (unpublishes a) later) (list_any (unpublishes a) before) was in
    true≢false (sym there ∙ live-not_unpublished a (later ++ before) proper.1 live)) in
    rw (dead, none_after a b later before proper.1 was) refl
none_after a b (unpublished i ∷ later) before proper was = none_after a b later before proper.1 was

-- the signals that were given, oldest first
abbrev pub arrivals_between : Inc → Inc → List Given → List SigNote
arrivals_between a b [] = []
arrivals_between a b (arrived i j note ∷ before) =
    arrivals_between a b before ++ cond (same_inc i a && same_inc j b) (note ∷ []) []
arrivals_between a b (_ ∷ before) = arrivals_between a b before

pub arrivals-shown : (a b : Inc) (given : List Given)
    → arrivals_between a b (filter is_shown given) ≡ arrivals_between a b given
arrivals-shown a b [] = refl
arrivals-shown a b (met i name ∷ before) = arrivals-shown a b before
arrivals-shown a b (asked_for name ∷ before) = arrivals-shown a b before
arrivals-shown a b (arrived i j note ∷ before) =
    ap (λ l. l ++ cond (same_inc i a && same_inc j b) (note ∷ []) []) (arrivals-shown a b before)
arrivals-shown a b (freed i j note ∷ before) = arrivals-shown a b before
arrivals-shown a b (gone i ∷ before) = arrivals-shown a b before

-- where none of its signals was freed, a receiver was given what was heard
pub arrivals-heard : (a b : Inc) (given : List Given) → list_any (frees b) given ≡ false
    → arrivals_between a b given ≡ signals_between a b (map heard_as given)
arrivals-heard a b [] none = refl
arrivals-heard a b (met i name ∷ before) none = arrivals-heard a b before none
arrivals-heard a b (asked_for name ∷ before) none = arrivals-heard a b before none
arrivals-heard a b (arrived i j note ∷ before) none =
    ap (λ l. l ++ cond (same_inc i a && same_inc j b) (note ∷ []) [])
    (arrivals-heard a b before none)
arrivals-heard a b (freed i j note ∷ before) none =
    let both = or_parts (same_inc b j) (list_any (frees b) before) none in
    let apart : same_inc j b ≡ false = false_from_ne_true (same_inc j b)
    (λ e. true≢false (sym (ap (λ (k : Inc). same_inc k j) (sym (same_inc-is j b e))
    ∙ same_inc-itself j) ∙ both.0)) in
    let no : (same_inc i a && same_inc j b) ≡ false = and_no (same_inc i a) (same_inc j b) apart in
    arrivals-heard a b before both.1 ∙ sym (ap (λ t. signals_between a b (map heard_as before)
    ++ cond t (note ∷ []) []) no ∙ append-nil (signals_between a b (map heard_as before)))
  where
    and_no : (s t : Bool) → t ≡ false → (s && t) ≡ false
    and_no true t e = e
    and_no false t e = refl
arrivals-heard a b (gone i ∷ before) none = arrivals-heard a b before none

-- a peer was met where its publishing was heard
pub met-heard : (a : Inc) (given : List Given)
    → has_met a (filter is_shown given) ≡ was_published a (map heard_as given)
met-heard a [] = refl
met-heard a (met i name ∷ before) = ap (λ t. same_inc a i || t) (met-heard a before)
met-heard a (asked_for name ∷ before) = met-heard a before
met-heard a (arrived i j note ∷ before) = met-heard a before
met-heard a (freed i j note ∷ before) = met-heard a before
met-heard a (gone i ∷ before) = met-heard a before

-- a peer has gone where its unpublishing was heard
pub gone-heard : (a : Inc) (given : List Given)
    → has_gone a (filter is_shown given) ≡ was_unpublished a (map heard_as given)
gone-heard a [] = refl
gone-heard a (met i name ∷ before) = gone-heard a before
gone-heard a (asked_for name ∷ before) = gone-heard a before
gone-heard a (arrived i j note ∷ before) = gone-heard a before
gone-heard a (freed i j note ∷ before) = gone-heard a before
gone-heard a (gone i ∷ before) = ap (λ t. same_inc a i || t) (gone-heard a before)

both : (s t : Bool) → (s && t) ≡ true → t ≡ true
both true t e = e
both false t e = absurd (true≢false (sym e))

-- what was given in turn is the front of what was heard
pub arrivals-front : (a b : Inc) (given : List Given) → AreInTurn given
    → (later : List SigNote)
    × (signals_between a b (map heard_as given) ≡ arrivals_between a b given ++ later)
arrivals-front a b [] turn = ([], refl)
arrivals-front a b (met i name ∷ before) turn = arrivals-front a b before turn
arrivals-front a b (asked_for name ∷ before) turn = arrivals-front a b before turn
arrivals-front a b (arrived i j note ∷ before) turn =
    by_test (same_inc i a && same_inc j b) refl (arrivals-front a b before turn.1)
  where
    heard : List SigNote
    heard = signals_between a b (map heard_as before)

    given : List SigNote
    given = arrivals_between a b before

    none : same_inc j b ≡ true → list_any (frees b) before ≡ false
    none e = subst (λ (k : Inc). list_any (frees k) before ≡ false) (same_inc-is j b e) turn.0

    by_test : (t : Bool) → (same_inc i a && same_inc j b) ≡ t
        → ((later : List SigNote) × (heard ≡ given ++ later))
        → (later : List SigNote)
        × (heard ++ cond t (note ∷ []) [] ≡ (given ++ cond t (note ∷ []) []) ++ later)
    by_test true e before_it = (
      [],
      ap (λ l. l ++ note ∷ [])
          (sym (arrivals-heard a b before (none (both (same_inc i a) (same_inc j b) e))))
          ∙ sym (append-nil (given ++ note ∷ [])),
    )
    by_test false e before_it = (
      before_it.0,
      append-nil heard ∙ before_it.1 ∙ ap (λ l. l ++ before_it.0) (sym (append-nil given)),
    )
arrivals-front a b (freed i j note ∷ before) turn =
    let more : List SigNote = cond (same_inc i a && same_inc j b) (note ∷ []) [] in
    let before_it = arrivals-front a b before turn in (
      before_it.0 ++ more,
      ap (λ l. l ++ more) before_it.1
          ∙ append_assoc (arrivals_between a b before) before_it.0 more,
    )
arrivals-front a b (gone i ∷ before) turn = arrivals-front a b before turn
