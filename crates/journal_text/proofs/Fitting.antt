-- Digests fit the signals at their places, as more are made and as they are looked up.
use Rattle.std.proofs.Common.{◌≡◌, ℕ, zero, suc, ◌+◌, ◌-◌, ◌<◌, List, [], ◌∷◌, ◌++◌, length, drop}
use Rattle.std.proofs.Common.{refl, sym, subst, ap, arith, length-drop, Bor, inl, inr}
use Rattle.std.proofs.Common.{option_copied, ◌⊎◌, Option, Some, None, IfSome, IsSomeAnd, slice_get}
use Rattle.std.proofs.Common.{eq-eqb, ne_eqb}
use Rattle.linx_base.specs.SigNotes.{SigNote}
use Rattle.linx_base.specs.declared.identity.ItemAt.{ItemAt}
use Rattle.journal.specs.declared.effect.Effect.{Effect}
use Rattle.journal.specs.declared.effect.Step.{Step}
use Rattle.journal.specs.Logs.{effect_at, nth_effect, step_at}
use Rattle.journal.specs.Histories.{first_steps}
use Rattle.journal_text.specs.Known.{signal_brought, signal_of, signal_at, AreOf}
use Rattle.journal_text.specs.Known.{Keeps, FitsPlace, FitsStep, Fits}
use Rattle.journal_text.specs.declared.digests.Placed.{Placed}
use Rattle.journal_text.specs.declared.digests.Digests.{Digests}

-- nothing is placed
pub nothing_placed : (digests : Digests) (position : ℕ) (s : Option Step)
    → digests.placed.items ≡ [] → FitsStep digests position s
nothing_placed digests position s none = λ place k p found.
    absurd (by_nothing k p
    (subst (λ (ps : List Placed). slice_get ps k ≡ Some p) none found))
  where
    by_nothing : (k : ℕ) (p : Placed) → slice_get [] k ≡ Some p → ⊥
    by_nothing zero p found = cc
    by_nothing (suc k) p found = cc

-- what is found at a place was there before, or was added
more_found : (xs : List Placed) (x : Placed) (k : ℕ) (p : Placed)
    → slice_get (xs ++ x ∷ []) k ≡ Some p → (slice_get xs k ≡ Some p) ⊎ (p ≡ x)
more_found [] x zero p found = inr cc
more_found [] x (suc k) p found = absurd (by_nothing k found)
  where
    by_nothing : (k : ℕ) → slice_get [] k ≡ Some p → ⊥
    by_nothing zero found = cc
    by_nothing (suc k) found = cc
more_found (y ∷ xs) x zero p found = inl found
more_found (y ∷ xs) x (suc k) p found = more_found xs x k p found

-- what holds of a made digest holds of it where what was made is kept
still_made : (before after : List (List ℕ)) (at : ℕ) (Q : List ℕ → Type 0) → Keeps before after
    → IsSomeAnd (slice_get before at) Q → IsSomeAnd (slice_get after at) Q
still_made before after at Q keeps holds = go (slice_get before at) refl holds
  where
    go : (found : Option (List ℕ)) → slice_get before at ≡ found → IsSomeAnd found Q
        → IsSomeAnd (slice_get after at) Q
    go None is holds = absurd holds
    go (Some bytes) is holds =
        subst (λ (o : Option (List ℕ)). IsSomeAnd o Q) (sym (keeps at bytes is)) holds

-- one more is placed, of the signal there
pub fits_more : (old new : Digests) (steps : List Step) (p : Placed) (note : SigNote)
    → Keeps old.made.items new.made.items
    → slice_get new.made.items p.digest ≡ Some note.bytes
    → new.placed.items ≡ old.placed.items ++ p ∷ []
    → signal_at (step_at steps p.step) p.place ≡ Some note → Fits old steps → Fits new steps
fits_more old new steps p note keeps made grown here fits = λ position place k q found.
    go position place k q
    (more_found old.placed.items p k q
    (subst (λ (ps : List Placed). slice_get ps k ≡ Some q) grown found))
  where
    its_place : IsSomeAnd (slice_get new.made.items p.digest)
        (AreOf (signal_at (step_at steps p.step) p.place))
    its_place =
        subst (λ (o : Option (List ℕ)). IsSomeAnd o (AreOf (signal_at (step_at steps p.step) p.place)))
        (sym made)
        (subst (λ (n : Option SigNote). AreOf n note.bytes) (sym here) refl)

    go : (position place k : ℕ) (q : Placed) → (slice_get old.placed.items k ≡ Some q) ⊎ (q ≡ p)
        → q.step ≡ position → q.place ≡ place
        → IsSomeAnd (slice_get new.made.items q.digest)
        (AreOf (signal_at (step_at steps position) place))
    go position place k q (inl before) at_step at_place =
        still_made old.made.items new.made.items q.digest
        (AreOf (signal_at (step_at steps position) place)) keeps
        (fits position place k q before at_step at_place)
    go position place k q (inr is) at_step at_place =
        let here : IsSomeAnd (slice_get new.made.items q.digest)
        (AreOf (signal_at (step_at steps q.step) q.place)) =
        subst (λ (r : Placed). IsSomeAnd (slice_get new.made.items r.digest)
        (AreOf (signal_at (step_at steps r.step) r.place))) (sym is) its_place in
        let of_step : IsSomeAnd (slice_get new.made.items q.digest)
        (AreOf (signal_at (step_at steps position) q.place)) =
        subst (λ (n : ℕ). IsSomeAnd (slice_get new.made.items q.digest)
        (AreOf (signal_at (step_at steps n) q.place))) at_step here in
        subst (λ (n : ℕ). IsSomeAnd (slice_get new.made.items q.digest)
        (AreOf (signal_at (step_at steps position) n))) at_place of_step

-- what is found at a place of a step is of its signal
pub looked_up : (made : List (List ℕ)) (placed : List Placed) (position place k : ℕ)
    (note : Option SigNote) (p : Placed) (found : Option (Bor (List ℕ)))
    → FitsPlace made placed position place note → slice_get placed k ≡ Some p
    → p.step ≡ position → p.place ≡ place → option_copied found ≡ slice_get made p.digest
    → IfSome found (λ known. AreOf note known.now)
looked_up made placed position place k note p found fits is at_step at_place here =
    go found (subst (λ (o : Option (List ℕ)). IsSomeAnd o (AreOf note)) (sym here)
    (fits k p is at_step at_place))
  where
    go : (found : Option (Bor (List ℕ))) → IsSomeAnd (option_copied found) (AreOf note)
        → IfSome found (λ known. AreOf note known.now)
    go None holds = tt
    go (Some known) holds = holds

-- the digests for an item are of the signal that its effect brings
pub fits_item : (digests : Digests) (steps : List Step) (at : ItemAt) → Fits digests steps
    → FitsPlace digests.made.items digests.placed.items at.step at.place
    (signal_of (effect_at steps at))
fits_item digests steps at fits = λ k p found at_step at_place.
    go (slice_get digests.made.items p.digest) (step_at steps at.step) at.place
    (fits at.step at.place k p found at_step at_place)
  where
    go : (known : Option (List ℕ)) (s : Option Step) (place : ℕ)
        → IsSomeAnd known (AreOf (signal_at s place))
        → IsSomeAnd known (AreOf (signal_of (nth_effect place s)))
    go None s place fits = absurd fits
    go (Some bytes) None zero fits = tt
    go (Some bytes) None (suc k) fits = tt
    go (Some bytes) (Some s) zero fits = tt
    go (Some bytes) (Some s) (suc k) fits = fits

-- the digests for a step are at an effect's place those of its signal
pub fits_effect : (digests : Digests) (position : ℕ) (s : Step) (index : ℕ) (e : Effect)
    → slice_get s.effects index ≡ Some e → FitsStep digests position (Some s)
    → FitsPlace digests.made.items digests.placed.items position (index + 1) (signal_brought e)
fits_effect digests position s index e is fits =
    let here : FitsPlace digests.made.items digests.placed.items position (suc index)
    (signal_brought e) =
    subst (λ (o : Option Effect). FitsPlace digests.made.items digests.placed.items position
    (suc index) (signal_of o))
    is (fits (suc index)) in
    let next : suc index ≡ index + 1 = omega arith in
    subst (λ (place : ℕ). FitsPlace digests.made.items digests.placed.items position place
    (signal_brought e)) next here

-- the step that stands in front of what is left
front_stands : (S : List Step) (n : ℕ) (s : Step) (P : List Step) → drop n S ≡ s ∷ P
    → step_at S (suc (length P)) ≡ Some s
front_stands [] n s P is = absurd (by_count n is)
  where
    by_count : (n : ℕ) → drop n [] ≡ s ∷ P → ⊥
    by_count zero is = cc
    by_count (suc n) is = cc
front_stands (t ∷ S) zero s P is =
    let one : t ≡ s = cc in
    let rest : S ≡ P = cc in
    subst (λ (Q : List Step). step_at (t ∷ S) (suc (length Q)) ≡ Some s) rest
    (subst (λ (u : Step). step_at (t ∷ S) (suc (length S)) ≡ Some u) one
    (rw (eq-eqb (suc (length S)) (suc (length S)) refl) refl))
front_stands (t ∷ S) (suc n) s P is =
    let shorter : suc (length P) < suc (length S) = omega (arith, length-drop n S, ap length is) in
    let other : suc (length P) ≡ suc (length S) → ⊥ = omega arith in
    rw (ne_eqb (suc (length P)) (suc (length S)) other) (front_stands S n s P is)

-- the digests fit the next step, as a journal is read in order
pub fits_next : (digests : Digests) (S : List Step) (k : ℕ) (s : Step)
    → first_steps (k + 1) S ≡ s ∷ first_steps k S → length (first_steps k S) ≡ k → Fits digests S
    → FitsStep digests (k + 1) (Some s)
fits_next digests S k s next count fits =
    let position : suc (length (first_steps k S)) ≡ k + 1 = omega arith in
    let stands : step_at S (k + 1) ≡ Some s = subst (λ (n : ℕ). step_at S n ≡ Some s) position
    (front_stands S (length S - (k + 1)) s (first_steps k S) next) in
    subst (λ (o : Option Step). FitsStep digests (k + 1) o) stands (fits (k + 1))
