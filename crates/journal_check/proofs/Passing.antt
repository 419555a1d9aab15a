-- The standings, passed one by one.
use Rattle.std.proofs.Common.{◌≡◌, ◌≢◌, ℕ, ◌+◌, ◌<◌, ◌≤◌, Bool, true, false, List, length, Some}
use Rattle.std.proofs.Common.{Option, refl, sym, ◌∙◌, ap, subst, arith, ◌==◌, slice_get, slice_set}
use Rattle.std.proofs.Common.{OnOk, Result, eq-eqb, eqb-true, true≢false}
use Rattle.journal_check.specs.declared.standing.Standing.{Standing}
use Rattle.journal_check.proofs.Lists.{get-set, get-set-other}

module _ (old now : List Standing) (place : ℕ) (new was : Standing) (f : ℕ → Standing → Standing)
    (within : place < length now)
    (done : (k : ℕ) (x : Standing) → k < place → slice_get old k ≡ Some x
    → slice_get now k ≡ Some (f k x))
    (rest : (k : ℕ) → place ≤ k → slice_get now k ≡ slice_get old k)
    (there : slice_get now place ≡ Some was) (is : new ≡ f place was) where
  -- one more is past
  pub pass-more : (k : ℕ) (x : Standing) → k < place + 1 → slice_get old k ≡ Some x
      → slice_get (slice_set now place new) k ≡ Some (f k x)
  pass-more k x under read = go (place == k) refl
    where
      go : (b : Bool) → (place == k) ≡ b → slice_get (slice_set now place new) k ≡ Some (f k x)
      go true e =
          let same : place ≡ k = eqb-true place k e in
          let one : (let o : Option Standing = Some was in o) ≡ Some x =
          sym there ∙ rest place (omega arith) ∙ ap (slice_get old) same ∙ read in
          let was_x : was ≡ x = cc in
          subst (λ (j : ℕ). slice_get (slice_set now place new) j ≡ Some (f j x)) same
          (get-set now place new within
          ∙ ap (λ (y : Standing). Some y) (is ∙ ap (f place) was_x))
      go false e =
          let other : place ≢ k = λ same. true≢false (sym (eq-eqb place k same) ∙ e) in
          get-set-other now place k new other ∙ done k x (omega (arith, under, other)) read

  -- and the rest are as they were
  pub pass-rest : (k : ℕ) → place + 1 ≤ k → slice_get (slice_set now place new) k ≡ slice_get old k
  pass-rest k above =
      let other : place ≢ k = λ same. (let h : place ≡ k = same in absurd (omega arith)) in
      get-set-other now place k new other ∙ rest k (omega arith)

-- what holds of an Ok, and what follows from it
pub on-ok : {A E : Type 0} (r : Result A E) (P Q : Type 0) → (P → Q) → OnOk r P → OnOk r Q
on-ok (Result.Ok a) P Q follows is = follows is
on-ok (Result.Err e) P Q follows is = tt
