-- The first match in two lists, one behind the other, and the last element of both.
use Rattle.std.proofs.Common.{true≢false, ◌≡◌, ℕ, zero, suc, ◌+◌, ◌-◌, ◌<◌, inl, inr, Bool, true}
use Rattle.std.proofs.Common.{false, List, [], ◌∷◌, ◌++◌, ◌∙◌, length, take, get_or, refl, ap, sym}
use Rattle.std.proofs.Common.{subst, append-nil, length-append, arith, Option, Some, None, Result}
use Rattle.std.proofs.Common.{Ok, Err, IfNone, IfSome, OnOk, is_some, slice_get, All}
use Rattle.std.proofs.lemmas.Option.{slice_get-get_or, slice_get_within}
use Rattle.linx_base.specs.FirstMatch.{TakesEarliest, first_match, without_match}
use Rattle.linx_base.proofs.FirstMatches.{all_fail_first_match, earliest_first_match}
use Rattle.endpoint_queue.proofs.Waitings.{either}

-- THE FIRST MATCH
module _ {X : Type 0} (p : X → Bool) (back : List X) where
  -- it is in the front
  pub first_in_front : (front : List X) (x : X) → Some x ≡ first_match p front
      → (Some x ≡ first_match p (front ++ back))
      × (without_match p (front ++ back) ≡ without_match p front ++ back)
  first_in_front [] x is = absurd (let bad : Some x ≡ None = is in cc)
  first_in_front (y ∷ front) x is = elim (either (p y)) [
    | inl hit ↦
        let found : Some x ≡ Some y = rw hit at is in
        (rw hit found, rw hit refl)
    | inr miss ↦
        let later : Some x ≡ first_match p front = rw miss at is in
        let rest = first_in_front front x later in
        (rw miss rest.0, rw miss (ap (λ l. y ∷ l) rest.1))
  ]

  -- or behind it
  pub first_behind : (front : List X) → None ≡ first_match p front
      → (first_match p (front ++ back) ≡ first_match p back)
      × (without_match p (front ++ back) ≡ front ++ without_match p back)
  first_behind [] none = (refl, refl)
  first_behind (y ∷ front) none = elim (either (p y)) [
    | inl hit ↦
        absurd (let found : None ≡ Some y = rw hit at none in cc)
    | inr miss ↦
        let later : None ≡ first_match p front = rw miss at none in
        let rest = first_behind front later in
        (rw miss rest.0, rw miss (ap (λ l. y ∷ l) rest.1))
  ]

  -- or there is none
  pub some_of_both : (front : List X) → is_some (first_match p front) ≡ true
      → is_some (first_match p (front ++ back)) ≡ true
  some_of_both front some = by (first_match p front) refl some
    where
      by : (o : Option X) → first_match p front ≡ o → is_some o ≡ true
          → is_some (first_match p (front ++ back)) ≡ true
      by None e some = absurd (true≢false (sym some))
      by (Some x) e some = ap is_some (sym (first_in_front front x (sym e)).0)

  pub some_behind : (front : List X) → is_some (first_match p front) ≡ false
      → is_some (first_match p (front ++ back)) ≡ is_some (first_match p back)
  some_behind front none = by (first_match p front) refl none
    where
      by : (o : Option X) → first_match p front ≡ o → is_some o ≡ false
          → is_some (first_match p (front ++ back)) ≡ is_some (first_match p back)
      by None e none = ap is_some (first_behind front (sym e)).0
      by (Some x) e none = absurd (true≢false none)

-- where every element would match, there is none
pub none_at_all : {X : Type 0} (items : List X) → is_some (first_match (λ x. true) items) ≡ false
    → items ≡ []
none_at_all [] none = refl
none_at_all (x ∷ items) none = absurd (true≢false none)

-- WHAT IS TAKEN, as a relation
module _ {X : Type 0} (p : X → Bool) (old : List X) where
  pub earliest_taken : (result : Option X) (left : List X) → result ≡ first_match p old
      → left ≡ without_match p old → IfSome result (λ x. TakesEarliest p old x left)
  earliest_taken None left is gone = tt
  earliest_taken (Some x) left is gone =
      subst (λ l. TakesEarliest p old x l) (sym gone) (earliest_first_match p old x is)

  pub none_taken : (result : Option X) → result ≡ first_match p old
      → IfNone result (All (λ x. p x ≡ false) old)
  none_taken None is = all_fail_first_match p old is
  none_taken (Some x) is = tt

-- WHERE NONE IS BEHIND
pub alone : {X : Type 0} (front back old : List X) → back ≡ [] → front ++ back ≡ old → front ≡ old
alone front back old none whole =
    sym (append-nil front) ∙ ap (λ l. front ++ l) (sym none) ∙ whole

pub added : {E X : Type 0} (result : Result (Unit {0}) E) (front back old new : List X) (x : X)
    → back ≡ [] → front ++ back ≡ old → OnOk result (new ≡ front ++ x ∷ [])
    → OnOk result (new ++ back ≡ old ++ x ∷ [])
added (Ok u) front back old new x none whole is =
    ap (λ l. new ++ l) none ∙ append-nil new ∙ is
    ∙ ap (λ l. l ++ x ∷ []) (alone front back old none whole)
added (Err e) front back old new x none whole is = tt

-- THE LAST ELEMENT
module _ {X : Type 0} where
  pub no_last : (back : List X) → None ≡ slice_get back (length back - 1) → back ≡ []
  no_last [] none = refl
  no_last (x ∷ back) none =
      let last = length (x ∷ back) - 1 in
      let there : slice_get (x ∷ back) last ≡ Some (get_or (x ∷ back) last x) =
      slice_get-get_or (x ∷ back) last x (omega arith) in
      absurd (true≢false (sym (ap is_some (none ∙ there))))

  behind : (front back : List X) (n k : ℕ) → length front + k ≡ n
      → slice_get (front ++ back) n ≡ slice_get back k
  behind [] back n k is = ap (slice_get back) (omega arith)
  behind (y ∷ front) back zero k is = absurd (omega arith)
  behind (y ∷ front) back (suc n) k is = behind front back n k (omega arith)

  before : (front back : List X) (n k : ℕ) → length front + k ≡ n
      → take n (front ++ back) ≡ front ++ take k back
  before [] back n k is = ap (λ m. take m back) (omega arith)
  before (y ∷ front) back zero k is = absurd (omega arith)
  before (y ∷ front) back (suc n) k is =
      ap (λ l. y ∷ l) (before front back n k (omega arith))

  module _ (front back : List X) (x : X) (is : Some x ≡ slice_get back (length back - 1)) where
    at_last : length front + (length back - 1) ≡ length (front ++ back) - 1
    at_last =
        let some : length back - 1 < length back =
        slice_get_within back (length back - 1) x (sym is) in
        omega (arith, length-append front back)

    pub last_of_both : Some x ≡ slice_get (front ++ back) (length (front ++ back) - 1)
    last_of_both =
        is ∙ sym (behind front back (length (front ++ back) - 1) (length back - 1) at_last)

    pub others_of_both : front ++ take (length back - 1) back
        ≡ take (length (front ++ back) - 1) (front ++ back)
    others_of_both =
        sym (before front back (length (front ++ back) - 1) (length back - 1) at_last)
