-- A walk over the elements of chunks.
use Rattle.std.proofs.Common.{◌≡◌, ℕ, zero, suc, ◌<◌, List, [], ◌∷◌, ◌++◌, length, drop, refl, sym}
use Rattle.std.proofs.Common.{ap, ◌∙◌, subst, arith, Some, None, slice_get}
use Rattle.sorted_set.specs.Chunks.{AreFilled, IsReady, joined}

module _ {X : Type 0} where
  pub filled_drop : (n : ℕ) (chunks : List (List X)) → AreFilled chunks → AreFilled (drop n chunks)
  filled_drop zero chunks filled = filled
  filled_drop (suc n) [] filled = tt
  filled_drop (suc n) (c ∷ chunks) filled = filled_drop n chunks filled.1

  pub none_before : (here xs : List X) → length here ≡ 0 → xs ≡ here ++ xs
  none_before [] xs none = refl
  none_before (x ∷ here) xs none = absurd (omega arith)

  -- the next chunk in place of one that is done
  pub begun_ready : (later : List (List X)) (chunk here : List X) (rest : List (List X))
      → AreFilled later → Some chunk ≡ slice_get later 0 → here ≡ chunk → rest ≡ drop 1 later
      → IsReady here rest
  begun_ready [] chunk here rest filled is here_is rest_is = cc is
  begun_ready (c ∷ later) chunk here rest filled is here_is rest_is =
      let same : chunk ≡ c = cc is in
      let long : length here ≡ length c = ap length (here_is ∙ same) in
      let some : 0 < length c = filled.0 in
      record {
        filled = subst AreFilled (sym rest_is) filled.1;
        stands = λ empty. absurd (omega arith);
      }

  pub begun_elements : (later : List (List X)) (chunk here : List X) (rest : List (List X))
      → Some chunk ≡ slice_get later 0 → here ≡ chunk → rest ≡ drop 1 later
      → here ++ joined rest ≡ joined later
  begun_elements [] chunk here rest is here_is rest_is = cc is
  begun_elements (c ∷ later) chunk here rest is here_is rest_is =
      let same : chunk ≡ c = cc is in
      (λ i. here_is i ++ joined (rest_is i)) ∙ ap (λ l. l ++ joined later) same

  pub none_ready : (here : List X) (later : List (List X)) → None ≡ slice_get later 0
      → IsReady here later
  none_ready here [] none = record { filled = tt; stands = λ empty. refl }
  none_ready here (c ∷ later) none = cc none

  pub some_ready : (here : List X) (later : List (List X)) → 0 < length here → AreFilled later
      → IsReady here later
  some_ready here later some filled =
      record { filled = filled; stands = λ empty. absurd (omega arith) }

  -- the next element is the first of those that are here
  pub first_here : (here : List X) (later : List (List X)) → IsReady here later
      → slice_get here 0 ≡ slice_get (here ++ joined later) 0
  first_here [] later ready = sym (ap (λ l. slice_get (joined l) 0) (ready.stands refl))
  first_here (x ∷ here) later ready = refl

  -- none is left
  pub none_left : (here : List X) (later : List (List X)) → IsReady here later → length here ≡ 0
      → here ++ joined later ≡ drop 1 (here ++ joined later)
  none_left [] later ready none =
      let all : joined later ≡ [] = ap joined (ready.stands refl) in
      all ∙ sym (ap (drop 1) all)
  none_left (x ∷ here) later ready none = absurd (omega arith)

  -- the first is gone
  pub one_left : (here : List X) (later : List (List X)) → 0 < length here
      → drop 1 here ++ joined later ≡ drop 1 (here ++ joined later)
  one_left [] later some = absurd (omega arith)
  one_left (x ∷ here) later some = refl
