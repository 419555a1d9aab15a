-- A seat as a place: what its model shows, and what a give leaves.
use Rattle.std.proofs.Common.{◌≡◌, ℕ, ◌<◌, List, [], ◌∷◌, Option, Some, true, refl, sym, ap, ◌∙◌}
use Rattle.std.proofs.Common.{subst}
use Rattle.atomic_table.specs.Seated.{TableId}
use Rattle.atomic_table.specs.Table.{Me, rest}
use Rattle.turn_lock.specs.declared.story.Made.{Made}
use Rattle.turn_lock.specs.declared.turns.Front.{Front}
use Rattle.turn_lock.specs.declared.turns.Known.{Known}
use Rattle.turn_lock.specs.Passes.{PassView}
use Rattle.turn_lock.specs.Turns.{PlaceView, HasFront, front, front_of, fixed_first, seen_first}
use Rattle.turn_lock.specs.Turns.{with_seen, resting, place_view, at_rest, with_nothing}

-- the seat of this pass holds the slot with the state x in it
pub record IsPut {S E F : Type 0} (p : PassView E F) (x : S) (m : Me (Option S) (Known E F)) :
    Type 0 where
  pub holds : m.0.holds ≡ true
  pub fronts : m.0.fronts ≡ front_of p ∷ []
  pub taken : m.1 ≡ (0, Some x) ∷ []

module _ {S E F : Type 0} (none : F) (id : TableId) (n : ℕ) (m : Me (Option S) (Known E F)) where
  module _ (p : PlaceView S E F) (front : HasFront none n m.0)
      (view : place_view none id n m ≡ p) where
    -- the one front of a place is that of its pass
    pub fronts_of : m.0.fronts ≡ front_of p.pass ∷ []
    fronts_of = front.1 ∙ ap (λ (q : PlaceView S E F). front_of q.pass ∷ []) view

    -- after an exchange that put the state x in
    pub is_put : (m' : Me (Option S) (Known E F)) (x : S) → p ≡ with_nothing p.pass
        → m' ≡ (m.0, (0, Some x) ∷ rest m.1) → IsPut p.pass x m'
    is_put m' x out put = record {
      holds = ap (λ (k : Me (Option S) (Known E F)). k.0.holds) put
          ∙ ap (λ (q : PlaceView S E F). q.holds) (view ∙ out);
      fronts = ap (λ (k : Me (Option S) (Known E F)). k.0.fronts) put ∙ fronts_of;
      taken = ap (λ (k : Me (Option S) (Known E F)). k.1) put
          ∙ ap (λ (q : PlaceView S E F). (0, Some x) ∷ rest q.taken) (view ∙ out);
    }

  -- after a give there is still one front, and the pass has seen the story that was given
  pub record IsGiven (p : PassView E F) (story : List (Made E)) : Type 0 where
    pub front : HasFront none n m.0
    pub rests : place_view none id n m ≡ at_rest (record p { front = story })

  pub is_given : (p : PassView E F) (story : List (Made E)) → 0 < n → id ≡ p.lock
      → n ≡ p.number → m ≡ (resting (with_seen (front_of p) story), []) → IsGiven p story
  is_given p story some_pass lock number gave = record {
    front = (
      some_pass,
      subst
          (λ (y : ℕ × List (Front E F)).
          y.1 ≡ front y.0 (fixed_first none y.1) (seen_first y.1) ∷ [])
          (λ i. (sym number i, (sym gave i).0.fronts)) refl,
    );
    rests = λ i. place_view none (lock i) (number i) (gave i);
  }
