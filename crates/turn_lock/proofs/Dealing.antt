-- A new lock meets the rule, and a deal keeps it.
use Rattle.std.proofs.Common.{◌≡◌, ◌≢◌, ℕ, zero, suc, ◌+◌, ◌<◌, eqb, cond, List, [], ◌∷◌, ◌++◌}
use Rattle.std.proofs.Common.{length, set, Option, Some, true, false, sym, refl, ap, ◌∙◌, subst}
use Rattle.std.proofs.Common.{⊎_elim, arith, length-set, eq-eqb, ne_eqb, append-nil}
use Rattle.std.proofs.lemmas.List.Elements.{All-nil, All-cons, All-weaker}
use mathlib.Core.Option.{some, some-injective, some-ne-none}
use lib.ListN.{get_elem?}
use Rattle.atomic_table.specs.Table.{State, Splits, opening}
use Rattle.atomic_table.proofs.Lists.{set_else, at_longer}
use Rattle.turn_lock.specs.declared.turns.Front.{Front}
use Rattle.turn_lock.specs.declared.turns.Known.{Known}
use Rattle.turn_lock.specs.Turns.{front, resting, dealing, next_front, dealt, dealt_next, FitsFront}
use Rattle.turn_lock.specs.Turns.{FitsView}
use Rattle.turn_lock.proofs.Lists.{at_end, head_same}
use Rattle.turn_lock.proofs.Rule.{Setting, Rule, base, held_by, views_set, fits_resting, Fits}
use Rattle.turn_lock.proofs.Rule.{FitsAs, only_front}
use Rattle.turn_lock.proofs.Stories.{rests_itself, more_makers, made_by-above}

-- the seat of the number n is `at`, and that of any other is as it was
abbrev seated : (seat : ℕ → ℕ) → ℕ → ℕ → ℕ → ℕ
seated seat n at k = cond (eqb k n) at (seat k)

seated_else : (seat : ℕ → ℕ) (n at k : ℕ) → k ≢ n → seated seat n at k ≡ seat k
seated_else seat n at k apart = ap (λ b. cond b at (seat k)) (ne_eqb k n apart)

seated_here : (seat : ℕ → ℕ) (n at : ℕ) → seated seat n at n ≡ at
seated_here seat n at = ap (λ b. cond b at (seat n)) (eq-eqb n n refl)

module _ {S E F : Type 0} (t : Setting S E F) where
  -- the first front, at the first seat
  first_fits : FitsFront {E = E} [] (base t) 1 (λ _. 0) 0 (front 1 (base t) [])
  first_fits = record {
    dealt = (omega arith, omega arith);
    seated = refl;
    same = refl;
    rests = rests_itself 1 [];
  }

  only_view : (at : ℕ) (v : Known E F)
      → get_elem? (dealing (front 1 (base t) []) ∷ []) at ≡ some v
      → FitsView [] (base t) 1 (λ _. 0) 0 at v
  only_view zero v e = subst (FitsView [] (base t) 1 (λ _. 0) 0 0) (some-injective _ _ e) record {
    fronts = All-cons (FitsFront [] (base t) 1 (λ _. 0) 0) (front 1 (base t) []) [] first_fits
        (All-nil _);
    held = λ e. cc;
    last = λ _. ([], refl);
  }
  only_view (suc at) v e = absurd (some-ne-none v (sym e))

  pub opens : (x : S) → x ≡ t.about.state.value → t.story_of x ≡ [] → 0 < t.about.seats
      → Rule t (opening (0 ∷ []) (Some x ∷ []) (dealing (front 1 (base t) [])))
  opens x is fresh some_seat = record {
    story = [];
    top = 1;
    seat = λ _. 0;
    one_word = refl;
    few = omega arith;
    makers = All-nil _;
    views = λ at v e. only_view at v e;
    home = λ _. (x, refl, fresh, ap t.fixed_of is, refl);
    out = λ l. absurd (omega arith);
  }

  -- the seat `id` deals, and its front is f
  module _ (id : ℕ) (f : Front E F) {s : State (Option S) (Known E F)} (r : Rule t s)
      (here : get_elem? s.views id ≡ some (dealing f)) where
    number : f.number ≡ r.top
    number = let last = (r.views id (dealing f) here).last refl in
        ap (λ (g : Front E F). g.number) (head_same f (front r.top (base t) last.0) last.1)

    mine : Fits t r id f
    mine = only_front t r id (dealing f) f here refl

    -- the seats of the numbers, with one number more
    abbrev seats : ℕ → ℕ
    seats = seated r.seat (r.top + 1) (length s.views)

    abbrev FitsNow : ℕ → Front E F → Type 0
    FitsNow = FitsFront r.story (base t) (r.top + 1) seats

    abbrev FitsMore : ℕ → Known E F → Type 0
    FitsMore = FitsView r.story (base t) (r.top + 1) seats (held_by s)

    -- a view that doesn't deal fits still
    still_fits : (at : ℕ) (v : Known E F) → (v.deals ≡ true → ⊥) → FitsAs t r (held_by s) at v
        → FitsMore at v
    still_fits at v idle k = record {
      fronts = All-weaker (Fits t r at) (FitsNow at) (λ g h. let few = h.dealt.1 in record {
        dealt = (h.dealt.0, omega arith);
        seated = seated_else r.seat (r.top + 1) (length s.views) g.number (λ e. omega arith)
            ∙ h.seated;
        same = h.same;
        rests = h.rests;
      }) v.fronts k.fronts;
      held = k.held;
      last = λ e. absurd (idle e);
    }

    -- the new seat deals on
    new_fits : FitsMore (length s.views) (dealing (next_front f))
    new_fits =
        let new : Front E F = front (r.top + 1) (base t) [] in
        let is : next_front f ≡ new = λ i. front (number i + 1) (mine.same i) [] in
        let P : Front E F → Type 0 = FitsNow (length s.views) in
        let fits : P new = record {
          dealt = (omega arith, omega arith);
          seated = seated_here r.seat (r.top + 1) (length s.views);
          same = refl;
          rests = (
            r.story,
            sym (append-nil r.story),
            made_by-above (r.top + 1) r.top r.story (omega arith) r.makers,
          );
        } in record {
          fronts = All-cons P (next_front f) [] (subst P (sym is) fits) (All-nil P);
          held = λ e. cc;
          last = λ _. ([], ap (λ (g : Front E F). g ∷ []) is);
        }

    -- no other seat deals
    one_deals : (j : ℕ) (v : Known E F) → j ≢ id → get_elem? s.views j ≡ some v → v.deals ≡ true → ⊥
    one_deals j v apart there deals =
        let last = (r.views j v there).last deals in
        let g = only_front t r j v (front r.top (base t) last.0) there last.1 in
        apart (sym g.seated ∙ (ap r.seat (sym number) ∙ mine.seated))

    abbrev old_views : List (Known E F)
    old_views = set s.views id (resting f)

    dealt_views : (at : ℕ) (v : Known E F)
        → get_elem? (old_views ++ dealing (next_front f) ∷ []) at ≡ some v → FitsMore at v
    dealt_views at v e = ⊎_elim
        (views_set FitsMore s.views id (resting f)
        (still_fits id (resting f) (λ e. cc)
        (fits_resting (r.views id (dealing f) here).fronts))
        (λ j u apart there. still_fits j u (one_deals j u apart there) (r.views j u there))
        at v)
        (λ (last : (at ≡ length old_views) × (dealing (next_front f) ≡ v)).
        subst (λ (x : ℕ × Known E F). FitsMore x.0 x.1)
        (λ i. (sym (last.0 ∙ length-set s.views id (resting f)) i, last.1 i)) new_fits)
        (at_end old_views (dealing (next_front f)) v at e)

    -- who holds the state holds it still
    still_out : 0 < held_by s
        → (at : ℕ) × (v : Known E F)
        × (get_elem? (old_views ++ dealing (next_front f) ∷ []) at ≡ some v) × (v.holds ≡ true)
    still_out away =
        let o = r.out away in
        let apart : o.0 ≢ id = λ e.
        let u : o.1 ≡ dealing f = some-injective o.1 (dealing f)
        (sym o.2 ∙ (ap (get_elem? s.views) e ∙ here)) in
        let no : true ≡ false = sym o.3 ∙ ap (λ (k : Known E F). k.holds) u in cc in (
          o.0,
          o.1,
          at_longer old_views (dealing (next_front f) ∷ []) o.0 o.1
              (set_else s.views id o.0 (resting f) apart ∙ o.2),
          o.3,
        )

    dealt_on : f.number < t.about.seats
        → Rule t record s { views = old_views ++ dealing (next_front f) ∷ [] }
    dealt_on few = record {
      story = r.story;
      top = r.top + 1;
      seat = seats;
      one_word = r.one_word;
      few = let e = number in omega arith;
      makers = more_makers r.top (r.top + 1) r.story (omega arith) r.makers;
      views = dealt_views;
      home = r.home;
      out = still_out;
    }

  -- a seat that deals is cut in two, and the new one deals on
  pub deals : (id : ℕ) (v : Known E F) (f : Front E F) → v ≡ dealing f → f.number < t.about.seats
      → Splits (Rule t) id v (dealt v) (dealt_next v)
  deals id v f is few s r there =
      subst (λ u. Rule t record s { views = set s.views id (dealt u) ++ dealt_next u ∷ [] })
      (sym is) (dealt_on id f r (there ∙ ap some is) few)
