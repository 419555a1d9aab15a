-- A try and a mark keep the rule.
use Rattle.std.proofs.Common.{◌≡◌, ℕ, ◌<◌, eqb, [], ◌∷◌, set, Option, Some, sym, refl, ap, ◌∙◌}
use Rattle.std.proofs.Common.{subst, arith}
use Rattle.std.proofs.lemmas.List.Elements.{All-nil, All-cons}
use mathlib.Core.Logic.{dite}
use mathlib.Core.Option.{none, some}
use native.Mathlib.Decide.{ℕ_discrete}
use lib.ListN.{get_elem?}
use prog.Atomic.{either}
use Rattle.atomic_table.specs.Table.{State, Me, Allows, step, stepped, keeps, takes}
use Rattle.atomic_table.proofs.Lists.{set_here, exchanged}
use Rattle.turn_lock.specs.declared.turns.Front.{Front}
use Rattle.turn_lock.specs.declared.turns.Known.{Known}
use Rattle.turn_lock.specs.Stories.{RestsFor}
use Rattle.turn_lock.specs.Turns.{holder, holding, with_seen, tried, marked}
use Rattle.turn_lock.proofs.Lists.{inside, head_same}
use Rattle.turn_lock.proofs.Rule.{Setting, Rule, word_of, held_by, views_set, Fits, FitsAs}
use Rattle.turn_lock.proofs.Rule.{only_front, one_still, written, unmoved}

module _ {S E F : Type 0} (t : Setting S E F) where
  module _ (id n : ℕ) (me : Me (Option S) (Known E F)) (f : Front E F) (some_pass : 0 < holder n)
      (fronts : me.0.fronts ≡ f ∷ []) (number : f.number ≡ holder n) where
    -- the seat, where it has taken the state x
    abbrev took : S → Known E F
    took x = holding (with_seen f (t.story_of x))

    -- where no pass holds the state, a seat that rests takes it
    wins : {s : State (Option S) (Known E F)} (r : Rule t s) → get_elem? s.views id ≡ some me.0
        → (free : held_by s ≡ 0)
        → Rule t (stepped s 0 n id me.1 (took (r.home free).0) (takes 0 (Some (r.home free).0)))
    wins {s} r at free =
        let h = r.home free in
        let x : S = h.0 in
        let mine = only_front t r id me.0 f at fronts in
        let now = ap holder (written t r n) in
        let fits : FitsAs t r (holder n) id (took x) = record {
          fronts = All-cons (Fits t r id) (with_seen f (t.story_of x)) []
              record {
                dealt = mine.dealt;
                seated = mine.seated;
                same = mine.same;
                rests = ([], sym h.2, refl);
              }
              (All-nil (Fits t r id));
          held = λ _. (
            some_pass,
            λ i. record { number = number i; fixed = mine.same i; seen = h.2 i } ∷ [],
          );
          last = λ e. cc;
        } in record {
          story = r.story;
          top = r.top;
          seat = r.seat;
          one_word = one_still t r n;
          few = r.few;
          makers = r.makers;
          views = subst
              (λ (w : ℕ). (j : ℕ) (v : Known E F)
              → get_elem? (set s.views id (took x)) j ≡ some v → FitsAs t r w j v)
              (sym now)
              (views_set (FitsAs t r (holder n)) s.views id (took x) fits
              (λ j v apart e. let k = r.views j v e in record {
                fronts = k.fronts;
                held = λ holds. absurd (let l = (k.held holds).0 in omega arith);
                last = k.last;
              }));
          home = λ e. absurd (omega arith);
          out = λ _. (id, took x, set_here s.views id (took x) (inside s.views id me.0 at), refl);
        }

    -- a try keeps the rule, whether it finds the state at home or not
    pub tries : (slots : ℕ) → Allows (Rule t) slots id me 0 (λ w. either (eqb w 0) n w)
        (tried t.story_of t.fixed_of (step slots 0 0 n none) me)
    tries slots s r _ at _ = dite (ℕ_discrete (word_of s) 0)
        (λ hit.
        let free : held_by s ≡ 0 = ap holder hit in
        let h = r.home free in
        let x : S = h.0 in
        let mine = only_front t r id me.0 f at fronts in (
          took x,
          takes 0 (Some x),
          h.1,
          exchanged (word_of s) 0 n
              (λ w. Rule t (stepped s 0 w id me.1 (took x) (takes 0 (Some x))))
              (λ _. wins r at free) (λ miss. absurd (miss hit)),
          λ f' fronts'. let same : f ≡ f' = head_same f f' (sym fronts ∙ fronts') in (
            λ _. (
              x,
              ap (λ (g : Front E F). (holding (with_seen g (t.story_of x)), (0, Some x) ∷ me.1))
                  same,
              h.3 ∙ (sym mine.same ∙ ap (λ (g : Front E F). g.fixed) same),
              subst (λ (g : Front E F). RestsFor g.number (t.story_of x) g.seen) same
                  (subst (λ story. RestsFor f.number story f.seen) (sym h.2) mine.rests),
            ),
            λ miss. absurd (miss hit),
          ),
        ))
        (λ miss. (
          me.0,
          keeps,
          tt,
          exchanged (word_of s) 0 n (λ w. Rule t (stepped s 0 w id me.1 me.0 keeps))
              (λ hit. absurd (miss hit))
              (λ _. unmoved t r id (word_of s) me refl (λ free. (r.home free).4) at),
          λ f' fronts'. (λ hit. absurd (miss hit), λ _. refl),
        ))

  -- a mark keeps the rule
  pub marks : (slots id : ℕ) (me : Me (Option S) (Known E F)) (old new : ℕ)
      → holder new ≡ holder old → 0 < holder old
      → Allows (Rule t) slots id me 0 (λ w. either (eqb w old) new w)
      (marked (step slots 0 old new none) me)
  marks slots id me old new same some_pass s r _ at _ = (
    me.0,
    keeps,
    tt,
    exchanged (word_of s) old new (λ w. Rule t (stepped s 0 w id me.1 me.0 keeps))
        (λ hit. unmoved t r id new me (same ∙ ap holder (sym hit))
        (λ none. absurd (omega arith)) at)
        (λ _. unmoved t r id (word_of s) me refl (λ free. (r.home free).4) at),
    refl,
  )
