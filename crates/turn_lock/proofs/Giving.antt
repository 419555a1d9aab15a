-- A give keeps the rule.
use Rattle.std.proofs.Common.{◌≡◌, ◌≢◌, ℕ, ◌<◌, List, [], length, get_or, set, Option, Some, sym}
use Rattle.std.proofs.Common.{refl, ap, ◌∙◌, subst, arith}
use Rattle.std.proofs.lemmas.List.Elements.{All-nil, All-cons, All-weaker}
use mathlib.Core.Option.{none, some}
use lib.ListN.{get_elem?}
use Rattle.atomic_table.specs.Table.{State, Me, Allows, step, gives, rest, put_back}
use Rattle.atomic_table.proofs.Lists.{set_here}
use Rattle.turn_lock.specs.declared.turns.Front.{Front}
use Rattle.turn_lock.specs.declared.turns.Known.{Known}
use Rattle.turn_lock.specs.Passes.{PassView}
use Rattle.turn_lock.specs.Stories.{IsAddedBy}
use Rattle.turn_lock.specs.Turns.{holder, front, front_of, resting, with_seen, FitsFront, FitsView}
use Rattle.turn_lock.specs.Turns.{gave}
use Rattle.turn_lock.proofs.Lists.{head_same}
use Rattle.turn_lock.proofs.Places.{IsPut}
use Rattle.turn_lock.proofs.Rule.{Setting, Rule, base, held_by, views_set, fits_resting, Fits}
use Rattle.turn_lock.proofs.Rule.{only_front, one_still, written}
use Rattle.turn_lock.proofs.Stories.{rests_itself, rests_added, added_makers}

module _ {S E F : Type 0} (t : Setting S E F)
    (id : ℕ) (me : Me (Option S) (Known E F)) (p : PassView E F) (x : S) (put : IsPut p x me)
    (added : IsAddedBy p.number (t.story_of x) p.front) (fixed : t.fixed_of x ≡ p.fixed) where
  -- the front of the pass
  abbrev f : Front E F
  f = front_of p

  -- the seat, once it gave the state back
  abbrev given : Known E F
  given = resting (with_seen f (t.story_of x))

  module _ {s : State (Option S) (Known E F)} (r : Rule t s) (at : get_elem? s.views id ≡ some me.0)
      (room : 0 < length s.homes) where
    mine : Fits t r id f
    mine = only_front t r id me.0 f at put.fronts

    -- the pass holds the state, and has seen its story
    is : f ≡ front (held_by s) (base t) r.story
    is = head_same f _ (sym put.fronts ∙ ((r.views id me.0 at).held put.holds).1)

    number : f.number ≡ held_by s
    number = ap (λ (g : Front E F). g.number) is

    -- so it alone added to the story
    grown : IsAddedBy f.number (t.story_of x) r.story
    grown = subst (λ story. IsAddedBy f.number (t.story_of x) story)
        (ap (λ (g : Front E F). g.seen) is) added

    -- the front fits the rule of the state that was given
    abbrev FitsNow : ℕ → Front E F → Type 0
    FitsNow = FitsFront (t.story_of x) (base t) r.top r.seat

    -- the view fits it where nobody holds the state
    abbrev FitsFree : ℕ → Known E F → Type 0
    FitsFree = FitsView (t.story_of x) (base t) r.top r.seat 0

    given_fits : FitsFree id given
    given_fits = fits_resting (All-cons (FitsNow id) (with_seen f (t.story_of x)) []
        record {
          dealt = mine.dealt;
          seated = mine.seated;
          same = mine.same;
          rests = rests_itself f.number (t.story_of x);
        }
        (All-nil (FitsNow id)))

    -- the fronts of another seat are of other numbers
    others_fit : (j : ℕ) (v : Known E F) → j ≢ id → get_elem? s.views j ≡ some v → FitsFree j v
    others_fit j v apart e = let k = r.views j v e in record {
      fronts = All-weaker (Fits t r j) (FitsNow j) (λ g h. record {
        dealt = h.dealt;
        seated = h.seated;
        same = h.same;
        rests = rests_added g.number f.number (t.story_of x) r.story g.seen
            (λ same. apart (sym h.seated ∙ (ap r.seat (sym same) ∙ mine.seated))) grown h.rests;
      }) v.fronts k.fronts;
      held = λ holds. let g = only_front t r j v _ e (k.held holds).1 in
          absurd (apart (sym g.seated ∙ (ap r.seat (sym number) ∙ mine.seated)));
      last = k.last;
    }

    returns : Rule t record {
      words = set s.words 0 0;
      homes = set s.homes 0 (some (Some x));
      views = set s.views id given;
    }
    returns = let now = ap holder (written t r 0) in record {
      story = t.story_of x;
      top = r.top;
      seat = r.seat;
      one_word = one_still t r 0;
      few = r.few;
      makers = added_makers f.number r.top (t.story_of x) r.story mine.dealt.0 mine.dealt.1 grown
          r.makers;
      views = subst
          (λ (w : ℕ). (j : ℕ) (v : Known E F) → get_elem? (set s.views id given) j ≡ some v
          → FitsView (t.story_of x) (base t) r.top r.seat w j v)
          (sym now) (views_set FitsFree s.views id given given_fits others_fit);
      home = λ _.
          (x, set_here s.homes 0 (some (Some x)) room, refl, fixed ∙ mine.same, written t r 0);
      out = λ away. absurd (omega arith);
    }

  -- a give keeps the rule
  pub gives_back : (slots : ℕ) → 0 < slots
      → Allows (Rule t) slots id me 0 (λ _. 0)
      (gave t.story_of t.fixed_of (step slots 0 0 0 none) me)
  gives_back slots room s r wide at _ = (
    given,
    gives,
    tt,
    subst
        (λ c. Rule t record {
          words = set s.words 0 0;
          homes = put_back s.homes c;
          views = set s.views id given;
        })
        (sym put.taken) (returns r at (omega arith)),
    λ f' x' fronts taken.
        let same : f ≡ f' = head_same f f' (sym put.fronts ∙ fronts) in
        let first : Some x ≡ Some x' =
        ap (λ (l : List (ℕ × Option S)). (get_or l 0 (0, Some x)).1) (sym put.taken ∙ taken) in
        let here : x ≡ x' = cc in
        λ i. (resting (with_seen (same i) (t.story_of (here i))), ap rest put.taken i),
  )
