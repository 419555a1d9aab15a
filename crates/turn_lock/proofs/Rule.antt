-- The rule of the lock: what it tells of one seat, and what stays of it at a step.
use Rattle.std.proofs.Common.{◌≡◌, ◌≢◌, ℕ, ◌<◌, List, [], ◌∷◌, length, get_or, set, Option, All}
use Rattle.std.proofs.Common.{false, sym, ap, ◌∙◌, subst, ⊎_elim, arith, length-set}
use Rattle.std.proofs.Common.{get_or-set_same}
use Rattle.std.proofs.lemmas.List.Elements.{All-head, All-same}
use mathlib.Core.Option.{some}
use lib.ListN.{get_elem?}
use Rattle.atomic_table.specs.Table.{State, Me, stepped, keeps}
use Rattle.atomic_table.proofs.Lists.{at_set, set_again}
use Rattle.turn_lock.specs.declared.story.Made.{Made}
use Rattle.turn_lock.specs.declared.turns.Front.{Front}
use Rattle.turn_lock.specs.declared.turns.Known.{Known}
use Rattle.turn_lock.specs.declared.turns.About.{About}
use Rattle.turn_lock.specs.Turns.{holder, FitsFront, FitsView, OneStory}

-- the word of the table
abbrev pub word_of : {S V : Type 0} → State S V → ℕ
word_of s = get_or s.words 0 0

-- the number of the pass that holds the state, or 0
abbrev pub held_by : {S V : Type 0} → State S V → ℕ
held_by s = holder (word_of s)

-- what a state tells, what no step of it changes, and what the table was told
pub record Setting (S E F : Type 0) : Type 0 where
  pub story_of : S → List (Made E)
  pub fixed_of : S → F
  pub about : About S

abbrev pub setting : {S E F : Type 0} → (S → List (Made E)) → (S → F) → About S → Setting S E F
setting story_of fixed_of about =
    record { story_of = story_of; fixed_of = fixed_of; about = about }

module _ {S E F : Type 0} (t : Setting S E F) where
  -- the rule of the table
  abbrev pub Rule : State (Option S) (Known E F) → Type 0
  Rule s = OneStory t.story_of t.fixed_of t.about s

  -- what no step changes
  abbrev pub base : F
  base = t.fixed_of t.about.state.value

module _ {E F : Type 0} where
  -- where one view is changed, what is known of the others and of the new one holds of all
  pub views_set : (K : ℕ → Known E F → Type 0) (vs : List (Known E F)) (id : ℕ) (w : Known E F)
      → K id w → ((j : ℕ) (v : Known E F) → j ≢ id → get_elem? vs j ≡ some v → K j v)
      → (j : ℕ) (v : Known E F) → get_elem? (set vs id w) j ≡ some v → K j v
  views_set K vs id w mine others j v e = ⊎_elim
      (λ (t : (j ≡ id) × (w ≡ v)).
      subst (λ (x : ℕ × Known E F). K x.0 x.1) (λ i. (sym t.0 i, t.1 i)) mine)
      (λ (t : (j ≢ id) × (get_elem? vs j ≡ some v)). others j v t.0 t.1)
      (at_set vs id j w v e)

  -- of a seat that rests only its fronts matter
  pub fits_resting : {story : List (Made E)} {x : F} {top : ℕ} {seat : ℕ → ℕ} {number at : ℕ}
      {fs : List (Front E F)} → All (FitsFront story x top seat at) fs
      → FitsView story x top seat number at record { holds = false; deals = false; fronts = fs }
  fits_resting h = record { fronts = h; held = λ e. cc; last = λ e. cc }

module _ {S E F : Type 0} (t : Setting S E F) {s : State (Option S) (Known E F)}
    (r : Rule t s) where
  -- the front fits the rule at this seat
  abbrev pub Fits : ℕ → Front E F → Type 0
  Fits = FitsFront r.story (base t) r.top r.seat

  -- the view fits the rule at this seat, where the pass of this number holds the state
  abbrev pub FitsAs : ℕ → ℕ → Known E F → Type 0
  FitsAs = FitsView r.story (base t) r.top r.seat

  -- the one front of a seat
  pub only_front : (id : ℕ) (v : Known E F) (f : Front E F)
      → get_elem? s.views id ≡ some v → v.fronts ≡ f ∷ [] → Fits id f
  only_front id v f at fronts = All-head (Fits id) f []
      (All-same (Fits id) (f ∷ []) v.fronts (sym fronts) (r.views id v at).fronts)

  -- there is still one word
  pub one_still : (n : ℕ) → length (set s.words 0 n) ≡ 1
  one_still n = length-set s.words 0 n ∙ r.one_word

  -- the word is n once n was written
  pub written : (n : ℕ) → get_or (set s.words 0 n) 0 0 ≡ n
  written n = let one = r.one_word in get_or-set_same s.words 0 n 0 (omega arith)

  -- a step that leaves who holds the state
  pub unmoved : (id n : ℕ) (me : Me (Option S) (Known E F)) → holder n ≡ held_by s
      → (holder n ≡ 0 → n ≡ 0) → get_elem? s.views id ≡ some me.0
      → Rule t (stepped s 0 n id me.1 me.0 keeps)
  unmoved id n me same whole at =
      let now : holder (get_or (set s.words 0 n) 0 0) ≡ held_by s = ap holder (written n) ∙ same in
      let words : State (Option S) (Known E F) = record s { words = set s.words 0 n } in
      let kept : Rule t words = record {
        story = r.story;
        top = r.top;
        seat = r.seat;
        one_word = one_still n;
        few = r.few;
        makers = r.makers;
        views = λ j v e. subst (λ (w : ℕ). FitsAs w j v) (sym now) (r.views j v e);
        home = λ free. let h = r.home (sym now ∙ free) in
            (h.0, h.1, h.2, h.3, written n ∙ whole (sym (ap holder (written n)) ∙ free));
        out = λ away. r.out (subst (λ (w : ℕ). 0 < w) now away);
      } in
      subst (λ vs. Rule t record words { views = vs })
      (sym (set_again s.views id me.0 at)) kept
