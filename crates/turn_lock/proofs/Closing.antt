-- Joining two seats that rest keeps the rule, and all seats joined to one find the state at home.
use Rattle.std.proofs.Common.{◌≡◌, ◌≢◌, ℕ, ◌<◌, ◌≤◌, eqb, cond, List, set, Option, Some, true}
use Rattle.std.proofs.Common.{false, sym, ap, ◌∙◌, subst, arith, map, All, Contains, eq-eqb, ne_eqb}
use Rattle.std.proofs.Common.{IsSomeAnd}
use Rattle.std.proofs.lemmas.List.Elements.{All-nil, All-append, All-weaker, All-same, All-map}
use Rattle.std.proofs.lemmas.List.Elements.{All-contains}
use mathlib.Core.Logic.{dite}
use mathlib.Core.Option.{some, some-injective}
use native.Mathlib.Decide.{ℕ_discrete}
use lib.ListN.{get_elem?}
use Rattle.atomic_table.specs.Table.{State, Me, Joins, Final, Seen}
use Rattle.atomic_table.proofs.Lists.{set_else}
use Rattle.turn_lock.specs.declared.turns.Front.{Front}
use Rattle.turn_lock.specs.declared.turns.Known.{Known}
use Rattle.turn_lock.specs.Passes.{PassView, numbers, Tells, TellsOfEach}
use Rattle.turn_lock.specs.Stories.{AllMadeUpTo, RestsFor}
use Rattle.turn_lock.specs.Turns.{front, joined, spent, front_of, FitsFront, FitsView, HasFronts}
use Rattle.turn_lock.proofs.Lists.{All-unmap}
use Rattle.turn_lock.proofs.Rule.{Setting, Rule, base, held_by, views_set, fits_resting, Fits}
use Rattle.turn_lock.proofs.Rule.{only_front}
use Rattle.turn_lock.proofs.Stories.{more_makers}

-- the seats of two that are one
abbrev merged : (seat : ℕ → ℕ) → ℕ → ℕ → ℕ → ℕ
merged seat id other k = cond (eqb (seat k) other) id (seat k)

merged_else : (seat : ℕ → ℕ) (id other k at : ℕ) → seat k ≡ at → at ≢ other
    → merged seat id other k ≡ at
merged_else seat id other k at e apart =
    ap (λ b. cond b id (seat k)) (ne_eqb (seat k) other (λ t. apart (sym e ∙ t))) ∙ e

merged_here : (seat : ℕ → ℕ) (id other k : ℕ) → seat k ≡ other → merged seat id other k ≡ id
merged_here seat id other k e = ap (λ b. cond b id (seat k)) (eq-eqb (seat k) other e)

module _ {S E F : Type 0} (t : Setting S E F) where
  -- where some seat holds the state, it is not one that rests
  holder_apart : {s : State (Option S) (Known E F)} (r : Rule t s) (away : 0 < held_by s) (id : ℕ)
      (v : Known E F) → get_elem? s.views id ≡ some v → v.holds ≡ false → (r.out away).0 ≢ id
  holder_apart {s} r away id v here idle same =
      let o = r.out away in
      let is : o.1 ≡ v = some-injective o.1 v (sym o.2 ∙ (ap (get_elem? s.views) same ∙ here)) in
      let no : true ≡ false = sym o.3 ∙ (ap (λ (k : Known E F). k.holds) is ∙ idle) in cc

  module _ (id : ℕ) (v : Known E F) (other : ℕ) (w : Known E F) (apart : other ≢ id)
      {s : State (Option S) (Known E F)} (r : Rule t s) (here : get_elem? s.views id ≡ some v)
      (there : get_elem? s.views other ≡ some w) where
    abbrev seats : ℕ → ℕ
    seats = merged r.seat id other

    abbrev FitsNow : ℕ → Front E F → Type 0
    FitsNow = FitsFront r.story (base t) r.top seats

    abbrev FitsBoth : ℕ → Known E F → Type 0
    FitsBoth = FitsView r.story (base t) r.top seats (held_by s)

    -- a front fits still, at the seat where its number is now
    moved : (to at : ℕ) (f : Front E F) → seats f.number ≡ to → Fits t r at f → FitsNow to f
    moved to at f e h = record { dealt = h.dealt; seated = e; same = h.same; rests = h.rests }

    joined_fits : FitsBoth id (joined v w)
    joined_fits = fits_resting (All-append (FitsNow id) w.fronts v.fronts
        (All-weaker (Fits t r other) (FitsNow id)
        (λ f h. moved id other f (merged_here r.seat id other f.number h.seated) h)
        w.fronts (r.views other w there).fronts)
        (All-weaker (Fits t r id) (FitsNow id)
        (λ f h. moved id id f
        (merged_else r.seat id other f.number id h.seated (λ e. apart (sym e))) h)
        v.fronts (r.views id v here).fronts))

    else_fits : (j : ℕ) (u : Known E F) → get_elem? s.views j ≡ some u → j ≢ other → FitsBoth j u
    else_fits j u e off = let k = r.views j u e in record {
      fronts = All-weaker (Fits t r j) (FitsNow j)
          (λ f h. moved j j f (merged_else r.seat id other f.number j h.seated off) h)
          u.fronts k.fronts;
      held = k.held;
      last = k.last;
    }

    abbrev both_views : List (Known E F)
    both_views = set s.views id (joined v w)

    gathered : v.holds ≡ false → w.holds ≡ false
        → Rule t record s { views = set both_views other spent }
    gathered idle idle' = record {
      story = r.story;
      top = r.top;
      seat = seats;
      one_word = r.one_word;
      few = r.few;
      makers = r.makers;
      views = views_set FitsBoth both_views other spent (fits_resting (All-nil _))
          (λ j u away at. views_set (λ i x. i ≢ other → FitsBoth i x) s.views id (joined v w)
          (λ _. joined_fits) (λ i x _ e off. else_fits i x e off) j u at away);
      home = r.home;
      out = λ gone. let o = r.out gone in (
        o.0,
        o.1,
        set_else both_views other o.0 spent (holder_apart r gone other w there idle')
            ∙ (set_else s.views id o.0 (joined v w) (holder_apart r gone id v here idle) ∙ o.2),
        o.3,
      );
    }

  -- two seats that rest are joined
  pub gathers : (id : ℕ) (v : Known E F) (other : ℕ) (w : Known E F)
      → v.holds ≡ false → w.holds ≡ false → Joins (Rule t) id v other w (joined v w) spent
  gathers id v other w idle idle' s r here apart there' =
      let there : get_elem? s.views other ≡ some w =
      sym (set_else s.views id other (joined v w) apart) ∙ there' in
      gathered id v other w apart r here there idle idle'

  -- a seat that rests and has the fronts of these passes
  module _ (id : ℕ) (v : Known E F) (passes : List (PassView E F)) (idle : v.holds ≡ false)
      (fronts : v.fronts ≡ map front_of passes) where
    -- the front of each of these passes fits
    pass_fits : {s : State (Option S) (Known E F)} (r : Rule t s) → get_elem? s.views id ≡ some v
        → All (λ (p : PassView E F). Fits t r id (front_of p)) passes
    pass_fits r here = All-unmap (Fits t r id) front_of passes
        (All-same (Fits t r id) (map front_of passes) v.fronts (sym fronts)
        (r.views id v here).fronts)

    -- where they are all passes, nobody holds the state
    all_home : {s : State (Option S) (Known E F)} (r : Rule t s) → get_elem? s.views id ≡ some v
        → ((n : ℕ) → 0 < n → n ≤ t.about.seats → Contains (numbers passes) n) → 0 < held_by s → ⊥
    all_home {s} r here each away =
        let o = r.out away in
        let held = (r.views o.0 o.1 o.2).held o.3 in
        let g = only_front t r o.0 o.1 (front (held_by s) (base t) r.story) o.2 held.1 in
        let top : held_by s ≤ r.top = g.dealt.1 in
        let few : r.top ≤ t.about.seats = r.few in
        let mine : All (λ n. r.seat n ≡ id) (numbers passes) =
        All-map (λ n. r.seat n ≡ id) (λ (p : PassView E F). p.number) passes
        (All-weaker (λ p. Fits t r id (front_of p)) (λ p. r.seat p.number ≡ id)
        (λ p h. h.seated) passes (pass_fits r here)) in
        let at : r.seat (held_by s) ≡ id = All-contains (λ n. r.seat n ≡ id) (numbers passes)
        (held_by s) mine (each (held_by s) away (omega arith)) in
        holder_apart r away id v here idle (sym g.seated ∙ at)

  -- where all passes are joined to one seat, the slot has a state that tells of them
  pub closes : (id : ℕ) (m : Me (Option S) (Known E F)) (passes : List (PassView E F))
      (ws : List ℕ) (xs : List (Option S)) (slot : Option S) → Final (Seen (Rule t) id m.0) ws xs
      → HasFronts passes m
      → ((n : ℕ) → 0 < n → n ≤ t.about.seats → Contains (numbers passes) n)
      → get_elem? xs 0 ≡ some slot
      → IsSomeAnd slot (TellsOfEach t.about.seats t.story_of t.fixed_of passes)
  closes id m passes ws xs slot end fronts each there =
      let s = end.0 in
      let r = end.1.0 in
      let here = end.1.1 in
      let free : held_by s ≡ 0 = dite (ℕ_discrete (held_by s) 0) (λ e. e) (λ ne. absurd
      (all_home id m.0 passes fronts.1 fronts.2 r here each (omega arith))) in
      let h = r.home free in
      let x : S = h.0 in
      let told : TellsOfEach t.about.seats t.story_of t.fixed_of passes x = record {
        each = All-weaker (λ p. Fits t r id (front_of p)) (Tells (t.fixed_of x) (t.story_of x))
            (λ p k. (
              h.3 ∙ sym k.same,
              subst (λ story. RestsFor p.number story p.front) (sym h.2) k.rests,
            ))
            passes (pass_fits id m.0 passes fronts.1 fronts.2 r here);
        makers = subst (AllMadeUpTo t.about.seats) (sym h.2)
            (more_makers r.top t.about.seats r.story r.few r.makers);
      } in
      subst (λ (o : Option S). IsSomeAnd o (TellsOfEach t.about.seats t.story_of t.fixed_of passes))
      (sym (some-injective slot (Some x) (sym there ∙ end.4 0 (Some x) h.1))) told
