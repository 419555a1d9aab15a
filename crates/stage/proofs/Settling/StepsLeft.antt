-- How many steps settling a link takes: so many as there are until no packet that comes leaves less
-- to do, and no tick is left. The number is that of a function, so that it is a measure.
use Rattle.std.proofs.Common.{◌≡◌, ◌⊎◌, ◌<◌, ◌≤◌, ℕ, zero, suc, Bool, true, false, List, ◌∷◌}
use Rattle.std.proofs.Common.{Option, Some, None, refl, sym, ◌∙◌, ap, subst, inl, inr, arith}
use Rattle.std.proofs.lemmas.Bool.{cases_lt}
use Rattle.linx_base.specs.Sides.{other_of}
use Rattle.linx_base.specs.declared.frame.Verdict.TheVariants.{Deliver}
use Rattle.linx_base.specs.declared.identity.LinkNo.{LinkNo}
use Rattle.linx_base.specs.declared.identity.Side.{Side}
use Rattle.journal.specs.declared.by.By.{By}
use Rattle.journal.specs.declared.effect.Effect.{Effect}
use Rattle.journal.specs.declared.effect.Step.{Step}
use Rattle.journal.specs.declared.head.Head.{Head}
use Rattle.journal.specs.declared.head.Head.TheVariants as heads
use Rattle.journal.specs.Shapes.{Shape}
use Rattle.link_laws.specs.Ends.{node_at}
use Rattle.carrier.specs.Events.{handed_by, link_told_by}
use Rattle.link_settling.specs.Measure.{Falls, Measure, measure}
use Rattle.link_settling.proofs.Flights.Measures.{falls_inducts}
use Rattle.rlnh_end.specs.declared.heard.Heard.{Heard}
use Rattle.trunk.specs.Events.{TrunkState, delivered, ticked_at, told_by}
use Rattle.trunk.specs.Tells.{up_of_tick}
use Rattle.trunk.specs.declared.up.TrunkUp.{TrunkUp}
use Rattle.trunk_moves.specs.Packets.{answered, told_at}
use Rattle.run_settling.specs.Asking.{asks}
use Rattle.fabric.specs.Links.{tick_steps}
use Rattle.stage.specs.Pumps.{flying_side, in_turn}
use Rattle.stage.proofs.Settling.Readings.{heard_for}

-- ---- whether it is less

-- it is, or it isn't
abbrev Decided : Type 0 → Type 0
Decided X = X ⊎ (X → ⊥)

decided_less : (a b : ℕ) → Decided (a < b)
decided_less a b =
    elim (cases_lt a b) [
      | inl less ↦ inl less
      | inr not ↦ inr (λ less. omega arith)
    ]

decided_first : (a b : ℕ) (R : Type 0) → Decided R → Decided ((a < b) ⊎ ((a ≤ b) × R))
decided_first a b R rest =
    elim (cases_lt a b) [
      | inl less ↦ inl (inl less)
      | inr not ↦ elim (cases_lt b a) [
        | inl more ↦ inr (λ either. elim either [
          | inl less ↦ omega arith
          | inr same ↦ let le = same.0 in omega arith
        ])
        | inr same ↦ elim rest [
          | inl holds ↦ inl (inr (same, holds))
          | inr fails ↦ inr (λ either. elim either [
            | inl less ↦ omega arith
            | inr both ↦ fails both.1
          ])
        ]
      ]
    ]

decided_falls : (x y : Measure) → Decided (Falls x y)
decided_falls x y =
    decided_first x.connecting y.connecting _ (decided_first x.up y.up _
    (decided_first x.due y.due _ (decided_first x.untaken y.untaken _
    (decided_first x.unsent y.unsent _ (decided_first x.asking y.asking _
    (decided_first x.pieces y.pieces _ (decided_less x.others y.others)))))))

-- ---- the way

-- where a settling is: so many ticks are left
pub record Way : Type 0 where
  pub ticks : ℕ
  pub steps : List Step
  pub trunk : TrunkState

module _ (by : By) (shape : Shape) (l : LinkNo) where
  abbrev pub step_with : Head → List Effect → Step
  step_with head es = record { by = by; head = head; effects = es }

  -- what is told of the first packet from a side
  abbrev pub told : Side → Way → TrunkUp
  told from w = told_by from 0 (heard_for (handed_by from 0 w.trunk.link)) w.trunk

  -- what it has for effects
  abbrev pub came_with : Side → Way → List Effect
  came_with from w =
      told_at w.steps (node_at shape l (other_of from)) l (other_of from) w.trunk (told from w)

  -- it comes
  abbrev pub came : Side → Way → Way
  came from w = record {
    ticks = w.ticks;
    steps = step_with (heads.Wire l from Deliver) (came_with from w) ∷ w.steps;
    trunk =
        answered w.steps (node_at shape l (other_of from)) l (other_of from) (told from w)
        (delivered from 0 false (heard_for (handed_by from 0 w.trunk.link)) w.trunk);
  }

  -- a side ticks, and so many ticks are left
  abbrev pub beat : ℕ → Side → Way → Way
  beat left side w = record {
    ticks = left;
    steps =
        step_with (heads.Tick l side)
        (told_at w.steps (node_at shape l side) l side w.trunk
        (up_of_tick (link_told_by side w.trunk.link)))
        ∷ w.steps;
    trunk = ticked_at side w.trunk;
  }

  -- what is left to do
  abbrev pub left : Way → Measure
  left w = measure asks w.trunk.link

  -- this is next, if it leaves less to do
  next_less : (v w : Way) → Decided (Falls (left v) (left w)) → Option Way
  next_less v w (inl less) = Some v
  next_less v w (inr fails) = None

  -- a tick is, if one is left
  next_tick : ℕ → Way → Option Way
  next_tick zero w = None
  next_tick (suc n) w = Some (beat n (in_turn (tick_steps w.steps l.0)) w)

  next_by : Option Side → Way → Option Way
  next_by (Some from) w = next_less (came from w) w (decided_falls (left (came from w)) (left w))
  next_by None w = next_tick w.ticks w

  -- THE NEXT STEP of the way
  pub next : Way → Option Way
  next w = next_by (flying_side w.trunk) w

  -- ---- is next

  less_is : (v w : Way) → Falls (left v) (left w) → (d : Decided (Falls (left v) (left w)))
      → next_less v w d ≡ Some v
  unfolding next_less
  less_is v w less (inl holds) = refl
  less_is v w less (inr fails) = absurd (fails less)

  pub next_came : (from : Side) (w : Way) → flying_side w.trunk ≡ Some from
      → Falls (left (came from w)) (left w) → next w ≡ Some (came from w)
  unfolding next next_by
  next_came from w flies less =
      ap (λ (o : Option Side). next_by o w) flies
      ∙ less_is (came from w) w less (decided_falls (left (came from w)) (left w))

  pub next_beat : (n : ℕ) (w : Way) → flying_side w.trunk ≡ None → w.ticks ≡ suc n
      → next w ≡ Some (beat n (in_turn (tick_steps w.steps l.0)) w)
  unfolding next next_by next_tick
  next_beat n w none some =
      ap (λ (o : Option Side). next_by o w) none ∙ ap (λ (k : ℕ). next_tick k w) some

  -- ---- and is lower

  -- as many ticks are left, and less to do; or a tick less is
  IsLower : Way → Way → Type 0
  IsLower v w =
      ((v.ticks ≡ w.ticks) × Falls (left v) (left w)) ⊎ (w.ticks ≡ suc v.ticks)

  lower_less : (from : Side) (w : Way) (d : Decided (Falls (left (came from w)) (left w)))
      (v : Way) → next_less (came from w) w d ≡ Some v → IsLower v w
  unfolding next_less IsLower
  lower_less from w (inl less) v is =
      let same : came from w ≡ v = cc in
      subst (λ (x : Way). ((x.ticks ≡ w.ticks) × Falls (left x) (left w))
      ⊎ (w.ticks ≡ suc x.ticks)) same (inl (refl, less))
  lower_less from w (inr fails) v is = cc

  lower_tick : (n : ℕ) (w : Way) → w.ticks ≡ n → (v : Way) → next_tick n w ≡ Some v
      → IsLower v w
  unfolding next_tick IsLower
  lower_tick zero w ticks v is = cc
  lower_tick (suc n) w ticks v is =
      let same : beat n (in_turn (tick_steps w.steps l.0)) w ≡ v = cc in
      inr (ticks ∙ ap (λ (x : Way). suc x.ticks) same)

  lower_by : (o : Option Side) (w v : Way) → next_by o w ≡ Some v → IsLower v w
  unfolding next_by
  lower_by (Some from) w v is =
      lower_less from w (decided_falls (left (came from w)) (left w)) v is
  lower_by None w v is = lower_tick w.ticks w refl v is

  lower : (w v : Way) → next w ≡ Some v → IsLower v w
  unfolding next
  lower w v is = lower_by (flying_side w.trunk) w v is

  -- ---- so the way has an end

  -- it has so many steps
  IsLong : ℕ → Way → Type 0
  IsLong zero w = next w ≡ None
  IsLong (suc k) w = (v : Way) × ((next w ≡ Some v) × IsLong k v)

  Ends : Way → Type 0
  Ends w = (k : ℕ) × IsLong k w

  ends_by : (w : Way) (o : Option Way) → next w ≡ o
      → ((v : Way) → next w ≡ Some v → Ends v) → Ends w
  unfolding Ends IsLong
  ends_by w None is rest = (0, is)
  ends_by w (Some v) is rest = let more = rest v is in (suc more.0, (v, (is, more.1)))

  EndsFrom : ℕ → Measure → Type 0
  EndsFrom n e = (w : Way) → w.ticks ≡ n → left w ≡ e → Ends w

  ends_from : (n : ℕ) → ((m : ℕ) → n ≡ suc m → (e : Measure) → EndsFrom m e) → (e : Measure)
      → EndsFrom n e
  unfolding EndsFrom IsLower
  ends_from n fewer =
      falls_inducts (EndsFrom n) (λ e rest w ticks is.
      ends_by w (next w) refl (λ v to.
      elim (lower w v to) [
        | inl less ↦
            rest (left v) (subst (λ (f : Measure). Falls (left v) f) is less.1) v
            (less.0 ∙ ticks) refl
        | inr one ↦ fewer v.ticks (sym ticks ∙ one) (left v) v refl refl
      ]))

  ends_within : (n : ℕ) (e : Measure) → EndsFrom n e
  ends_within zero = ends_from zero (λ m is. absurd (omega arith))
  ends_within (suc n) =
      ends_from (suc n) (λ m is. let same : n ≡ m = omega arith in
      subst (λ (k : ℕ). (e : Measure) → EndsFrom k e) same (ends_within n))

  ends : (w : Way) → Ends w
  unfolding EndsFrom
  ends w = ends_within w.ticks (left w) w refl refl

  -- THE STEPS THAT ARE LEFT
  pub steps_left : Way → ℕ
  unfolding Ends
  steps_left w = (ends w).0

  -- no way is of two lengths
  one_length : (j k : ℕ) (w : Way) → IsLong j w → IsLong k w → j ≡ k
  unfolding IsLong
  one_length zero zero w one two = refl
  one_length zero (suc k) w one two = let to = two.1.0 in cc
  one_length (suc j) zero w one two = let to = one.1.0 in cc
  one_length (suc j) (suc k) w one two =
      let to = one.1.0 in
      let too = two.1.0 in
      let same : two.0 ≡ one.0 = cc in
      ap suc (one_length j k one.0 one.1.1
      (subst (λ (v : Way). IsLong k v) same two.1.1))

  -- one is less after each step
  pub step_less : (w v : Way) → next w ≡ Some v → steps_left w ≡ suc (steps_left v)
  unfolding steps_left Ends IsLong
  step_less w v is =
      one_length (ends w).0 (suc (ends v).0) w (ends w).1 (v, (is, (ends v).1))
