-- The pump's rule: it asks for something exactly where its link stirs, for what it may ask, and its
-- steps are as planned.
use Rattle.std.proofs.Common.{◌≡◌, ◌≢◌, ℕ, zero, suc, ◌-◌, ◌%◌, ◌<◌, ◌⊎◌, Bool, true, false, not}
use Rattle.std.proofs.Common.{List, [], ◌∷◌, length, Option, Some, None, refl, sym, ◌∙◌, ap, subst}
use Rattle.std.proofs.Common.{inl, inr, arith, ◌&&◌, ◌||◌, ◌==◌, nat_le, nat_lt, is_some, slice_get}
use Rattle.std.proofs.Common.{if◌then◌else◌, eq-eqb, le-leb, ltb-true, ne_eqb}
use Rattle.std.specs.List.{list_all}
use Rattle.std.proofs.lemmas.Bool.{and_parts}
use Rattle.std.proofs.lemmas.Bool.Decides.{nat_tests}
use Rattle.linx_base.specs.Verdicts.{fits_verdict}
use Rattle.linx_base.specs.declared.frame.Verdict.{Verdict}
use Rattle.linx_base.specs.declared.frame.Verdict.TheVariants.{Deliver, Lose}
use Rattle.linx_base.specs.declared.identity.LinkNo.{LinkNo}
use Rattle.linx_base.specs.declared.identity.Side.{Side}
use Rattle.linx_base.specs.declared.identity.Side.TheVariants.{First, Second}
use Rattle.carrier.specs.Events.{flight_from}
use Rattle.ethcm_end.specs.States.{has_work_in}
use Rattle.journal.specs.declared.by.By.TheVariants.{Pump}
use Rattle.journal.specs.declared.effect.Step.{Step}
use Rattle.journal.specs.declared.event.Event.{Event}
use Rattle.journal.specs.declared.event.Event.TheVariants as asks
use Rattle.journal.specs.declared.head.Head.{Head}
use Rattle.journal.specs.declared.head.Head.TheVariants as heads
use Rattle.link_laws.specs.Ends.{IsLinkOf}
use Rattle.link_laws.specs.Sessions.{is_cut}
use Rattle.node_kernel.specs.declared.answers.StepAnswer.{StepAnswer}
use Rattle.node_kernel.specs.declared.ask.Ask.{Ask}
use Rattle.run_trunks.specs.States.{trunks_of}
use Rattle.script_lang.specs.declared.plans.Plans.{Plans}
use Rattle.script_lang.specs.Fits.{fits_plan, fits_plans, is_link, IsScript}
use Rattle.script_lang.specs.Limits.{verdict_limit}
use Rattle.script_lang.specs.Parts.{ScriptParts, plan_in, planned_verdicts, side_of}
use Rattle.trunk.specs.Events.{TrunkState}
use Rattle.trunk_moves.specs.Trunks.{RunTrunks}
use Rattle.fabric.specs.Asks.{MayAsk, MayMeet}
use Rattle.fabric.specs.Links.{flies_from, are_plans_ended, is_up_at, stirs, stirs_if, tick_steps}
use Rattle.fabric.specs.Links.{wire_steps}
use Rattle.fabric.specs.Machine.{pumped_head}
use Rattle.fabric.specs.Run.{IsStepFor, IsStepOf, IsStepped, Layout}
use Rattle.stage.specs.Plays.{IsPlannedHead}
use Rattle.stage.specs.Pumps.{event_with, flying_side, in_turn, is_even, next_ticking, pump_event}
use Rattle.stage.specs.Pumps.{ticked_by, up_side, verdict_for, verdict_or}
use Rattle.stage.specs.Turns.{shape_of}

-- IT STIRS. Nothing in flight from a side is none more than nothing
none_flies : (n : ℕ) → (n == 0) ≡ not (nat_lt 0 n)
none_flies n = grind (arith, nat_tests)

ticked_some : (l : LinkNo) (o : Option Side) → is_some (ticked_by l o) ≡ is_some o
ticked_some l None = refl
ticked_some l (Some side) = refl

first_some : (a b : Bool)
    → is_some (if a then Some First else if b then Some Second else None) ≡ (a || b)
first_some true b = refl
first_some false true = refl
first_some false false = refl

turn_some : (b : Bool) (side : Side) → is_some (if b then Some side else None) ≡ b
turn_some true side = refl
turn_some false side = refl

-- where nothing is in flight, what stirs is not quiet, and where something is, it isn't either
quiet_not : (a b r : Bool) → ((a || b) || not ((not a && not b) && r)) ≡ not ((not a && not b) && r)
quiet_not true b r = refl
quiet_not false true r = refl
quiet_not false false r = refl

-- WHATEVER THE VERDICTS are
module _ (verdicts : Side → Verdict) (P : List Step) (trunks : RunTrunks) (l : LinkNo) where
  abbrev t : TrunkState
  t = trunks l.0

  abbrev first_flies : Bool
  first_flies = flies_from First t

  abbrev second_flies : Bool
  second_flies = flies_from Second t

  abbrev works : Bool
  works = not (has_work_in t.link.first.end) && not (has_work_in t.link.second.end)

  event_some : (o : Option Side)
      → is_some (event_with verdicts P trunks l o)
      ≡ (is_some o || is_some (next_ticking P trunks l))
  event_some None = ticked_some l (next_ticking P trunks l)
  event_some (Some from) = refl

  quiet_as : ((length t.link.there == 0 && length t.link.back == 0) && works)
      ≡ ((not first_flies && not second_flies) && works)
  quiet_as = rw (none_flies (length t.link.there), none_flies (length t.link.back)) refl

  ticking_some : (cut : Bool)
      → ((first_flies || second_flies)
      || is_some (if cut
      then up_side t
      else if stirs_if cut t then Some (in_turn (tick_steps P l.0)) else None))
      ≡ stirs_if cut t
  ticking_some true =
      ap (λ u. (first_flies || second_flies) || u)
      (first_some (is_up_at First t) (is_up_at Second t))
  ticking_some false =
      ap (λ u. (first_flies || second_flies) || u)
      (turn_some (stirs_if false t) (in_turn (tick_steps P l.0)))
      ∙ ap (λ q. (first_flies || second_flies) || not q) quiet_as
      ∙ quiet_not first_flies second_flies works ∙ ap not (sym quiet_as)

  -- SOMETHING IS ASKED FOR exactly where the link stirs
  pub event-stirs : is_some (event_with verdicts P trunks l (flying_side t)) ≡ stirs P trunks l.0
  event-stirs =
      event_some (flying_side t)
      ∙ ap (λ u. u || is_some (next_ticking P trunks l)) (first_some first_flies second_flies)
      ∙ ticking_some (is_cut P l.0)

  -- WHAT IS ASKED FOR: that a packet in flight meets its verdict, or, where none is, that a side
  -- ticks
  pub record IsWire (event : Event) : Type 0 where
    pub from : Side
    pub flies : 0 < length (flight_from from t.link)
    pub is : event ≡ asks.Wire l from (verdicts from)

  pub record IsTick (event : Event) : Type 0 where
    pub side : Side
    pub none : flying_side t ≡ None
    pub next : next_ticking P trunks l ≡ Some side
    pub is : event ≡ asks.Tick l side

  flown : (a b : Bool) → flies_from First t ≡ a → flies_from Second t ≡ b → (from : Side)
      → (if a then Some First else if b then Some Second else None) ≡ Some from
      → flies_from from t ≡ true
  flown true b first second from is =
      let its : First ≡ from = cc in subst (λ (side : Side). flies_from side t ≡ true) its first
  flown false true first second from is =
      let its : Second ≡ from = cc in subst (λ (side : Side). flies_from side t ≡ true) its second
  flown false false first second from is = cc

  ticked_is : (event : Event) (o : Option Side) → flying_side t ≡ None
      → next_ticking P trunks l ≡ o → ticked_by l o ≡ Some event → IsTick event
  ticked_is event None none next is = cc
  ticked_is event (Some side) none next is =
      record { side = side; none = none; next = next; is = cc }

  asked_is : (event : Event) (flying : Option Side) → flying_side t ≡ flying
      → event_with verdicts P trunks l flying ≡ Some event → IsWire event ⊎ IsTick event
  asked_is event None flying is =
      inr (ticked_is event (next_ticking P trunks l) flying refl is)
  asked_is event (Some from) flying is = inl (record {
    from = from;
    flies = ltb-true 0 (length (flight_from from t.link))
        (flown first_flies second_flies refl refl from flying);
    is = cc;
  })

  pub event-asked : (event : Event) → event_with verdicts P trunks l (flying_side t) ≡ Some event
      → IsWire event ⊎ IsTick event
  event-asked event is = asked_is event (flying_side t) refl is

-- A PUMP ASKS FOR SOMETHING exactly where its link stirs
pub pump-stirs : (script : ScriptParts) (P : List Step) (trunks : RunTrunks) (l : LinkNo)
    → is_some (pump_event script P trunks l) ≡ stirs P trunks l.0
pump-stirs script P trunks l = event-stirs (verdict_for script P l) P trunks l

-- what it asks for
pub pump-asked : (script : ScriptParts) (P : List Step) (trunks : RunTrunks) (l : LinkNo)
    (event : Event) → pump_event script P trunks l ≡ Some event
    → IsWire (verdict_for script P l) P trunks l event
    ⊎ IsTick (verdict_for script P l) P trunks l event
pump-asked script P trunks l event is = event-asked (verdict_for script P l) P trunks l event is

-- ITS VERDICTS are in range
used_fits : (plan : List Verdict) (used : ℕ) → list_all fits_verdict plan ≡ true
    → fits_verdict (verdict_or plan used) ≡ true
used_fits [] zero all = refl
used_fits [] (suc used) all = refl
used_fits (v ∷ rest) zero all =
    (and_parts (fits_verdict v) (list_all fits_verdict rest) all).0
used_fits (v ∷ rest) (suc used) all =
    used_fits rest used (and_parts (fits_verdict v) (list_all fits_verdict rest) all).1

side_fits : (plans : Plans) (from : Side) → fits_plans plans ≡ true
    → fits_plan (side_of plans from) ≡ true
side_fits plans First fits =
    (and_parts (fits_plan plans.from_first) (fits_plan plans.from_second) fits).0
side_fits plans Second fits =
    (and_parts (fits_plan plans.from_first) (fits_plan plans.from_second) fits).1

plan_fits : (all : List Plans) (place : ℕ) (from : Side) → list_all fits_plans all ≡ true
    → list_all fits_verdict (plan_in (slice_get all place) from) ≡ true
plan_fits [] zero from fits = refl
plan_fits [] (suc place) from fits = refl
plan_fits (plans ∷ rest) zero from fits =
    let plan : List Verdict = side_of plans from in
    let here = (and_parts (fits_plans plans) (list_all fits_plans rest) fits).0 in
    let its = side_fits plans from here in
    (and_parts (nat_le (length plan) verdict_limit) (list_all fits_verdict plan) its).1
plan_fits (plans ∷ rest) (suc place) from fits =
    plan_fits rest place from (and_parts (fits_plans plans) (list_all fits_plans rest) fits).1

verdict_with : (cut settled : Bool) (plan : List Verdict) (used : ℕ)
    → list_all fits_verdict plan ≡ true
    → fits_verdict (if cut then Lose else if settled then Deliver else verdict_or plan used) ≡ true
verdict_with true settled plan used fits = refl
verdict_with false true plan used fits = refl
verdict_with false false plan used fits = used_fits plan used fits

-- IT MAY ASK for what it asks
module _ (s : ScriptParts) (declared : IsScript s) (f : Layout) (shape : f.shape ≡ shape_of s)
    (l : LinkNo) (of_shape : IsLinkOf (shape_of s) l) where
  abbrev P : List Step
  P = f.log.steps

  abbrev trunks : RunTrunks
  trunks = trunks_of f.trunks

  abbrev pumped : Event → Ask
  pumped event = record { event = event; hand = None }

  there : IsLinkOf f.shape l
  there = rw shape of_shape

  meets : (from : Side) → 0 < length (flight_from from (trunks l.0).link)
      → MayMeet f l from (verdict_for s P l from)
  meets from flies = record {
    of_shape = there;
    flies = flies;
    lost = λ cut. rw cut refl;
    fits = verdict_with (is_cut P l.0) (are_plans_ended P l.0) (planned_verdicts s l from)
        (wire_steps P l.0 from) (plan_fits s.plans (l.0 - 1) from declared.plans);
  }

  pub pump-asks : (event : Event) → pump_event s P trunks l ≡ Some event
      → MayAsk f (Pump l) (pumped event)
  pump-asks event is =
      elim (pump-asked s P trunks l event is) [
        | inl wire ↦
            subst (λ (e : Event). MayAsk f (Pump l) (pumped e)) (sym wire.is)
            (record {
              maker = there;
              may = eq-eqb l.0 l.0 refl;
              handed = refl;
              fits = meets wire.from wire.flies;
            })
        | inr tick ↦
            subst (λ (e : Event). MayAsk f (Pump l) (pumped e)) (sym tick.is)
            (record {
              maker = there;
              may = eq-eqb l.0 l.0 refl;
              handed = refl;
              fits = there;
            })
      ]

-- WHAT IT MAKES is as planned
module _ (script : ScriptParts) (f : Layout) (l : LinkNo) (event : Event) where
  -- the head of its event, which is as planned
  pub pump-planned : pump_event script f.log.steps (trunks_of f.trunks) l ≡ Some event
      → (head : Head)
      × ((pumped_head event ≡ Some head)
      × IsPlannedHead script f.log.steps (trunks_of f.trunks) head)
  pump-planned is =
      elim (pump-asked script f.log.steps (trunks_of f.trunks) l event is) [
        | inl wire ↦ (
          heads.Wire l wire.from (verdict_for script f.log.steps l wire.from),
          (ap pumped_head wire.is, is ∙ ap (λ (e : Event). Some e) wire.is),
        )
        | inr tick ↦ (
          heads.Tick l tick.side,
          (ap pumped_head tick.is, is ∙ ap (λ (e : Event). Some e) tick.is),
        )
      ]

  -- a step of its event is added, whose head is as planned
  pub pump-heads : pump_event script f.log.steps (trunks_of f.trunks) l ≡ Some event
      → (next : Layout) (answer : StepAnswer)
      → IsStepped f next (Pump l) (record { event = event; hand = None }) answer
      → (head : Head)
      × (IsStepOf f next (Pump l) head answer
      × IsPlannedHead script f.log.steps (trunks_of f.trunks) head)
  pump-heads is next answer stepped =
      let planned = pump-planned is in (
        planned.0,
        (
          subst (λ (o : Option Head). IsStepFor f next (Pump l) o answer) planned.1.0 stepped,
          planned.1.1,
        ),
      )

-- THE CODE'S TESTS. Even numbers leave nothing when they are halved
next-halves : (n : ℕ) → not (n % 2 == 0) ≡ (suc n % 2 == 0)
next-halves n = grind (arith, nat_tests)

even-halves : (n : ℕ) → is_even n ≡ (n % 2 == 0)
even-halves zero = refl
even-halves (suc n) = ap not (even-halves n) ∙ next-halves n

pub even-first : (n : ℕ) → n % 2 ≡ 0 → First ≡ in_turn n
even-first n is = rw (even-halves n, eq-eqb (n % 2) 0 is) refl

pub odd-second : (n : ℕ) → n % 2 ≢ 0 → Second ≡ in_turn n
odd-second n is = rw (even-halves n, ne_eqb (n % 2) 0 is) refl

-- a link of a script's shape is declared
pub link-named : (s : ScriptParts) → IsScript s → (l : LinkNo) → IsLinkOf (shape_of s) l
    → is_link s l ≡ true
link-named s declared l of_shape =
    let named = declared.each_name in
    let above = of_shape.0 in
    let within = of_shape.1 in
    rw (le-leb 1 l.0 (omega arith), le-leb l.0 (length s.names.links) (omega arith)) refl
