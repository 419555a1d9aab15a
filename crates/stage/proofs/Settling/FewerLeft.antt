-- Each step that settles a link is the next one of its way, so fewer are left.
use Rattle.std.proofs.Common.{◌≡◌, ◌<◌, ◌-◌, ◌+◌, ℕ, suc, Bool, true, false, List, ◌∷◌, length}
use Rattle.std.proofs.Common.{Option, Some, None, refl, sym, ◌∙◌, ap, subst, inl, inr, arith}
use Rattle.linx_base.specs.Sides.{other_of}
use Rattle.linx_base.specs.declared.frame.Verdict.TheVariants.{Deliver}
use Rattle.linx_base.specs.declared.identity.LinkNo.{LinkNo}
use Rattle.linx_base.specs.declared.identity.Side.{Side}
use Rattle.journal.specs.declared.by.By.{By}
use Rattle.journal.specs.declared.effect.Effect.{Effect}
use Rattle.journal.specs.declared.effect.Step.{Step}
use Rattle.journal.specs.declared.event.Event.{Event}
use Rattle.journal.specs.declared.event.Event.TheVariants as asks
use Rattle.journal.specs.declared.head.Head.{Head}
use Rattle.journal.specs.declared.head.Head.TheVariants as heads
use Rattle.journal.specs.Shapes.{Shape}
use Rattle.carrier.specs.Events.{handed_by}
use Rattle.link_laws.specs.Ends.{node_at}
use Rattle.link_settling.specs.Measure.{Falls, Measure}
use Rattle.node_kernel.specs.declared.answers.StepAnswer.{StepAnswer}
use Rattle.rlnh_end.specs.declared.heard.Heard.{Heard}
use Rattle.run_settling.specs.Laws.{LinksComeToRest, RunsSettle}
use Rattle.run_states.proofs.Making.{meets_once, told_once}
use Rattle.run_trunks.specs.States.{trunks_of}
use Rattle.trunk.specs.Events.{IsReading, TrunkState, tables_of, told_by}
use Rattle.trunk_moves.specs.Packets.{Comes, told_at}
use Rattle.trunk_moves.specs.Steps.{PacketMakes, TickMakes}
use Rattle.trunk_moves.specs.Trunks.{RunTrunks}
use Rattle.trunk_moves.proofs.Runs.{trunk_runs_are_runs}
use Rattle.trunk_moves.proofs.Sides.{is_trunk}
use Rattle.fabric.specs.Actings.{OnlyRuns, asking}
use Rattle.fabric.specs.Links.{stirs, tick_steps}
use Rattle.fabric.specs.Run.{IsStepOf, IsStepped, Layout}
use Rattle.link_laws.specs.Sessions.{is_cut}
use Rattle.stage.specs.Pumps.{event_with, flying_side, in_turn, next_ticking, settling_event}
use Rattle.stage.specs.Pumps.{ticked_by, up_side}
use Rattle.stage.specs.Settlings.{ticks_of}
use Rattle.stage.proofs.Settling.StepsLeft.{Way, beat, came, left, next, next_beat, next_came}
use Rattle.stage.proofs.Settling.StepsLeft.{step_less, steps_left}
use Rattle.stage.proofs.Plans.PumpsRule.{IsTick, IsWire}
use Rattle.stage.proofs.Settling.Readings.{heard_for, reading_for}
use Rattle.stage.proofs.Settling.SixTicks.{IsUnderWay, none-flies, on-with, some-left, turn_taken}
use Rattle.stage.proofs.Settling.Steps.{delivering, settling-asked, tick-made, wire-made}

-- where a settling is, after so many ticks of six
pub way_at : LinkNo → Layout → ℕ → Way
way_at l f ticks = record {
  ticks = 6 - ticks;
  steps = f.log.steps;
  trunk = trunks_of f.trunks l.0;
}

-- the side whose packet comes is the one that is asked for
no_packet : (l : LinkNo) (from : Side) (o : Option Side)
    → ticked_by l o ≡ Some (asks.Wire l from Deliver) → ⊥
no_packet l from None is = cc
no_packet l from (Some side) is = cc

flying_is : (P : List Step) (l : LinkNo) (from : Side) (ticking o : Option Side)
    → ((event_from : Option Side → Option Event)
    → event_from None ≡ ticked_by l ticking
    → ((x : Side) → event_from (Some x) ≡ Some (asks.Wire l x Deliver))
    → event_from o ≡ Some (asks.Wire l from Deliver) → o ≡ Some from)
flying_is P l from ticking None event_from none some is =
    absurd (no_packet l from ticking (sym none ∙ is))
flying_is P l from ticking (Some x) event_from none some is =
    let same : Some (asks.Wire l x Deliver) ≡ Some (asks.Wire l from Deliver) =
    sym (some x) ∙ is in
    let its : x ≡ from = cc in
    ap (λ (side : Side). Some side) its

module _ (law : RunsSettle) (rest : LinksComeToRest) (by : By) (l : LinkNo)
    (start old new : Layout) (ticks_so_far : ℕ) (way : IsUnderWay by l start old ticks_so_far)
    (room : length old.log.steps < 200000) (answer : StepAnswer) where
  abbrev P : List Step
  P = old.log.steps

  abbrev t : TrunkState
  t = trunks_of old.trunks l.0

  -- ---- a packet

  module _ (from : Side) (step : IsStepOf old new by (heads.Wire l from Deliver) answer) where
    abbrev n : ℕ
    n = node_at old.shape l (other_of from)

    abbrev its : Heard
    its = heard_for (handed_by from 0 t.link)

    passes : PacketMakes old.shape P (trunks_of old.trunks) (trunks_of new.trunks) l from Deliver
        step.effects
    passes = step.makes.makes

    read : IsReading (handed_by from 0 t.link) its
    read =
        reading_for from t
        ((trunk_runs_are_runs old.shape P (trunks_of old.trunks) way.run).kept l passes.of_shape)
        (handed_by from 0 t.link) refl

    effects_are : step.effects
        ≡ told_at P n l (other_of from) t
        (told_by from 0 its t)
    effects_are =
        passes.meets.effects
        ∙ ap (told_at P n l (other_of from) t)
        (told_once (tables_of (other_of from) t) passes.meets.heard its (handed_by from 0 t.link)
        passes.meets.reading read)

    trunk_is : trunks_of new.trunks l.0 ≡ (came by old.shape l from (way_at l old ticks_so_far)).trunk
    unfolding way_at
    trunk_is =
        is_trunk old.shape (trunks_of old.trunks) (trunks_of new.trunks) l passes.of_shape
        passes.trunk passes.makes
        ∙ meets_once P n l from step.effects Deliver t passes.trunk
        (came by old.shape l from (way_at l old ticks_so_far)).trunk passes.meets
        (record { heard = its; reading = read; effects = effects_are; makes = refl })

    came_is : came by old.shape l from (way_at l old ticks_so_far) ≡ way_at l new ticks_so_far
    unfolding way_at
    came_is =
        ap (λ (steps : List Step). let w : Way = record {
          ticks = 6 - ticks_so_far;
          steps = steps;
          trunk = (came by old.shape l from (way_at l old ticks_so_far)).trunk;
        } in w)
        (sym (step.steps ∙ ap (λ (es : List Effect). (let s : Step =
        record { by = by; head = heads.Wire l from Deliver; effects = es } in s) ∷ P) effects_are))
        ∙ ap (λ (u : TrunkState). let w : Way = record {
          ticks = 6 - ticks_so_far;
          steps = new.log.steps;
          trunk = u;
        } in w) (sym trunk_is)

    pub wire_next : flying_side t ≡ Some from
        → next by old.shape l (way_at l old ticks_so_far) ≡ Some (way_at l new ticks_so_far)
    unfolding way_at
    wire_next flies =
        let less : Falls (left by old.shape l (way_at l new ticks_so_far))
        (left by old.shape l (way_at l old ticks_so_far)) =
        rest.ends.falls old.shape P (trunks_of old.trunks) _ (trunks_of new.trunks)
        (on-with law old new by l ticks_so_far way.run room way.left
        (heads.Wire l from Deliver) answer step) l from refl in
        next_came by old.shape l from (way_at l old ticks_so_far) flies
        (subst (λ (w : Way). Falls (left by old.shape l w)
        (left by old.shape l (way_at l old ticks_so_far))) (sym came_is) less)
        ∙ ap (λ (w : Way). Some w) came_is

  -- ---- a tick

  module _ (side : Side) (step : IsStepOf old new by (heads.Tick l side) answer) where
    ticked : TickMakes old.shape P (trunks_of old.trunks) (trunks_of new.trunks) l side
        step.effects
    ticked = step.makes.makes

    beat_is : beat by old.shape l (6 - (ticks_so_far + 1)) side (way_at l old ticks_so_far)
        ≡ way_at l new (ticks_so_far + 1)
    unfolding way_at
    beat_is =
        ap (λ (steps : List Step). let w : Way = record {
          ticks = 6 - (ticks_so_far + 1);
          steps = steps;
          trunk = (beat by old.shape l (6 - (ticks_so_far + 1)) side
              (way_at l old ticks_so_far)).trunk;
        } in w)
        (sym (step.steps ∙ ap (λ (es : List Effect). (let s : Step =
        record { by = by; head = heads.Tick l side; effects = es } in s) ∷ P)
        ticked.beat.effects))
        ∙ ap (λ (u : TrunkState). let w : Way = record {
          ticks = 6 - (ticks_so_far + 1);
          steps = new.log.steps;
          trunk = u;
        } in w)
        (sym (is_trunk old.shape (trunks_of old.trunks) (trunks_of new.trunks) l ticked.of_shape
        ticked.trunk ticked.makes ∙ ticked.beat.makes))

    pub tick_next : flying_side t ≡ None → ticks_so_far < 6
        → side ≡ in_turn (tick_steps P l.0)
        → next by old.shape l (way_at l old ticks_so_far)
        ≡ Some (way_at l new (ticks_so_far + 1))
    unfolding way_at
    tick_next none less turn =
        let one : 6 - ticks_so_far ≡ suc (6 - (ticks_so_far + 1)) = omega arith in
        next_beat by old.shape l (6 - (ticks_so_far + 1)) (way_at l old ticks_so_far) none one
        ∙ ap (λ (x : Side). Some
        (beat by old.shape l (6 - (ticks_so_far + 1)) x (way_at l old ticks_so_far))) (sym turn)
        ∙ ap (λ (w : Way). Some w) beat_is

-- FEWER STEPS ARE LEFT after one
module _ (law : RunsSettle) (rest : LinksComeToRest) (by : By) (l : LinkNo)
    (start old new : Layout) (ticks_so_far : ℕ) (way : IsUnderWay by l start old ticks_so_far)
    (event : Event)
    (asked : settling_event old.log.steps (trunks_of old.trunks) l ≡ Some event)
    (answer : StepAnswer) (stepped : IsStepped old new by (asking event None) answer)
    (room : length old.log.steps < 200000) where
  abbrev Q : List Step
  Q = old.log.steps

  abbrev trunks : RunTrunks
  trunks = trunks_of old.trunks

  is_next : next by old.shape l (way_at l old ticks_so_far)
      ≡ Some (way_at l new (ticks_so_far + ticks_of event))
  is_next =
      elim (settling-asked Q trunks l event asked) [
        | inl wire ↦
            let none : ticks_so_far ≡ ticks_so_far + ticks_of event =
            let zero_more : ticks_of event ≡ 0 = ap ticks_of wire.is in omega (arith, zero_more) in
            let flies : flying_side (trunks l.0) ≡ Some wire.from =
            flying_is Q l wire.from (next_ticking Q trunks l) (flying_side (trunks l.0))
            (event_with delivering Q trunks l) refl (λ x. refl)
            (asked ∙ ap (λ (e : Event). Some e) wire.is) in
            wire_next law rest by l start old new ticks_so_far way room answer wire.from
            (wire-made old new by l wire.from event answer wire.is stepped) flies
            ∙ ap (λ (n : ℕ). Some (way_at l new n)) none
        | inr tick ↦
            let one : ticks_so_far + 1 ≡ ticks_so_far + ticks_of event =
            let one_more : ticks_of event ≡ 1 = ap ticks_of tick.is in omega (arith, one_more) in
            let turn = turn_taken (is_cut Q l.0) (stirs Q trunks l.0) (up_side (trunks l.0))
            (in_turn (tick_steps Q l.0)) tick.side tick.next way.whole in
            let less = some-left law old new by l ticks_so_far way.run room way.left
            (none-flies (trunks l.0) tick.none) way.whole turn.0 in
            tick_next law rest by l start old new ticks_so_far way room answer tick.side
            (tick-made old new by l tick.side event answer tick.is stepped) tick.none less turn.1
            ∙ ap (λ (n : ℕ). Some (way_at l new n)) one
      ]

  pub fewer_left : steps_left by start.shape l (way_at l new (ticks_so_far + ticks_of event))
      < steps_left by start.shape l (way_at l old ticks_so_far)
  fewer_left =
      let same : old.shape ≡ start.shape = ap (λ (f : Layout). f.shape) way.fixed in
      subst (λ (s : Shape). steps_left by s l (way_at l new (ticks_so_far + ticks_of event))
      < steps_left by s l (way_at l old ticks_so_far)) same
      (let one = step_less by old.shape l (way_at l old ticks_so_far)
      (way_at l new (ticks_so_far + ticks_of event)) is_next in
      omega (arith, one))
