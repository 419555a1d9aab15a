-- A link that is settled with at most six ticks.
use Rattle.std.proofs.Common.{◌≡◌, ℕ, suc, ◌+◌, ◌-◌, ◌<◌, ◌≤◌, Bool, true, false, not, List, []}
use Rattle.std.proofs.Common.{◌∷◌, length, Option, Some, None, refl, sym, ◌∙◌, ap, subst, inl, inr}
use Rattle.std.proofs.Common.{arith, nat_lt, is_some, ◌&&◌, ◌||◌, if◌then◌else◌, eq-eqb, lt-ltb}
use Rattle.std.proofs.Common.{true≢false}
use Rattle.std.proofs.lemmas.Bool.{cases_lt}
use Rattle.linx_base.specs.Sides.{other_of}
use Rattle.linx_base.specs.declared.frame.Verdict.TheVariants.{Deliver}
use Rattle.linx_base.specs.declared.identity.LinkNo.{LinkNo}
use Rattle.linx_base.specs.declared.identity.Side.{Side}
use Rattle.linx_base.specs.declared.identity.Side.TheVariants.{First, Second}
use Rattle.journal.specs.declared.by.By.{By}
use Rattle.journal.specs.declared.by.By.TheVariants.{Actor, Pump}
use Rattle.journal.specs.declared.effect.Effect.{Effect}
use Rattle.journal.specs.declared.effect.Step.{Step}
use Rattle.journal.specs.declared.event.Event.{Event}
use Rattle.journal.specs.declared.head.Head.{Head}
use Rattle.journal.specs.declared.head.Head.TheVariants as heads
use Rattle.journal.specs.History.{is_by}
use Rattle.journal.specs.Laws.{IsMaker}
use Rattle.journal.specs.Shapes.{Shape}
use Rattle.carrier.specs.Events.{is_quiet}
use Rattle.link_laws.specs.Ends.{IsLinkOf}
use Rattle.link_laws.specs.Sessions.{is_cut}
use Rattle.link_settling.specs.Runs.{IsEmpty}
use Rattle.run_settling.specs.Laws.{LinkSettlesIn, RunGoesOn, RunsSettle}
use Rattle.node_kernel.specs.declared.answers.StepAnswer.{StepAnswer}
use Rattle.run_trunks.specs.States.{trunks_of}
use Rattle.trunk.specs.Events.{TrunkState}
use Rattle.trunk_moves.specs.Steps.{IsBoundedTrunkRun}
use Rattle.fabric.specs.Actings.{OnlyRuns, asking}
use Rattle.fabric.specs.Links.{flies_from, are_plans_ended, is_tick, stirs, stirs_if, tick_steps}
use Rattle.fabric.specs.Run.{IsReachedBy, IsStepOf, IsStepped, Layout}
use Rattle.fabric.specs.Remains.{IsLaidOut}
use Rattle.fabric.proofs.Methods.Runs.{reached-run, whole-of}
use Rattle.stage.specs.Pumps.{flying_side, in_turn, is_even, settling_event, up_side}
use Rattle.stage.specs.Settlings.{AreSettlings, IsSettled, StopsSettling, ticks_of}
use Rattle.stage.proofs.Plans.PumpsRule.{IsTick, IsWire}
use Rattle.stage.proofs.Settling.Steps.{beats, delivering, delivers, due-stirs, move-goes_on}
use Rattle.stage.proofs.Settling.Steps.{moved-settled, moved-whole, runs-more, settling-asked}
use Rattle.stage.proofs.Settling.Steps.{settling-stirs, tick-made, wire-made, IsMoveOf}

-- NOTHING FLIES where no side's packet comes next
empty_of : {X : Type 0} (xs : List X) → nat_lt 0 (length xs) ≡ false → xs ≡ []
empty_of [] is = refl
empty_of (x ∷ xs) is =
    absurd (true≢false (sym (lt-ltb 0 (length (x ∷ xs)) (omega arith)) ∙ is))

none_of : (a b : Bool) → (if a then Some First else if b then Some Second else None) ≡ None
    → (a ≡ false) × (b ≡ false)
none_of true b is = cc
none_of false true is = cc
none_of false false is = (refl, refl)

pub none-flies : (t : TrunkState) → flying_side t ≡ None → IsEmpty t.link
none-flies t is =
    let none = none_of (flies_from First t) (flies_from Second t) is in
    (empty_of t.link.there none.0, empty_of t.link.back none.1)

-- THE SIDE IN TURN ticks where the link isn't cut
pub turn_taken : (cut moves : Bool) (up : Option Side) (turn side : Side)
    → (if cut then up else if moves then Some turn else None) ≡ Some side → cut ≡ false
    → (moves ≡ true) × (side ≡ turn)
turn_taken true moves up turn side is whole = absurd (true≢false whole)
turn_taken false true up turn side is whole = (refl, cc)
turn_taken false false up turn side is whole = cc

-- and then the other one is
turn_passes : (b : Bool)
    → (if not b then First else Second) ≡ other_of (if b then First else Second)
turn_passes true = refl
turn_passes false = refl

next-turn : (n : ℕ) → in_turn (suc n) ≡ other_of (in_turn n)
next-turn n = turn_passes (is_even n)

false_from_not : (b : Bool) → not b ≡ true → b ≡ false
false_from_not true is = absurd (true≢false (sym is))
false_from_not false is = refl

true_from_not : (b : Bool) → not b ≡ false → b ≡ true
true_from_not true is = refl
true_from_not false is = absurd (true≢false is)

-- THE TICKS THAT ARE LEFT of six
pub record IsLeft (l : LinkNo) (f : Layout) (ticks : ℕ) : Type 0 where
  pub few : ticks ≤ 6
  pub settles :
      LinkSettlesIn (6 - ticks) (in_turn (tick_steps f.log.steps l.0)) l (trunks_of f.trunks)

module _ (law : RunsSettle) (old new : Layout) (by : By) (l : LinkNo) (ticks_so_far : ℕ)
    (run : IsBoundedTrunkRun old.shape old.log.steps (trunks_of old.trunks))
    (room : length old.log.steps < 200000) (left : IsLeft l old ticks_so_far) where
  pub on-with : (head : Head) (answer : StepAnswer) (step : IsStepOf old new by head answer)
      → RunGoesOn old.shape old.log.steps (trunks_of old.trunks)
      (record { by = by; head = head; effects = step.effects }) (trunks_of new.trunks)
  on-with head answer step = record { run = run; room = room; step = step.makes }

  -- a packet leaves them
  pub left-wire : (from : Side) (answer : StepAnswer)
      → (step : IsStepOf old new by (heads.Wire l from Deliver) answer)
      → tick_steps new.log.steps l.0 ≡ tick_steps old.log.steps l.0 → IsLeft l new ticks_so_far
  left-wire from answer step same = record {
    few = left.few;
    settles = subst (λ (n : ℕ). LinkSettlesIn (6 - ticks_so_far) (in_turn n) l
        (trunks_of new.trunks)) (sym same)
        (law.comes old.shape old.log.steps (trunks_of old.trunks) _ (trunks_of new.trunks)
        (on-with (heads.Wire l from Deliver) answer step) l from refl (6 - ticks_so_far)
        (in_turn (tick_steps old.log.steps l.0)) left.settles);
  }

  -- there are some where it stirs with nothing in flight
  pub some-left : IsEmpty (trunks_of old.trunks l.0).link → is_cut old.log.steps l.0 ≡ false
      → stirs old.log.steps (trunks_of old.trunks) l.0 ≡ true → ticks_so_far < 6
  some-left empty whole moves =
      elim (cases_lt ticks_so_far 6) [
        | inl less ↦ less
        | inr most ↦
            let none : 6 - ticks_so_far ≡ 0 = omega arith in
            let quiet : is_quiet (trunks_of old.trunks l.0).link ≡ true =
            law.quiet l (trunks_of old.trunks) (in_turn (tick_steps old.log.steps l.0)) empty
            (subst (λ (n : ℕ). LinkSettlesIn n (in_turn (tick_steps old.log.steps l.0)) l
            (trunks_of old.trunks)) none left.settles) in
            let still : stirs old.log.steps (trunks_of old.trunks) l.0 ≡ false =
            rw (whole, quiet) refl in
            absurd (true≢false (sym moves ∙ still))
      ]

  -- a tick takes one
  pub left-tick : (side : Side) (answer : StepAnswer)
      → (step : IsStepOf old new by (heads.Tick l side) answer)
      → IsEmpty (trunks_of old.trunks l.0).link → ticks_so_far < 6
      → side ≡ in_turn (tick_steps old.log.steps l.0)
      → tick_steps new.log.steps l.0 ≡ suc (tick_steps old.log.steps l.0)
      → IsLeft l new (ticks_so_far + 1)
  left-tick side answer step empty less turn more =
      let one : 6 - ticks_so_far ≡ suc (6 - (ticks_so_far + 1)) = omega arith in
      let count : ℕ = tick_steps old.log.steps l.0 in
      let before : LinkSettlesIn (suc (6 - (ticks_so_far + 1))) side l (trunks_of old.trunks) =
      subst (λ (x : Side). LinkSettlesIn (suc (6 - (ticks_so_far + 1))) x l
      (trunks_of old.trunks)) (sym turn)
      (subst (λ (n : ℕ). LinkSettlesIn n (in_turn count) l (trunks_of old.trunks)) one
      left.settles) in
      record {
        few = omega arith;
        settles = subst (λ (x : Side). LinkSettlesIn (6 - (ticks_so_far + 1)) x l
            (trunks_of new.trunks))
            (ap other_of turn ∙ sym (next-turn count) ∙ sym (ap in_turn more))
            (law.ticked old.shape old.log.steps (trunks_of old.trunks) _ (trunks_of new.trunks)
            (on-with (heads.Tick l side) answer step) l side refl empty (6 - (ticks_so_far + 1))
            before);
      }

-- a run with one step more is whole
pub whole-more : (old new : Layout) (by : By) (head : Head) (answer : StepAnswer)
    → IsStepOf old new by head answer → OnlyRuns old new → length old.log.steps < 200000
    → IsBoundedTrunkRun old.shape old.log.steps (trunks_of old.trunks)
    → IsBoundedTrunkRun new.shape new.log.steps (trunks_of new.trunks)
whole-more old new by head answer step fixed room run =
    let s : Step = record { by = by; head = head; effects = step.effects } in
    let long : length new.log.steps ≡ suc (length old.log.steps) = ap length step.steps in
    subst (λ (x : Shape). IsBoundedTrunkRun x new.log.steps (trunks_of new.trunks))
    (sym (ap (λ (f : Layout). f.shape) fixed))
    (subst (λ (P : List Step). IsBoundedTrunkRun old.shape P (trunks_of new.trunks))
    (sym step.steps) (record {
      two_ends = run.two_ends;
      nodes = run.nodes;
      fits = omega arith;
      run = (trunks_of old.trunks, (run.run, step.makes));
    }))

-- who makes steps goes on making them
pub maker-more : (shape : Shape) (P : List Step) (by who : By) (head : Head) (es : List Effect)
    (l : LinkNo) → IsMoveOf l head → IsMaker shape P by
    → IsMaker shape ((let s : Step = record { by = who; head = head; effects = es } in s) ∷ P) by
maker-more shape P (Pump m) who head es l move maker = maker
maker-more shape P (Actor k) who head es l move maker = (
  maker.0,
  maker.1,
  rw (move-goes_on l head move, maker.2) (both (is_by who k)),
)
  where
    both : (b : Bool) → ((b && false) || false) ≡ false
    both true = refl
    both false = refl

-- A SETTLING UNDER WAY, with so many ticks so far
pub record IsUnderWay (by : By) (l : LinkNo) (start now : Layout) (ticks : ℕ) : Type 0 where
  pub steps : ℕ
  pub made : AreSettlings by l steps start now
  pub counted : tick_steps now.log.steps l.0 ≡ tick_steps start.log.steps l.0 + ticks
  pub left : IsLeft l now ticks
  pub run : IsBoundedTrunkRun now.shape now.log.steps (trunks_of now.trunks)
  pub of_shape : IsLinkOf now.shape l
  pub whole : is_cut now.log.steps l.0 ≡ false
  pub settled : are_plans_ended now.log.steps l.0 ≡ true
  pub maker : IsMaker now.shape now.log.steps by
  pub fixed : OnlyRuns start now

-- it begins
pub way-begins : RunsSettle → (by : By) (l : LinkNo) (f : Layout) → IsLinkOf f.shape l
    → IsMaker f.shape f.log.steps by → is_cut f.log.steps l.0 ≡ false
    → are_plans_ended f.log.steps l.0 ≡ true → IsLaidOut (length f.log.names.nodes) f.shape
    → length f.log.steps ≤ 200000 → IsReachedBy f → IsUnderWay by l f f 0
way-begins law by l f of_shape maker whole settled laid few reached =
    let run : IsBoundedTrunkRun f.shape f.log.steps (trunks_of f.trunks) =
    whole-of (length f.log.names.nodes) f.shape laid f.log.steps (trunks_of f.trunks) few
    (reached-run (length f.log.names.nodes) f.shape f.log.steps (trunks_of f.trunks) reached) in
    record {
      steps = 0;
      made = refl;
      counted = omega arith;
      left = record {
        few = omega arith;
        settles = law.begins f.shape f.log.steps (trunks_of f.trunks) run l of_shape
            (in_turn (tick_steps f.log.steps l.0));
      };
      run = run;
      of_shape = of_shape;
      whole = whole;
      settled = settled;
      maker = maker;
      fixed = refl;
    }

-- IT GOES ON by a step
module _ (law : RunsSettle) (by : By) (l : LinkNo) (start old new : Layout) (ticks_so_far : ℕ)
    (way : IsUnderWay by l start old ticks_so_far) (event : Event)
    (asked : settling_event old.log.steps (trunks_of old.trunks) l ≡ Some event)
    (answer : StepAnswer) (stepped : IsStepped old new by (asking event None) answer)
    (fixed : OnlyRuns old new) (room : length old.log.steps < 200000) where
  abbrev P : List Step
  P = old.log.steps

  way-with : (head : Head) (move : IsMoveOf l head) (step : IsStepOf old new by head answer)
      (more : ℕ)
      → tick_steps new.log.steps l.0 ≡ tick_steps P l.0 + more
      → IsLeft l new (ticks_so_far + more)
      → IsUnderWay by l start new (ticks_so_far + more)
  way-with head move step more counts left =
      let before = way.counted in
      let same : new.shape ≡ old.shape = ap (λ (f : Layout). f.shape) fixed in
      record {
        steps = suc way.steps;
        made = (
          old,
          (
            way.made,
            record {
              event = event;
              asked = asked;
              answer = answer;
              stepped = stepped;
              fixed = fixed;
            },
          ),
        );
        counted = omega (arith, before, counts);
        left = left;
        run = whole-more old new by head answer step fixed room way.run;
        of_shape = subst (λ (x : Shape). IsLinkOf x l) (sym same) way.of_shape;
        whole = subst (λ (Q : List Step). is_cut Q l.0 ≡ false) (sym step.steps)
            (moved-whole by l P head step.effects move way.whole);
        settled = subst (λ (Q : List Step). are_plans_ended Q l.0 ≡ true) (sym step.steps)
            (moved-settled by l P head step.effects move way.settled);
        maker = subst (λ (x : Shape). IsMaker x new.log.steps by) (sym same)
            (subst (λ (Q : List Step). IsMaker old.shape Q by) (sym step.steps)
            (maker-more old.shape P by by head step.effects l move way.maker));
        fixed = runs-more start old new way.fixed fixed;
      }

  way-wire : IsWire delivering P (trunks_of old.trunks) l event
      → IsUnderWay by l start new (ticks_so_far + ticks_of event)
  way-wire wire =
      let step = wire-made old new by l wire.from event answer wire.is stepped in
      let count : tick_steps new.log.steps l.0 ≡ tick_steps P l.0 =
      ap (λ (Q : List Step). tick_steps Q l.0) step.steps in
      let none : ticks_of event ≡ 0 = ap ticks_of wire.is in
      let left : IsLeft l new ticks_so_far =
      left-wire law old new by l ticks_so_far way.run room way.left wire.from answer step count in
      let zero_more : ticks_so_far ≡ ticks_so_far + 0 = omega arith in
      subst (λ (n : ℕ). IsUnderWay by l start new (ticks_so_far + n)) (sym none)
      (way-with (heads.Wire l wire.from Deliver) (delivers wire.from refl) step 0
      (omega (arith, count)) (subst (IsLeft l new) zero_more left))

  way-tick : IsTick delivering P (trunks_of old.trunks) l event
      → IsUnderWay by l start new (ticks_so_far + ticks_of event)
  way-tick tick =
      let step = tick-made old new by l tick.side event answer tick.is stepped in
      let its : is_tick l.0 (heads.Tick l tick.side) ≡ true = eq-eqb l.0 l.0 refl in
      let count : tick_steps new.log.steps l.0 ≡ suc (tick_steps P l.0) =
      ap (λ (Q : List Step). tick_steps Q l.0) step.steps ∙ rw its refl in
      let one : ticks_of event ≡ 1 = ap ticks_of tick.is in
      let empty = none-flies (trunks_of old.trunks l.0) tick.none in
      let turn = turn_taken (is_cut P l.0) (stirs P (trunks_of old.trunks) l.0)
      (up_side (trunks_of old.trunks l.0)) (in_turn (tick_steps P l.0)) tick.side tick.next
      way.whole in
      let some = some-left law old new by l ticks_so_far way.run room way.left empty way.whole
      turn.0 in
      let left : IsLeft l new (ticks_so_far + 1) =
      left-tick law old new by l ticks_so_far way.run room way.left tick.side answer step empty some
      turn.1 count in
      subst (λ (n : ℕ). IsUnderWay by l start new (ticks_so_far + n)) (sym one)
      (way-with (heads.Tick l tick.side) (beats tick.side refl) step 1 (omega (arith, count)) left)

  pub way-more : IsUnderWay by l start new (ticks_so_far + ticks_of event)
  way-more =
      elim (settling-asked P (trunks_of old.trunks) l event asked) [
        | inl wire ↦ way-wire wire
        | inr tick ↦ way-tick tick
      ]

-- IT ENDS where no step is due
pub way-ends : RunsSettle → (by : By) (l : LinkNo) (start now : Layout) (ticks : ℕ)
    → IsUnderWay by l start now ticks
    → settling_event now.log.steps (trunks_of now.trunks) l ≡ None
    → IsSettled by l ticks start now
way-ends law by l start now ticks way none =
    let still : stirs now.log.steps (trunks_of now.trunks) l.0 ≡ false =
    sym (settling-stirs now.log.steps (trunks_of now.trunks) l) ∙ ap is_some none in
    let calm : not (is_quiet (trunks_of now.trunks l.0).link) ≡ false =
    subst (λ (b : Bool). stirs_if b (trunks_of now.trunks l.0) ≡ false) way.whole still in
    record {
      steps = way.steps;
      made = way.made;
      counted = way.counted;
      few = way.left.few;
      still = still;
      joined =
          let quiet = true_from_not (is_quiet (trunks_of now.trunks l.0).link) calm in
          record {
            quiet = quiet;
            sides = law.joined now.shape now.log.steps (trunks_of now.trunks) way.run l
                way.of_shape quiet;
          };
    }

-- IT STOPS where one is
pub way-stops : (by : By) (l : LinkNo) (start now : Layout) (ticks : ℕ)
    → IsUnderWay by l start now ticks → (event : Event)
    → settling_event now.log.steps (trunks_of now.trunks) l ≡ Some event
    → StopsSettling by l start now
way-stops by l start now ticks way event is = record {
  steps = way.steps;
  made = way.made;
  due = due-stirs now.log.steps (trunks_of now.trunks) l event is;
}
