-- A step leaves no choice, and settling a link doesn't.
use Rattle.std.proofs.Common.{◌≡◌, ℕ, zero, suc, ◌<◌, ◌⊎◌, Bool, true, List, ◌∷◌, Option, Some}
use Rattle.std.proofs.Common.{None, refl, sym, ◌∙◌, ap, subst, inl, inr, arith}
use Rattle.std.proofs.lemmas.Bool.{cases_order}
use Rattle.std.proofs.lemmas.Option.{same_Some}
use Rattle.linx_base.specs.declared.identity.LinkNo.{LinkNo}
use Rattle.journal.specs.Logs.{Log}
use Rattle.journal.specs.Shapes.{Shape}
use Rattle.journal.specs.declared.by.By.{By}
use Rattle.journal.specs.declared.effect.Effect.{Effect}
use Rattle.journal.specs.declared.effect.Step.{Step}
use Rattle.journal.specs.declared.event.Event.{Event}
use Rattle.journal.specs.declared.head.Head.{Head}
use Rattle.link_laws.specs.Ends.{HasTwoEnds, IsLinkOf}
use Rattle.link_laws.specs.Laws.{KeepsLinks}
use Rattle.node_kernel.specs.declared.answers.StepAnswer.{StepAnswer}
use Rattle.node_kernel.specs.declared.ask.Ask.{Ask}
use Rattle.run_trunks.specs.States.{trunks_of}
use Rattle.trunk.specs.Events.{TrunkState}
use Rattle.trunk_moves.specs.Steps.{IsTrunkStep}
use Rattle.trunk_moves.specs.Trunks.{Become}
use Rattle.fabric.specs.Actings.{OnlyRuns}
use Rattle.fabric.specs.Links.{no_link_stirs}
use Rattle.fabric.specs.Machine.{head_for}
use Rattle.fabric.specs.Run.{IsStepFor, IsStepOf, IsStepped, Layout}
use Rattle.run_states.proofs.States.{runs_reach_one_state}
use Rattle.stage.specs.Settlings.{AreSettlings, IsSettling, stirs_in}
use Rattle.stage.proofs.Settling.Steps.{HasMoved, by-move, due-stirs, has-moved}
use Rattle.stage.proofs.Plans.SameTrunks.{settling_alike, still_alike, stirs_alike}
use Rattle.run_orders.proofs.States.{AreAlike, Grows, IsLonger, alike-as, alike-turned, by-alike}
use Rattle.run_orders.proofs.States.{grows-on, longer-as, longer-on, longer-one, state}

-- ---- a step

-- it adds one step, or changes nothing
for-grows : (old new : Layout) (by : By) (head : Option Head) (answer : StepAnswer)
    → IsStepFor old new by head answer → Grows old new
for-grows old new by None answer made = inl made.0
for-grows old new by (Some head) answer made =
    inr (longer-one old new (record { by = by; head = head; effects = made.effects }) made.steps)

-- no link stirs
abbrev still_in : Layout → Bool
still_in f = no_link_stirs f.shape f.log.steps (trunks_of f.trunks)

pub step-grows : (old new : Layout) (by : By) (ask : Ask) (answer : StepAnswer)
    → IsStepped old new by ask answer → Grows old new
step-grows old new by ask answer stepped =
    for-grows old new by (head_for old.shape old.log.steps (still_in old) by ask) answer stepped

-- ---- a step that settles

-- the link of a step that settles is there
settling-link : (by : By) (l : LinkNo) (old new : Layout) → IsSettling by l old new
    → IsLinkOf old.shape l
settling-link by l old new s =
    let moved : HasMoved by l old new = has-moved by l old new s in
    by-move l (λ (h : Head). KeepsLinks old.shape h → IsLinkOf old.shape l) (λ from is. is)
    (λ side is. is) moved.head moved.move moved.step.makes.laws.links

-- it adds a step, and so many of them do
settling-longer : (by : By) (l : LinkNo) (old new : Layout) → IsSettling by l old new
    → IsLonger old new
settling-longer by l old new s =
    let moved : HasMoved by l old new = has-moved by l old new s in
    longer-one old new _ moved.step.steps

pub settlings-grow : (by : By) (l : LinkNo) (n : ℕ) (old new : Layout)
    → AreSettlings by l n old new → Grows old new
settlings-grow by l zero old new made = inl made
settlings-grow by l (suc n) old new made =
    grows-on old made.0 new (settlings-grow by l n old made.0 made.1.0)
    (inr (settling-longer by l made.0 new made.1.1))

-- so many steps of more, and the link stirs there
record HasSettled (by : By) (l : LinkNo) (n : ℕ) (old new : Layout) : Type 0 where
  pub mid : Layout
  pub made : AreSettlings by l n old mid
  pub linked : IsLinkOf mid.shape l
  pub stirs : stirs_in mid l ≡ true
  pub after : IsLonger mid new

settlings-split : (by : By) (l : LinkNo) (n m : ℕ) (old new : Layout) → n < m
    → AreSettlings by l m old new → HasSettled by l n old new
settlings-split by l n zero old new less made = absurd (omega (arith, less))
settlings-split by l n (suc m) old new less made =
    go (cases_order n m) (λ fewer. settlings-split by l n m old made.0 fewer made.1.0)
  where
    go : (n ≡ m) ⊎ ((n < m) ⊎ (m < n)) → (n < m → HasSettled by l n old made.0)
        → HasSettled by l n old new
    go (inl same) before = record {
      mid = made.0;
      made = subst (λ (k : ℕ). AreSettlings by l k old made.0) (sym same) made.1.0;
      linked = settling-link by l made.0 new made.1.1;
      stirs = due-stirs made.0.log.steps (trunks_of made.0.trunks) l made.1.1.event
          made.1.1.asked;
      after = settling-longer by l made.0 new made.1.1;
    }
    go (inr (inl fewer)) before =
        let was : HasSettled by l n old made.0 = before fewer in
        record {
          mid = was.mid;
          made = was.made;
          linked = was.linked;
          stirs = was.stirs;
          after = longer-on was.mid made.0 new was.after
              (settling-longer by l made.0 new made.1.1);
        }
    go (inr (inr more)) before = absurd (omega (arith, less, more))

-- TWO SETTLINGS COMPARED: they come to states that are alike, or one of them went on where the
-- other one stopped, and the link stirs there
pub data IsCompared (shape : Shape) (l : LinkNo) (one two : Layout) : Type 0 where
  abreast : AreAlike shape one two → IsCompared shape l one two
  shorter : stirs_in one l ≡ true → IsLonger one two → IsCompared shape l one two
  longer : stirs_in two l ≡ true → IsLonger two one → IsCompared shape l one two

module _ (shape : Shape) (ends : HasTwoEnds shape) where
  module _ (log : Log) (first second : List TrunkState)
      (same : Become shape (trunks_of first) (trunks_of second)) (by : By)
      (new_one new_two : Layout) (answer_one answer_two : StepAnswer)
      (fixed_one : OnlyRuns (state shape log first) new_one)
      (fixed_two : OnlyRuns (state shape log second) new_two) where
    -- a step with a head is the same
    of-same : (head : Head)
        → IsStepOf (state shape log first) new_one by head answer_one
        → IsStepOf (state shape log second) new_two by head answer_two
        → AreAlike shape new_one new_two
    of-same head one two =
        let effects : one.effects ≡ two.effects =
        runs_reach_one_state.effects shape log.steps (trunks_of first) (trunks_of second) by head
        one.effects two.effects (trunks_of new_one.trunks) (trunks_of new_two.trunks) same
        one.makes two.makes in
        let s_one : Step = record { by = by; head = head; effects = one.effects } in
        let makes : IsTrunkStep shape log.steps (trunks_of second) s_one
        (trunks_of new_two.trunks) =
        subst (λ (es : List Effect).
        IsTrunkStep shape log.steps (trunks_of second)
        (let s : Step = record { by = by; head = head; effects = es } in s)
        (trunks_of new_two.trunks)) (sym effects) two.makes in
        let steps : new_one.log.steps ≡ new_two.log.steps =
        one.steps
        ∙ ap (λ (es : List Effect).
        (let s : Step = record { by = by; head = head; effects = es } in s) ∷ log.steps) effects
        ∙ sym two.steps in
        record {
          first = ap (λ (f : Layout). f.shape) fixed_one;
          second = ap (λ (f : Layout). f.shape) fixed_two;
          log = ap (λ (f : Layout). f.log) fixed_one
              ∙ ap (λ (P : List Step). (let l : Log = record log { steps = P } in l)) steps
              ∙ sym (ap (λ (f : Layout). f.log) fixed_two);
          trunks = runs_reach_one_state.step shape ends log.steps (trunks_of first)
              (trunks_of second) s_one (trunks_of new_one.trunks) (trunks_of new_two.trunks) same
              one.makes makes;
        }

    for-same : (head : Option Head)
        → IsStepFor (state shape log first) new_one by head answer_one
        → IsStepFor (state shape log second) new_two by head answer_two
        → AreAlike shape new_one new_two
    for-same None one two =
        alike-as shape (state shape log first) (state shape log second) new_one new_two
        (record { first = refl; second = refl; log = refl; trunks = same }) one.0 two.0
    for-same (Some head) one two = of-same head one two

    stepped-same : (ask : Ask)
        → IsStepped (state shape log first) new_one by ask answer_one
        → IsStepped (state shape log second) new_two by ask answer_two
        → AreAlike shape new_one new_two
    stepped-same ask one two =
        for-same (head_for shape log.steps (no_link_stirs shape log.steps (trunks_of first)) by ask) one
        (subst (λ (still : Bool).
        IsStepFor (state shape log second) new_two by (head_for shape log.steps still by ask)
        answer_two)
        (sym (still_alike shape log.steps (trunks_of first) (trunks_of second) same)) two)

  -- A STEP that two makers alike ask for leaves states that are alike
  pub step-alike : (by : By) (ask : Ask) (answer_one answer_two : StepAnswer)
      (one two new_one new_two : Layout) → AreAlike shape one two
      → IsStepped one new_one by ask answer_one → OnlyRuns one new_one
      → IsStepped two new_two by ask answer_two → OnlyRuns two new_two
      → AreAlike shape new_one new_two
  step-alike by ask answer_one answer_two one two new_one new_two alike =
      by-alike shape (λ (f g : Layout).
      IsStepped f new_one by ask answer_one → OnlyRuns f new_one
      → IsStepped g new_two by ask answer_two → OnlyRuns g new_two
      → AreAlike shape new_one new_two)
      (λ log first second same made_one fixed_one made_two fixed_two.
      stepped-same log first second same by new_one new_two answer_one answer_two fixed_one
      fixed_two ask made_one made_two) one two alike

  -- ---- settling

  -- a link stirs in both or in none
  pub stirs-alike : (one two : Layout) (l : LinkNo) → AreAlike shape one two → IsLinkOf shape l
      → stirs_in one l ≡ stirs_in two l
  stirs-alike one two l alike of_shape =
      by-alike shape (λ (f g : Layout). stirs_in f l ≡ stirs_in g l)
      (λ log first second same.
      stirs_alike shape log.steps (trunks_of first) (trunks_of second) same l of_shape) one two alike

  -- one step of it
  settling-alike : (by : By) (l : LinkNo) (one two new_one new_two : Layout)
      → AreAlike shape one two → IsSettling by l one new_one → IsSettling by l two new_two
      → AreAlike shape new_one new_two
  settling-alike by l one two new_one new_two alike =
      by-alike shape (λ (f g : Layout).
      IsSettling by l f new_one → IsSettling by l g new_two → AreAlike shape new_one new_two)
      (λ log first second same s t.
      let f : Layout = state shape log first in
      let g : Layout = state shape log second in
      let event : s.event ≡ t.event =
      same_Some s.event t.event (sym s.asked
      ∙ settling_alike shape log.steps (trunks_of first) (trunks_of second) same l
      (settling-link by l f new_one s) ∙ t.asked) in
      step-alike by (record { event = s.event; hand = None }) s.answer t.answer f g new_one new_two
      (record { first = refl; second = refl; log = refl; trunks = same }) s.stepped s.fixed
      (subst (λ (e : Event). IsStepped g new_two by (record { event = e; hand = None }) t.answer)
      (sym event) t.stepped) t.fixed) one two alike

  -- so many steps of it
  settlings-alike : (by : By) (l : LinkNo) (n : ℕ) (one two new_one new_two : Layout)
      → AreAlike shape one two → AreSettlings by l n one new_one → AreSettlings by l n two new_two
      → AreAlike shape new_one new_two
  settlings-alike by l zero one two new_one new_two alike made_one made_two =
      alike-as shape one two new_one new_two alike made_one made_two
  settlings-alike by l (suc n) one two new_one new_two alike made_one made_two =
      settling-alike by l made_one.0 made_two.0 new_one new_two
      (settlings-alike by l n one two made_one.0 made_two.0 alike made_one.1.0 made_two.1.0)
      made_one.1.1 made_two.1.1

  -- the one with fewer steps
  fewer-settlings : (by : By) (l : LinkNo) (n m : ℕ) (one two new_one new_two : Layout)
      → AreAlike shape one two → AreSettlings by l n one new_one → AreSettlings by l m two new_two
      → n < m → (stirs_in new_one l ≡ true) × IsLonger new_one new_two
  fewer-settlings by l n m one two new_one new_two alike made_one made_two less =
      let was : HasSettled by l n two new_two = settlings-split by l n m two new_two less made_two in
      let same : AreAlike shape new_one was.mid =
      settlings-alike by l n one two new_one was.mid alike made_one was.made in (
        stirs-alike new_one was.mid l same
            (subst (λ (s : Shape). IsLinkOf s l) same.second was.linked) ∙ was.stirs,
        longer-as new_one was.mid new_two new_two same.log was.after refl,
      )

  -- any two
  pub settlings-compared : (by : By) (l : LinkNo) (n m : ℕ) (one two new_one new_two : Layout)
      → AreAlike shape one two → AreSettlings by l n one new_one → AreSettlings by l m two new_two
      → IsCompared shape l new_one new_two
  settlings-compared by l n m one two new_one new_two alike made_one made_two =
      elim (cases_order n m) [
        | inl same ↦
            abreast (settlings-alike by l n one two new_one new_two alike made_one
            (subst (λ (k : ℕ). AreSettlings by l k two new_two) (sym same) made_two))
        | inr (inl less) ↦
            let on = fewer-settlings by l n m one two new_one new_two alike made_one made_two
            less in
            shorter on.0 on.1
        | inr (inr more) ↦
            let on = fewer-settlings by l m n two one new_two new_one
            (alike-turned shape one two alike) made_two made_one more in
            longer on.0 on.1
      ]
