-- One call: what was taken, what was made of it, and what was given back.
use Rattle.std.proofs.Common.{◌≡◌, ℕ, Bool, true, false, ◌&&◌, ◌||◌, List, [], ◌∷◌, ◌++◌, length}
use Rattle.std.proofs.Common.{Option, Some, None, refl, sym, ◌∙◌, ap, subst, inl, inr, arith}
use Rattle.std.proofs.Common.{Result, Ok, Err}
use Rattle.std.proofs.lemmas.List.Elements.{All-nil, All-cons}
use Rattle.journal.specs.declared.by.By.{By}
use Rattle.journal.specs.declared.by.By.TheVariants.{Actor}
use Rattle.journal.specs.declared.effect.Step.{Step}
use Rattle.journal.specs.History.{has_ended, is_by, is_end}
use Rattle.journal.specs.Shapes.{Shape, node_by}
use Rattle.node_kernel.specs.declared.answers.StepAnswer.{StepAnswer}
use Rattle.node_kernel.specs.declared.ask.Ask.{Ask}
use Rattle.node_kernel.specs.Answers.{is_end_event}
use Rattle.run_trunks.specs.States.{trunks_of}
use Rattle.fabric.specs.declared.stop.StepStop.{StepStop}
use Rattle.fabric.specs.Actings.{OnlyRuns}
use Rattle.fabric.specs.Asks.{FitsEvent, MayAsk}
use Rattle.fabric.specs.Links.{no_link_stirs}
use Rattle.fabric.specs.Machine.{signal_in}
use Rattle.fabric.specs.Run.{Layout}
use Rattle.turn_lock.specs.declared.story.Made.{Made}
use Rattle.turn_lock.specs.Passes.{PassView, own_steps}
use Rattle.turn_lock.specs.Stories.{IsAddedBy, RestsFor, made, made_by}
use Rattle.linx_api.specs.Asked.{CanAsk, Gives, IsAnswered, IsAsked, IsLawful, IsRunning}
use Rattle.linx_api.specs.Asked.{own_layout, own_with, steps_with}
use Rattle.linx_api.specs.Telling.{PlanParts, made_steps, maker_number, numbered, plan_of, steps_in}
use Rattle.linx_api.specs.Telling.{story_of}
use Rattle.linx_api.proofs.Answering.{fits-there, head-runs}
use Rattle.linx_api.proofs.Own.{own-ended}

-- what one event leaves of a fabric
module _ (x y : Layout) (only : OnlyRuns x y) where
  shape-stays : y.shape ≡ x.shape
  shape-stays = ap (λ (f : Layout). f.shape) only

  -- the names, the links and the actors' nodes stay
  pub plan-stays : plan_of y ≡ plan_of x
  plan-stays = ap plan_of only

  -- the story with one step more
  pub story-one : (s : Step) → y.log.steps ≡ s ∷ x.log.steps
      → story_of y ≡ numbered x.shape s ∷ story_of x
  story-one s added = ap (λ shape. made_steps shape y.log.steps) shape-stays
      ∙ ap (made_steps x.shape) added

  -- WHAT ONE EVENT ADDS is of its maker
  pub gives-added : (by : By) (n : ℕ) (ask : Ask) (result : Result StepAnswer StepStop)
      → maker_number x.shape by ≡ n → Gives x y by ask result
      → IsAddedBy n (story_of y) (story_of x)
  gives-added by n ask (Err stop) number stopped =
      ([], ap story_of stopped.same, All-nil (λ (m : Made Step). m.maker ≡ n))
  gives-added by n ask (Ok answer) number (inl made) =
      let maker = ap (λ b. maker_number x.shape b) made.made_by ∙ number in (
        numbered x.shape made.step ∷ [],
        story-one made.step made.added,
        All-cons (λ (m : Made Step). m.maker ≡ n) (numbered x.shape made.step) [] maker
            (All-nil (λ (m : Made Step). m.maker ≡ n)),
      )
  gives-added by n ask (Ok answer) number (inr nothing) =
      ([], ap story_of nothing.same, All-nil (λ (m : Made Step). m.maker ≡ n))

-- THE FABRIC that is taken: the actor of the pass may ask there what it can ask
pub can-ask : (pass turn : PassView Step PlanParts) (x : Layout) (ask : Ask)
    → turn ≡ record pass { front = story_of x } → own_steps turn ≡ own_steps pass
    → plan_of x ≡ pass.fixed → CanAsk pass ask → MayAsk x (Actor pass.number) ask
can-ask pass turn x ask turn_is own plan can =
    let k = pass.number in
    let shape : pass.fixed.shape ≡ x.shape = sym (ap (λ (p : PlanParts). p.shape) plan) in
    let names : pass.fixed.names ≡ x.log.names = sym (ap (λ (p : PlanParts). p.names) plan) in
    let mine : own_steps (record pass { front = story_of x }) ≡ own_steps pass =
    sym (ap own_steps turn_is) ∙ own in
    let running : has_ended x.log.steps k ≡ false =
    sym (own-ended x.shape k x.log.steps)
    ∙ (ap (λ l. has_ended (steps_in l) k) mine ∙ can.may.maker.2) in
    let fits : FitsEvent x (node_by pass.fixed.shape (Actor k)) ask.event (signal_in ask.hand) =
    fits-there (own_layout pass) x shape names (node_by pass.fixed.shape (Actor k)) ask.event
    (signal_in ask.hand) can.unpumped can.may.fits in
    record {
      maker = (can.may.maker.0, rw (← shape) can.may.maker.1, running);
      may = can.may.may;
      handed = can.may.handed;
      fits = subst
          (λ (s : Shape). FitsEvent x (node_by s (Actor k)) ask.event (signal_in ask.hand)) shape
          fits;
    }

module _ (pass turn : PassView Step PlanParts) (x y : Layout) (ask : Ask)
    (result : Result StepAnswer StepStop) (turn_is : turn ≡ record pass { front = story_of x })
    (plan : plan_of x ≡ pass.fixed) (only : OnlyRuns x y) where
  -- what is given back adds to it steps of this pass alone
  pub given-added : Gives x y (Actor pass.number) ask result
      → IsAddedBy turn.number (story_of y) turn.front
  given-added gives =
      rw turn_is (gives-added x y only (Actor pass.number) pass.number ask result refl gives)

  -- and has the same plan
  pub given-fixed : plan_of y ≡ turn.fixed
  given-fixed =
      plan-stays x y only
      ∙ (plan ∙ sym (ap (λ (p : PassView Step PlanParts). p.fixed) turn_is))

  -- what the pass made of it
  own-made : (after : PassView Step PlanParts)
      → ((added : List (Made Step)) → story_of y ≡ added ++ story_of x
      → own_steps after ≡ added ++ own_steps pass)
      → (r : Result StepAnswer StepStop) → Gives x y (Actor pass.number) ask r
      → (s : Option Step)
      × ((y.log.steps ≡ steps_with x s) × (own_steps after ≡ own_with pass s))
  own-made after mine (Err stop) stopped =
      (None, (ap (λ (f : Layout). f.log.steps) stopped.same, mine [] (ap story_of stopped.same)))
  own-made after mine (Ok answer) (inr nothing) =
      (None, (ap (λ (f : Layout). f.log.steps) nothing.same, mine [] (ap story_of nothing.same)))
  own-made after mine (Ok answer) (inl one) =
      let number : maker_number x.shape one.step.by ≡ pass.number =
      ap (λ (by : By). maker_number x.shape by) one.made_by in (
        Some one.step,
        (
          one.added,
          mine (numbered x.shape one.step ∷ []) (story-one x y only one.step one.added)
              ∙ ap (λ (n : ℕ). made n one.step ∷ own_steps pass) number,
        ),
      )

  -- ONE CALL
  pub is-asked : (after : PassView Step PlanParts) → RestsFor pass.number (story_of x) pass.front
      → own_steps turn ≡ own_steps pass → IsLawful x → IsLawful y
      → IsAnswered x y (Actor pass.number) ask result
      → after ≡ record turn { front = story_of y }
      → ((added : List (Made Step)) → story_of y ≡ added ++ turn.front
      → own_steps after ≡ added ++ own_steps turn)
      → IsAsked pass ask result after
  is-asked after rests own lawful remains answered after_is mine =
      let found : story_of x ≡ turn.front =
      sym (ap (λ (p : PassView Step PlanParts). p.front) turn_is) in
      let its = own-made after
      (λ added e. mine added (e ∙ ap (λ l. added ++ l) found) ∙ ap (λ l. added ++ l) own)
      result answered.gives in
      record {
        found = x;
        left = y;
        plan = plan;
        rests = rests;
        lawful = lawful;
        answered = answered;
        stays = only;
        remains = remains;
        same = after_is
            ∙ ap (λ (p : PassView Step PlanParts).
            let q : PassView Step PlanParts = record p { front = story_of y } in q) turn_is;
        step = its.0;
        adds = its.1.0;
        own = its.1.1;
      }

-- a step more that is no end
more-ends : (mine end before : Bool) → end ≡ false → before ≡ false
    → ((mine && end) || before) ≡ false
more-ends true end before goes runs = rw (goes, runs) refl
more-ends false end before goes runs = runs

-- AFTER A CALL that asked for no end the actor still runs
module _ (before after : PassView Step PlanParts) (ask : Ask)
    (result : Result StepAnswer StepStop) (asked : IsAsked before ask result after) where
  abbrev ends-in : List (Made Step) → Type 0
  ends-in l = has_ended (steps_in l) before.number ≡ false

  abbrev found : Layout
  found = asked.found

  -- the steps that this pass made, of a front
  abbrev own-in : List (Made Step) → List (Made Step)
  own-in front = made_by before.number front

  same-number : after.number ≡ before.number
  same-number = ap (λ (p : PassView Step PlanParts). p.number) asked.same

  front-is : after.front ≡ story_of asked.left
  front-is = ap (λ (p : PassView Step PlanParts). p.front) asked.same

  -- what its own steps are after the call
  own-after : (s : Option Step) → asked.step ≡ s → own-in after.front ≡ own_with before s
  own-after s is =
      sym (ap (λ (n : ℕ). made_by n after.front) same-number)
      ∙ (asked.own ∙ ap (own_with before) is)

  -- the step that was made, if one was
  no-step : (o : Option Step) → steps_with found o ≡ found.log.steps → o ≡ None
  no-step None is = refl
  no-step (Some s) is = let long = ap (λ (P : List Step). length P) is in absurd (omega arith)

  that-step : (o : Option Step) (s : Step) → steps_with found o ≡ s ∷ found.log.steps
      → o ≡ Some s
  that-step None s is = let long = ap (λ (P : List Step). length P) is in absurd (omega arith)
  that-step (Some t) s is = let it : t ≡ s = cc in ap (λ (x : Step). Some x) it

  same-own : asked.left ≡ found → own-in after.front ≡ own_steps before
  same-own same =
      own-after None
      (no-step asked.step (sym asked.adds ∙ ap (λ (f : Layout). f.log.steps) same))

  gives-runs : (r : Result StepAnswer StepStop)
      → Gives found asked.left (Actor before.number) ask r
      → is_end_event ask.event ≡ false → ends-in (own_steps before)
      → ends-in (own-in after.front)
  gives-runs (Err stop) stopped goes runs = rw (same-own stopped.same) runs
  gives-runs (Ok answer) (inr nothing) goes runs = rw (same-own nothing.same) runs
  gives-runs (Ok answer) (inl one) goes runs =
      let mine = own-after (Some one.step)
      (that-step asked.step one.step (sym asked.adds ∙ one.added)) in
      let goes_on : is_end one.step.head ≡ false =
      head-runs found.shape found.log.steps
      (no_link_stirs found.shape found.log.steps (trunks_of found.trunks)) before.number ask
      one.step.head one.head goes in
      ap (λ l. has_ended (steps_in l) before.number) mine
      ∙ more-ends (is_by one.step.by before.number) (is_end one.step.head)
      (has_ended (steps_in (own_steps before)) before.number) goes_on runs

  pub runs-on : is_end_event ask.event ≡ false → IsRunning before → IsRunning after
  runs-on goes runs =
      subst (λ (n : ℕ). has_ended (steps_in (made_by n after.front)) n ≡ false) (sym same-number)
      (gives-runs result asked.answered.gives goes runs)
