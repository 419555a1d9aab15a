-- What one call under the lock did, seen from the caller's pass.
use Rattle.std.specs.Prelude.{ℕ, ◌≡◌, ◌<◌, ◌≤◌, ◌⊎◌, ◌&&◌, true, false, List, [], ◌∷◌, length}
use Rattle.std.specs.Prelude.{is_some, Option, Some, None, Result, Ok, Err}
use Rattle.sigsel.specs.Selection.{first_selected}
use Rattle.sigsel.specs.declared.sigsel.Sigsel.{Sigsel}
use Rattle.journal.specs.declared.by.By.{By}
use Rattle.journal.specs.declared.by.By.TheVariants.{Actor}
use Rattle.journal.specs.declared.effect.Step.{Step}
use Rattle.journal.specs.declared.event.Event.TheVariants.{Look}
use Rattle.journal.specs.History.{endpoint_of, has_ended}
use Rattle.journal.specs.Logs.{is_full}
use Rattle.journal.specs.Rest.{queue_of, waits_with}
use Rattle.link_laws.specs.Laws.{IsLegal, IsLegalStep}
use Rattle.link_laws.specs.Runs.{KeepsThroughout}
use Rattle.node_kernel.specs.declared.answers.StepAnswer.{StepAnswer}
use Rattle.node_kernel.specs.declared.answers.StepAnswer.TheVariants.{NotYet}
use Rattle.node_kernel.specs.declared.ask.Ask.{Ask}
use Rattle.node_kernel.specs.Answers.{answer_of, is_pump_event}
use Rattle.run_trunks.specs.States.{trunks_of}
use Rattle.trunk_moves.specs.Steps.{IsTrunkStep}
use Rattle.trunk_moves.specs.Trunks.{links_of}
use Rattle.fabric.specs.declared.stop.StepStop.{StepStop}
use Rattle.fabric.specs.declared.stop.StopCause.TheVariants.{JournalFull}
use Rattle.fabric.specs.Actings.{OnlyRuns}
use Rattle.fabric.specs.Asks.{MayAsk}
use Rattle.fabric.specs.Links.{no_link_stirs}
use Rattle.fabric.specs.Machine.{head_for, is_at_rest}
use Rattle.fabric.specs.Run.{IsReachedBy, Layout}
use Rattle.turn_lock.specs.declared.story.Made.{Made}
use Rattle.turn_lock.specs.Passes.{PassView, own_steps}
use Rattle.turn_lock.specs.Stories.{RestsFor, made}
use Rattle.linx_api.specs.Telling.{PlanParts, plan_of, steps_in, story_of}

-- the pass is an actor's
abbrev pub IsActors : PassView Step PlanParts → Type 0
IsActors p = (0 < p.number) × (p.number ≤ length p.fixed.shape.actors)

-- the actor of a pass has not ended, by the pass's own steps
abbrev pub IsRunning : PassView Step PlanParts → Type 0
IsRunning p = has_ended (steps_in (own_steps p)) p.number ≡ false

-- a fabric on what the pass has as its fixed part, with the pass's own steps alone; of trunks the
-- pass knows nothing
abbrev pub own_layout : PassView Step PlanParts → Layout
own_layout p = record {
  shape = p.fixed.shape;
  log = record { names = p.fixed.names; steps = steps_in (own_steps p) };
  trunks = [];
}

-- What the actor of a pass may ask for, by its fixed part and its own steps: anything but what the
-- wires and the clock of a link do
pub record CanAsk (p : PassView Step PlanParts) (ask : Ask) : Type 0 where
  pub may : MayAsk (own_layout p) (Actor p.number) ask
  pub unpumped : is_pump_event ask.event ≡ false

-- A LAWFUL RUN: its journal is legal by the laws of nodes and links, and keeps what is promised of
-- runs with links after each of its steps, and each step is the machine's and made of the trunks
-- what its kind makes
pub record IsLawful (f : Layout) : Type 0 where
  pub legal : IsLegal f.shape f.log.steps
  pub promises : KeepsThroughout f.shape f.log.steps (links_of (trunks_of f.trunks))
  pub reached : IsReachedBy f

module _ (old new : Layout) (by : By) (ask : Ask) where
  -- A STEP WAS MADE of what a maker asked: its head is the machine's, it is legal, it made of the
  -- trunks what its kind makes, and the reply is its answer
  pub record MakesStep (answer : StepAnswer) : Type 0 where
    pub step : Step
    pub made_by : step.by ≡ by
    pub head :
        head_for old.shape old.log.steps
        (no_link_stirs old.shape old.log.steps (trunks_of old.trunks)) by ask
        ≡ Some step.head
    pub added : new.log.steps ≡ step ∷ old.log.steps
    pub legal : IsLegalStep old.shape old.log.steps step
    pub makes :
        IsTrunkStep old.shape old.log.steps (trunks_of old.trunks) step (trunks_of new.trunks)
    pub reply : answer ≡ answer_of old.log.steps step.head step.effects

  -- NOTHING IS THERE YET for an actor, which has said that it waits: its look selects nothing in
  -- its queue, not all other actors are at rest or a link stirs, and no step was made
  pub record FindsNothing (answer : StepAnswer) : Type 0 where
    pub actor : ℕ
    pub is_actor : by ≡ Actor actor
    pub filter : Sigsel
    pub looks : ask.event ≡ Look filter
    pub none :
        first_selected filter (queue_of old.log.steps (endpoint_of old.log.steps actor)) ≡ None
    pub stirs :
        (is_at_rest old.shape old.log.steps actor
        && no_link_stirs old.shape old.log.steps (trunks_of old.trunks))
        ≡ false
    pub waits : is_some (waits_with old.log.steps actor) ≡ true
    pub head :
        head_for old.shape old.log.steps
        (no_link_stirs old.shape old.log.steps (trunks_of old.trunks)) by ask
        ≡ None
    pub same : new ≡ old
    pub reply : answer ≡ NotYet

  -- no step could be made: what was in hand is back
  pub record IsStopped (stop : StepStop) : Type 0 where
    pub same : new ≡ old
    pub hand : stop.hand ≡ ask.hand
    pub full : stop.cause ≡ JournalFull → is_full old.log.steps ≡ true

  -- what an event gives a maker: its step was made, or nothing is there yet, or no step could be
  -- made
  abbrev pub Gives : Result StepAnswer StepStop → Type 0
  Gives (Ok answer) = MakesStep answer ⊎ FindsNothing answer
  Gives (Err stop) = IsStopped stop

  -- WHAT A MAKER IS ANSWERED is what its event gives, and a full journal takes no step
  pub record IsAnswered (result : Result StepAnswer StepStop) : Type 0 where
    pub gives : Gives result
    pub full : is_full old.log.steps ≡ true
        → result ≡ Err (record { cause = JournalFull; hand = ask.hand })

-- the steps of a fabric, and this one where one was made
abbrev pub steps_with : Layout → Option Step → List Step
steps_with f None = f.log.steps
steps_with f (Some s) = s ∷ f.log.steps

-- the own steps of a pass, and this one where one was made
abbrev pub own_with : PassView Step PlanParts → Option Step → List (Made Step)
own_with p None = own_steps p
own_with p (Some s) = made p.number s ∷ own_steps p

-- ONE CALL. It found a lawful run, whose journal goes on from what the pass had seen with no step
-- of this pass. It gave what the event gives there, and what it left is lawful and has the same
-- fixed part. The pass has seen all of that journal; its own steps are the old ones, and this one
-- where one was made
pub record IsAsked (before : PassView Step PlanParts) (ask : Ask)
    (result : Result StepAnswer StepStop) (after : PassView Step PlanParts) : Type 0 where
  pub found : Layout
  pub left : Layout
  pub plan : plan_of found ≡ before.fixed
  pub rests : RestsFor before.number (story_of found) before.front
  pub lawful : IsLawful found
  pub answered : IsAnswered found left (Actor before.number) ask result
  pub stays : OnlyRuns found left
  pub remains : IsLawful left
  pub same : after ≡ record before { front = story_of left }
  pub step : Option Step
  pub adds : left.log.steps ≡ steps_with found step
  pub own : own_steps after ≡ own_with before step
