-- Turns make a round, and rounds a whole run.
use Rattle.std.proofs.Common.{◌≡◌, ℕ, zero, suc, ◌+◌, ◌-◌, ◌<◌, ◌≤◌, Bool, true, false, List}
use Rattle.std.proofs.Common.{length, Result, Ok, Err, OnErr, Option, Some, None, refl, sym, ◌∙◌}
use Rattle.std.proofs.Common.{ap, subst, inl, inr, arith, not, ◌&&◌, is_some, nat_le, nat_lt}
use Rattle.std.proofs.Common.{if◌then◌else◌, le-leb, leb-true, ltb-true, true≢false}
use Rattle.std.proofs.lemmas.Bool.{and_parts, cases_order, lt-leb}
use Rattle.std.proofs.lemmas.List.{length-map}
use Rattle.linx_base.specs.declared.identity.LinkNo.{LinkNo}
use Rattle.journal.specs.declared.by.By.TheVariants.{Actor}
use Rattle.journal.specs.declared.effect.Step.{Step}
use Rattle.journal.specs.declared.event.Event.TheVariants as asks
use Rattle.journal.specs.History.{has_ended}
use Rattle.journal.specs.Shapes.{Shape}
use Rattle.link_laws.specs.Ends.{IsLinkOf}
use Rattle.node_kernel.specs.declared.answers.StepAnswer.{StepAnswer}
use Rattle.node_kernel.specs.declared.ask.Ask.{Ask}
use Rattle.run_trunks.specs.States.{trunks_of}
use Rattle.script_lang.specs.Parts.{ScriptParts}
use Rattle.trunk_moves.specs.Trunks.{RunTrunks}
use Rattle.fabric.specs.Actings.{OnlyRuns}
use Rattle.fabric.specs.Asks.{MayAsk}
use Rattle.fabric.specs.Links.{no_link_stirs, none_stirs, stirs}
use Rattle.fabric.specs.Machine.{all_have_ended}
use Rattle.fabric.specs.Run.{Layout}
use Rattle.fabric.proofs.Trunks.Resting.{ended-each}
use Rattle.fabric.specs.declared.stop.StopCause.{StopCause}
use Rattle.stage.specs.declared.stage.Pump.{Pump}
use Rattle.stage.specs.declared.stage.Turn.{Turn}
use Rattle.stage.specs.Settlings.{IsHalfDone, Settler, if_stirs, settler_in, settler_of, stirs_on}
use Rattle.stage.specs.Turns.{AreRounds, AreTurns, IsDueForActor, IsDueForLink, IsPump, IsRound}
use Rattle.stage.specs.Turns.{IsStoppedBy, IsStoppedOf, IsStoppedRound, IsStoppedRun, IsTurn}
use Rattle.stage.specs.Turns.{IsTurnBy, IsTurnOf, IsTurnStopped, asked_next, is_over}
use Rattle.stage.specs.Turns.{makers, shape_of}
use Rattle.stage.proofs.Actors.Going.{begun-under, settle-made, settles-there, settles_it}
use Rattle.stage.proofs.Actors.Idling.{not_true}
use Rattle.stage.proofs.Settling.Steps.{IsUnder, settles-now, settlings-fixed, settlings-under}

-- one turn more
pub turns-more : (script : ScriptParts) (start before now : Layout) (n : ℕ)
    → AreTurns script n start before → IsTurnOf script (n + 1) before now
    → AreTurns script (n + 1) start now
turns-more script start before now n turns turn =
    let next : n + 1 ≡ suc n = omega arith in
    subst (λ (m : ℕ). AreTurns script m start now) (sym next)
    (before, (turns, subst (λ (m : ℕ). IsTurnOf script m before now) next turn))

-- so many rounds, and one more
abbrev pub HaveRounds : ScriptParts → Layout → Layout → Type 0
HaveRounds script start now = (n : ℕ) × AreRounds script n start now

pub rounds-more : (script : ScriptParts) (start before now : Layout)
    → HaveRounds script start before → is_over before ≡ false → IsRound script before now
    → HaveRounds script start now
rounds-more script start before now rounds running round =
    (suc rounds.0, (before, (rounds.1, (running, round))))

-- so many turns of a round, and then one that stopped
abbrev pub HasFront : ScriptParts → Layout → Layout → Type 0
HasFront script before now =
    (n : ℕ) × (n < makers script) × IsStoppedRound script n before now

-- a run that stopped there
pub run-stopped : (script : ScriptParts) (start before now : Layout)
    → HaveRounds script start before → is_over before ≡ false → HasFront script before now
    → IsStoppedRun script start now
run-stopped script start before now rounds running front = record {
  rounds = rounds.0;
  before = before;
  made = rounds.1;
  running = running;
  turns = front.0;
  few = front.1;
  stopped = front.2;
}

-- WHERE A MAKER HAS A TURN TO TAKE not all is over
module _ (script : ScriptParts) (f : Layout) (shape : f.shape ≡ shape_of script) where
  over_parts : is_over f ≡ true → (all_have_ended f.shape f.log.steps ≡ true)
      × (no_link_stirs f.shape f.log.steps (trunks_of f.trunks) ≡ true)
  over_parts over =
      and_parts (all_have_ended f.shape f.log.steps)
      (no_link_stirs f.shape f.log.steps (trunks_of f.trunks)) over

  not_over : (is_over f ≡ true → ⊥) → is_over f ≡ false
  not_over never = go (is_over f) refl
    where
      go : (b : Bool) → is_over f ≡ b → is_over f ≡ false
      go true is = absurd (never is)
      go false is = is

  pub running-not_over : (k : ℕ) → 0 < k → k ≤ length script.actors
      → has_ended f.log.steps k ≡ false → is_over f ≡ false
  running-not_over k above within running =
      not_over (λ over.
      let count : length f.shape.actors ≡ length script.actors =
      ap (λ (s : Shape). length s.actors) shape ∙ length-map script.actors (λ a. a.node) in
      true≢false (sym (ended-each f.log.steps (length f.shape.actors) k (over_parts over).0 above
      (omega arith)) ∙ running))

  still_each : (P : List Step) (trunks : RunTrunks) (n l : ℕ) → none_stirs P trunks n ≡ true
      → 0 < l → l ≤ n → stirs P trunks l ≡ false
  still_each P trunks zero l none above within = absurd (omega arith)
  still_each P trunks (suc n) l none above within =
      let parts = and_parts (none_stirs P trunks n) (not (stirs P trunks (suc n))) none in
      elim (cases_order l (suc n)) [
        | inl same ↦ subst (λ (x : ℕ). stirs P trunks x ≡ false) (sym same)
            (not_true (stirs P trunks (suc n)) parts.1)
        | inr (inl less) ↦ still_each P trunks n l parts.0 above (omega arith)
        | inr (inr more) ↦ absurd (omega arith)
      ]

  pub stirring-not_over : (l : LinkNo) → IsLinkOf (shape_of script) l
      → stirs f.log.steps (trunks_of f.trunks) l.0 ≡ true → is_over f ≡ false
  stirring-not_over l of_shape moves =
      not_over (λ over.
      let count : length f.shape.links ≡ length script.links =
      ap (λ (s : Shape). length s.links) shape in
      let within : l.0 ≤ length script.links = of_shape.1 in
      true≢false (sym moves ∙ still_each f.log.steps (trunks_of f.trunks) (length f.shape.links) l.0
      (over_parts over).1 of_shape.0 (omega arith)))

  -- WHERE AN ACTOR SETTLES A LINK not all is over
  pub settling-not_over : is_some (settler_in f) ≡ true → is_over f ≡ false
  settling-not_over is = go (settler_of f.log.steps) is
    where
      go : (o : Option Settler)
          → is_some (if_stirs f.shape f.log.steps (trunks_of f.trunks) o) ≡ true → is_over f ≡ false
      go None is = absurd (true≢false (sym is))
      go (Some w) is = on w (stirs_on f.shape f.log.steps (trunks_of f.trunks) w.link) refl is
        where
          on : (w : Settler) (b : Bool)
              → stirs_on f.shape f.log.steps (trunks_of f.trunks) w.link ≡ b
              → is_some (if b then Some w else None) ≡ true → is_over f ≡ false
          on w true stirs_so is =
              let parts = and_parts (nat_lt 0 w.link.0 && nat_le w.link.0 (length f.shape.links))
              (stirs f.log.steps (trunks_of f.trunks) w.link.0) stirs_so in
              let bounds = and_parts (nat_lt 0 w.link.0)
              (nat_le w.link.0 (length f.shape.links)) parts.0 in
              stirring-not_over w.link
              (subst (λ (s : Shape). IsLinkOf s w.link) shape
              (ltb-true 0 w.link.0 bounds.0, leb-true w.link.0 (length f.shape.links) bounds.1))
              parts.1
          on w false stirs_so is = absurd (true≢false (sym is))

  -- so where a step is due, not all is over
  pub due-actor : (k : ℕ) → 0 < k → k ≤ length script.actors → IsDueForActor f k
      → is_over f ≡ false
  due-actor k above within due =
      elim due [
        | inl running ↦ running-not_over k above within running
        | inr settles ↦ settling-not_over settles
      ]

  pub due-link : (l : LinkNo) → IsLinkOf (shape_of script) l → IsDueForLink f l
      → is_over f ≡ false
  due-link l of_shape due =
      elim due [
        | inl moves ↦ stirring-not_over l of_shape moves
        | inr settles ↦ settling-not_over settles
      ]

-- WHERE A SETTLE IS HALF DONE its actor settles the link
pub half-settles : (old new : Layout) (k : ℕ) (ask : Ask) (answer : StepAnswer)
    → MayAsk old (Actor k) ask → IsHalfDone old new k ask answer
    → is_some (settler_in new) ≡ true
half-settles old new k ask answer may half =
    let on = half.stops in
    let l : LinkNo = on.link in
    let event : ask.event ≡ asks.Settle l = settles_it ask.event l on.asked in
    let step = settle-made old half.between k ask answer l event half.stepped in
    let under : IsUnder k l half.between.log.steps =
    begun-under old half.between k l answer step on.whole in
    let far = settlings-under k l on.stops.steps half.between new on.stops.made under in
    let fixed : OnlyRuns half.between new =
    settlings-fixed (Actor k) l on.stops.steps half.between new on.stops.made in
    let same : new.shape ≡ old.shape =
    ap (λ (f : Layout). f.shape) fixed ∙ ap (λ (f : Layout). f.shape) half.fixed in
    let there : IsLinkOf new.shape l =
    subst (λ (s : Shape). IsLinkOf s l) (sym same) (settles-there old k ask l may event) in
    ap is_some
    (settles-now new.shape k l new.log.steps (trunks_of new.trunks) far.settler there
    on.stops.due)

-- so where an actor's turn stopped, its turn is due
pub stopped-due : (script : ScriptParts) (old new : Layout) (k : ℕ)
    → MayAsk old (Actor k) (asked_next script k old) → has_ended old.log.steps k ≡ false
    → IsTurnStopped script k old new → IsDueForActor new k
stopped-due script old new k may running (inl same) =
    inl (subst (λ (f : Layout). has_ended f.log.steps k ≡ false) (sym same) running)
stopped-due script old new k may running (inr half) =
    inr (half-settles old new k (asked_next script k old) half.0 may half.1)

pub turn-due : (script : ScriptParts) (old new : Layout) (k : ℕ) (r : Result Turn StopCause)
    → MayAsk old (Actor k) (asked_next script k old) → has_ended old.log.steps k ≡ false
    → OnErr r (IsTurnStopped script k old new) → OnErr r (IsDueForActor new k)
turn-due script old new k (Ok turn) may running stopped = tt
turn-due script old new k (Err cause) may running stopped =
    stopped-due script old new k may running stopped

-- what a stop changes is the run alone
pub stopped-shape : (script : ScriptParts) (k : ℕ) (old new : Layout)
    → IsTurnStopped script k old new → new.shape ≡ old.shape
stopped-shape script k old new (inl same) = ap (λ (f : Layout). f.shape) same
stopped-shape script k old new (inr half) =
    let between : Layout = half.1.between in
    ap (λ (f : Layout). f.shape)
    (settlings-fixed (Actor k) half.1.stops.link half.1.stops.stops.steps between new
    half.1.stops.stops.made)
    ∙ ap (λ (f : Layout). f.shape) half.1.fixed

-- so not all is over
pub turn-not_over : (script : ScriptParts) (old new : Layout) (k : ℕ) (r : Result Turn StopCause)
    → old.shape ≡ shape_of script → 0 < k → k ≤ length script.actors
    → OnErr r (IsDueForActor new k) → OnErr r (IsTurnStopped script k old new)
    → OnErr r (is_over new ≡ false)
turn-not_over script old new k (Ok turn) shape above within due stopped = tt
turn-not_over script old new k (Err cause) shape above within due stopped =
    due-actor script new (stopped-shape script k old new stopped ∙ shape) k above within due

-- nor is it where a link's turn stopped
pub pump-not_over : (script : ScriptParts) (old new : Layout) (l : LinkNo)
    (r : Result Pump StopCause) → old.shape ≡ shape_of script → IsLinkOf (shape_of script) l
    → OnErr r (IsDueForLink old l) → OnErr r (new ≡ old) → OnErr r (is_over new ≡ false)
pump-not_over script old new l (Ok pump) shape of_shape due same = tt
pump-not_over script old new l (Err cause) shape of_shape due same =
    subst (λ (f : Layout). is_over f ≡ false) (sym same)
    (due-link script old shape l of_shape due)

-- A TURN OF THE MAKER of this number
pub turn-of_actor : (script : ScriptParts) (k : ℕ) (old new : Layout)
    → k ≤ length script.actors → (turn : Turn) → IsTurn script k old new turn
    → IsTurnOf script k old new
turn-of_actor script k old new within turn made =
    subst (λ (b : Bool). IsTurnBy b script k old new) (sym (le-leb k (length script.actors) within))
    (turn, made)

pub stop-of_actor : (script : ScriptParts) (k : ℕ) (old new : Layout)
    → k ≤ length script.actors → IsTurnStopped script k old new → IsStoppedOf script k old new
stop-of_actor script k old new within stopped =
    subst (λ (b : Bool). IsStoppedBy b script k old new)
    (sym (le-leb k (length script.actors) within)) stopped

-- a round that stopped at an actor
pub front-of_actor : (script : ScriptParts) (start before now : Layout) (place : ℕ)
    → place + 1 ≤ length script.actors → AreTurns script place start before
    → IsTurnStopped script (place + 1) before now → HasFront script start now
front-of_actor script start before now place within turns stopped =
    let next : place + 1 ≡ suc place = omega arith in (
      place,
      omega (arith, within),
      (
        before,
        (
          turns,
          subst (λ (n : ℕ). IsStoppedOf script n before now) next
              (stop-of_actor script (place + 1) before now within stopped),
        ),
      ),
    )

-- behind the actors it is a link's
module _ (script : ScriptParts) (place : ℕ) where
  abbrev count : ℕ
  count = length script.actors

  abbrev number : ℕ
  number = count + place + 1

  pub turn-of_link : (old new : Layout) (pump : Pump)
      → IsPump script (record { 0 = place + 1 }) old new pump → IsTurnOf script number old new
  turn-of_link old new pump made =
      let its : number - count ≡ place + 1 = omega arith in
      subst (λ (b : Bool). IsTurnBy b script number old new)
      (sym (lt-leb number count (omega arith)))
      (pump, subst (λ (l : ℕ). IsPump script (record { 0 = l }) old new pump) (sym its) made)

  pub stop-of_link : (old new : Layout) → new ≡ old → IsStoppedOf script number old new
  stop-of_link old new same =
      subst (λ (b : Bool). IsStoppedBy b script number old new)
      (sym (lt-leb number count (omega arith))) same

  pub links-more : (start before now : Layout) → AreTurns script (count + place) start before
      → (pump : Pump) → IsPump script (record { 0 = place + 1 }) before now pump
      → AreTurns script (count + (place + 1)) start now
  links-more start before now turns pump made =
      let next : count + place + 1 ≡ count + (place + 1) = omega arith in
      subst (λ (n : ℕ). AreTurns script n start now) next
      (turns-more script start before now (count + place) turns
      (turn-of_link before now pump made))

  -- a round that stopped at a link
  pub front-of_link : (start before now : Layout) → place + 1 ≤ length script.links
      → AreTurns script (count + place) start before → now ≡ before → HasFront script start now
  front-of_link start before now within turns same =
      let next : count + place + 1 ≡ suc (count + place) = omega arith in (
        count + place,
        omega (arith, within),
        (
          before,
          (
            turns,
            subst (λ (n : ℕ). IsStoppedOf script n before now) next
                (stop-of_link before now same),
          ),
        ),
      )

-- WHERE AN ACTOR SETTLES A LINK there is one
pub settling-linked : (script : ScriptParts) (f : Layout) → f.shape ≡ shape_of script
    → is_some (settler_in f) ≡ true → 1 ≤ length script.links
settling-linked script f shape is = go (settler_of f.log.steps) is
  where
    go : (o : Option Settler)
        → is_some (if_stirs f.shape f.log.steps (trunks_of f.trunks) o) ≡ true
        → 1 ≤ length script.links
    go None is = absurd (true≢false (sym is))
    go (Some w) is = on w (stirs_on f.shape f.log.steps (trunks_of f.trunks) w.link) refl is
      where
        on : (w : Settler) (b : Bool)
            → stirs_on f.shape f.log.steps (trunks_of f.trunks) w.link ≡ b
            → is_some (if b then Some w else None) ≡ true → 1 ≤ length script.links
        on w true stirs_so is =
            let parts = and_parts (nat_lt 0 w.link.0 && nat_le w.link.0 (length f.shape.links))
            (stirs f.log.steps (trunks_of f.trunks) w.link.0) stirs_so in
            let bounds = and_parts (nat_lt 0 w.link.0)
            (nat_le w.link.0 (length f.shape.links)) parts.0 in
            let above = ltb-true 0 w.link.0 bounds.0 in
            let within = leb-true w.link.0 (length f.shape.links) bounds.1 in
            let count : length f.shape.links ≡ length script.links =
            ap (λ (s : Shape). length s.links) shape in
            omega (arith, above, within, count)
        on w false stirs_so is = absurd (true≢false (sym is))

-- what is said of a refusal
pub on_err-said : {T E : Type 0} (r : Result T E) (Says : Type 0) → Says → OnErr r Says
on_err-said (Ok x) Says says = tt
on_err-said (Err x) Says says = says
