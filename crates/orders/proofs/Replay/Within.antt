-- A run that stands within a turn, in which an actor settles a link.
use Rattle.std.proofs.Common.{◌≡◌, ℕ, ◌<◌, ◌≤◌, Bool, true, false, cond, List, length, Option}
use Rattle.std.proofs.Common.{Some, None, refl, ◌∙◌, ap, arith, ◌&&◌, is_some, nat_le, nat_lt}
use Rattle.std.proofs.Common.{true≢false}
use Rattle.linx_base.specs.declared.identity.LinkNo.{LinkNo}
use Rattle.journal.specs.History.{has_ended}
use Rattle.journal.specs.declared.by.By.TheVariants.{Actor}
use Rattle.journal.specs.declared.effect.Step.{Step}
use Rattle.journal.specs.declared.event.Event.{Event}
use Rattle.link_laws.specs.Sessions.{is_cut}
use Rattle.node_kernel.specs.declared.answers.StepAnswer.{StepAnswer}
use Rattle.run_settling.proofs.Settling.{runs_settle}
use Rattle.run_trunks.specs.States.{trunks_of}
use Rattle.script_lang.specs.Fits.{IsScript}
use Rattle.script_lang.specs.Parts.{ScriptParts}
use Rattle.trunk_moves.specs.Trunks.{RunTrunks}
use Rattle.fabric.specs.Actings.{OnlyRuns}
use Rattle.fabric.specs.Links.{stirs}
use Rattle.fabric.specs.Run.{IsStepped, Layout}
use Rattle.stage.specs.Plays.{AllFollow}
use Rattle.stage.specs.Pumps.{settling_event}
use Rattle.stage.specs.Settlings.{IsSettled, Settler, if_stirs, settled_by, settler, settler_in}
use Rattle.stage.specs.Settlings.{settles_whole, stirs_on}
use Rattle.stage.specs.Turns.{IsTurnOf, acts_next, asked_next, came_of, shape_of}
use Rattle.stage.proofs.Rounds.WholeRuns.{turn-of_actor}
use Rattle.stage.proofs.Settling.SixTicks.{IsUnderWay, way-ends}
use Rattle.stage.proofs.Settling.Steps.{IsUnder, settling-stirs}
use Rattle.order_rules.specs.declared.rule.Rule.{Rule}
use Rattle.orders.proofs.Replay.Between.{IsBetween, more-turns}

none_due : (event : Option Event) → is_some event ≡ false → event ≡ None
none_due None is = refl
none_due (Some event) is = absurd (true≢false is)

and_off : (b : Bool) → (b && false) ≡ false
and_off true = refl
and_off false = refl

module _ (script : ScriptParts) (declared : IsScript script) (rule : Rule) where
  -- AN ACTOR'S TURN IN WHICH IT SETTLES A LINK, as far as it has come
  pub record IsSettlingTurn (f : Layout) : Type 0 where
    pub old : Layout
    pub between : Layout
    pub was : IsBetween script declared rule old
    pub actor : ℕ
    pub above : 0 < actor
    pub within : actor ≤ length script.actors
    pub running : has_ended old.log.steps actor ≡ false
    pub answer : StepAnswer
    pub stepped : IsStepped old between (Actor actor) (asked_next script actor old) answer
    pub fixed : OnlyRuns old between
    pub link : LinkNo
    pub asked : settled_by (asked_next script actor old).event ≡ Some link
    pub whole : is_cut between.log.steps link.0 ≡ false
    pub ticks : ℕ
    pub way : IsUnderWay (Actor actor) link between f ticks
    pub under : IsUnder actor link f.log.steps
    pub longer : length old.log.steps < length f.log.steps

-- WHERE A RUN STANDS: between two turns, or within one, of an actor that isn't done with a link
pub data Stands (script : ScriptParts) (declared : IsScript script) (rule : Rule) (f : Layout)
    : Type 0 where
  stands_between : IsBetween script declared rule f → Stands script declared rule f
  stands_within : (turn : IsSettlingTurn script declared rule f)
      → stirs f.log.steps (trunks_of f.trunks) turn.link.0 ≡ true
      → Stands script declared rule f

module _ (script : ScriptParts) (declared : IsScript script) (rule : Rule) where
  -- as long as the link stirs it stands within it, and else the turn is whole
  module _ (f : Layout) (shape : f.shape ≡ shape_of script)
      (follows : AllFollow script f.log.steps) (turn : IsSettlingTurn script declared rule f) where
    abbrev P : List Step
    P = f.log.steps

    abbrev trunks : RunTrunks
    trunks = trunks_of f.trunks

    abbrev l : LinkNo
    l = turn.link

    abbrev its : Settler
    its = settler turn.actor turn.link

    module _ (still : stirs P trunks l.0 ≡ false) where
      calm_now : stirs_on f.shape P trunks l ≡ false
      calm_now =
          ap (λ (b : Bool). (nat_lt 0 l.0 && nat_le l.0 (length f.shape.links)) && b) still
          ∙ and_off (nat_lt 0 l.0 && nat_le l.0 (length f.shape.links))

      none_settles : settler_in f ≡ None
      none_settles =
          ap (if_stirs f.shape P trunks) turn.under.settler
          ∙ ap (λ (b : Bool). cond b (Some its) None) calm_now

      settled : IsSettled (Actor turn.actor) l turn.ticks turn.between f
      settled =
          way-ends runs_settle (Actor turn.actor) l turn.between f turn.ticks turn.way
          (none_due (settling_event P trunks l) (settling-stirs P trunks l ∙ still))

      whole_turn : IsTurnOf script turn.actor turn.old f
      whole_turn =
          turn-of_actor script turn.actor turn.old f turn.within (came_of turn.answer)
          (acts_next turn.running (record {
            answer = turn.answer;
            done = record {
              between = turn.between;
              stepped = turn.stepped;
              fixed = turn.fixed;
              goes_on = settles_whole l turn.asked turn.whole turn.ticks settled;
            };
            came = refl;
          }))

      ended : IsBetween script declared rule f
      ended =
          let within : turn.actor ≤ length script.actors = turn.within in
          more-turns script declared rule turn.old f turn.was turn.actor turn.above
          (omega (arith, within)) whole_turn turn.longer shape follows none_settles

    pub stands-on : Stands script declared rule f
    stands-on = go (stirs P trunks l.0) refl
      where
        go : (b : Bool) → stirs P trunks l.0 ≡ b → Stands script declared rule f
        go true is = stands_within turn is
        go false is = stands_between (ended is)
