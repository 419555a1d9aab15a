-- The next step of a turn in which an actor settles a link.
use Rattle.std.proofs.Common.{◌≡◌, ℕ, ◌+◌, ◌<◌, true, List, ◌∷◌, length, Option}
use Rattle.std.proofs.Common.{Some, None, refl, sym, ◌∙◌, ap, subst, inl, inr, arith, true≢false}
use Rattle.linx_base.specs.SigNotes.{SigNote}
use Rattle.linx_base.specs.declared.identity.LinkNo.{LinkNo}
use Rattle.journal.specs.Shapes.{Shape}
use Rattle.journal.specs.declared.by.By.{By}
use Rattle.journal.specs.declared.by.By.TheVariants.{Actor}
use Rattle.journal.specs.declared.effect.Effect.{Effect}
use Rattle.journal.specs.declared.effect.Step.{Step}
use Rattle.journal.specs.declared.event.Event.{Event}
use Rattle.journal.specs.declared.head.Head.{Head}
use Rattle.journal.specs.declared.head.Head.TheVariants.{Tick, Wire}
use Rattle.node_kernel.specs.Answers.{answer_of, event_of, hand_of, is_pump_event, is_pumped}
use Rattle.node_kernel.specs.declared.answers.StepAnswer.{StepAnswer}
use Rattle.run_settling.proofs.Settling.{runs_settle}
use Rattle.run_trunks.specs.States.{trunks_of}
use Rattle.script_lang.specs.Fits.{IsScript}
use Rattle.script_lang.specs.Parts.{ScriptParts}
use Rattle.trunk.specs.Events.{TrunkState}
use Rattle.trunk_moves.specs.Trunks.{RunTrunks}
use Rattle.fabric.specs.Actings.{asking}
use Rattle.fabric.specs.Links.{no_link_stirs, stirs}
use Rattle.fabric.specs.Machine.{head_for}
use Rattle.fabric.specs.Run.{IsStepFor, IsStepped, Layout}
use Rattle.stage.specs.Plays.{AllFollow, IsInTurn}
use Rattle.stage.specs.Pumps.{pump_event, settling_event}
use Rattle.stage.specs.Settlings.{IsSettling, Settler, settler, settler_now, ticks_of}
use Rattle.stage.specs.Turns.{shape_of}
use Rattle.stage.proofs.Settling.SixTicks.{way-more}
use Rattle.stage.proofs.Settling.Steps.{has-moved, pump-settles, settles-now, settling-asked}
use Rattle.stage.proofs.Settling.Steps.{under-moved}
use Rattle.order_rules.specs.declared.rule.Rule.{Rule}
use Rattle.orders.proofs.Replay.NextSteps.{IsNextStep, state, step_of}
use Rattle.orders.proofs.Replay.Within.{IsSettlingTurn, Stands, stands-on}

-- a step of a link's pump has nothing in hand
none_in_hand : (head : Head) → is_pumped head ≡ true → hand_of head ≡ None
none_in_hand (Wire l from verdict) is = refl
none_in_hand (Tick l side) is = refl
none_in_hand head is = absurd (true≢false (sym is))

-- what settles a link is one
due_pumped : (P : List Step) (trunks : RunTrunks) (l : LinkNo) (event : Event)
    → settling_event P trunks l ≡ Some event → is_pump_event event ≡ true
due_pumped P trunks l event is =
    elim (settling-asked P trunks l event is) [
      | inl wire ↦ ap is_pump_event wire.is
      | inr tick ↦ ap is_pump_event tick.is
    ]

module _ (script : ScriptParts) (declared : IsScript script) (rule : Rule) (P : List Step)
    (old new : List TrunkState) (turn : IsSettlingTurn script declared rule (state script P old))
    (moves : stirs P (trunks_of old) turn.link.0 ≡ true) where
  abbrev shape : Shape
  shape = shape_of script

  abbrev k : ℕ
  k = turn.actor

  abbrev link : LinkNo
  link = turn.link

  abbrev f : Layout
  f = state script P old

  abbrev StandsBehind : Step → Type 0
  StandsBehind s = Stands script declared rule (state script (s ∷ P) new)

  -- a step of this actor that the link's pump asks for
  module _ (head : Head) (es : List Effect)
      (next : IsNextStep script P old new (step_of (Actor k) head es))
      (asks : pump_event script P (trunks_of old) link ≡ Some (event_of head)) where
    abbrev g : Layout
    g = state script (step_of (Actor k) head es ∷ P) new

    abbrev answer : StepAnswer
    answer = answer_of P head es

    due : settling_event P (trunks_of old) link ≡ Some (event_of head)
    due =
        sym (pump-settles script P (trunks_of old) link turn.under.whole turn.under.settled) ∙ asks

    given :
        head_for shape P (no_link_stirs shape P (trunks_of old)) (Actor k)
        (asking (event_of head) None) ≡ Some head
    given =
        subst (λ (hand : Option SigNote).
        head_for shape P (no_link_stirs shape P (trunks_of old)) (Actor k)
        (asking (event_of head) hand) ≡ Some head)
        (none_in_hand head (due_pumped P (trunks_of old) link (event_of head) due)) next.given

    stepped : IsStepped f g (Actor k) (asking (event_of head) None) answer
    stepped =
        subst (λ (h : Option Head). IsStepFor f g (Actor k) h answer) (sym given)
        (record { effects = es; steps = refl; makes = next.makes; answered = refl })

    settling : IsSettling (Actor k) link f g
    settling = record {
      event = event_of head;
      asked = due;
      answer = answer;
      stepped = stepped;
      fixed = refl;
    }

    on_actor : AllFollow script g.log.steps → StandsBehind (step_of (Actor k) head es)
    on_actor follows =
        let longer : length turn.old.log.steps < length P = turn.longer in
        stands-on script declared rule g refl follows (record {
          old = turn.old;
          between = turn.between;
          was = turn.was;
          actor = k;
          above = turn.above;
          within = turn.within;
          running = turn.running;
          answer = turn.answer;
          stepped = turn.stepped;
          fixed = turn.fixed;
          link = link;
          asked = turn.asked;
          whole = turn.whole;
          ticks = turn.ticks + ticks_of (event_of head);
          way = way-more runs_settle (Actor k) link turn.between f g turn.ticks turn.way
              (event_of head) due answer stepped refl next.room;
          under = under-moved k link f g (has-moved (Actor k) link f g settling) turn.under;
          longer = omega (arith, longer);
        })

  -- THE NEXT STEP is such a one
  now : settler_now shape P (trunks_of old) ≡ Some (settler k link)
  now = settles-now shape k link P (trunks_of old) turn.under.settler turn.way.of_shape moves

  pub within-on : (s : Step) → IsNextStep script P old new s → AllFollow script (s ∷ P)
      → StandsBehind s
  within-on s next follows =
      let its : IsInTurn script P (trunks_of old) (Some (settler k link)) s.by s.head =
      subst (λ (o : Option Settler). IsInTurn script P (trunks_of old) o s.by s.head) now
      next.planned.in_turn in
      subst (λ (by : By).
      IsNextStep script P old new (step_of by s.head s.effects)
      → AllFollow script (step_of by s.head s.effects ∷ P)
      → StandsBehind (step_of by s.head s.effects)) (sym its.0)
      (λ step along. on_actor s.head s.effects step its.1 along) next follows
