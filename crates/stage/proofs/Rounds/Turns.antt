-- What a turn is, once it is known whether the actor had ended, or what the link's pump asks for.
use Rattle.std.proofs.Common.{◌≡◌, ℕ, true, false, Option, Some, None, sym, subst, ◌∙◌, true≢false}
use Rattle.std.proofs.lemmas.Option.{same_Some}
use Rattle.linx_base.specs.declared.identity.LinkNo.{LinkNo}
use Rattle.journal.specs.declared.event.Event.{Event}
use Rattle.journal.specs.History.{has_ended}
use Rattle.run_trunks.specs.States.{trunks_of}
use Rattle.script_lang.specs.Parts.{ScriptParts}
use Rattle.fabric.specs.Run.{Layout}
use Rattle.stage.specs.Pumps.{pump_event}
use Rattle.stage.specs.declared.stage.Pump.{Pump}
use Rattle.stage.specs.declared.stage.Turn.{Turn}
use Rattle.stage.specs.Turns.{IsActed, IsPump, IsPumped, IsTurn, acts_next, asks_nothing}
use Rattle.stage.specs.Turns.{ended_before, makes_event}

-- of an actor that had ended
pub turn-over : (script : ScriptParts) (k : ℕ) (old new : Layout) (turn : Turn)
    → has_ended old.log.steps k ≡ true → IsTurn script k old new turn → new ≡ old
turn-over script k old new turn ended (ended_before so same came) = same
turn-over script k old new turn ended (acts_next running acted) =
    absurd (true≢false (sym ended ∙ running))

-- of one that hadn't
pub turn-acts : (script : ScriptParts) (k : ℕ) (old new : Layout) (turn : Turn)
    → has_ended old.log.steps k ≡ false → IsTurn script k old new turn
    → IsActed script k old new turn
turn-acts script k old new turn running (ended_before ended same came) =
    absurd (true≢false (sym ended ∙ running))
turn-acts script k old new turn running (acts_next so acted) = acted

module _ (script : ScriptParts) (l : LinkNo) (old new : Layout) (pump : Pump) where
  none-some : (o : Option Event) (event : Event) → o ≡ None → o ≡ Some event → ⊥
  none-some o event none some = cc

  -- of a link whose pump asks for nothing
  pub pump-rests : pump_event script old.log.steps (trunks_of old.trunks) l ≡ None
      → IsPump script l old new pump → new ≡ old
  pump-rests none (asks_nothing so same came) = same
  pump-rests none (makes_event event asks made) = absurd (none-some _ event none asks)

  -- of one whose pump asks for this event
  pub pump-makes : (event : Event)
      → pump_event script old.log.steps (trunks_of old.trunks) l ≡ Some event
      → IsPump script l old new pump → IsPumped l event old new pump
  pump-makes event asks (asks_nothing none same came) = absurd (none-some _ event none asks)
  pump-makes event asks (makes_event other so made) =
      subst (λ (e : Event). IsPumped l e old new pump) (same_Some other event (sym so ∙ asks)) made
