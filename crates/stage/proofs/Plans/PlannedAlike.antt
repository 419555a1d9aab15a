-- A step that is as planned of some trunks is as planned of trunks that are alike.
use Rattle.std.proofs.Common.{◌≡◌, ℕ, List, Option, Some, None, refl, sym, ◌∙◌, subst}
use Rattle.linx_base.specs.declared.identity.Inc.{Inc}
use Rattle.linx_base.specs.declared.identity.LinkNo.{LinkNo}
use Rattle.journal.specs.declared.by.By.{By}
use Rattle.journal.specs.declared.by.By.TheVariants.{Actor, Pump}
use Rattle.journal.specs.declared.effect.Effect.{Effect}
use Rattle.journal.specs.declared.effect.Step.{Step}
use Rattle.journal.specs.declared.head.Head.{Head}
use Rattle.journal.specs.declared.head.Head.TheVariants as heads
use Rattle.journal.specs.History.{endpoint_by}
use Rattle.journal.specs.Shapes.{node_by}
use Rattle.link_laws.specs.Ends.{IsLinkOf}
use Rattle.script_lang.specs.Parts.{ScriptParts}
use Rattle.trunk_moves.specs.Steps.{IsTrunkStep, Makes}
use Rattle.trunk_moves.specs.Trunks.{Become, RunTrunks}
use Rattle.stage.specs.Plays.{IsInTurn, IsPlannedHead, IsPlannedStep}
use Rattle.stage.specs.Pumps.{pump_event}
use Rattle.stage.specs.Settlings.{Settler, settler_now, settler_of}
use Rattle.stage.specs.Turns.{shape_of}
use Rattle.stage.proofs.Plans.SameTrunks.{pump_alike, settled_there, settler_alike}

module _ (script : ScriptParts) (P : List Step) (one two : RunTrunks)
    (same : Become (shape_of script) one two) where
  -- what a link's pump asks for is told by its own trunk
  pump-same : (l : LinkNo) → IsLinkOf (shape_of script) l
      → pump_event script P one l ≡ pump_event script P two l
  pump-same l of_shape = pump_alike (shape_of script) P one two same l of_shape script

  -- a head is planned alike
  head-same : (after : RunTrunks) (n : ℕ) (me : Option Inc) (head : Head) (es : List Effect)
      → Makes (shape_of script) P one after n me head es → IsPlannedHead script P one head
      → IsPlannedHead script P two head
  head-same after n me (heads.Wire l from verdict) es makes planned =
      sym (pump-same l makes.of_shape) ∙ planned
  head-same after n me (heads.Tick l side) es makes planned =
      sym (pump-same l makes.of_shape) ∙ planned
  head-same after n me _ es makes planned = tt

  -- and comes in its turn alike
  turn-same : (o : Option Settler) → settler_now (shape_of script) P one ≡ o → (by : By)
      (head : Head) → IsInTurn script P one o by head → IsInTurn script P two o by head
  turn-same (Some w) is by head turn = (
    turn.0,
    sym (pump-same w.link (settled_there (shape_of script) P one (settler_of P) w is)) ∙ turn.1,
  )
  turn-same None is (Actor k) head turn = turn
  turn-same None is (Pump l) head turn = turn

  -- A STEP IS PLANNED ALIKE
  pub planned-same : (s : Step) (after : RunTrunks)
      → IsTrunkStep (shape_of script) P one s after → IsPlannedStep script P one s
      → IsPlannedStep script P two s
  planned-same s after step planned = record {
    planned = head-same after (node_by (shape_of script) s.by) (endpoint_by P s.by) s.head s.effects
        step.makes planned.planned;
    in_turn = subst (λ (o : Option Settler). IsInTurn script P two o s.by s.head)
        (settler_alike (shape_of script) P one two same)
        (turn-same (settler_now (shape_of script) P one) refl s.by s.head planned.in_turn);
  }
