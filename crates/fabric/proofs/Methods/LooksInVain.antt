-- A look that makes no step.
use Rattle.std.proofs.Common.{◌≡◌, ℕ, Bool, true, false, ◌&&◌, List, Option, None, is_some}
use Rattle.linx_base.specs.declared.identity.Inc.{Inc}
use Rattle.sigsel.specs.Selection.{first_selected}
use Rattle.sigsel.specs.declared.sigsel.Sigsel.{Sigsel}
use Rattle.journal.specs.declared.effect.Step.{Step}
use Rattle.journal.specs.declared.event.Event.{Event}
use Rattle.journal.specs.declared.event.Event.TheVariants as asks
use Rattle.journal.specs.Rest.{queue_of, waits_with}
use Rattle.journal.specs.Shapes.{Shape}
use Rattle.fabric.specs.Machine.{is_at_rest}

-- a look that finds nothing yet, of an actor that has said that it waits
pub record LooksInVain (shape : Shape) (P : List Step) (still : Bool) (k : ℕ) (me : Option Inc)
    (event : Event) : Type 0 where
  pub filter : Sigsel
  pub looks : event ≡ asks.Look filter
  pub none : first_selected filter (queue_of P me) ≡ None
  pub stirs : (is_at_rest shape P k && still) ≡ false
  pub waits : is_some (waits_with P k) ≡ true
