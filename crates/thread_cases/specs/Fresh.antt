-- The shape that the cases of endpoints have, and passes before the first step.
use Rattle.std.specs.Prelude.{◌≡◌, [], ◌∷◌}
use Rattle.journal.specs.declared.effect.Step.{Step}
use Rattle.journal.specs.Shapes.{Shape}
use Rattle.turn_lock.specs.Passes.{IsPassOf, LockView, PassView}
use Rattle.linx_api.specs.Telling.{PlanParts}

-- a link between nodes 1 and 2, and actors on nodes 1, 2 and 1
abbrev pub one_link : Shape
one_link = record {
  links =
      record { first = record { 0 = 1 }; second = record { 0 = 2 }; window = 4; piece = 64 }
      ∷ [];
  actors = record { 0 = 1 } ∷ record { 0 = 2 } ∷ record { 0 = 1 } ∷ [];
}

-- a pass of the lock, over this shape, that has seen nothing
pub record IsFresh (lock : LockView) (p : PassView Step PlanParts) : Type 0 where
  pub of_lock : IsPassOf lock p
  pub over : p.fixed.shape ≡ one_link
  pub front : p.front ≡ []
