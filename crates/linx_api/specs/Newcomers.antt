-- The passes of a shared fabric before its first step.
use Rattle.std.specs.Prelude.{◌≡◌, ℕ, ◌+◌, ◌<◌, ◌≤◌, [], length}
use Rattle.journal.specs.declared.effect.Step.{Step}
use Rattle.journal.specs.Shapes.{Shape}
use Rattle.turn_lock.specs.Passes.{IsPassOf, LockView, PassView}
use Rattle.linx_api.specs.Asked.{IsRunning}
use Rattle.linx_api.specs.Telling.{PlanParts}

-- how many makers a shape has: its actors, and a pump for each link
abbrev pub makers_of : Shape → ℕ
makers_of shape = length shape.actors + length shape.links

-- a pass of the lock, over this shape, of which no step was made yet: its number is that of a
-- maker, it has seen nothing, and so hasn't made its end
pub record IsNewcomer (lock : LockView) (shape : Shape) (p : PassView Step PlanParts)
    : Type 0 where
  pub of_lock : IsPassOf lock p
  pub over : p.fixed.shape ≡ shape
  pub numbered : (0 < p.number) × (p.number ≤ makers_of shape)
  pub front : p.front ≡ []
  pub running : IsRunning p
