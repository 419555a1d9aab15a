-- A lock's passes before the first step.
use Rattle.std.proofs.Common.{◌≡◌, List, length, All, refl, sym, subst, arith}
use Rattle.journal.specs.declared.effect.Step.{Step}
use Rattle.turn_lock.specs.Passes.{AreDealt, LockView, PassView}
use Rattle.turn_lock.proofs.Back.{dealt_at}
use Rattle.linx_api.specs.Asked.{IsRunning}
use Rattle.linx_api.specs.Telling.{PlanParts}
use Rattle.thread_cases.specs.Fresh.{IsFresh, one_link}

-- all passes of a new lock over the shape have seen nothing
pub all_fresh : (lock : LockView) (plan : PlanParts) (passes : List (PassView Step PlanParts))
    → plan.shape ≡ one_link → AreDealt lock plan passes → All (IsFresh lock) passes
all_fresh lock plan passes over dealt k d l =
    let many : length passes ≡ lock.seats = dealt.0 in
    subst (IsFresh lock) (sym (dealt_at lock plan passes passes dealt k d (omega arith)))
    (record { of_lock = refl; over = over; front = refl })

-- one that has seen nothing has made no end
pub fresh_runs : (lock : LockView) (p : PassView Step PlanParts) → IsFresh lock p → IsRunning p
fresh_runs lock p fresh = rw fresh.front refl
