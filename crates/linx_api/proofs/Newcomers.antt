-- The passes of a new lock have seen nothing.
use Rattle.std.proofs.Common.{◌≡◌, ◌<◌, ◌≤◌, List, length, All, refl, sym, subst, arith}
use Rattle.journal.specs.declared.effect.Step.{Step}
use Rattle.turn_lock.specs.Passes.{AreDealt, LockView, PassView}
use Rattle.turn_lock.proofs.Back.{dealt_at}
use Rattle.linx_api.specs.Newcomers.{IsNewcomer, makers_of}
use Rattle.linx_api.specs.Telling.{PlanParts}

pub all_new : (lock : LockView) (plan : PlanParts) (passes : List (PassView Step PlanParts))
    → lock.seats ≡ makers_of plan.shape → AreDealt lock plan passes
    → All (IsNewcomer lock plan.shape) passes
all_new lock plan passes seats dealt k d l =
    let many : length passes ≡ lock.seats = dealt.0 in
    subst (IsNewcomer lock plan.shape)
    (sym (dealt_at lock plan passes passes dealt k d (omega arith)))
    (record {
      of_lock = refl;
      over = refl;
      numbered = (omega arith, omega arith);
      front = refl;
      running = refl;
    })
