-- Choices by two tests.
use Rattle.std.proofs.Common.{◌≡◌, Bool, true, false, cond, refl, ◌||◌}

-- the later test first, and then the earlier one
pub cond-or : {X : Type 0} (a b : Bool) (x y : X) → cond b x (cond a x y) ≡ cond (a || b) x y
cond-or true true x y = refl
cond-or true false x y = refl
cond-or false true x y = refl
cond-or false false x y = refl
