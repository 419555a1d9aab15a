-- A script's layout, and the steps with what their attaches tell.
use Rattle.std.proofs.Common.{◌≡◌, ℕ, suc, List, [], ◌∷◌, length, refl, ap}
use Rattle.image_laws.specs.Told.{told_of}
use Rattle.journal.specs.declared.effect.Step.{Step}

-- as many steps stand there
pub told_length : (f : List ℕ → List ℕ) (R : List Step) → length (told_of f R) ≡ length R
told_length f [] = refl
told_length f (s ∷ R) = ap suc (told_length f R)
