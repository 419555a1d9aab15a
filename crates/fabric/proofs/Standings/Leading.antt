-- Whoever hasn't ended keeps the run from its end, and may keep another one from rest.
use Rattle.std.proofs.Common.{◌≡◌, ℕ, zero, suc, ◌<◌, ◌≤◌, Bool, true, false, ◌&&◌, ◌||◌, not, List}
use Rattle.std.proofs.Common.{length, refl, sym, ◌∙◌, arith, ◌==◌}
use Rattle.journal.specs.declared.effect.Step.{Step}
use Rattle.journal.specs.History.{has_ended}
use Rattle.journal.specs.Rest.{leaves_at_rest}
use Rattle.journal.specs.Shapes.{Shape}
use Rattle.fabric.specs.Machine.{all_have_ended, all_leave_at_rest, have_ended, is_at_rest}
use Rattle.fabric.proofs.Standings.Counting.{fails-on}

-- a test of all below a number that is false of one is false of all
all-fail : (f g : ℕ → Bool) → ((n : ℕ) → f (suc n) ≡ (f n && g (suc n))) → (n count : ℕ) → 0 < n
    → n ≤ count → (b : Bool) → b ≡ g n → not b ≡ true → f count ≡ false
all-fail f g step zero count above within b is fails = absurd (omega arith)
all-fail f g step (suc m) count above within b is fails =
    fails-on f (λ n. g (suc n)) step (suc m) count (step m ∙ go (f m) b is fails) within
  where
    go : (all one : Bool) → one ≡ g (suc m) → not one ≡ true → (all && g (suc m)) ≡ false
    go all true it fails = absurd cc
    go true false it fails = sym it
    go false false it fails = refl

module _ (shape : Shape) (P : List Step) (n : ℕ) (above : 0 < n)
    (within : n ≤ length shape.actors) (b : Bool) where
  -- one that hasn't ended
  pub led : b ≡ has_ended P n → not b ≡ true → all_have_ended shape P ≡ false
  led is fails =
      all-fail (have_ended P) (has_ended P) (λ m. refl) n (length shape.actors) above within b is
      fails

  -- one that doesn't leave another at rest
  pub behind : (k : ℕ) → b ≡ ((k == n) || leaves_at_rest P k n) → not b ≡ true
      → is_at_rest shape P k ≡ false
  behind k is fails =
      all-fail (all_leave_at_rest P k) (λ m. (k == m) || leaves_at_rest P k m) (λ m. refl) n
      (length shape.actors) above within b is fails
