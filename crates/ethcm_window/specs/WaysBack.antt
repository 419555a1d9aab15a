-- How one queue holds what was when an event began and what is now.
use Rattle.std.specs.Prelude.{◌≡◌, ℕ, ◌+◌, ◌-◌, ◌≤◌, nat_lt, true, false, List, [], ◌∷◌, length}
use Rattle.std.specs.Prelude.{drop, remove}
use Rattle.std.specs.List.Sorted.{IsPartitionPoint}
use Rattle.linx_base.specs.declared.frame.Frame.{Frame}
use Rattle.linx_base.specs.declared.frame.SentFrame.{SentFrame}
use Rattle.ethcm_window.specs.Sending.{number_limit}
use Rattle.ethcm_window.specs.Receiving.{KeepsInOrder}

-- the first `gone` frames were acknowledged, or dropped by `begin`, since the event began, and
-- those behind the first `old_len` were offered since then
pub record SharesFrames (frames : List Frame) (gone base old_len old_base : ℕ) : Type 0 where
  pub gone_within : gone ≤ length frames
  pub old_within : old_len ≤ length frames
  pub numbers : base + (length frames - gone) ≤ number_limit
  pub old_numbers : old_base + old_len ≤ number_limit

-- a list without what was put at these places, one after another
abbrev pub without_put : {X : Type 0} → List ℕ → List X → List X
without_put [] xs = xs
without_put (place ∷ places) xs = remove (without_put places xs) place

-- the first `gone` kept frames were taken, or dropped by `begin`, since the event began, and those
-- at the places `put` came since then
pub record SharesKept (kept : List SentFrame) (put : List ℕ) (gone expected old_expected : ℕ)
    : Type 0 where
  pub gone_within : gone ≤ length kept
  pub order : KeepsInOrder expected (drop gone kept)
  pub old_order : KeepsInOrder old_expected (without_put put kept)

-- the place of a number: behind all lower ones
abbrev pub IsPlaceOf : ℕ → List SentFrame → ℕ → Type 0
IsPlaceOf n kept =
    IsPartitionPoint (λ s. nat_lt s.number n ≡ true) (λ s. nat_lt s.number n ≡ false) kept
