-- Passes that were dealt and came back, each at its place: all are there, and of the lock.
use Rattle.std.proofs.Common.{◌≡◌, ℕ, ◌+◌, ◌-◌, ◌<◌, List, length, get_or, All, ap, ◌∙◌, subst}
use Rattle.std.proofs.Common.{arith}
use Rattle.std.proofs.lemmas.List.{length-map, get_or-map}
use Rattle.std.proofs.lemmas.Option.{get_or_from_slice_get}
use Rattle.turn_lock.specs.Passes.{PassView, LockView, IsPassOf, IsSamePass, AreDealt}
use Rattle.turn_lock.specs.Passes.{HasEach, IsLeastMissing, new_pass, numbers}

-- these passes came back, each at its place
pub record AreBack {E F : Type 0} (before now : List (PassView E F)) : Type 0 where
  pub many : length now ≡ length before
  pub each : (k : ℕ) (p q : PassView E F) → k < length before
      → IsSamePass (get_or before k p) (get_or now k q)

module _ {E F : Type 0} (lock : LockView) (fixed : F) (before now : List (PassView E F))
    (dealt : AreDealt lock fixed before) where
  -- the pass that was dealt at a place
  abbrev pub new_at : ℕ → PassView E F
  new_at k = new_pass lock.id fixed (k + 1)

  pub dealt_at : (k : ℕ) (d : PassView E F) → k < lock.seats → get_or before k d ≡ new_at k
  dealt_at k d l = get_or_from_slice_get before k (new_at k) d (dealt.1 k l)

  -- each of them is of the lock
  pub dealt_of_lock : All (IsPassOf lock) before
  dealt_of_lock k d l = let many : length before ≡ lock.seats = dealt.0 in
      ap (λ (p : PassView E F). p.lock) (dealt_at k d (omega arith))

  module _ (back : AreBack before now) where
    -- the pass that came back at a place is the one that was dealt there
    pub back_at : (k : ℕ) (d : PassView E F) → k < lock.seats
        → IsSamePass (new_at k) (get_or now k d)
    back_at k d l = let many : length before ≡ lock.seats = dealt.0 in
        subst (λ p. IsSamePass p (get_or now k d)) (dealt_at k d l) (back.each k d d (omega arith))

    as_many : length now ≡ lock.seats
    as_many = back.many ∙ dealt.0

    pub back_of_lock : All (IsPassOf lock) now
    back_of_lock k d l = let many = as_many in
        ap (λ (p : PassView E F). p.lock) (back_at k d (omega arith))

    -- and has its fixed part
    pub back_fixed : All (λ p. p.fixed ≡ fixed) now
    back_fixed k d l = let many = as_many in
        ap (λ (p : PassView E F). p.fixed) (back_at k d (omega arith))

    -- no pass is missing
    pub each_back : HasEach lock now
    each_back n low high =
        let k : ℕ = n - 1 in
        let many = as_many in
        let long : length (numbers now) ≡ length now =
        length-map now (λ (p : PassView E F). p.number) in
        let there : get_or (numbers now) k n ≡ k + 1 =
        get_or-map (λ (p : PassView E F). p.number) now k (new_at k) n (omega arith)
        ∙ ap (λ (p : PassView E F). p.number) (back_at k (new_at k) (omega arith)) in
        (k, omega arith, there ∙ omega arith)

    -- so a close is not refused
    pub none_missing : (n : ℕ) → IsLeastMissing lock now n → ⊥
    none_missing n lost = lost.2 (each_back n lost.0 lost.1)
