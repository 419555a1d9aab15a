-- The greatest speed.
use Rattle.std.proofs.Common.{◌≡◌, ℕ, ◌≤◌, ◌<◌, ◌^◌, ap, arith}

-- of the rest 5
pub fastest : (n : ℕ) → 5 ≤ n → n < 6 → 4 ^ n ≡ 1024
fastest n low high =
    let is : n ≡ 5 = omega (arith, low, high) in
    ap (λ (k : ℕ). 4 ^ k) is
