-- How the actors stand before the first step.
use Rattle.std.proofs.Common.{◌≡◌, ℕ, zero, suc, [], length, replicate, refl, ap, arith}
use Rattle.journal_check.specs.Standings.{AreStandingsLeft, fresh}

pub standings-left : (n : ℕ) → AreStandingsLeft [] (replicate n fresh)
standings-left zero m under = absurd (omega arith)
standings-left (suc n) zero under = refl
standings-left (suc n) (suc m) under = standings-left n m (omega arith)

pub length-standings : (n : ℕ) → length (replicate n fresh) ≡ n
length-standings zero = refl
length-standings (suc n) = ap suc (length-standings n)
