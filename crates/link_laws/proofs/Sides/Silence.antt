-- A side's ticks in silence are no more than the history shows.
use Rattle.std.proofs.Common.{◌≡◌, ℕ, suc, ◌≤◌, ◌+◌, Bool, true, false, cond, List, ◌∷◌, arith}
use Rattle.std.specs.List.{list_any}
use Rattle.linx_base.specs.declared.identity.Side.{Side}
use Rattle.journal.specs.declared.effect.Step.{Step}
use Rattle.link_laws.specs.Sessions.{silent_ticks, tells_heard, ticks}

-- a tick of the side that isn't lost: one more on both
pub silence-tick : (P : List Step) (s : Step) (n l : ℕ) (side : Side) (silent : ℕ)
    → silent ≤ silent_ticks P n l side → list_any (tells_heard n l) s.effects ≡ false
    → ticks l side s.head ≡ true → silent + 1 ≤ silent_ticks (s ∷ P) n l side
silence-tick P s n l side silent under quiet ticked = rw (quiet, ticked) (omega arith)

-- any step after which the side's watch stands, without a sign that it heard
pub silence-other : (P : List Step) (s : Step) (n l : ℕ) (side : Side) (silent : ℕ)
    → silent ≤ silent_ticks P n l side → list_any (tells_heard n l) s.effects ≡ false
    → silent ≤ silent_ticks (s ∷ P) n l side
silence-other P s n l side silent under quiet = rw quiet (by_tick (ticks l side s.head))
  where
    by_tick : (t : Bool) → silent ≤ cond t (suc (silent_ticks P n l side)) (silent_ticks P n l side)
    by_tick true = omega arith
    by_tick false = under

-- a step in which the side was handed something: the trunk promises that its watch began anew
pub silence-heard : (P : List Step) (s : Step) (n l : ℕ) (side : Side)
    → 0 ≤ silent_ticks (s ∷ P) n l side
silence-heard P s n l side = omega arith

-- a lost side: the third tick
pub silence-lost : (P : List Step) (n l : ℕ) (side : Side) (silent : ℕ)
    → silent ≤ silent_ticks P n l side → silent ≡ 2 → 2 ≤ silent_ticks P n l side
silence-lost P n l side silent under is = omega arith
