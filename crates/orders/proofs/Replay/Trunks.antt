-- The trunks of the links of a run as a list.
use Rattle.std.proofs.Common.{◌≡◌, ℕ, zero, suc, ◌+◌, ◌-◌, ◌<◌, List, [], ◌∷◌, length, get_or}
use Rattle.std.proofs.Common.{◌∙◌, ap, arith}
use Rattle.journal.specs.Shapes.{Shape}
use Rattle.trunk.specs.Events.{TrunkState}
use Rattle.trunk_moves.specs.Trunks.{Become, RunTrunks}
use Rattle.run_trunks.specs.States.{no_trunk, trunks_of}

-- so many of them, from this number on
from : RunTrunks → ℕ → ℕ → List TrunkState
from trunks first zero = []
from trunks first (suc n) = trunks first ∷ from trunks (suc first) n

-- those of the links of a shape
pub listed : Shape → RunTrunks → List TrunkState
listed shape trunks = from trunks 1 (length shape.links)

at_place : (trunks : RunTrunks) (first n place : ℕ) (t : TrunkState) → place < n
    → get_or (from trunks first n) place t ≡ trunks (first + place)
unfolding from
at_place trunks first zero place t within = absurd (omega (arith, within))
at_place trunks first (suc n) zero t within =
    let same : first ≡ first + 0 = omega arith in ap trunks same
at_place trunks first (suc n) (suc place) t within =
    let same : suc first + place ≡ first + suc place = omega arith in
    at_place trunks (suc first) n place t (omega (arith, within)) ∙ ap trunks same

-- THEY ARE THE SAME
pub listed-same : (shape : Shape) (trunks : RunTrunks)
    → Become shape (trunks_of (listed shape trunks)) trunks
unfolding listed
listed-same shape trunks l of_shape =
    let above : 0 < l.0 = of_shape.0 in
    let same : 1 + (l.0 - 1) ≡ l.0 = omega (arith, above) in
    at_place trunks 1 (length shape.links) (l.0 - 1) no_trunk (omega (arith, above, of_shape.1))
    ∙ ap trunks same
