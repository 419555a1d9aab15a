-- The tables of sides follow the history: each is the fold that the definitions are.
use Rattle.std.proofs.Common.{◌≡◌, ℕ, List, ◌∷◌, refl}
use Rattle.linx_base.specs.declared.identity.Side.{Side}
use Rattle.journal.specs.declared.effect.Step.{Step}
use Rattle.link_tables.specs.Sides.{side_left, side_past}

pub side-follows : (P : List Step) (s : Step) (node link : ℕ) (side : Side)
    → side_left (s ∷ P) node link side ≡ side_past node link side s (side_left P node link side)
side-follows P s node link side = refl
