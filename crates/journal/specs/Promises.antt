-- What is promised of the signals between endpoints of one node.
use Rattle.std.specs.Prelude.{ℕ, ◌≡◌, true, List, [], ◌∷◌}
use Rattle.std.specs.List.{AllByRecursion}
use Rattle.linx_base.specs.declared.identity.Inc.{Inc}
use Rattle.linx_base.specs.declared.identity.Peer.TheVariants.{Here, There}
use Rattle.journal.specs.declared.effect.Effect.{Effect}
use Rattle.journal.specs.declared.effect.Effect.TheVariants.{Arrived}
use Rattle.journal.specs.declared.effect.Step.{Step}
use Rattle.journal.specs.Living.{is_alive}
use Rattle.journal.specs.Shapes.{Shape, node_by}
use Rattle.journal.specs.Traffic.{arrived_from, sent_to}

-- what arrives on a node comes from an endpoint that is open there
abbrev pub IsFromLiving : List Step → ℕ → Effect → Type 0
IsFromLiving P node (Arrived j (Here i) note) = is_alive P node (Here i) ≡ true
IsFromLiving P node (Arrived j (There link session i) note) = Unit {0}
IsFromLiving P node _ = Unit {0}

-- nothing arrives from an endpoint of the node once that is closed
abbrev pub NeverFromTheDead : Shape → List Step → Type 0
NeverFromTheDead shape [] = Unit {0}
NeverFromTheDead shape (s ∷ P) =
    NeverFromTheDead shape P × AllByRecursion (IsFromLiving P (node_by shape s.by)) s.effects

-- on a node an endpoint has got just what another sent it, in order and complete, and nothing from
-- a dead one
pub record KeepsNodePromises (shape : Shape) (P : List Step) : Type 0 where
  pub arrived : (i j : Inc) → arrived_from P j (Here i) ≡ sent_to P i (Here j)
  pub living : NeverFromTheDead shape P
