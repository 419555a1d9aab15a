-- What a node that is told of a packet answers is what a packet of a run makes of its trunk.
use Rattle.std.proofs.Common.{◌≡◌, ℕ, List, Option, Some, None, refl, ◌∙◌, ap}
use Rattle.linx_base.specs.Pending.{names_over}
use Rattle.linx_base.specs.declared.identity.Inc.{Inc}
use Rattle.linx_base.specs.declared.identity.LinkNo.{LinkNo}
use Rattle.linx_base.specs.declared.identity.NodeNo.{NodeNo}
use Rattle.linx_base.specs.declared.identity.Side.{Side}
use Rattle.journal.specs.declared.effect.Step.{Step}
use Rattle.journal.specs.History.{open_endpoints}
use Rattle.journal.specs.Living.{holder_of}
use Rattle.journal.specs.Pending.{hunting}
use Rattle.link_laws.specs.Brought.{Brought, brought_at}
use Rattle.link_laws.specs.Brought.{nothing}
use Rattle.node_kernel.specs.Nodes.{first_named}
use Rattle.run_trunks.specs.Changes.{at_link}
use Rattle.run_trunks.proofs.Rested.{changes-again}
use Rattle.trunk.specs.Events.{TrunkState, published_at}
use Rattle.trunk.specs.declared.up.TrunkUp.{TrunkUp}
use Rattle.trunk.specs.declared.up.TrunkUp.TheVariants.{WentUp}
use Rattle.trunk.specs.declared.up.TrunkUp.TheVariants.{Asked}
use Rattle.trunk_moves.specs.Packets.{answered, asks_for, publishes_if}
use Rattle.fabric.specs.declared.bringing.At.{At}
use Rattle.fabric.specs.Bringings.{answers_told, brought_on, publishes_over}
use Rattle.fabric.specs.Remains.{node_left}
use Rattle.fabric.proofs.AfterStep.NodeOffTheLinks.{named-left}

-- THE EFFECTS of what is brought are those of the laws
pub brought-on : (P : List Step) (node : NodeNo) (l : LinkNo) (what : Brought)
    → brought_on (node_left P node) l what ≡ brought_at P node.0 l what
brought-on P node l nothing = refl
brought-on P node l _ = refl

-- THE ENDPOINT of a name
pub holder-is : (P : List Step) (node : NodeNo) (name : List ℕ)
    → first_named (node_left P node).endpoints name ≡ holder_of P node.0 name
holder-is P node name = named-left P name (open_endpoints P node.0)

-- THE TRUNKS once the node was told: a change of one trunk, as a packet of a run makes it
module _ (P : List Step) (node : NodeNo) (l : LinkNo) (side : Side)
    (first : TrunkState → TrunkState) (ts : List TrunkState) where
  publishes-are : (name : List ℕ) (holder : Option Inc)
      → publishes_over l side name holder (at_link l first ts)
      ≡ at_link l (λ t. publishes_if side name holder (first t)) ts
  publishes-are name None = refl
  publishes-are name (Some i) = changes-again l first (published_at side i name) ts

  pub answers-are : (at : At) → at.link ≡ l → at.side ≡ side → (up : TrunkUp)
      → answers_told (node_left P node) at up (at_link l first ts)
      ≡ at_link l (λ t. answered P node.0 l side up (first t)) ts
  answers-are at there by (WentUp session peer) = rw (there, by)
      (changes-again l first (asks_for side (names_over l (hunting P node.0))) ts)
  answers-are at there by (Asked name) = rw (there, by)
      (ap (λ (o : Option Inc). publishes_over l side name o (at_link l first ts))
      (holder-is P node name)
      ∙ publishes-are name (holder_of P node.0 name))
  answers-are at there by _ = refl
