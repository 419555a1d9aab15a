-- The endpoint of a step's maker is open on the maker's node.
use Rattle.std.proofs.Common.{◌≡◌, true, List, Some}
use Rattle.linx_base.specs.declared.identity.Inc.{Inc}
use Rattle.linx_base.specs.declared.identity.Peer.TheVariants.{Here}
use Rattle.journal.specs.History.{endpoint_by}
use Rattle.journal.specs.Living.{is_alive}
use Rattle.journal.specs.Shapes.{Shape, node_by}
use Rattle.journal.specs.declared.by.By.{By}
use Rattle.journal.specs.declared.by.By.TheVariants.{Actor, Pump}
use Rattle.journal.specs.declared.effect.Step.{Step}
use Rattle.journal.proofs.Openings.{IsShort}
use Rattle.link_laws.specs.Laws.{IsLegal}
use Rattle.link_laws.proofs.Endpoints.Places.{endpoint-open}

pub maker-open : (shape : Shape) (P : List Step) → IsLegal shape P → IsShort P → (by : By) (j : Inc)
    → endpoint_by P by ≡ Some j → is_alive P (node_by shape by) (Here j) ≡ true
maker-open shape P legal short (Actor k) j is = endpoint-open shape P legal short k j is
maker-open shape P legal short (Pump l) j is = absurd cc
