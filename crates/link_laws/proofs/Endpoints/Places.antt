-- The endpoints of a legal run with links: where they are open, who has them, and that hunts and
-- attaches are of open ones. Such a run is orderly, and so each fact is one of orderly runs.
use Rattle.std.proofs.Common.{◌≡◌, ℕ, ◌≤◌, true, ◌⊎◌, List, [], ◌∷◌, length, Some}
use Rattle.std.specs.List.{AllByRecursion, list_any}
use Rattle.linx_base.specs.Numbers.{is_on}
use Rattle.linx_base.specs.Peers.{same_inc}
use Rattle.linx_base.specs.declared.identity.Inc.{Inc}
use Rattle.journal.specs.History.{endpoint_of, open_endpoints, opened_by, opened_on}
use Rattle.journal.specs.Pending.{hunting, owed}
use Rattle.journal.specs.Shapes.{Shape, node_by}
use Rattle.journal.specs.declared.by.By.TheVariants.{Actor}
use Rattle.journal.specs.declared.effect.Step.{Step}
use Rattle.journal.proofs.Openings.{IsBelow, IsOpenAt, IsShort, OpensBy, Owner, Rising}
use Rattle.journal.proofs.Openings.{endpoint_opened, next_on}
use Rattle.link_laws.specs.Laws.{IsLegal, IsLegalStep}
use Rattle.link_laws.proofs.Endpoints.Fresh.{orderly, orderly-step}
use Rattle.link_laws.proofs.Endpoints.Orderly

-- the endpoint of an actor after a step is the one that it had, or the one that its step opens
pub endpoint_opened-from : (shape : Shape) (P : List Step) (s : Step) → IsLegalStep shape P s
    → (k : ℕ) (j : Inc) → endpoint_opened P s k ≡ Some j
    → (endpoint_of P k ≡ Some j) ⊎ OpensBy shape P s k j
endpoint_opened-from shape P s legal =
    Orderly.endpoint_opened-from shape P s (orderly-step shape P s legal)

-- a step opens at most one
pub opened_on-few : (shape : Shape) (P : List Step) → IsLegal shape P → (node : ℕ)
    → opened_on P node ≤ length P
opened_on-few shape P legal = Orderly.opened_on-few shape P (orderly shape P legal)

module _ (shape : Shape) (P : List Step) (legal : IsLegal shape P) (short : IsShort P) where
  -- the next incarnation of a node is on it, and on no other
  pub next_on-is_on : (node : ℕ) → is_on node (next_on P node) ≡ true
  next_on-is_on = Orderly.next_on-is_on shape P (orderly shape P legal) short

  pub next_on-one_node : (node other : ℕ) → is_on other (next_on P node) ≡ true → other ≡ node
  next_on-one_node = Orderly.next_on-one_node shape P (orderly shape P legal) short

  -- the open endpoints of a node are incarnations of it below its next one
  pub open-below : (node : ℕ) → AllByRecursion (IsBelow P node) (open_endpoints P node)
  open-below = Orderly.open-below shape P (orderly shape P legal) short

  -- they stand in the order of their numbers, which is that of opening
  pub open-rising : (node : ℕ) → Rising (open_endpoints P node)
  open-rising = Orderly.open-rising shape P (orderly shape P legal) short

  -- the endpoint of an actor is among the open ones of its node, and on it
  pub endpoint-open : (k : ℕ) (j : Inc) → endpoint_of P k ≡ Some j
      → list_any (same_inc j) (open_endpoints P (node_by shape (Actor k))) ≡ true
  endpoint-open = Orderly.endpoint-open shape P (orderly shape P legal) short

  pub endpoint-on : (k : ℕ) (j : Inc) → endpoint_of P k ≡ Some j
      → is_on (node_by shape (Actor k)) j ≡ true
  endpoint-on = Orderly.endpoint-on shape P (orderly shape P legal) short

  -- each open endpoint has an owner, so a node has at most as many as there are actors
  pub owned : (node : ℕ) (i : Inc) → list_any (same_inc i) (open_endpoints P node) ≡ true
      → Owner shape P i
  owned = Orderly.owned shape P (orderly shape P legal) short

  pub open-few : (node : ℕ) → length (open_endpoints P node) ≤ length shape.actors
  open-few = Orderly.open-few shape P (orderly shape P legal) short

  -- no two actors have one endpoint
  pub endpoints-differ : (k m : ℕ) (j : Inc) → endpoint_of P k ≡ Some j
      → endpoint_of P m ≡ Some j → k ≡ m
  endpoints-differ = Orderly.endpoints-differ shape P (orderly shape P legal) short

  -- hunts and attaches are of open endpoints
  pub hunters-open : (node : ℕ) → AllByRecursion (λ h. IsOpenAt P node h.at) (hunting P node)
  hunters-open = Orderly.hunters-open shape P (orderly shape P legal) short

  pub holders-open : (node : ℕ) → AllByRecursion (λ a. IsOpenAt P node a.at) (owed P node)
  holders-open = Orderly.holders-open shape P (orderly shape P legal) short

-- a legal step opens on a node its next incarnation, or none
pub opened_by-next : (shape : Shape) (P : List Step) (s : Step) → IsLegal shape P → IsShort P
    → IsLegalStep shape P s → (node : ℕ)
    → (opened_by node s.effects ≡ []) ⊎ (opened_by node s.effects ≡ next_on P node ∷ [])
opened_by-next shape P s legal short step =
    Orderly.opened_by-next shape P s (orderly shape P legal) short (orderly-step shape P s step)
