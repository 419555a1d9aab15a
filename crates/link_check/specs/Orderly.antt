-- What of a legal history the laws of a packet rest on.
use Rattle.std.specs.Prelude.{ℕ, ◌≡◌, true, List, Some, is_some, map}
use Rattle.std.specs.List.{list_any, AllByRecursion}
use Rattle.std.specs.Str.{bytes_eq}
use Rattle.linx_base.specs.Fronts.{IsFront}
use Rattle.linx_base.specs.declared.identity.Inc.{Inc}
use Rattle.linx_base.specs.declared.identity.LinkNo.{LinkNo}
use Rattle.linx_base.specs.declared.identity.Peer.TheVariants.{Here, There}
use Rattle.linx_base.specs.declared.identity.Session.{Session}
use Rattle.journal.specs.declared.effect.Step.{Step}
use Rattle.journal.specs.History.{name_of, open_endpoints}
use Rattle.journal.specs.Living.{is_alive, living}
use Rattle.journal.specs.Pending.{hunting}
use Rattle.journal.specs.Sessions.{up_session}
use Rattle.journal.specs.Traffic.{arrived_from, sent_to}
use Rattle.node_kernel.specs.Nodes.{NodeState, OpenEndpoint, first_named, is_living, is_open}
use Rattle.link_laws.specs.Sessions.{paired_session}

-- the kernel tells who is alive at its node: its open endpoints, and the peers over the link
pub record TellsAlive (P : List Step) (n : ℕ) (l : LinkNo) (node : NodeState) : Type 0 where
  pub here : (i : Inc) → is_open node.endpoints i ≡ is_alive P n (Here i)
  pub there : (x : Session) (i : Inc)
      → is_living node (There l x i) ≡ is_alive P n (There l x i)

-- of a link at node n: a living peer is one of the session that is up, and what arrived in it from a
-- peer at an open endpoint is the front of what that one sent in its pair
pub record IsOrderly (P : List Step) (n : ℕ) (l : LinkNo) : Type 0 where
  pub living : (x : Session) (a : Inc) → is_alive P n (There l x a) ≡ true
      → up_session P n l.0 ≡ Some x
  pub fronts : (x y : Session) → up_session P n l.0 ≡ Some x → paired_session P n l.0 x ≡ Some y
      → (a b : Inc) → is_alive P n (Here b) ≡ true
      → IsFront (arrived_from P b (There l x a)) (sent_to P a (There l y b))

-- the kernel tells what is open by its names at its node
abbrev pub TellsNames : List Step → ℕ → NodeState → Type 0
TellsNames P n node =
    (name : List ℕ) → is_some (first_named node.endpoints name)
    ≡ list_any (λ i. bytes_eq name (name_of P i)) (open_endpoints P n)

-- A KERNEL TELLS ITS NODE as the history leaves it: who is open there, by which names, the hunts that
-- are pending, and who was met and lives
pub record IsNodeTold (P : List Step) (n : ℕ) (node : NodeState) : Type 0 where
  pub open_there : map (λ (e : OpenEndpoint). e.inc) node.endpoints ≡ open_endpoints P n
  pub names : AllByRecursion (λ (e : OpenEndpoint). e.name ≡ name_of P e.inc) node.endpoints
  pub hunts : node.hunts ≡ hunting P n
  pub met : node.met ≡ living P n
