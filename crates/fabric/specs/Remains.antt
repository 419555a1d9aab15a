-- What a history leaves of the nodes, the actors and the links, and what a fabric keeps.
use Rattle.std.specs.Prelude.{ℕ, suc, ◌+◌, ◌≡◌, ◌≤◌, ◌<◌, ◌==◌, false, List, length, map}
use Rattle.std.specs.Prelude.{slice_get, Some}
use Rattle.std.specs.List.{AllByRecursion}
use Rattle.linx_base.specs.declared.frame.LinkDecl.{LinkDecl}
use Rattle.linx_base.specs.declared.identity.Inc.{Inc}
use Rattle.linx_base.specs.declared.identity.NodeNo.{NodeNo}
use Rattle.journal.specs.declared.effect.Step.{Step}
use Rattle.journal.specs.History.{closed_step, endpoint_of, has_ended, name_of, open_endpoints}
use Rattle.journal.specs.History.{opened_on}
use Rattle.journal.specs.Living.{living}
use Rattle.journal.specs.Logs.{step_limit}
use Rattle.journal.specs.Pending.{hunting, owed}
use Rattle.journal.specs.Queues.{queued}
use Rattle.journal.specs.Rest.{waits_with}
use Rattle.journal.specs.Shapes.{Shape}
use Rattle.node_kernel.specs.Nodes.{NodeState, OpenEndpoint}
use Rattle.ethcm_end.specs.Sound.{IsPiece}
use Rattle.link_laws.specs.Sessions.{boots}
use Rattle.fabric.specs.Links.{line_left}
use Rattle.fabric.specs.Run.{IsReachedBy, Layout}
use Rattle.fabric.specs.declared.line.Line.{Line}
use Rattle.fabric.specs.declared.standing.Standing.{Standing}

-- an open endpoint as the history leaves it
abbrev pub endpoint_left : List Step → Inc → OpenEndpoint
endpoint_left P i = record {
  inc = i;
  name = name_of P i;
  items = queued P i;
}

-- a node as the history leaves it
abbrev pub node_left : List Step → NodeNo → NodeState
node_left P node = record {
  node = node;
  openings = opened_on P node.0;
  endpoints = map (endpoint_left P) (open_endpoints P node.0);
  hunts = hunting P node.0;
  attaches = owed P node.0;
  met = living P node.0;
}

-- an actor as the history leaves it
abbrev pub standing_left : List Step → ℕ → Standing
standing_left P k = record {
  endpoint = endpoint_of P k;
  closed = closed_step P k;
  waits = waits_with P k;
  ended = has_ended P k;
}

-- the kernels are those of the nodes from 1 on, as the history leaves them
abbrev pub AreNodesLeft : List Step → List NodeState → Type 0
AreNodesLeft P kernels =
    (n : ℕ) → n < length kernels → slice_get kernels n ≡ Some (node_left P (record { 0 = suc n }))

-- the standings are those of the actors from 1 on, as the history leaves them
abbrev pub AreStandingsLeft : List Step → List Standing → Type 0
AreStandingsLeft P standings =
    (k : ℕ) → k < length standings → slice_get standings k ≡ Some (standing_left P (suc k))

-- the node is one of so many
abbrev pub IsNode : ℕ → NodeNo → Type 0
IsNode count node = (0 < node.0) × (node.0 ≤ count)

-- the most actors of a run
abbrev pub actor_limit : ℕ
actor_limit = 64

-- a link between two nodes of so many, with a window of at least one frame and pieces that fit
pub record IsLink (nodes : ℕ) (link : LinkDecl) : Type 0 where
  pub first : IsNode nodes link.first
  pub second : IsNode nodes link.second
  pub apart : (link.first.0 == link.second.0) ≡ false
  pub window : 1 ≤ link.window
  pub piece : IsPiece link.piece

-- the most links of a run
abbrev pub link_limit : ℕ
link_limit = 32

-- a layout that a fabric can have: at most 64 actors, each on one of the nodes, and at most 32
-- links between two nodes each
pub record IsLaidOut (nodes : ℕ) (shape : Shape) : Type 0 where
  pub numbered : nodes < 4294967296
  pub few : length shape.actors ≤ actor_limit
  pub placed : AllByRecursion (IsNode nodes) shape.actors
  pub few_links : length shape.links ≤ link_limit
  pub linked : AllByRecursion (IsLink nodes) shape.links

-- the lines are those of the links from 1 on, as the history leaves them
abbrev pub AreLinesLeft : List Step → List Line → Type 0
AreLinesLeft P lines =
    (k : ℕ) → k < length lines → slice_get lines k ≡ Some (line_left P (suc k))

-- each node has booted once, and once more for each restart
abbrev pub AreBootsLeft : List Step → List ℕ → Type 0
AreBootsLeft P booted =
    (k : ℕ) → k < length booted → slice_get booted k ≡ Some (1 + boots P (suc k))

-- what a fabric holds: of each node its kernel and its boot, how each actor stands, and what is
-- noted of each link
pub record Parts : Type 0 where
  pub kernels : List NodeState
  pub booted : List ℕ
  pub standings : List Standing
  pub lines : List Line

-- a fabric has one kernel and one boot for each node, one standing for each actor, and one line and
-- one trunk for each link
pub record AreCounted (f : Layout) (parts : Parts) : Type 0 where
  pub kernels : length parts.kernels ≡ length f.log.names.nodes
  pub booted : length parts.booted ≡ length f.log.names.nodes
  pub standings : length parts.standings ≡ length f.shape.actors
  pub lines : length parts.lines ≡ length f.shape.links
  pub trunks : length f.trunks ≡ length f.shape.links

-- the kernels, the boots, the standings and the lines of a fabric are what the journal leaves of
-- them
pub record AreLeft (P : List Step) (parts : Parts) : Type 0 where
  pub kernels : AreNodesLeft P parts.kernels
  pub booted : AreBootsLeft P parts.booted
  pub standings : AreStandingsLeft P parts.standings
  pub lines : AreLinesLeft P parts.lines

-- WHAT A FABRIC KEEPS: its run is one of the machine's, and its parts are what its journal leaves
pub record IsKept (f : Layout) (parts : Parts) : Type 0 where
  pub laid_out : IsLaidOut (length f.log.names.nodes) f.shape
  pub reached : IsReachedBy f
  pub counted : AreCounted f parts
  pub left : AreLeft f.log.steps parts
  -- its journal has at most 200,000 steps
  pub short : length f.log.steps ≤ step_limit
