-- THE NODE AFTER A STEP ON A LINK, and after a restart: what the kernel's call leaves of what the
-- history left.
use Rattle.std.proofs.Common.{◌≡◌, ℕ, suc, ◌<◌, ◌∷◌, List, length, Option, refl, ◌∙◌, ap}
use Rattle.linx_base.specs.declared.frame.Verdict.{Verdict}
use Rattle.linx_base.specs.declared.identity.Inc.{Inc}
use Rattle.linx_base.specs.declared.identity.LinkNo.{LinkNo}
use Rattle.linx_base.specs.declared.identity.NodeNo.{NodeNo}
use Rattle.linx_base.specs.declared.identity.Peer.TheVariants.{There}
use Rattle.linx_base.specs.declared.identity.Side.{Side}
use Rattle.journal.specs.declared.by.By.{By}
use Rattle.journal.specs.declared.effect.Effect.{Effect}
use Rattle.journal.specs.declared.effect.Step.{Step}
use Rattle.journal.specs.declared.head.Head.TheVariants.{Restart, Tick, Wire}
use Rattle.journal.specs.History.{endpoint_by, open_endpoints}
use Rattle.journal.specs.Shapes.{Shape}
use Rattle.journal.proofs.Openings.{IsShort}
use Rattle.link_laws.specs.Brought.{Brought, arrives, brought_at, goes_down, goes_up, meets}
use Rattle.link_laws.specs.Brought.{nothing, parts}
use Rattle.link_laws.specs.Laws.{IsLegal, downs_of, restarting}
use Rattle.link_laws.proofs.Endpoints.Places.{holders-open, hunters-open}
use Rattle.node_kernel.specs.Calls.{after_restart}
use Rattle.node_kernel.specs.Nodes.{NodeState}
use Rattle.fabric.specs.Brings.{after_brought}
use Rattle.fabric.specs.Remains.{endpoint_left, node_left}
use Rattle.fabric.proofs.AfterStep.LinkSteps.{IsIdle, arrival-left, down-left, downs-closings}
use Rattle.fabric.proofs.AfterStep.LinkSteps.{gone-left}
use Rattle.fabric.proofs.AfterStep.LinkSteps.{idle-tick, idle-wire, met-left, nothing-left, up-left}
use Rattle.fabric.proofs.AfterStep.OpeningsAndClosings.{restart-left}
use Rattle.fabric.proofs.AfterStep.Tables.{after_step, node_left-step}
use Rattle.fabric.proofs.Trunks.LivingPeers.{downs-are_downs, living-up, restart-alone}
use Rattle.fabric.proofs.AfterStep.Pendings.{hunting-rises, owed-rises}

-- A STEP ON A LINK whose effects are what a packet brings
module _ (P : List Step) (s : Step) (node : NodeNo) (l : LinkNo)
    (idle : IsIdle node.0 (suc (length P)) (endpoint_by P s.by) s.head) where
  abbrev k : ℕ
  k = suc (length P)

  abbrev me : Option Inc
  me = endpoint_by P s.by

  abbrev old : NodeState
  old = node_left P node

  brought : (what : Brought)
      → after_step k me s.head (brought_at P node.0 l what) old ≡ after_brought old l what k
  brought nothing = nothing-left k me s.head old idle
  brought (goes_up x y) = up-left k me s.head old idle node l x y
  brought (goes_down x) = down-left k me s.head old idle l x (owed-rises P node.0)
  brought (arrives x a b note) = arrival-left k me s.head old idle b (There l x a) note
  brought (meets x a name) =
      met-left k me s.head old idle l (There l x a) name (hunting-rises P node.0)
  brought (parts x a) = gone-left k me s.head old idle (There l x a) (owed-rises P node.0)

  pub node-brought : (what : Brought) → s.effects ≡ brought_at P node.0 l what
      → node_left (s ∷ P) node ≡ after_brought old l what k
  node-brought what effects =
      node_left-step P s node
      ∙ ap (λ (es : List Effect). after_step k me s.head es old) effects ∙ brought what

module _ (P : List Step) (by : By) (node : NodeNo) (l : LinkNo) (what : Brought) where
  -- a packet that meets a verdict
  pub node-wire : (from : Side) (verdict : Verdict)
      → (let s : Step = record {
        by = by;
        head = Wire l from verdict;
        effects = brought_at P node.0 l what;
      } in
      node_left (s ∷ P) node)
      ≡ after_brought (node_left P node) l what (suc (length P))
  node-wire from verdict =
      node-brought P (record {
        by = by;
        head = Wire l from verdict;
        effects = brought_at P node.0 l what;
      }) node l (idle-wire node.0 (suc (length P)) (endpoint_by P by) l from verdict) what refl

  -- a tick: it brings nothing, or that the session goes down
  pub node-tick : (side : Side)
      → (let s : Step = record {
        by = by;
        head = Tick l side;
        effects = brought_at P node.0 l what;
      } in
      node_left (s ∷ P) node)
      ≡ after_brought (node_left P node) l what (suc (length P))
  node-tick side =
      node-brought P (record {
        by = by;
        head = Tick l side;
        effects = brought_at P node.0 l what;
      }) node l (idle-tick node.0 (suc (length P)) (endpoint_by P by) l side) what refl

-- A RESTART leaves nothing of the node that it restarts
pub node-restart : (shape : Shape) (P : List Step) → IsLegal shape P → IsShort P
    → (by : By) (node : NodeNo) → 0 < node.0
    → (let s : Step = record {
      by = by;
      head = Restart node;
      effects = restarting shape P node.0;
    } in
    node_left (s ∷ P) node)
    ≡ after_restart (node_left P node)
node-restart shape P legal short by node above =
    let open_ : List Inc = open_endpoints P node.0 in
    node_left-step P (record {
      by = by;
      head = Restart node;
      effects = restarting shape P node.0;
    }) node
    ∙ restart-left (suc (length P)) (endpoint_by P by) node (node_left P node) (endpoint_left P)
    open_ (λ i. refl) refl
    (hunters-open shape P legal short node.0) (holders-open shape P legal short node.0)
    (restarting shape P node.0)
    (downs-closings open_ (downs_of P node.0 (length shape.links))
    (downs-are_downs P node.0 (length shape.links)))
    (restart-alone shape P node.0 (living-up shape node.0 above P legal short))
