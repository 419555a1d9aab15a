-- THE NODE AFTER A STEP off the links, head by head: what the kernel's call leaves of what the
-- history left.
use Rattle.std.proofs.Common.{◌≡◌, ℕ, suc, ◌<◌, Bool, true, false, cond, ◌||◌, List, [], ◌∷◌}
use Rattle.std.proofs.Common.{length, map, Option, Some, None, refl, sym, ◌∙◌, ap, subst, bytes_eq}
use Rattle.std.specs.List.{list_any, AllByRecursion}
use Rattle.linx_base.specs.FirstMatch.{first_match}
use Rattle.linx_base.specs.Numbers.{is_on}
use Rattle.linx_base.specs.Peers.{same_inc}
use Rattle.linx_base.specs.declared.identity.AttRef.{AttRef}
use Rattle.linx_base.specs.declared.identity.Inc.{Inc}
use Rattle.linx_base.specs.declared.identity.NodeNo.{NodeNo}
use Rattle.linx_base.specs.declared.identity.Peer.{Peer}
use Rattle.linx_base.specs.declared.identity.Peer.TheVariants.{Here, There}
use Rattle.linx_base.specs.declared.item.Item.{Item}
use Rattle.linx_base.specs.declared.name.Path.{Path}
use Rattle.linx_base.specs.declared.name.Path.TheVariants.{Local, Over}
use Rattle.linx_base.specs.declared.pending.PendingAttach.{PendingAttach}
use Rattle.linx_base.specs.SigNotes.{SigNote}
use Rattle.sigsel.specs.Selection.{first_selected, is_notice_of, without_first}
use Rattle.sigsel.specs.declared.sigsel.Sigsel.{Sigsel}
use Rattle.journal.specs.declared.by.By.TheVariants.{Actor}
use Rattle.journal.specs.declared.effect.Step.{Step}
use Rattle.journal.specs.declared.head.Detached.{Detached}
use Rattle.journal.specs.declared.head.Head.{Head}
use Rattle.journal.specs.declared.head.Head.TheVariants.{Open, Close, Send, Take, Hunt, Attach}
use Rattle.journal.specs.declared.head.Head.TheVariants.{Detach, Ended}
use Rattle.journal.specs.declared.head.SentTo.{SentTo}
use Rattle.journal.specs.Effects.{arrivals_of, attached, closing, detach_answer, hunted}
use Rattle.journal.specs.History.{endpoint_of, name_of, open_endpoints}
use Rattle.journal.specs.Laws.{detached_as, effects_by, is_owed}
use Rattle.journal.specs.Living.{find, is_alive}
use Rattle.journal.specs.Pending.{attach_in, detaches, hunt_in, owed}
use Rattle.journal.specs.Queues.{queued}
use Rattle.journal.specs.Shapes.{Shape, node_by}
use Rattle.journal.proofs.Openings.{IsBelow, IsShort}
use Rattle.link_laws.specs.Laws.{IsLegal}
use Rattle.link_laws.proofs.Endpoints.Places.{endpoint-on, endpoint-open, next_on-is_on, open-below}
use Rattle.link_laws.proofs.Endpoints.Places.{open-rising}
use Rattle.node_kernel.specs.Calls.{after_attach, after_close, after_detach_of, after_hunt}
use Rattle.node_kernel.specs.Calls.{after_open, after_send, detached}
use Rattle.node_kernel.specs.Nodes.{NodeState, OpenEndpoint, find_at, first_named, inc_if}
use Rattle.node_kernel.specs.Nodes.{is_living, is_named, is_open, items_at, next_of, with_items}
use Rattle.fabric.specs.Remains.{endpoint_left, node_left}
use Rattle.fabric.proofs.AfterStep.BringingSteps.{attach-left, hunt-left, quiet-left, send-left}
use Rattle.fabric.proofs.AfterStep.OpeningsAndClosings.{close-left, open-left}
use Rattle.fabric.proofs.AfterStep.Tables.{after_step, node_left-step}
use Rattle.fabric.proofs.AfterStep.Pendings.{hunting-below, hunting-rises, owed-below, owed-rises}
use Rattle.fabric.proofs.AfterStep.EndpointsStay.{TakesNone}
use Rattle.fabric.proofs.AfterStep.Takings.{detach-left, items_left, take-left}

-- THE WORDS OF A NODE are those of the history
module _ (P : List Step) where
  pub open-left_of : (i : Inc) (incs : List Inc)
      → is_open (map (endpoint_left P) incs) i ≡ list_any (same_inc i) incs
  open-left_of i [] = refl
  open-left_of i (j ∷ incs) = ap (λ b. same_inc i j || b) (open-left_of i incs)

  pub named-left : (name : List ℕ) (incs : List Inc)
      → first_named (map (endpoint_left P) incs) name
      ≡ first_match (λ i. bytes_eq name (name_of P i)) incs
  named-left name [] = refl
  named-left name (i ∷ incs) =
      let rest = named-left name incs in
      elim (bytes_eq name (name_of P i)) as (λ b. inc_if (cond b (Some (endpoint_left P i))
      (first_match (is_named name) (map (endpoint_left P) incs)))
      ≡ cond b (Some i) (first_match (λ i. bytes_eq name (name_of P i)) incs)) [
        | true ↦ refl
        | false ↦ rest
      ]

module _ (P : List Step) (node : NodeNo) where
  -- a peer is alive
  pub living-left : (q : Peer) → is_living (node_left P node) q ≡ is_alive P node.0 q
  living-left (Here i) = open-left_of P i (open_endpoints P node.0)
  living-left (There link session i) = refl

  -- a path finds
  pub find-left : (path : Path) → find_at (node_left P node) path ≡ find P node.0 path
  find-left (Local name) = ap Rattle.journal.specs.Living.here (named-left P name
      (open_endpoints P node.0))
  find-left (Over link name) = refl

-- THE MAKER'S STEP on its node
module _ (shape : Shape) (P : List Step) (legal : IsLegal shape P) (short : IsShort P)
    (k : ℕ) (node : NodeNo) (home : node_by shape (Actor k) ≡ node.0) where
  abbrev now : ℕ
  now = suc (length P)

  abbrev old : NodeState
  old = node_left P node

  -- the actor's endpoint is open on its node
  pub own-open : (j : Inc) → endpoint_of P k ≡ Some j
      → list_any (same_inc j) (open_endpoints P node.0) ≡ true
  own-open j is = subst (λ (n : ℕ). list_any (same_inc j) (open_endpoints P n)
      ≡ true) home (endpoint-open shape P legal short k j is)

  pub own-is_open : (j : Inc) → endpoint_of P k ≡ Some j → is_open old.endpoints j ≡ true
  own-is_open j is = open-left_of P j (open_endpoints P node.0) ∙ own-open j is

  pub own-on : (j : Inc) → endpoint_of P k ≡ Some j → is_on node.0 j ≡ true
  own-on j is = subst (λ (n : ℕ). is_on n j ≡ true) home (endpoint-on shape P legal short k j is)

  -- what stands in its queue
  pub own-items : (j : Inc) → endpoint_of P k ≡ Some j → items_at old.endpoints j ≡ queued P j
  own-items j is = items_left P j (open_endpoints P node.0) (own-open j is)

  -- the effects of the actor's step, by the node as it is left
  abbrev step_by : Head → Step
  step_by head = record {
    by = Actor k;
    head = head;
    effects =
        effects_by P (node_by shape (Actor k)) (endpoint_of P k) head;
  }

  -- with the endpoint known
  step-to : (head : Head) (me : Option Inc) → endpoint_of P k ≡ me
      → node_left (step_by head ∷ P) node ≡ after_step now me head (effects_by P node.0 me head) old
  step-to head me is =
      node_left-step P (step_by head) node
      ∙ ap (λ (n : ℕ). after_step now (endpoint_of P k) head (effects_by P n
      (endpoint_of P k) head) old) home
      ∙ ap (λ (e : Option Inc). after_step now e head (effects_by P node.0 e head) old) is

  pub node-quiet : (head : Head) → effects_by P node.0 (endpoint_of P k) head ≡ []
      → TakesNone head → hunt_in node.0 now (endpoint_of P k) head ≡ []
      → ((a : PendingAttach) → detaches (endpoint_of P k) head a ≡ false)
      → attach_in node.0 now (endpoint_of P k) head ≡ []
      → node_left (step_by head ∷ P) node ≡ old
  node-quiet head none takes hunts cancels attaches =
      step-to head (endpoint_of P k) refl
      ∙ ap (λ es. after_step now (endpoint_of P k) head es old) none
      ∙ quiet-left now (endpoint_of P k) head old takes hunts cancels attaches

  all-endpoints : (incs : List Inc) → AllByRecursion (IsBelow P node.0) incs
      → AllByRecursion (λ (e : OpenEndpoint). e.inc.0 < (next_of old).0) (map
      (endpoint_left P) incs)
  all-endpoints [] all = tt
  all-endpoints (i ∷ incs) all = (all.0.1, all-endpoints incs all.1)

  pub node-open : (name : List ℕ) → endpoint_of P k ≡ None
      → node_left (step_by (Open name) ∷ P) node ≡ after_open old name now
  node-open name none =
      step-to (Open name) None none
      ∙ open-left now name old (next_on-is_on shape P legal short node.0)
      (all-endpoints (open_endpoints P node.0) (open-below shape P legal short node.0))
      (hunting-rises P node.0)

  closed-by : (j : Inc) (head : Head) → TakesNone head → hunt_in node.0 now (Some j) head ≡ []
      → ((a : PendingAttach) → detaches (Some j) head a ≡ false)
      → attach_in node.0 now (Some j) head ≡ []
      → after_step now (Some j) head (closing j (owed P node.0)) old ≡ after_close old j now
  closed-by j head takes hunts cancels attaches =
      close-left now j head old (endpoint_left P) (open_endpoints P node.0) (λ i. refl)
      (open-rising shape P legal short node.0) refl
      (owed-rises P node.0) takes hunts cancels attaches

  pub node-close : (j : Inc) → endpoint_of P k ≡ Some j
      → node_left (step_by Close ∷ P) node ≡ after_close old j now
  node-close j is = step-to Close (Some j) is ∙ closed-by j Close (λ x. refl) refl (λ a. refl) refl

  pub node-end : (j : Inc) → endpoint_of P k ≡ Some j
      → node_left (step_by Ended ∷ P) node ≡ after_close old j now
  node-end j is = step-to Ended (Some j) is ∙ closed-by j Ended (λ x. refl) refl (λ a. refl) refl

  pub node-send : (j : Inc) (q : Peer) (note : SigNote) (answer : SentTo) → endpoint_of P k ≡ Some j
      → node_left (step_by (Send q note answer) ∷ P) node ≡ after_send old j q note now
  node-send j q note answer is =
      step-to (Send q note answer) (Some j) is
      ∙ ap (λ (b : Bool). after_step now (Some j) (Send q note answer)
      (arrivals_of j note b q) old) (sym (living-left P node q))
      ∙ send-left now j q note answer old

  pub node-take : (j : Inc) (f : Sigsel) (item : Item) → endpoint_of P k ≡ Some j
      → first_selected f (queued P j) ≡ Some item
      → node_left (step_by (Take f item.pos) ∷ P) node
      ≡ record old {
        endpoints = with_items old.endpoints j (without_first f
            (items_at old.endpoints j));
      }
  node-take j f item is selected =
      step-to (Take f item.pos) (Some j) is
      ∙ take-left P j (open_endpoints P node.0) now f item item.pos old
      (open-rising shape P legal short node.0) refl
      (own-open j is) selected refl

  pub node-hunt : (j : Inc) (path : Path) (note : SigNote) → endpoint_of P k ≡ Some j
      → node_left (step_by (Hunt path note) ∷ P) node
      ≡ after_hunt old (record { at = j; path = path; signal = note; number = now })
  node-hunt j path note is =
      step-to (Hunt path note) (Some j) is
      ∙ ap (λ (q : Option Peer). after_step now (Some j) (Hunt path note) (hunted q
      (record {
        at = j;
        path = path;
        signal = note;
        number =
            now;
      })) old) (sym (find-left P node path))
      ∙ hunt-left now j path note old (own-on j is) (hunting-below P node.0)

  pub node-attach : (j : Inc) (q : Peer) (note : SigNote) → endpoint_of P k ≡ Some j
      → node_left (step_by (Attach q note) ∷ P) node
      ≡ after_attach old (record {
        at = j;
        peer = q;
        signal = note;
        reference = record {
          0 =
              now;
        };
      })
  node-attach j q note is =
      step-to (Attach q note) (Some j) is
      ∙ ap (λ (b : Bool). after_step now (Some j) (Attach q note) (attached b (record {
        at =
            j;
        peer = q;
        signal = note;
        reference = record {
          0 =
              now;
        };
      })) old) (sym (living-left P node q))
      ∙ attach-left now j q note old (own-on j is) (owed-below P node.0)

  pub detached-left : (j : Inc) (r : AttRef) → endpoint_of P k ≡ Some j
      → detached old j r ≡ detached_as P (node_by shape (Actor k)) (endpoint_of P k) r
  detached-left j r is =
      ap (λ (items : List Item). detach_answer (is_owed P node.0 (Some j) r) (list_any
      (is_notice_of r) items)) (own-items j is)
      ∙ ap (λ (e : Option Inc). detached_as P node.0 e r) (sym is)
      ∙ ap (λ (n : ℕ). detached_as P n (endpoint_of P k) r) (sym home)

  pub node-detach : (j : Inc) (r : AttRef) (answer : Detached) → endpoint_of P k ≡ Some j
      → node_left (step_by (Detach r answer) ∷ P) node ≡ after_detach_of answer old j r
  node-detach j r answer is =
      step-to (Detach r answer) (Some j) is
      ∙ detach-left P j (open_endpoints P node.0) now r old
      (open-rising shape P legal short node.0) refl (own-open j is) answer
