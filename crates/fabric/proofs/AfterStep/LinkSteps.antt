-- What a step on a link leaves of the node at its end is what the kernel's call for it leaves, and
-- so with a restart that ends sessions.
use Rattle.std.proofs.Common.{◌≡◌, ℕ, Bool, true, false, cond, not, ◌||◌, List, [], ◌∷◌, ◌++◌}
use Rattle.std.proofs.Common.{filter, Option, refl, ◌∙◌, ap, fold, eq-eqb, append-nil}
use Rattle.std.specs.List.{list_any, AllByRecursion}
use Rattle.linx_base.specs.Peers.{same_path, same_peer}
use Rattle.linx_base.specs.declared.frame.Verdict.{Verdict}
use Rattle.linx_base.specs.declared.identity.Inc.{Inc}
use Rattle.linx_base.specs.declared.identity.LinkNo.{LinkNo}
use Rattle.linx_base.specs.declared.identity.NodeNo.{NodeNo}
use Rattle.linx_base.specs.declared.identity.Peer.{Peer}
use Rattle.linx_base.specs.declared.identity.Session.{Session}
use Rattle.linx_base.specs.declared.identity.Side.{Side}
use Rattle.linx_base.specs.declared.name.Path.{Path}
use Rattle.linx_base.specs.declared.name.Path.TheVariants.{Over}
use Rattle.linx_base.specs.declared.pending.MetPeer.{MetPeer}
use Rattle.linx_base.specs.declared.pending.PendingAttach.{PendingAttach}
use Rattle.linx_base.specs.declared.pending.PendingHunt.{PendingHunt}
use Rattle.linx_base.specs.declared.signal.Reason.{Reason}
use Rattle.linx_base.specs.declared.signal.Reason.TheVariants as reasons
use Rattle.linx_base.specs.SigNotes.{SigNote}
use Rattle.journal.specs.declared.effect.Effect.{Effect}
use Rattle.journal.specs.declared.effect.Effect.TheVariants.{Arrived, Down, Gone, Met, Up}
use Rattle.journal.specs.declared.head.Head.{Head}
use Rattle.journal.specs.declared.head.Head.TheVariants.{Restart, Tick, Wire}
use Rattle.journal.specs.Effects.{closings, founds, hunts_for, losing, meeting, notices, parting}
use Rattle.linx_base.specs.Pending.{is_of_session}
use Rattle.journal.specs.Living.{living_after}
use Rattle.journal.specs.Pending.{answers_hunt, attach_in, detaches, ends_hunt, hunt_in, hunts_past}
use Rattle.journal.specs.Pending.{notifies, owed_past, ends_attach}
use Rattle.journal.proofs.Lists.{all-impl}
use Rattle.node_kernel.specs.Nodes.{NodeState, put_all}
use Rattle.node_kernel.specs.Calls.{after_arrival, after_down, after_gone, after_met}
use Rattle.fabric.proofs.AfterStep.BringingSteps.{quiet-left}
use Rattle.fabric.proofs.AfterStep.Effects.{LeavesOpen, OnlyItems, founds-notify_none, leaves_open}
use Rattle.fabric.proofs.AfterStep.Effects.{notices-answer_none, only-arrived, only-founds}
use Rattle.fabric.proofs.AfterStep.Effects.{only-none, only-notices}
use Rattle.fabric.proofs.AfterStep.OpeningsAndClosings.{ClosesAll, closings-all}
use Rattle.fabric.proofs.AfterStep.Tables.{after_step}
use Rattle.fabric.proofs.AfterStep.Pendings.{Rises, answered-each, filter-agree, notified-each}
use Rattle.fabric.proofs.AfterStep.EndpointsStay.{TakesNone, endpoints-put, hunts-kept}
use Rattle.fabric.proofs.AfterStep.EndpointsStay.{openings-kept, owed-kept, put-none}
use Rattle.fabric.proofs.AfterStep.EndpointsStay.{state_by_parts}

-- the head of step k does nothing of itself to this node: all that happens are its effects
pub record IsIdle (node k : ℕ) (me : Option Inc) (head : Head) : Type 0 where
  pub takes : TakesNone head
  pub hunts : hunt_in node k me head ≡ []
  pub cancels : (a : PendingAttach) → detaches me head a ≡ false
  pub attaches : attach_in node k me head ≡ []

pub idle-wire : (node k : ℕ) (me : Option Inc) (l : LinkNo) (from : Side) (verdict : Verdict)
    → IsIdle node k me (Wire l from verdict)
idle-wire node k me l from verdict =
    record { takes = λ x. refl; hunts = refl; cancels = λ a. refl; attaches = refl }

pub idle-tick : (node k : ℕ) (me : Option Inc) (l : LinkNo) (side : Side)
    → IsIdle node k me (Tick l side)
idle-tick node k me l side =
    record { takes = λ x. refl; hunts = refl; cancels = λ a. refl; attaches = refl }

pub idle-restart : (node k : ℕ) (me : Option Inc) (n : NodeNo) → IsIdle node k me (Restart n)
idle-restart node k me n =
    record { takes = λ x. refl; hunts = refl; cancels = λ a. refl; attaches = refl }

-- effects with a first one that only meets peers, or ends them, open and close none
pub leaves_met : (n : NodeNo) (q : Peer) (name : List ℕ) (es : List Effect) → OnlyItems es
    → LeavesOpen (Met n q name ∷ es)
leaves_met n q name es only =
    record { opened = only.opened; opens_none = only.opens_none; closes_none = only.closes_none }

pub leaves_gone : (n : NodeNo) (q : Peer) (es : List Effect) → OnlyItems es
    → LeavesOpen (Gone n q ∷ es)
leaves_gone n q es only =
    record { opened = only.opened; opens_none = only.opens_none; closes_none = only.closes_none }

pub leaves_down : (n : NodeNo) (l : LinkNo) (x : Session) (es : List Effect) → OnlyItems es
    → LeavesOpen (Down n l x ∷ es)
leaves_down n l x es only =
    record { opened = only.opened; opens_none = only.opens_none; closes_none = only.closes_none }

pub only-up : (n : NodeNo) (l : LinkNo) (x y : Session) → OnlyItems (Up n l x y ∷ [])
only-up n l x y = record {
  opened = refl;
  opens_none = λ i. refl;
  closes_none = λ i. refl;
  meets_none = λ node met. refl;
}

-- A STEP ON A LINK, of a head that does nothing of itself
module _ (k : ℕ) (me : Option Inc) (head : Head) (old : NodeState)
    (idle : IsIdle old.node.0 k me head) where
  abbrev node : ℕ
  node = old.node.0

  -- what effects leave, by what they settle and whom they change
  module _ (es : List Effect) (leaves : LeavesOpen es) where
    settled-left : (hunts : List PendingHunt) (attaches : List PendingAttach) (met : List MetPeer)
        → hunts_past node k me head es old.hunts ≡ hunts
        → owed_past node k me head es old.attaches ≡ attaches
        → fold (living_after node) old.met es ≡ met
        → after_step k me head es old
        ≡ record old {
          endpoints = put_all k es old.endpoints;
          hunts = hunts;
          attaches = attaches;
          met = met;
        }
    settled-left hunts attaches met a b c =
        state_by_parts old.node _ _ _ _ _ _ _ _ _ _
        (openings-kept node k me head es leaves old.openings)
        (endpoints-put node k me head es leaves old.endpoints idle.takes) a b c

    hunts_same : ((h : PendingHunt) → list_any (answers_hunt h) es ≡ false)
        → hunts_past node k me head es old.hunts ≡ old.hunts
    hunts_same none = hunts-kept node k me head es leaves old.hunts none idle.hunts

    owed_same : ((a : PendingAttach) → list_any (notifies a) es ≡ false)
        → owed_past node k me head es old.attaches ≡ old.attaches
    owed_same none = owed-kept node k me head es leaves old.attaches none idle.cancels idle.attaches

    ends : (h : PendingHunt) (b : Bool) → list_any (answers_hunt h) es ≡ b
        → not (ends_hunt es h) ≡ not b
    ends h b is = rw (is, leaves.closes_none h.at) (or_none b)
      where
        or_none : (b : Bool) → not (b || false) ≡ not b
        or_none true = refl
        or_none false = refl

    -- a found peer answers the hunts for its path
    hunts_answered : (path : Path) (q : Peer) → Rises (λ h. h.number) old.hunts
        → ((h : PendingHunt) → list_any (answers_hunt h) es
        ≡ list_any (answers_hunt h) (founds path q old.hunts))
        → hunts_past node k me head es old.hunts
        ≡ filter (λ h. not (same_path path h.path)) old.hunts
    hunts_answered path q rises same =
        ap (λ l. filter (λ h. not (ends_hunt es h)) (old.hunts ++ l)) idle.hunts
        ∙ ap (filter (λ h. not (ends_hunt es h))) (append-nil old.hunts)
        ∙ filter-agree (λ h. not (ends_hunt es h)) (λ h. not (same_path path h.path)) old.hunts
        (all-impl (λ h. list_any (answers_hunt h) (founds path q old.hunts)
        ≡ same_path path h.path)
        (λ h. not (ends_hunt es h) ≡ not (same_path path h.path))
        (λ h is. ends h (same_path path h.path) (same h ∙ is)) old.hunts
        (answered-each q (λ h. same_path path h.path) old.hunts rises))

    settled : (a : PendingAttach) (b : Bool) → list_any (notifies a) es ≡ b
        → not (ends_attach me head es a) ≡ not b
    settled a b is = rw (is, idle.cancels a, leaves.closes_none a.at) (or_none b)
      where
        or_none : (b : Bool) → not ((b || false) || false) ≡ not b
        or_none true = refl
        or_none false = refl

    -- ended peers are notified to the attaches that name them
    owed_notified : (reason : Reason) (ended : Peer → Bool)
        → Rises (λ a. a.reference.0) old.attaches
        → ((a : PendingAttach) → list_any (notifies a) es
        ≡ list_any (notifies a) (notices reason ended old.attaches))
        → owed_past node k me head es old.attaches ≡ filter (λ a. not (ended a.peer)) old.attaches
    owed_notified reason ended rises same =
        ap (λ l. filter (λ a. not (ends_attach me head es a)) (old.attaches ++ l)) idle.attaches
        ∙ ap (filter (λ a. not (ends_attach me head es a))) (append-nil old.attaches)
        ∙ filter-agree (λ a. not (ends_attach me head es a)) (λ a. not (ended a.peer)) old.attaches
        (all-impl (λ a. list_any (notifies a) (notices reason ended old.attaches) ≡ ended a.peer)
        (λ a. not (ends_attach me head es a) ≡ not (ended a.peer))
        (λ a is. settled a (ended a.peer) (same a ∙ is)) old.attaches
        (notified-each reason (λ a. ended a.peer) old.attaches rises))

  -- NOTHING happens
  pub nothing-left : after_step k me head [] old ≡ old
  nothing-left = quiet-left k me head old idle.takes idle.hunts idle.cancels idle.attaches

  -- A SESSION goes up: the node's tables don't tell it
  pub up-left : (n : NodeNo) (l : LinkNo) (x y : Session)
      → after_step k me head (Up n l x y ∷ []) old ≡ old
  up-left n l x y =
      let leaves : LeavesOpen (Up n l x y ∷ []) = leaves_open (only-up n l x y) in
      settled-left (Up n l x y ∷ []) leaves old.hunts old.attaches old.met
      (hunts_same (Up n l x y ∷ []) leaves (λ h. refl))
      (owed_same (Up n l x y ∷ []) leaves (λ a. refl)) refl
      ∙ ap (λ es. let n : NodeState = record old { endpoints = es } in n)
      (put-none k old.endpoints)

  -- A SIGNAL arrives
  pub arrival-left : (b : Inc) (q : Peer) (note : SigNote)
      → after_step k me head (Arrived b q note ∷ []) old ≡ after_arrival old b q note k
  arrival-left b q note =
      let es : List Effect = Arrived b q note ∷ [] in
      let leaves : LeavesOpen es = leaves_open (only-arrived [] only-none b q note) in
      settled-left es leaves old.hunts old.attaches old.met
      (hunts_same es leaves (λ h. refl)) (owed_same es leaves (λ a. refl)) refl

  -- A PEER is met
  pub met-left : (l : LinkNo) (q : Peer) (name : List ℕ) → Rises (λ h. h.number) old.hunts
      → after_step k me head (meeting old.node l q name old.hunts) old ≡ after_met old l q name k
  met-left l q name rises =
      let told : List Effect = founds (Over l name) q old.hunts in
      let es : List Effect = meeting old.node l q name old.hunts in
      let only : OnlyItems told = only-founds q _ in
      let leaves : LeavesOpen es = leaves_met old.node q name told only in
      let met : List MetPeer = old.met ++ record { peer = q; name = name } ∷ [] in
      settled-left es leaves (filter (λ h. not (same_path (Over l name) h.path)) old.hunts)
      old.attaches met
      (hunts_answered es leaves (Over l name) q rises (λ h. refl))
      (owed_same es leaves (founds-notify_none q (hunts_for (Over l name) old.hunts)))
      (ap (λ b. fold (living_after node) (cond b met old.met) told) (eq-eqb node node refl)
      ∙ only.meets_none node met)

  -- A PEER is parted from
  pub gone-left : (q : Peer) → Rises (λ a. a.reference.0) old.attaches
      → after_step k me head (parting old.node q old.attaches) old ≡ after_gone old q k
  gone-left q rises =
      let told : List Effect = notices reasons.Closed (same_peer q) old.attaches in
      let es : List Effect = parting old.node q old.attaches in
      let only : OnlyItems told = only-notices reasons.Closed _ in
      let leaves : LeavesOpen es = leaves_gone old.node q told only in
      let met : List MetPeer = filter (λ m. not (same_peer q m.peer)) old.met in
      settled-left es leaves old.hunts (filter (λ a. not (same_peer q a.peer)) old.attaches) met
      (hunts_same es leaves (notices-answer_none reasons.Closed
      (filter (λ a. same_peer q a.peer) old.attaches)))
      (owed_notified es leaves reasons.Closed (same_peer q) rises (λ a. refl))
      (ap (λ b. fold (living_after node) (cond b met old.met) told) (eq-eqb node node refl)
      ∙ only.meets_none node met)

  -- A SESSION is lost
  pub down-left : (l : LinkNo) (x : Session) → Rises (λ a. a.reference.0) old.attaches
      → after_step k me head (losing old.node l x old.attaches) old ≡ after_down old l x k
  down-left l x rises =
      let told : List Effect = notices reasons.Lost (is_of_session l x) old.attaches in
      let es : List Effect = losing old.node l x old.attaches in
      let only : OnlyItems told = only-notices reasons.Lost _ in
      let leaves : LeavesOpen es = leaves_down old.node l x told only in
      let met : List MetPeer = filter (λ m. not (is_of_session l x m.peer)) old.met in
      settled-left es leaves old.hunts (filter (λ a. not (is_of_session l x a.peer)) old.attaches)
      met
      (hunts_same es leaves (notices-answer_none reasons.Lost
      (filter (λ a. is_of_session l x a.peer) old.attaches)))
      (owed_notified es leaves reasons.Lost (is_of_session l x) rises (λ a. refl))
      (ap (λ b. fold (living_after node) (cond b met old.met) told) (eq-eqb node node refl)
      ∙ only.meets_none node met)

-- A RESTART ends sessions, and then closes endpoints
abbrev pub IsDown : Effect → Type 0
IsDown (Down n l x) = Unit {0}
IsDown _ = ⊥

pub downs-closings : (incs : List Inc) (ds : List Effect) → AllByRecursion IsDown ds
    → ClosesAll incs (ds ++ closings incs)
downs-closings incs [] all = closings-all incs
downs-closings incs (Down n l x ∷ ds) all =
    let rest = downs-closings incs ds all.1 in
    record {
      opened = rest.opened;
      opens_none = rest.opens_none;
      closes_all = rest.closes_all;
    }
downs-closings incs (_ ∷ ds) all = absurd all.0
