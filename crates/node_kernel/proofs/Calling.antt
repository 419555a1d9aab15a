-- What calls leave of a node, in the words of their contracts.
use Rattle.std.proofs.Common.{◌≡◌, ℕ, ◌+◌, Bool, true, false, not, cond, List, [], ◌∷◌, ◌++◌, map}
use Rattle.std.proofs.Common.{refl, ap, sym, subst, ◌∙◌, Option, Some, None, Result, Ok, Err, IfOk}
use Rattle.std.proofs.Common.{OnOk, filter}
use Rattle.std.specs.List.{list_any}
use Rattle.linx_base.specs.Peers.{same_inc, same_path, same_peer}
use Rattle.linx_base.specs.Pending.{is_attach, is_of_session}
use Rattle.linx_base.specs.declared.identity.AttRef.{AttRef}
use Rattle.linx_base.specs.declared.identity.Inc.{Inc}
use Rattle.linx_base.specs.declared.identity.LinkNo.{LinkNo}
use Rattle.linx_base.specs.declared.identity.NodeNo.{NodeNo}
use Rattle.linx_base.specs.declared.identity.Peer.{Peer}
use Rattle.linx_base.specs.declared.identity.Peer.TheVariants.{Here, There}
use Rattle.linx_base.specs.declared.identity.Session.{Session}
use Rattle.linx_base.specs.declared.item.Item.{Item}
use Rattle.linx_base.specs.declared.name.Path.{Path}
use Rattle.linx_base.specs.declared.name.Path.TheVariants.{Local, Over}
use Rattle.linx_base.specs.declared.pending.MetPeer.{MetPeer}
use Rattle.linx_base.specs.declared.pending.PendingAttach.{PendingAttach}
use Rattle.linx_base.specs.declared.pending.PendingHunt.{PendingHunt}
use Rattle.linx_base.specs.declared.signal.Reason.TheVariants.{Dead}
use Rattle.linx_base.specs.SigNotes.{SigNote}
use Rattle.sigsel.specs.Selection.{is_notice_of}
use Rattle.journal.specs.declared.effect.Effect.{Effect}
use Rattle.journal.specs.Effects.{arrivals_of, attached, closing, detach_answer, found, hunted}
use Rattle.journal.specs.Effects.{losing, meeting, notice, opening}
use Rattle.node_kernel.specs.Nodes.{NodeState, OpenEndpoint, find_at, is_at, is_living, is_open}
use Rattle.node_kernel.specs.Nodes.{items_at, next_of, put_all, put_into, with_items}
use Rattle.node_kernel.specs.Nodes.{without_endpoint}
use Rattle.node_kernel.specs.Calls.{after_attach, after_close, after_detach, after_detach_of}
use Rattle.node_kernel.specs.Calls.{after_down, after_hunt, after_met, after_open, after_send}
use Rattle.node_kernel.specs.Calls.{detached, with_attach, with_hunt}
use Rattle.node_kernel.specs.Kept.{NodeEndpoints, put_item}
use Rattle.node_kernel.proofs.Bringing.{put_none, put_nowhere}

-- a node, of the parts that its kernel keeps
abbrev pub assembled : NodeEndpoints → List PendingHunt → List PendingAttach → List MetPeer
    → NodeState
assembled roster hunts attaches met = record {
  node = roster.node;
  openings = roster.openings;
  endpoints = roster.endpoints;
  hunts = hunts;
  attaches = attaches;
  met = met;
}

-- a node whose endpoints get nothing
pub nothing_put : (k : NodeState) (step : ℕ) → k
    ≡ record k { endpoints = put_all step [] k.endpoints }
nothing_put k step = ap (λ (es : List OpenEndpoint). record k { endpoints = es })
    (sym (put_none step k.endpoints))

-- SENT over a link, or to nobody: nothing arrives here
over_link : (from : Inc) (note : SigNote) (alive : Bool) (l : LinkNo) (x : Session) (i : Inc)
    → arrivals_of from note alive (There l x i) ≡ []
over_link from note true l x i = refl
over_link from note false l x i = refl

pub sent_over : (k : NodeState) (from : Inc) (note : SigNote) (step : ℕ) (l : LinkNo) (x : Session)
    (i : Inc) → k ≡ after_send k from (There l x i) note step
sent_over k from note step l x i =
    nothing_put k step
    ∙ ap (λ (effects : List Effect). record k { endpoints = put_all step effects k.endpoints })
    (sym (over_link from note (is_living k (There l x i)) l x i))

-- HUNTED, by what is found
pub hunt_found : (k : NodeState) (h : PendingHunt) (q : Peer) → find_at k h.path ≡ Some q
    → record k { endpoints = put_all h.number (found q h ∷ []) k.endpoints } ≡ after_hunt k h
hunt_found k h q is = ap (λ (o : Option Peer). record k
    { endpoints = put_all h.number (hunted o h) k.endpoints; hunts = with_hunt o h k.hunts })
    (sym is)

pub hunt_pends : (k : NodeState) (h : PendingHunt) → find_at k h.path ≡ None
    → record k { hunts = k.hunts ++ h ∷ [] } ≡ after_hunt k h
hunt_pends k h is =
    nothing_put (record k { hunts = k.hunts ++ h ∷ [] }) h.number
    ∙ ap (λ (o : Option Peer). record k {
      endpoints = put_all h.number (hunted o h) k.endpoints;
      hunts = with_hunt o h k.hunts;
    }) (sym is)

-- ATTACHED, by whether the peer is alive
pub attach_owed : (k : NodeState) (a : PendingAttach) → is_living k a.peer ≡ true
    → record k { attaches = k.attaches ++ a ∷ [] } ≡ after_attach k a
attach_owed k a is =
    nothing_put (record k { attaches = k.attaches ++ a ∷ [] }) a.reference.0
    ∙ ap (λ (b : Bool). record k {
      endpoints = put_all a.reference.0 (attached b a) k.endpoints;
      attaches = with_attach b a k.attaches;
    }) (sym is)

pub attach_dead : (k : NodeState) (a : PendingAttach) → is_living k a.peer ≡ false
    → record k { endpoints = put_all a.reference.0 (notice Dead a ∷ []) k.endpoints }
    ≡ after_attach k a
attach_dead k a is = ap (λ (b : Bool). record k {
  endpoints = put_all a.reference.0 (attached b a) k.endpoints;
  attaches = with_attach b a k.attaches;
}) (sym is)

-- DETACHED
pub none_dropped : {X : Type 0} (p : X → Bool) (xs : List X) → list_any p xs ≡ false
    → filter (λ x. not (p x)) xs ≡ xs
none_dropped p [] none = refl
none_dropped p (x ∷ xs) none =
    let go : (b : Bool) → p x ≡ b → filter (λ y. not (p y)) (x ∷ xs) ≡ x ∷ xs = λ b.
    elim b as (λ c. p x ≡ c → filter (λ y. not (p y)) (x ∷ xs) ≡ x ∷ xs) [
      | true ↦ λ e. let no : true ≡ false = rw e at none in cc
      | false ↦ λ e. let rest : list_any p xs ≡ false = rw e at none in
          rw e (ap (λ l. x ∷ l) (none_dropped p xs rest))
    ]
    in
    go (p x) refl

pub same_items : (es : List OpenEndpoint) (i : Inc) → with_items es i (items_at es i) ≡ es
same_items [] i = refl
same_items (e ∷ es) i =
    let go : (b : Bool) → is_at i e ≡ b → with_items (e ∷ es) i (items_at (e ∷ es) i) ≡ e ∷ es =
    λ b.
    elim b as (λ c. is_at i e ≡ c → with_items (e ∷ es) i (items_at (e ∷ es) i) ≡ e ∷ es) [
      | true ↦ λ here. rw here refl
      | false ↦ λ elsewhere. rw elsewhere (ap (λ l. e ∷ l) (same_items es i))
    ]
    in
    go (is_at i e) refl

module _ (k : NodeState) (j : Inc) (r : AttRef) where
  answered : (a b : Bool) → list_any (is_attach j r) k.attaches ≡ a
      → list_any (is_notice_of r) (items_at k.endpoints j) ≡ b → detached k j r ≡ detach_answer a b
  answered a b owed queued = ap (λ x. detach_answer x
      (list_any (is_notice_of r) (items_at k.endpoints j))) owed ∙ ap (detach_answer a) queued

  abbrev owed_now : Bool → Type 0
  owed_now b = list_any (is_attach j r) k.attaches ≡ b

  abbrev queued_now : Bool → Type 0
  queued_now b = list_any (is_notice_of r) (items_at k.endpoints j) ≡ b

  pending_first : (b : Bool) → detach_answer true b ≡ detach_answer true true
  pending_first true = refl
  pending_first false = refl

  pub detach_pending : owed_now true → detached k j r ≡ detach_answer true true
  detach_pending owed = answered true (list_any (is_notice_of r) (items_at k.endpoints j)) owed refl
      ∙ pending_first (list_any (is_notice_of r) (items_at k.endpoints j))

  pub detach_queued : owed_now false → queued_now true → detached k j r ≡ detach_answer false true
  detach_queued owed queued = answered false true owed queued

  pub detach_neither : owed_now false → queued_now false
      → detached k j r ≡ detach_answer false false
  detach_neither owed queued = answered false false owed queued

  pub after_pending : owed_now true → record k {
    attaches =
        filter (λ a. not (is_attach j r a)) k.attaches;
  } ≡ after_detach k j r
  after_pending owed = ap (λ d. after_detach_of d k j r) (sym (detach_pending owed))

  pub after_queued : owed_now false → queued_now true
      → record k {
        attaches = filter (λ a. not (is_attach j r a)) k.attaches;
        endpoints = with_items k.endpoints j (filter (λ item. not (is_notice_of r item))
            (items_at k.endpoints j));
      } ≡ after_detach k j r
  after_queued owed queued =
      ap (λ (l : List PendingAttach). record k {
        attaches = l;
        endpoints = with_items k.endpoints j (filter (λ item. not (is_notice_of r item))
            (items_at k.endpoints j));
      }) (none_dropped (is_attach j r) k.attaches owed)
      ∙ ap (λ d. after_detach_of d k j r) (sym (detach_queued owed queued))

  pub after_neither : owed_now false → queued_now false
      → record k {
        attaches = filter (λ a. not (is_attach j r a)) k.attaches;
        endpoints = with_items k.endpoints j (filter (λ item. not (is_notice_of r item))
            (items_at k.endpoints j));
      } ≡ after_detach k j r
  after_neither owed queued =
      ap (λ (l : List PendingAttach). record k {
        attaches = l;
        endpoints = with_items k.endpoints j (filter (λ item. not (is_notice_of r item))
            (items_at k.endpoints j));
      }) (none_dropped (is_attach j r) k.attaches owed)
      ∙ ap (λ (l : List Item). record k { endpoints = with_items k.endpoints j l })
      (none_dropped (is_notice_of r) (items_at k.endpoints j) queued)
      ∙ ap (λ (l : List OpenEndpoint). record k { endpoints = l }) (same_items k.endpoints j)
      ∙ ap (λ d. after_detach_of d k j r) (sym (detach_neither owed queued))

-- CLOSED: the others get their notices, before or after it is gone
pub without_mapped : (f : OpenEndpoint → OpenEndpoint) → ((e : OpenEndpoint) → (f e).inc ≡ e.inc)
    → (i : Inc) (es : List OpenEndpoint) → without_endpoint (map f es) i
    ≡ map f (without_endpoint es i)
without_mapped f same i [] = refl
without_mapped f same i (e ∷ es) =
    ap (λ (j : Inc). cond (same_inc i j) (map f es) (f e ∷ without_endpoint (map f es) i)) (same e)
    ∙ elim (same_inc i e.inc) as (λ b. cond b (map f es) (f e ∷ without_endpoint (map f es) i)
    ≡ map f (cond b es (e ∷ without_endpoint es i))) [
      | true ↦ refl
      | false ↦ ap (λ l. f e ∷ l) (without_mapped f same i es)
    ]

pub without_put : (step : ℕ) (effects : List Effect) (i : Inc) (es : List OpenEndpoint)
    → without_endpoint (put_all step effects es) i ≡ put_all step effects (without_endpoint es i)
without_put step effects i es = without_mapped (put_into step effects) (λ e. refl) i es

-- SENT to an endpoint that isn't open
pub sent_dead : (es : List OpenEndpoint) (i : Inc) (item : Item) (from : Inc) (note : SigNote)
    (step : ℕ) → is_open es i ≡ false → map (put_item i item) es
    ≡ put_all step (arrivals_of from note (is_open es i) (Here i)) es
sent_dead es i item from note step shut =
    put_nowhere es i item shut ∙ sym (put_none step es)
    ∙ ap (λ b. put_all step (arrivals_of from note b (Here i)) es) (sym shut)

-- WHOLE NODES, by what became of their parts
module _ (n : NodeState) (step : ℕ) (roster : NodeEndpoints) (effects shown : List Effect) where
  pub opened_node : (name : List ℕ) (path : Path) (inc : Inc) (hunts : List PendingHunt)
      → path ≡ Local name → inc ≡ next_of n → effects ≡ opening inc name n.hunts → shown ≡ effects
      → roster ≡ record {
        node = n.node;
        openings = n.openings + 1;
        endpoints = put_all step shown (n.endpoints
            ++ record { inc = next_of n; name = name; items = [] } ∷ []);
      }
      → hunts ≡ filter (λ h. not (same_path path h.path)) n.hunts
      → assembled roster hunts n.attaches n.met ≡ after_open n name step
  opened_node name path inc hunts path_is inc_is effects_is shown_is roster_is hunts_is =
      rw (roster_is, hunts_is, shown_is, effects_is, inc_is, path_is) refl

  pub closed_node : (j : Inc) (hunts : List PendingHunt) (held attaches : List PendingAttach)
      → effects ≡ closing j n.attaches → shown ≡ effects
      → roster ≡ record {
        node = n.node;
        openings = n.openings;
        endpoints = put_all step shown (without_endpoint n.endpoints j);
      }
      → hunts ≡ filter (λ h. not (same_inc j h.at)) n.hunts
      → held ≡ filter (λ a. not (same_inc j a.at)) n.attaches
      → attaches ≡ filter (λ a. not (same_peer (Here j) a.peer)) held
      → assembled roster hunts attaches n.met ≡ after_close n j step
  closed_node j hunts held attaches effects_is shown_is roster_is hunts_is held_is attaches_is =
      rw (roster_is, hunts_is, attaches_is, held_is, shown_is, effects_is) refl

  pub lost_node : (l : LinkNo) (x : Session) (node : NodeNo) (attaches : List PendingAttach)
      (met : List MetPeer) → node ≡ n.node → effects ≡ losing node l x n.attaches → shown ≡ effects
      → roster ≡ record {
        node = n.node;
        openings = n.openings;
        endpoints = put_all step shown n.endpoints;
      }
      → attaches ≡ filter (λ a. not (is_of_session l x a.peer)) n.attaches
      → met ≡ filter (λ m. not (is_of_session l x m.peer)) n.met
      → assembled roster n.hunts attaches met ≡ after_down n l x step
  lost_node l x node attaches met node_is effects_is shown_is roster_is attaches_is met_is =
      rw (roster_is, attaches_is, met_is, shown_is, effects_is, node_is) refl

  pub met_node : (l : LinkNo) (peer : Peer) (name : List ℕ) (path : Path) (node : NodeNo)
      (hunts : List PendingHunt) (met : List MetPeer) → path ≡ Over l name → node ≡ n.node
      → effects ≡ meeting node l peer name n.hunts → shown ≡ effects
      → roster ≡ record {
        node = n.node;
        openings = n.openings;
        endpoints = put_all step shown n.endpoints;
      }
      → hunts ≡ filter (λ h. not (same_path path h.path)) n.hunts
      → met ≡ n.met ++ record { peer = peer; name = name } ∷ []
      → assembled roster hunts n.attaches met ≡ after_met n l peer name step
  met_node l peer name path node hunts met path_is node_is effects_is shown_is roster_is hunts_is
      met_is =
      rw (roster_is, hunts_is, met_is, shown_is, effects_is, node_is, path_is) refl

-- a detach that took every such attach and every such notice, where there was none of the first
module _ (n : NodeState) (j : Inc) (r : AttRef) (roster : NodeEndpoints)
    (attaches : List PendingAttach) (attaches_is : attaches
    ≡ filter (λ a. not (is_attach j r a)) n.attaches) (roster_is : roster ≡ record {
      node = n.node;
      openings = n.openings;
      endpoints = with_items n.endpoints j (filter (λ item. not (is_notice_of r item))
          (items_at n.endpoints j));
    }) (owed : false ≡ list_any (is_attach j r) n.attaches) where
  pub queued_node : true ≡ list_any (is_notice_of r) (items_at n.endpoints j)
      → assembled roster n.hunts attaches n.met ≡ after_detach n j r
  queued_node queued = rw (roster_is, attaches_is) (after_queued n j r (sym owed) (sym queued))

  pub neither_node : false ≡ list_any (is_notice_of r) (items_at n.endpoints j)
      → assembled roster n.hunts attaches n.met ≡ after_detach n j r
  neither_node queued = rw (roster_is, attaches_is) (after_neither n j r (sym owed) (sym queued))

-- what was made is what was brought
pub made_is : {A E F : Type 0} (made : Result A E) (result : Result A F) (P : A → Type 0)
    → IfOk made P → IfOk result (λ a. made ≡ Ok a) → IfOk result P
made_is {A = A} {E = E} made (Ok a) P said same =
    let Q : Result A E → Type 0 = λ r. IfOk r P in subst Q same said
made_is made (Err e) P said same = tt

pub put_is : {A E F N : Type 0} (made : Result A E) (result : Result A F) (value : A)
    (after : A → N) (new : N) → IfOk made (λ a. a ≡ value) → IfOk result (λ a. made ≡ Ok a)
    → IfOk result (λ a. new ≡ after a) → OnOk result (new ≡ after value)
put_is {A = A} {E = E} made (Ok a) value after new said same put =
    let Q : Result A E → Type 0 = λ r. IfOk r (λ b. b ≡ value) in
    let is : a ≡ value = subst Q same said in put ∙ ap after is
put_is made (Err e) value after new said same put = tt
