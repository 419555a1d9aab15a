-- A step changes one node: that of its maker, the one that it restarts, or the one at the side of a
-- link where its packet arrives or that ticks.
use Rattle.std.proofs.Common.{◌≡◌, ◌≢◌, ℕ, zero, suc, ◌+◌, Bool, true, false, not, List, [], ◌∷◌}
use Rattle.std.proofs.Common.{◌++◌, length, map, filter, Option, Some, None, refl, sym, ◌∙◌, ap}
use Rattle.std.proofs.Common.{subst, arith, fold, ◌&&◌, ◌==◌, eqb-true, ne_eqb, true≢false}
use Rattle.std.proofs.Common.{append-nil}
use Rattle.std.specs.List.{list_any, AllByRecursion}
use Rattle.linx_base.specs.Numbers.{is_on, node_of}
use Rattle.linx_base.specs.Peers.{same_inc, same_peer}
use Rattle.linx_base.specs.Sides.{other_of}
use Rattle.linx_base.specs.declared.identity.AttRef.{AttRef}
use Rattle.linx_base.specs.declared.identity.Inc.{Inc}
use Rattle.linx_base.specs.declared.identity.LinkNo.{LinkNo}
use Rattle.linx_base.specs.declared.identity.NodeNo.{NodeNo}
use Rattle.linx_base.specs.declared.identity.Peer.{Peer}
use Rattle.linx_base.specs.declared.identity.Peer.TheVariants.{Here, There}
use Rattle.linx_base.specs.declared.identity.Session.{Session}
use Rattle.linx_base.specs.declared.identity.Side.{Side}
use Rattle.linx_base.specs.declared.item.Item.{Item}
use Rattle.linx_base.specs.declared.name.Path.{Path}
use Rattle.linx_base.specs.declared.name.Path.TheVariants.{Local, Over}
use Rattle.linx_base.specs.declared.pending.MetPeer.{MetPeer}
use Rattle.linx_base.specs.declared.pending.PendingAttach.{PendingAttach}
use Rattle.linx_base.specs.declared.pending.PendingHunt.{PendingHunt}
use Rattle.linx_base.specs.declared.signal.Reason.{Reason}
use Rattle.linx_base.specs.declared.signal.Reason.TheVariants as reasons
use Rattle.linx_base.specs.SigNotes.{SigNote}
use Rattle.journal.specs.declared.by.By.{By}
use Rattle.journal.specs.declared.by.By.TheVariants.{Actor, Pump}
use Rattle.journal.specs.declared.effect.Effect.{Effect}
use Rattle.journal.specs.declared.effect.Effect.TheVariants.{Opened, Closed, Arrived, Found}
use Rattle.journal.specs.declared.effect.Effect.TheVariants.{Notified, Met, Gone, Up, Down}
use Rattle.journal.specs.declared.effect.Step.{Step}
use Rattle.journal.specs.declared.head.Head.{Head}
use Rattle.journal.specs.declared.head.Head.TheVariants.{Open, Close, Send}
use Rattle.journal.specs.declared.head.Head.TheVariants.{Hunt, Attach, Detach}
use Rattle.journal.specs.declared.head.Head.TheVariants.{Restart, Wire, Tick, Ended}
use Rattle.journal.specs.Effects.{arrivals_of, attached, closings, ending, found, founds}
use Rattle.journal.specs.Effects.{held_elsewhere, hunted, hunts_for, notice, notices}
use Rattle.journal.specs.History.{closes, endpoint_by, open_endpoints, opened_by, opens}
use Rattle.journal.specs.Laws.{attaching, effects_by, hunting_by, sending}
use Rattle.linx_base.specs.Pending.{is_of_session}
use Rattle.journal.specs.Living.{find, is_alive, living_after}
use Rattle.journal.specs.Pending.{answers_hunt, attach_at, attach_in, cancels, detaches, ends_hunt}
use Rattle.journal.specs.Pending.{hunt_at, hunt_in, hunting, hunts_past, is_own_attach, notifies}
use Rattle.journal.specs.Pending.{owed, owed_past, ends_attach}
use Rattle.journal.specs.Queues.{items_in, left_by}
use Rattle.journal.specs.Sessions.{session_past, up_session}
use Rattle.journal.specs.Shapes.{Shape, node_by}
use Rattle.journal.specs.Traffic.{is_endpoint}
use Rattle.journal.proofs.Lists.{all-append, all-filter, all-impl, filter-all}
use Rattle.journal.proofs.Openings.{IsBelow, IsShort, all-among, hunting-on, next_on, owed-on}
use Rattle.link_laws.specs.Brought.{Brought, MayBring, arrives, brought_at, goes_down, goes_up}
use Rattle.link_laws.specs.Brought.{meets, nothing, parts}
use Rattle.link_laws.specs.Ends.{node_at}
use Rattle.link_laws.specs.Laws.{HasEffects, IsHandedOver, IsLegal, IsLegalStep, IsTick}
use Rattle.link_laws.specs.Laws.{KeepsPackets, KeepsTicks, delivers, down_if, downs_of, loses}
use Rattle.link_laws.specs.Laws.{restarting, stays as ticks_on}
use Rattle.link_laws.proofs.Endpoints.Places.{endpoint-on, next_on-is_on, open-below}
use Rattle.node_kernel.specs.Nodes.{NodeState, OpenEndpoint}
use Rattle.fabric.specs.Remains.{endpoint_left, node_left}
use Rattle.fabric.proofs.AfterStep.LinkSteps.{IsIdle, idle-restart, idle-tick, idle-wire}
use Rattle.fabric.proofs.AfterStep.Tables.{after_step, endpoint_past, new_endpoint, node_left-step}
use Rattle.fabric.proofs.AfterStep.Tables.{stays}
use Rattle.fabric.proofs.AfterStep.EndpointsStay.{left_by-none, state_by_parts}

-- the effect is one on this node
abbrev pub IsAbout : ℕ → Effect → Type 0
IsAbout n (Opened i) = is_on n i ≡ true
IsAbout n (Closed i) = is_on n i ≡ true
IsAbout n (Arrived i q note) = is_on n i ≡ true
IsAbout n (Found i q note h) = is_on n i ≡ true
IsAbout n (Notified i q note r reason) = is_on n i ≡ true
IsAbout n (Met m q name) = m.0 ≡ n
IsAbout n (Gone m q) = m.0 ≡ n
IsAbout n (Up m l x y) = m.0 ≡ n
IsAbout n (Down m l x) = m.0 ≡ n

-- incarnations of two nodes differ
apart : (n m : ℕ) → n ≢ m → (i j : Inc) → is_on n i ≡ true → is_on m j ≡ true → same_inc i j ≡ false
apart n m other i j on_n on_m =
    ne_eqb i.0 j.0 (λ same. other (sym (eqb-true (node_of i) n on_n)
    ∙ ap (λ (x : ℕ). node_of (let y : Inc = record { 0 = x } in y)) same
    ∙ eqb-true (node_of j) m on_m))

off : (n m : ℕ) → n ≢ m → (i : Inc) → is_on n i ≡ true → is_on m i ≡ false
off n m other i on = ne_eqb (node_of i) m (λ same. other (sym (eqb-true (node_of i) n on) ∙ same))

-- what a step's head does to another node: nothing
pub record IsApart (m k : ℕ) (me : Option Inc) (head : Head) : Type 0 where
  pub takes : (j : Inc) → is_on m j ≡ true → (items : List Item)
      → left_by (is_endpoint j me) head items ≡ items
  pub hunts : hunt_in m k me head ≡ []
  pub attaches : attach_in m k me head ≡ []
  pub cancels : (a : PendingAttach) → is_on m a.at ≡ true → detaches me head a ≡ false

-- EFFECTS ON ONE NODE concern nothing of another
module _ (n m : ℕ) (other : n ≢ m) where
  open_none : (es : List Effect) → AllByRecursion (IsAbout n) es → opened_by m es ≡ []
  open_none [] all = refl
  open_none (Opened i ∷ es) all = rw (off n m other i all.0) (open_none es all.1)
  open_none (Closed i ∷ es) all = open_none es all.1
  open_none (Arrived i q note ∷ es) all = open_none es all.1
  open_none (Found i q note h ∷ es) all = open_none es all.1
  open_none (Notified i q note r reason ∷ es) all = open_none es all.1
  open_none (Met k q name ∷ es) all = open_none es all.1
  open_none (Gone k q ∷ es) all = open_none es all.1
  open_none (Up k l x y ∷ es) all = open_none es all.1
  open_none (Down k l x ∷ es) all = open_none es all.1

  pub meet_none : (es : List Effect) → AllByRecursion (IsAbout n) es → (met : List MetPeer)
      → fold (living_after m) met es ≡ met
  meet_none [] all met = refl
  meet_none (Opened i ∷ es) all met = meet_none es all.1 met
  meet_none (Closed i ∷ es) all met = meet_none es all.1 met
  meet_none (Arrived i q note ∷ es) all met = meet_none es all.1 met
  meet_none (Found i q note h ∷ es) all met = meet_none es all.1 met
  meet_none (Notified i q note r reason ∷ es) all met = meet_none es all.1 met
  meet_none (Met k q name ∷ es) all met = rw (ne_eqb k.0 m (λ e. other (sym all.0
      ∙ e))) (meet_none es all.1 met)
  meet_none (Gone k q ∷ es) all met = rw (ne_eqb k.0 m (λ e. other (sym all.0
      ∙ e))) (meet_none es all.1 met)
  meet_none (Up k l x y ∷ es) all met = meet_none es all.1 met
  meet_none (Down k l x ∷ es) all met = rw (ne_eqb k.0 m (λ e. other (sym all.0
      ∙ e))) (meet_none es all.1 met)

  -- nor a session
  off_side : (k : NodeNo) (l link : ℕ) → k.0 ≡ n → (k.0 == m && l == link) ≡ false
  off_side k l link here =
      rw (ne_eqb k.0 m (λ e. other (sym here ∙ e))) refl

  pub sessions_none : (link : ℕ) (es : List Effect) → AllByRecursion (IsAbout n) es
      → (up : Option Session) → session_past m link up es ≡ up
  sessions_none link [] all up = refl
  sessions_none link (Opened i ∷ es) all up = sessions_none link es all.1 up
  sessions_none link (Closed i ∷ es) all up = sessions_none link es all.1 up
  sessions_none link (Arrived i q note ∷ es) all up = sessions_none link es all.1 up
  sessions_none link (Found i q note h ∷ es) all up = sessions_none link es all.1 up
  sessions_none link (Notified i q note r reason ∷ es) all up = sessions_none link es all.1 up
  sessions_none link (Met k q name ∷ es) all up = sessions_none link es all.1 up
  sessions_none link (Gone k q ∷ es) all up = sessions_none link es all.1 up
  sessions_none link (Up k l x y ∷ es) all up =
      rw (off_side k l.0 link all.0) (sessions_none link es all.1 up)
  sessions_none link (Down k l x ∷ es) all up =
      rw (off_side k l.0 link all.0) (sessions_none link es all.1 up)

  module _ (j : Inc) (on : is_on m j ≡ true) where
    differs : (i : Inc) → is_on n i ≡ true → same_inc j i ≡ false
    differs i at = apart m n (λ e. other (sym e)) j i on at

    closes_none : (es : List Effect) → AllByRecursion (IsAbout n) es
        → list_any (closes j) es ≡ false
    closes_none [] all = refl
    closes_none (Closed i ∷ es) all = rw (differs i all.0) (closes_none es all.1)
    closes_none (Opened i ∷ es) all = closes_none es all.1
    closes_none (Arrived i q note ∷ es) all = closes_none es all.1
    closes_none (Found i q note h ∷ es) all = closes_none es all.1
    closes_none (Notified i q note r reason ∷ es) all = closes_none es all.1
    closes_none (Met k q name ∷ es) all = closes_none es all.1
    closes_none (Gone k q ∷ es) all = closes_none es all.1
    closes_none (Up k l x y ∷ es) all = closes_none es all.1
    closes_none (Down k l x ∷ es) all = closes_none es all.1

    opens_none : (es : List Effect) → AllByRecursion (IsAbout n) es → list_any (opens j) es ≡ false
    opens_none [] all = refl
    opens_none (Opened i ∷ es) all = rw (differs i all.0) (opens_none es all.1)
    opens_none (Closed i ∷ es) all = opens_none es all.1
    opens_none (Arrived i q note ∷ es) all = opens_none es all.1
    opens_none (Found i q note h ∷ es) all = opens_none es all.1
    opens_none (Notified i q note r reason ∷ es) all = opens_none es all.1
    opens_none (Met k q name ∷ es) all = opens_none es all.1
    opens_none (Gone k q ∷ es) all = opens_none es all.1
    opens_none (Up k l x y ∷ es) all = opens_none es all.1
    opens_none (Down k l x ∷ es) all = opens_none es all.1

    no_items : (k place : ℕ) (es : List Effect) → AllByRecursion (IsAbout n) es
        → items_in j k place es ≡ []
    no_items k place [] all = refl
    no_items k place (Opened i ∷ es) all = no_items k (place + 1) es all.1
    no_items k place (Closed i ∷ es) all = no_items k (place + 1) es all.1
    no_items k place (Arrived i q note ∷ es) all =
        rw (apart n m other i j all.0 on) (no_items k (place + 1) es all.1)
    no_items k place (Found i q note h ∷ es) all =
        rw (apart n m other i j all.0 on) (no_items k (place + 1) es all.1)
    no_items k place (Notified i q note r reason ∷ es) all =
        rw (apart n m other i j all.0 on) (no_items k (place + 1) es all.1)
    no_items k place (Met a q name ∷ es) all = no_items k (place + 1) es all.1
    no_items k place (Gone a q ∷ es) all = no_items k (place + 1) es all.1
    no_items k place (Up a l x y ∷ es) all = no_items k (place + 1) es all.1
    no_items k place (Down a l x ∷ es) all = no_items k (place + 1) es all.1

  andf : (b : Bool) → (b && false) ≡ false
  andf true = refl
  andf false = refl

  answers_none : (h : PendingHunt) → is_on m h.at ≡ true → (es : List Effect)
      → AllByRecursion (IsAbout n) es
      → list_any (answers_hunt h) es ≡ false
  answers_none h on [] all = refl
  answers_none h on (Found i q note number ∷ es) all =
      rw (apart n m other i h.at all.0 on, andf (number == h.number)) (answers_none h on es all.1)
  answers_none h on (Opened i ∷ es) all = answers_none h on es all.1
  answers_none h on (Closed i ∷ es) all = answers_none h on es all.1
  answers_none h on (Arrived i q note ∷ es) all = answers_none h on es all.1
  answers_none h on (Notified i q note r reason ∷ es) all = answers_none h on es all.1
  answers_none h on (Met k q name ∷ es) all = answers_none h on es all.1
  answers_none h on (Gone k q ∷ es) all = answers_none h on es all.1
  answers_none h on (Up k l x y ∷ es) all = answers_none h on es all.1
  answers_none h on (Down k l x ∷ es) all = answers_none h on es all.1

  notifies_none : (a : PendingAttach) → is_on m a.at ≡ true → (es : List Effect)
      → AllByRecursion (IsAbout n) es
      → list_any (notifies a) es ≡ false
  notifies_none a on [] all = refl
  notifies_none a on (Notified i q note r reason ∷ es) all =
      rw (
        apart n m other i a.at all.0 on,
        andf (r.0 ==
            a.reference.0),
      ) (notifies_none a on es all.1)
  notifies_none a on (Opened i ∷ es) all = notifies_none a on es all.1
  notifies_none a on (Closed i ∷ es) all = notifies_none a on es all.1
  notifies_none a on (Arrived i q note ∷ es) all = notifies_none a on es all.1
  notifies_none a on (Found i q note h ∷ es) all = notifies_none a on es all.1
  notifies_none a on (Met k q name ∷ es) all = notifies_none a on es all.1
  notifies_none a on (Gone k q ∷ es) all = notifies_none a on es all.1
  notifies_none a on (Up k l x y ∷ es) all = notifies_none a on es all.1
  notifies_none a on (Down k l x ∷ es) all = notifies_none a on es all.1

  module _ (k : ℕ) (me : Option Inc) (head : Head) (es : List Effect) (about : AllByRecursion
      (IsAbout n) es)
      (far : IsApart m k me head) (old : NodeState) (node : old.node.0 ≡ m)
      (endpoints_on : AllByRecursion (λ e. is_on m e.inc ≡ true) old.endpoints)
      (hunts_on : AllByRecursion (λ h. is_on m h.at ≡ true) old.hunts)
      (attaches_on : AllByRecursion (λ a. is_on m a.at ≡ true) old.attaches) where
    past-same : (e : OpenEndpoint) → is_on m e.inc ≡ true → endpoint_past k me head es e ≡ e
    past-same e on =
        rw (
          opens_none e.inc on es about,
          far.takes e.inc on e.items,
          no_items e.inc on k 1 es
              about,
          append-nil e.items,
        ) refl

    all-same : (xs : List OpenEndpoint) → AllByRecursion (λ e. is_on m e.inc ≡ true) xs
        → filter (stays es) (map (endpoint_past k me head es) xs) ≡ xs
    all-same [] all = refl
    all-same (e ∷ xs) all =
        rw (past-same e all.0, closes_none e.inc all.0 es about, all-same xs all.1) refl

    pub after-elsewhere : after_step k me head es old ≡ old
    after-elsewhere =
        let none : opened_by old.node.0 es ≡ [] = ap (λ (x : ℕ). opened_by x es) node
        ∙ open_none es about in
        state_by_parts old.node _ _ _ _ _ _ _ _ _ _
        (rw none (omega arith))
        (ap (λ l. filter (stays es) (map (endpoint_past k me head es) old.endpoints ++ map
        (new_endpoint k me head es) l)) none
        ∙ ap (filter (stays es)) (append-nil (map (endpoint_past k me head es) old.endpoints))
        ∙ all-same old.endpoints endpoints_on)
        (ap (λ (x : ℕ). hunts_past x k me head es old.hunts) node
        ∙ ap (λ l. filter (λ h. not (ends_hunt es h)) (old.hunts ++ l)) far.hunts
        ∙ ap (filter (λ h. not (ends_hunt es h))) (append-nil old.hunts)
        ∙ filter-all (λ h. not (ends_hunt es h)) old.hunts
        (all-impl (λ h. is_on m h.at ≡ true) (λ h. not (ends_hunt es h) ≡ true)
        (λ h on. rw (answers_none h on es about, closes_none h.at on es about) refl) old.hunts
        hunts_on))
        (ap (λ (x : ℕ). owed_past x k me head es old.attaches) node
        ∙ ap (λ l. filter (λ a. not (ends_attach me head es a)) (old.attaches ++ l)) far.attaches
        ∙ ap (filter (λ a. not (ends_attach me head es a))) (append-nil old.attaches)
        ∙ filter-all (λ a. not (ends_attach me head es a)) old.attaches
        (all-impl (λ a. is_on m a.at ≡ true) (λ a. not (ends_attach me head es a) ≡ true)
        (λ a on. rw (notifies_none a on es about, far.cancels a on, closes_none a.at on es about)
        refl) old.attaches attaches_on))
        (ap (λ (x : ℕ). fold (living_after x) old.met es) node ∙ meet_none es about old.met)

-- THE EFFECTS OF A LEGAL STEP are on the node that it changes
abbrev pub changed_node : Shape → By → Head → ℕ
changed_node shape by (Restart n) = n.0
changed_node shape by (Wire l from verdict) = node_at shape l (other_of from)
changed_node shape by (Tick l side) = node_at shape l side
changed_node shape by _ = node_by shape by

all-map : {X Y : Type 0} (Q : Y → Type 0) (f : X → Y) (xs : List X)
    → AllByRecursion (λ x. Q (f x)) xs → AllByRecursion Q (map f xs)
all-map Q f [] all = tt
all-map Q f (x ∷ xs) all = (all.0, all-map Q f xs all.1)

module _ (P : List Step) (node : ℕ) where
  founds_about : (path : Path) (q : Peer)
      → AllByRecursion (IsAbout node) (founds path q (hunting P node))
  founds_about path q =
      all-map (IsAbout node) (found q) (hunts_for path (hunting P node))
      (all-filter (λ h. is_on node h.at ≡ true) _ (hunting P node) (hunting-on P node))

  notices_about : (reason : Reason) (ended : Peer → Bool) (attaches : List PendingAttach)
      → AllByRecursion (λ a. is_on node a.at ≡ true) attaches
      → AllByRecursion (IsAbout node) (notices reason ended attaches)
  notices_about reason ended attaches on =
      all-map (IsAbout node) (notice reason) (filter (λ a. ended a.peer) attaches)
      (all-filter (λ a. is_on node a.at ≡ true) _ attaches on)

  -- those of all that are owed, and of those that are held elsewhere
  owed_about : (reason : Reason) (ended : Peer → Bool)
      → AllByRecursion (IsAbout node) (notices reason ended (owed P node))
  owed_about reason ended = notices_about reason ended (owed P node) (owed-on P node)

  held_about : (reason : Reason) (ended : Peer → Bool) (j : Inc)
      → AllByRecursion (IsAbout node) (notices reason ended (held_elsewhere j (owed P node)))
  held_about reason ended j =
      notices_about reason ended (held_elsewhere j (owed P node))
      (all-filter (λ a. is_on node a.at ≡ true) _ (owed P node) (owed-on P node))

  -- the sessions that a restart ends
  down_about : (link : ℕ) (up : Option Session)
      → AllByRecursion (IsAbout node) (down_if node link up)
  down_about link None = tt
  down_about link (Some x) = (refl, tt)

  pub downs-about : (links : ℕ) → AllByRecursion (IsAbout node) (downs_of P node links)
  downs-about zero = tt
  downs-about (suc links) =
      all-append (IsAbout node) (downs_of P node links)
      (down_if node (suc links) (up_session P node (suc links)))
      (downs-about links) (down_about (suc links) (up_session P node (suc links)))

module _ (shape : Shape) (P : List Step) (legal : IsLegal shape P) (short : IsShort P) where
  pub opens_about : (node : ℕ) → AllByRecursion (λ i. is_on node i ≡ true) (open_endpoints P node)
  opens_about node =
      all-impl (IsBelow P node) (λ i. is_on node i ≡ true) (λ i h. h.0) (open_endpoints P node)
      (open-below shape P legal short node)

  alive_on : (node : ℕ) (i : Inc) → is_alive P node (Here i) ≡ true → is_on node i ≡ true
  alive_on node i is =
      all-among (λ x. is_on node x ≡ true) i (open_endpoints P node) (opens_about node) is

  pub maker-on : (by : By) (j : Inc) → endpoint_by P by ≡ Some j → is_on (node_by shape by) j ≡ true
  maker-on (Actor k) j is = endpoint-on shape P legal short k j is
  maker-on (Pump link) j is = cc

  -- what a restart closes, after the sessions that it ends
  closings_about : (node : ℕ) → AllByRecursion (IsAbout node) (closings (open_endpoints P node))
  closings_about node = all-map (IsAbout node) Closed (open_endpoints P node) (opens_about node)

  pub restarting-about : (node : ℕ) → AllByRecursion (IsAbout node) (restarting shape P node)
  restarting-about node =
      all-append (IsAbout node) (downs_of P node (length shape.links))
      (closings (open_endpoints P node)) (downs-about P node (length shape.links))
      (closings_about node)

  -- what a packet brings
  pub brought-about : (n m : ℕ) (l : LinkNo) (what : Brought) → MayBring P n m l what
      → AllByRecursion (IsAbout n) (brought_at P n l what)
  brought-about n m l nothing may = tt
  brought-about n m l (goes_up x y) may = (refl, tt)
  brought-about n m l (goes_down x) may = (refl, owed_about P n reasons.Lost (is_of_session l x))
  brought-about n m l (arrives x a b note) may = (alive_on n b may.receiver, tt)
  brought-about n m l (meets x a name) may = (refl, founds_about P n (Over l name) (There l x a))
  brought-about n m l (parts x a) may =
      (refl, owed_about P n reasons.Closed (same_peer (There l x a)))

  handed_about : (handed : Bool) (n m : ℕ) (l : LinkNo) (es : List Effect)
      → IsHandedOver handed P n m l es → AllByRecursion (IsAbout n) es
  handed_about true n m l es packet =
      subst (AllByRecursion (IsAbout n)) (sym packet.effects)
      (brought-about n m l packet.what packet.may)
  handed_about false n m l es none = subst (AllByRecursion (IsAbout n)) (sym none) tt

  -- what a tick does
  tick_about : (n : ℕ) (l : LinkNo) (side : Side) (es : List Effect) → IsTick P n l side es
      → AllByRecursion (IsAbout n) es
  tick_about n l side es (ticks_on none) = subst (AllByRecursion (IsAbout n)) (sym none) tt
  tick_about n l side es (loses x up silent same) =
      subst (AllByRecursion (IsAbout n)) (sym same)
      (refl, owed_about P n reasons.Lost (is_of_session l x))

  module _ (by : By) where
    ending_about : (me : Option Inc) → endpoint_by P by ≡ me
        → AllByRecursion (IsAbout (node_by shape by)) (ending me (owed P (node_by shape by)))
    ending_about None is = tt
    ending_about (Some j) is =
        (maker-on by j is, held_about P (node_by shape by) reasons.Closed (same_peer (Here j)) j)

    arrivals_about : (j : Inc) (note : SigNote) (q : Peer) (alive : Bool)
        → is_alive P (node_by shape by) q ≡ alive
        → AllByRecursion (IsAbout (node_by shape by)) (arrivals_of j note alive q)
    arrivals_about j note q false is = tt
    arrivals_about j note (Here i) true is = (alive_on (node_by shape by) i is, tt)
    arrivals_about j note (There link session i) true is = tt

    sending_about : (me : Option Inc) (q : Peer) (note : SigNote)
        → AllByRecursion (IsAbout (node_by shape by)) (sending P (node_by shape by) me q note)
    sending_about None q note = tt
    sending_about (Some j) q note = arrivals_about j note q (is_alive P (node_by shape by) q) refl

    hunted_about : (h : PendingHunt) (q : Option Peer) → is_on (node_by shape by) h.at ≡ true
        → AllByRecursion (IsAbout (node_by shape by)) (hunted q h)
    hunted_about h None on = tt
    hunted_about h (Some q) on = (on, tt)

    hunting_about : (me : Option Inc) → endpoint_by P by ≡ me → (path : Path) (note : SigNote)
        → AllByRecursion (IsAbout (node_by shape by)) (hunting_by P (node_by shape by) me path note)
    hunting_about None is path note = tt
    hunting_about (Some j) is path note =
        hunted_about (record { at = j; path = path; signal = note; number = suc (length P) })
        (find P (node_by shape by) path) (maker-on by j is)

    attached_about : (a : PendingAttach) (alive : Bool) → is_on (node_by shape by) a.at ≡ true
        → AllByRecursion (IsAbout (node_by shape by)) (attached alive a)
    attached_about a true on = tt
    attached_about a false on = (on, tt)

    attaching_about : (me : Option Inc) → endpoint_by P by ≡ me → (q : Peer) (note : SigNote)
        → AllByRecursion (IsAbout (node_by shape by)) (attaching P (node_by shape by) me q note)
    attaching_about None is q note = tt
    attaching_about (Some j) is q note =
        attached_about (record {
          at = j;
          peer = q;
          signal = note;
          reference = record {
            0 =
                suc (length P);
          };
        })
        (is_alive P (node_by shape by) q) (maker-on by j is)

    effects-about : (head : Head)
        → AllByRecursion (IsAbout (changed_node shape by head))
        (effects_by P (node_by shape by) (endpoint_by P by) head)
    effects-about (Open name) = (
      next_on-is_on shape P legal short (node_by shape by),
      founds_about P (node_by shape by) (Local name) (Here (next_on P (node_by shape by))),
    )
    effects-about Close = ending_about (endpoint_by P by) refl
    effects-about (Send q note answer) = sending_about (endpoint_by P by) q note
    effects-about (Hunt path note) = hunting_about (endpoint_by P by) refl path note
    effects-about (Attach q note) = attaching_about (endpoint_by P by) refl q note
    effects-about (Restart n) = closings_about n.0
    effects-about Ended = ending_about (endpoint_by P by) refl
    effects-about _ = tt

    head_about : (head : Head) (es : List Effect)
        → HasEffects shape P (node_by shape by) (endpoint_by P by) head es
        → KeepsPackets shape P head es → KeepsTicks shape P head es
        → AllByRecursion (IsAbout (changed_node shape by head)) es
    head_about (Restart n) es has packets ticks =
        subst (AllByRecursion (IsAbout n.0)) (sym has) (restarting-about n.0)
    head_about (Wire l from verdict) es has packets ticks =
        handed_about (delivers verdict) (node_at shape l (other_of from)) (node_at shape l from) l
        es packets
    head_about (Tick l side) es has packets ticks =
        tick_about (node_at shape l side) l side es ticks
    head_about head es has packets ticks =
        subst (AllByRecursion (IsAbout (node_by shape by))) (sym has) (effects-about head)

  -- A LEGAL STEP is about the node that it changes
  pub step-about : (s : Step) → IsLegalStep shape P s
      → AllByRecursion (IsAbout (changed_node shape s.by s.head)) s.effects
  step-about s step = head_about s.by s.head s.effects step.nodes.effects step.packets step.ticks

-- AND ITS HEAD is none of another node
abbrev IsOff : ℕ → Option Inc → Type 0
IsOff m me = (i : Inc) → me ≡ Some i → is_on m i ≡ false

module _ (m k : ℕ) where
  off_hunt : (me : Option Inc) → IsOff m me → (path : Path) (note : SigNote)
      → hunt_at m k me path note ≡ []
  off_hunt None off path note = refl
  off_hunt (Some i) off path note = rw (off i refl) refl

  off_attach : (me : Option Inc) → IsOff m me → (q : Peer) (note : SigNote)
      → attach_at m k me q note ≡ []
  off_attach None off q note = refl
  off_attach (Some i) off q note = rw (off i refl) refl

  off_own : (me : Option Inc) → IsOff m me → (j : Inc) → is_on m j ≡ true → is_endpoint j me ≡ false
  off_own None off j on = refl
  off_own (Some i) off j on =
      ne_eqb j.0 i.0 (λ same. true≢false (sym on
      ∙ ap (λ (x : ℕ). is_on m (record { 0 = x })) same ∙ off i refl))

  off_cancel : (me : Option Inc) → IsOff m me → (r : AttRef) (a : PendingAttach)
      → is_on m a.at ≡ true
      → is_own_attach me r a ≡ false
  off_cancel None off r a on = refl
  off_cancel (Some i) off r a on =
      rw (ne_eqb i.0 a.at.0 (λ same. true≢false (sym on
      ∙ ap (λ (x : ℕ). is_on m (record { 0 = x })) (sym same) ∙ off i refl))) refl

  hunts_off : (me : Option Inc) → IsOff m me → (head : Head) → hunt_in m k me head ≡ []
  hunts_off me off (Hunt path note) = off_hunt me off path note
  hunts_off me off _ = refl

  attaches_off : (me : Option Inc) → IsOff m me → (head : Head) → attach_in m k me head ≡ []
  attaches_off me off (Attach q note) = off_attach me off q note
  attaches_off me off _ = refl

  and_false : (b : Bool) → (b && false) ≡ false
  and_false true = refl
  and_false false = refl

  cancels_off : (me : Option Inc) → IsOff m me → (head : Head) (a : PendingAttach)
      → is_on m a.at ≡ true
      → detaches me head a ≡ false
  cancels_off me off (Detach r answer) a on =
      ap (λ b. cancels answer && b) (off_cancel me off r a on) ∙ and_false (cancels answer)
  cancels_off me off _ a on = refl

  -- a maker whose endpoint is elsewhere
  apart-off : (me : Option Inc) → IsOff m me → (head : Head) → IsApart m k me head
  apart-off me off head = record {
    takes = λ j on items. rw (off_own me off j on) refl;
    hunts = hunts_off me off head;
    attaches = attaches_off me off head;
    cancels = cancels_off me off head;
  }

  -- a head that does nothing of itself
  apart-idle : (me : Option Inc) (head : Head) → IsIdle m k me head → IsApart m k me head
  apart-idle me head idle = record {
    takes = λ j on items. left_by-none (is_endpoint j me) head items idle.takes;
    hunts = idle.hunts;
    attaches = idle.attaches;
    cancels = λ a on. idle.cancels a;
  }

-- what is left of another node
module _ (shape : Shape) (P : List Step) (legal : IsLegal shape P) (short : IsShort P) (s : Step)
    (about : AllByRecursion (IsAbout (changed_node shape s.by s.head)) s.effects) where
  abbrev k : ℕ
  k = suc (length P)

  abbrev me : Option Inc
  me = endpoint_by P s.by

  apart_from : (m : ℕ) → (head : Head) → changed_node shape s.by head ≢ m → IsApart m k me head
  apart_from m (Restart n) other = apart-idle m k me (Restart n) (idle-restart m k me n)
  apart_from m (Wire l from verdict) other =
      apart-idle m k me (Wire l from verdict) (idle-wire m k me l from verdict)
  apart_from m (Tick l side) other = apart-idle m k me (Tick l side) (idle-tick m k me l side)
  apart_from m head other =
      apart-off m k me
      (λ i is. off (node_by shape s.by) m other i (maker-on shape P legal short s.by i is)) head

  pub node_left-elsewhere : (node : NodeNo) → changed_node shape s.by s.head ≢ node.0
      → node_left (s ∷ P) node ≡ node_left P node
  node_left-elsewhere node other =
      let n : ℕ = changed_node shape s.by s.head in
      node_left-step P s node
      ∙ after-elsewhere n node.0 other (suc (length P)) (endpoint_by P s.by) s.head s.effects about
      (apart_from node.0 s.head other) (node_left P node) refl
      (all-map (λ (e : OpenEndpoint). is_on node.0 e.inc
      ≡ true) (endpoint_left P) (open_endpoints P node.0)
      (opens_about shape P legal short node.0))
      (hunting-on P node.0) (owed-on P node.0)
