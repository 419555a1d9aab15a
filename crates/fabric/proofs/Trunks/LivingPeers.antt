-- The living peers of a node over its links are those of sessions that are up, so a restart of the
-- node, which ends these, leaves none.
use Rattle.std.proofs.Common.{◌≡◌, ℕ, zero, suc, ◌<◌, ◌≤◌, Bool, true, false, cond, not, List, []}
use Rattle.std.proofs.Common.{◌∷◌, ◌++◌, length, map, filter, Option, Some, None, refl, sym, ◌∙◌}
use Rattle.std.proofs.Common.{ap, subst, arith, fold, ◌==◌, ◌≢◌, slice_get, eq-eqb, eqb-true}
use Rattle.std.proofs.Common.{true≢false}
use Rattle.std.specs.List.{AllByRecursion}
use Rattle.std.proofs.lemmas.Bool.{false_from_ne_true}
use Rattle.std.proofs.lemmas.Bool.Decides.{nat_tests}
use Rattle.linx_base.specs.Peers.{same_peer}
use Rattle.linx_base.specs.Sides.{other_of}
use Rattle.linx_base.specs.declared.frame.LinkDecl.{LinkDecl}
use Rattle.linx_base.specs.declared.identity.Inc.{Inc}
use Rattle.linx_base.specs.declared.identity.LinkNo.{LinkNo}
use Rattle.linx_base.specs.declared.identity.NodeNo.{NodeNo}
use Rattle.linx_base.specs.declared.identity.Peer.{Peer}
use Rattle.linx_base.specs.declared.identity.Peer.TheVariants.{Here, There}
use Rattle.linx_base.specs.declared.identity.Session.{Session}
use Rattle.linx_base.specs.declared.identity.Side.{Side}
use Rattle.linx_base.specs.declared.name.Path.{Path}
use Rattle.linx_base.specs.declared.name.Path.TheVariants.{Local, Over}
use Rattle.linx_base.specs.declared.pending.MetPeer.{MetPeer}
use Rattle.linx_base.specs.declared.pending.PendingAttach.{PendingAttach}
use Rattle.linx_base.specs.declared.pending.PendingHunt.{PendingHunt}
use Rattle.linx_base.specs.declared.signal.Reason.{Reason}
use Rattle.linx_base.specs.declared.signal.Reason.TheVariants as reasons
use Rattle.linx_base.specs.SigNotes.{SigNote}
use Rattle.journal.specs.declared.by.By.{By}
use Rattle.journal.specs.declared.effect.Effect.{Effect}
use Rattle.journal.specs.declared.effect.Effect.TheVariants.{Arrived, Met, Gone, Up, Down}
use Rattle.journal.specs.declared.effect.Step.{Step}
use Rattle.journal.specs.declared.head.Head.{Head}
use Rattle.journal.specs.declared.head.Head.TheVariants.{Open, Close, Send, Hunt, Attach, Restart}
use Rattle.journal.specs.declared.head.Head.TheVariants.{Wire, Tick, Ended}
use Rattle.journal.specs.Effects.{arrivals_of, attached, closings, ending, found, founds}
use Rattle.journal.specs.Effects.{held_elsewhere, hunted, hunts_for, notice, notices}
use Rattle.journal.specs.History.{endpoint_by, open_endpoints}
use Rattle.journal.specs.Laws.{attaching, effects_by, hunting_by, sending}
use Rattle.linx_base.specs.Pending.{is_of_session}
use Rattle.journal.specs.Living.{find, is_alive, living, living_after}
use Rattle.journal.specs.Pending.{hunting, owed}
use Rattle.journal.specs.Sessions.{session_after, session_past, up_session}
use Rattle.journal.specs.Shapes.{Shape, node_by}
use Rattle.journal.proofs.Lists.{all-append, all-filter, all-impl}
use Rattle.journal.proofs.Openings.{IsShort}
use Rattle.link_laws.specs.Brought.{Brought, MayBring, arrives, brought_at, goes_down, goes_up}
use Rattle.link_laws.specs.Brought.{meets, nothing, parts}
use Rattle.link_laws.specs.Ends.{end_or_0, link_at, node_at}
use Rattle.link_laws.specs.Laws.{HasEffects, IsHandedOver, IsLegal, IsTick, KeepsPackets}
use Rattle.link_laws.specs.Laws.{KeepsTicks, delivers, down_if, downs_of, loses, restarting}
use Rattle.link_laws.specs.Laws.{stays as ticks_on}
use Rattle.fabric.proofs.AfterStep.LinkSteps.{IsDown}
use Rattle.fabric.proofs.AfterStep.OtherNodes.{IsAbout, changed_node, meet_none, sessions_none}
use Rattle.fabric.proofs.AfterStep.OtherNodes.{step-about}
use Rattle.fabric.proofs.AfterStep.OpeningsAndClosings.{closings-meet_none}

-- A PEER over a link above one and up to another, in the session that is up there
abbrev pub IsUpPeer : ℕ → ℕ → (ℕ → Option Session) → Peer → Type 0
IsUpPeer above links up (Here i) = ⊥
IsUpPeer above links up (There l x i) = (above < l.0) × (l.0 ≤ links) × (up l.0 ≡ Some x)

-- all of a list are
abbrev pub AreUp : ℕ → ℕ → (ℕ → Option Session) → List MetPeer → Type 0
AreUp above links up met = AllByRecursion (λ m. IsUpPeer above links up m.peer) met

-- what passes a test has more than it had
all-passing : {X : Type 0} (P Q : X → Type 0) (p : X → Bool)
    → ((x : X) → p x ≡ true → P x → Q x) → (xs : List X) → AllByRecursion P xs
    → AllByRecursion Q (filter p xs)
all-passing P Q p more [] all = tt
all-passing P Q p more (x ∷ xs) all = go (p x) refl (all-passing P Q p more xs all.1)
  where
    go : (b : Bool) → p x ≡ b → AllByRecursion Q (filter p xs)
        → AllByRecursion Q (cond b (x ∷ filter p xs) (filter p xs))
    go true is rest = (more x is all.0, rest)
    go false is rest = rest

-- EFFECTS THAT KEEP a node's peers and sessions
pub record KeepsPeers (n : ℕ) (es : List Effect) : Type 0 where
  pub living : (met : List MetPeer) → fold (living_after n) met es ≡ met
  pub sessions : (link : ℕ) (up : Option Session) → session_past n link up es ≡ up

module _ (n : ℕ) where
  keeps_none : KeepsPeers n []
  keeps_none = record { living = λ met. refl; sessions = λ link up. refl }

  pub keeps_founds : (q : Peer) (hunts : List PendingHunt) → KeepsPeers n (map (found q) hunts)
  keeps_founds q [] = keeps_none
  keeps_founds q (h ∷ hunts) =
      let rest = keeps_founds q hunts in
      record { living = rest.living; sessions = rest.sessions }

  pub keeps_notices : (reason : Reason) (attaches : List PendingAttach)
      → KeepsPeers n (map (notice reason) attaches)
  keeps_notices reason [] = keeps_none
  keeps_notices reason (a ∷ attaches) =
      let rest = keeps_notices reason attaches in
      record { living = rest.living; sessions = rest.sessions }

  pub keeps_closings : (incs : List Inc) → KeepsPeers n (closings incs)
  keeps_closings [] = keeps_none
  keeps_closings (i ∷ incs) =
      let rest = keeps_closings incs in
      record { living = rest.living; sessions = rest.sessions }

  keeps_ending : (me : Option Inc) (attaches : List PendingAttach)
      → KeepsPeers n (ending me attaches)
  keeps_ending None attaches = keeps_none
  keeps_ending (Some j) attaches =
      let rest = keeps_notices reasons.Closed
      (filter (λ a. same_peer (Here j) a.peer) (held_elsewhere j attaches)) in
      record { living = rest.living; sessions = rest.sessions }

  keeps_arrivals : (j : Inc) (note : SigNote) (alive : Bool) (q : Peer)
      → KeepsPeers n (arrivals_of j note alive q)
  keeps_arrivals j note false q = keeps_none
  keeps_arrivals j note true (Here i) =
      record { living = λ met. refl; sessions = λ link up. refl }
  keeps_arrivals j note true (There l x i) = keeps_none

  keeps_hunted : (q : Option Peer) (h : PendingHunt) → KeepsPeers n (hunted q h)
  keeps_hunted None h = keeps_none
  keeps_hunted (Some q) h = record { living = λ met. refl; sessions = λ link up. refl }

  keeps_attached : (alive : Bool) (a : PendingAttach) → KeepsPeers n (attached alive a)
  keeps_attached true a = keeps_none
  keeps_attached false a = record { living = λ met. refl; sessions = λ link up. refl }

  module _ (P : List Step) (node : ℕ) where
    keeps_sending : (me : Option Inc) (q : Peer) (note : SigNote)
        → KeepsPeers n (sending P node me q note)
    keeps_sending None q note = keeps_none
    keeps_sending (Some j) q note = keeps_arrivals j note (is_alive P node q) q

    keeps_hunting : (me : Option Inc) (path : Path) (note : SigNote)
        → KeepsPeers n (hunting_by P node me path note)
    keeps_hunting None path note = keeps_none
    keeps_hunting (Some j) path note =
        keeps_hunted (find P node path)
        (record { at = j; path = path; signal = note; number = suc (length P) })

    keeps_attaching : (me : Option Inc) (q : Peer) (note : SigNote)
        → KeepsPeers n (attaching P node me q note)
    keeps_attaching None q note = keeps_none
    keeps_attaching (Some j) q note =
        keeps_attached (is_alive P node q) (record {
          at = j;
          peer = q;
          signal = note;
          reference = record { 0 = suc (length P) };
        })

    -- those of every head off the links do
    pub keeps-head : (me : Option Inc) (head : Head) → KeepsPeers n (effects_by P node me head)
    keeps-head me (Open name) =
        let rest = keeps_founds (Here _) (hunts_for (Local name) (hunting P node)) in
        record { living = rest.living; sessions = rest.sessions }
    keeps-head me Close = keeps_ending me (owed P node)
    keeps-head me (Send q note answer) = keeps_sending me q note
    keeps-head me (Hunt path note) = keeps_hunting me path note
    keeps-head me (Attach q note) = keeps_attaching me q note
    keeps-head me (Restart k) = keeps_closings (open_endpoints P k.0)
    keeps-head me Ended = keeps_ending me (owed P node)
    keeps-head me _ = keeps_none

-- those on another node do
keeps-elsewhere : (n m : ℕ) → n ≢ m → (es : List Effect) → AllByRecursion (IsAbout n) es
    → KeepsPeers m es
keeps-elsewhere n m other es about = record {
  living = meet_none n m other es about;
  sessions = λ link up. sessions_none n m other link es about up;
}

module _ (n links : ℕ) where
  abbrev AreUpPast : (ℕ → Option Session) → List MetPeer → List Effect → Type 0
  AreUpPast up met es =
      AreUp 0 links (λ link. session_past n link (up link) es) (fold (living_after n) met es)

  -- such effects keep peers of sessions that are up
  kept : (up : ℕ → Option Session) (met : List MetPeer) (es : List Effect) → KeepsPeers n es
      → AreUp 0 links up met → AreUpPast up met es
  kept up met es keeps all =
      subst (AreUp 0 links (λ link. session_past n link (up link) es)) (sym (keeps.living met))
      (all-impl (λ m. IsUpPeer 0 links up m.peer)
      (λ m. IsUpPeer 0 links (λ link. session_past n link (up link) es) m.peer)
      (λ m is. peer_kept m.peer is) met all)
    where
      peer_kept : (q : Peer) → IsUpPeer 0 links up q
          → IsUpPeer 0 links (λ link. session_past n link (up link) es) q
      peer_kept (Here i) is = is
      peer_kept (There l x i) is = (is.0, is.1, keeps.sessions l.0 (up l.0) ∙ is.2)

  module _ (up : ℕ → Option Session) (met : List MetPeer) (all : AreUp 0 links up met)
      (node : NodeNo) (here : node.0 ≡ n) (told : List Effect) (keeps : KeepsPeers n told) where
    at : (node.0 == n) ≡ true
    at = eq-eqb node.0 n here

    -- A MEETING in the session that is up
    met_up : (l : LinkNo) (x : Session) (a : Inc) (name : List ℕ)
        → IsUpPeer 0 links up (There l x a)
        → AreUpPast up met (Met node (There l x a) name ∷ told)
    met_up l x a name is =
        let more : List MetPeer = met ++ record { peer = There l x a; name = name } ∷ [] in
        rw at (kept up more told keeps
        (all-append (λ m. IsUpPeer 0 links up m.peer) met _ all (is, tt)))

    -- A PARTING
    gone_up : (q : Peer) → AreUpPast up met (Gone node q ∷ told)
    gone_up q =
        rw at (kept up (filter (λ m. not (same_peer q m.peer)) met) told keeps
        (all-filter (λ m. IsUpPeer 0 links up m.peer) _ met all))

    -- A SESSION that goes up where none was
    went_up : (l : LinkNo) (x y : Session) → up l.0 ≡ None
        → AreUpPast up met (Up node l x y ∷ told)
    went_up l x y down =
        kept (λ link. session_after n link (up link) (Up node l x y)) met told keeps
        (all-impl (λ m. IsUpPeer 0 links up m.peer) (λ m. IsUpPeer 0 links
        (λ link. session_after n link (up link) (Up node l x y)) m.peer)
        (λ m is. still m.peer is) met all)
      where
        still : (q : Peer) → IsUpPeer 0 links up q
            → IsUpPeer 0 links (λ link. session_after n link (up link) (Up node l x y)) q
        still (Here i) is = is
        still (There k z i) is =
            let apart : (l.0 == k.0) ≡ false = false_from_ne_true (l.0 == k.0) (λ e.
            let same : l.0 ≡ k.0 = eqb-true l.0 k.0 e in
            let none : (let no : Option Session = None in no) ≡ Some z =
            sym down ∙ ap up same ∙ is.2 in cc) in
            (is.0, is.1, rw (at, apart) is.2)

    -- A SESSION that goes down, which was up
    went_down : (l : LinkNo) (x : Session) → up l.0 ≡ Some x
        → AreUpPast up met (Down node l x ∷ told)
    went_down l x was =
        let left : List MetPeer = filter (λ m. not (is_of_session l x m.peer)) met in
        subst (λ (z : List MetPeer). AreUp 0 links
        (λ link. session_past n link (session_after n link (up link) (Down node l x)) told)
        (fold (living_after n) z told)) (ap (λ b. cond b left met) (sym at))
        (kept (λ link. session_after n link (up link) (Down node l x)) left told keeps
        (all-passing (λ m. IsUpPeer 0 links up m.peer) (λ m. IsUpPeer 0 links
        (λ link. session_after n link (up link) (Down node l x)) m.peer)
        (λ m. not (is_of_session l x m.peer)) (λ m passes is. still m.peer passes is) met all))
      where
        still : (q : Peer) → not (is_of_session l x q) ≡ true → IsUpPeer 0 links up q
            → IsUpPeer 0 links (λ link. session_after n link (up link) (Down node l x)) q
        still (Here i) passes is = is
        still (There k z i) passes is =
            let apart : (l.0 == k.0) ≡ false = false_from_ne_true (l.0 == k.0) (λ e.
            let same : l.0 ≡ k.0 = eqb-true l.0 k.0 e in
            let both : Some x ≡ Some z = sym was ∙ ap up same ∙ is.2 in
            let session : x ≡ z = cc in
            let ended : is_of_session l x (There k z i) ≡ true =
            rw (
              eq-eqb k.0 l.0 (sym same),
              eq-eqb z.0 x.0 (ap (λ (s : Session). s.0) (sym session)),
            ) refl in
            true≢false (sym passes ∙ ap not ended)) in
            (is.0, is.1, rw (at, apart) is.2)

-- A RESTART leaves no peer
fold_append : {S : Type 0} (f : S → Effect → S) (z : S) (xs ys : List Effect)
    → fold f z (xs ++ ys) ≡ fold f (fold f z xs) ys
fold_append f z [] ys = refl
fold_append f z (x ∷ xs) ys = fold_append f (f z x) xs ys

module _ (P : List Step) (n : ℕ) where
  -- it ends sessions
  down_is : (k : ℕ) (u : Option Session) → AllByRecursion IsDown (down_if n k u)
  down_is k None = tt
  down_is k (Some x) = (tt, tt)

  pub downs-are_downs : (k : ℕ) → AllByRecursion IsDown (downs_of P n k)
  downs-are_downs zero = tt
  downs-are_downs (suc k) =
      all-append IsDown (downs_of P n k) (down_if n (suc k) (up_session P n (suc k)))
      (downs-are_downs k) (down_is (suc k) (up_session P n (suc k)))

module _ (P : List Step) (n links : ℕ) where
  abbrev up_now : ℕ → Option Session
  up_now = up_session P n

  -- the end of the session of one more link
  down_leaves : (k : ℕ) (u : Option Session) → up_session P n (suc k) ≡ u → (met : List MetPeer)
      → AreUp k links up_now met
      → AreUp (suc k) links up_now (fold (living_after n) met (down_if n (suc k) u))
  down_leaves k None is met all =
      all-impl (λ m. IsUpPeer k links up_now m.peer) (λ m. IsUpPeer (suc k) links up_now m.peer)
      (λ m h. later m.peer h) met all
    where
      later : (q : Peer) → IsUpPeer k links up_now q → IsUpPeer (suc k) links up_now q
      later (Here i) h = h
      later (There l x i) h =
          let apart : (l.0 == suc k) ≡ false = false_from_ne_true (l.0 == suc k) (λ e.
          let same : suc k ≡ l.0 = sym (eqb-true l.0 (suc k) e) in
          let none : (let no : Option Session = None in no) ≡ Some x =
          sym is ∙ ap up_now same ∙ h.2 in cc) in
          let above : k < l.0 = h.0 in
          (grind (arith, nat_tests), h.1, h.2)
  down_leaves k (Some y) is met all =
      rw (eq-eqb n n refl)
      (all-passing (λ m. IsUpPeer k links up_now m.peer)
      (λ m. IsUpPeer (suc k) links up_now m.peer)
      (λ m. not (is_of_session (record { 0 = suc k }) y m.peer))
      (λ m passes h. later m.peer passes h) met all)
    where
      later : (q : Peer) → not (is_of_session (record { 0 = suc k }) y q) ≡ true
          → IsUpPeer k links up_now q → IsUpPeer (suc k) links up_now q
      later (Here i) passes h = h
      later (There l x i) passes h =
          let apart : (l.0 == suc k) ≡ false = false_from_ne_true (l.0 == suc k) (λ e.
          let same : suc k ≡ l.0 = sym (eqb-true l.0 (suc k) e) in
          let both : Some y ≡ Some x = sym is ∙ ap up_now same ∙ h.2 in
          let session : y ≡ x = cc in
          let ended : is_of_session (record { 0 = suc k }) y (There l x i) ≡ true =
          rw (e, eq-eqb x.0 y.0 (ap (λ (s : Session). s.0) (sym session))) refl in
          true≢false (sym passes ∙ ap not ended)) in
          let above : k < l.0 = h.0 in
          (grind (arith, nat_tests), h.1, h.2)

  downs_leave : (k : ℕ) (met : List MetPeer) → AreUp 0 links up_now met
      → AreUp k links up_now (fold (living_after n) met (downs_of P n k))
  downs_leave zero met all = all
  downs_leave (suc k) met all =
      subst (AreUp (suc k) links up_now)
      (sym (fold_append (living_after n) met (downs_of P n k)
      (down_if n (suc k) (up_session P n (suc k)))))
      (down_leaves k (up_session P n (suc k)) refl (fold (living_after n) met (downs_of P n k))
      (downs_leave k met all))

  -- none is over a link above the last
  none_above : (met : List MetPeer) → AreUp links links up_now met → met ≡ []
  none_above [] all = refl
  none_above (m ∷ met) all = absurd (no m.peer all.0)
    where
      no : (q : Peer) → IsUpPeer links links up_now q → ⊥
      no (Here i) h = h
      no (There l x i) h = let above = h.0 in let within = h.1 in omega arith

-- WHERE A NODE'S PEERS are of sessions that are up, its restart leaves none
pub restart-alone : (shape : Shape) (P : List Step) (n : ℕ)
    → AreUp 0 (length shape.links) (up_session P n) (living P n)
    → fold (living_after n) (living P n) (restarting shape P n) ≡ []
restart-alone shape P n all =
    let links : ℕ = length shape.links in
    fold_append (living_after n) (living P n) (downs_of P n links)
    (closings (open_endpoints P n))
    ∙ closings-meet_none n (fold (living_after n) (living P n) (downs_of P n links))
    (open_endpoints P n)
    ∙ none_above P n links (fold (living_after n) (living P n) (downs_of P n links))
    (downs_leave P n links links (living P n) all)

-- a link with a node at its side is one of the shape
linked_in : (links : List LinkDecl) (k : ℕ) (side : Side) → 0 < end_or_0 (slice_get links k) side
    → k < length links
linked_in [] k side above = absurd (omega arith)
linked_in (link ∷ links) zero side above = omega arith
linked_in (link ∷ links) (suc k) side above =
    let rest = linked_in links k side above in omega arith

linked : (shape : Shape) (k : ℕ) (side : Side) → 0 < end_or_0 (link_at shape k) side
    → (0 < k) × (k ≤ length shape.links)
linked shape zero side above = absurd (omega arith)
linked shape (suc k) side above =
    let rest = linked_in shape.links k side above in (omega arith, omega arith)

-- IN A LEGAL RUN a node's living peers are of sessions that are up
module _ (shape : Shape) (n : ℕ) (above : 0 < n) where
  abbrev links : ℕ
  links = length shape.links

  module _ (P : List Step) (all : AreUp 0 links (up_session P n) (living P n)) where
    abbrev StayUp : List Effect → Type 0
    StayUp es = AreUpPast n links (up_session P n) (living P n) es

    stay : (es : List Effect) → KeepsPeers n es → StayUp es
    stay es keeps = kept n links (up_session P n) (living P n) es keeps all

    brought_up : (m : ℕ) (l : LinkNo) (what : Brought) → (0 < l.0) × (l.0 ≤ links)
        → MayBring P n m l what → StayUp (brought_at P n l what)
    brought_up m l nothing in_shape may = stay [] (keeps_none n)
    brought_up m l (goes_up x y) in_shape may =
        went_up n links (up_session P n) (living P n) all (record { 0 = n }) refl []
        (keeps_none n) l x y may.down
    brought_up m l (goes_down x) in_shape may =
        went_down n links (up_session P n) (living P n) all (record { 0 = n }) refl
        (notices reasons.Lost (is_of_session l x) (owed P n)) (keeps_notices n reasons.Lost _) l x
        may.up
    brought_up m l (arrives x a b note) in_shape may =
        stay (Arrived b (There l x a) note ∷ [])
        (record { living = λ met. refl; sessions = λ link up. refl })
    brought_up m l (meets x a name) in_shape may =
        met_up n links (up_session P n) (living P n) all (record { 0 = n }) refl
        (founds (Over l name) (There l x a) (hunting P n)) (keeps_founds n (There l x a) _) l x a
        name (in_shape.0, in_shape.1, may.up)
    brought_up m l (parts x a) in_shape may =
        gone_up n links (up_session P n) (living P n) all (record { 0 = n }) refl
        (notices reasons.Closed (same_peer (There l x a)) (owed P n))
        (keeps_notices n reasons.Closed _) (There l x a)

    handed_up : (handed : Bool) (m : ℕ) (l : LinkNo) (es : List Effect)
        → (0 < l.0) × (l.0 ≤ links) → IsHandedOver handed P n m l es → StayUp es
    handed_up true m l es in_shape packet =
        subst StayUp (sym packet.effects) (brought_up m l packet.what in_shape packet.may)
    handed_up false m l es in_shape none = subst StayUp (sym none) all

    tick_up : (l : LinkNo) (side : Side) (es : List Effect) → IsTick P n l side es → StayUp es
    tick_up l side es (ticks_on none) = subst StayUp (sym none) all
    tick_up l side es (loses x up silent same) =
        subst StayUp (sym same)
        (went_down n links (up_session P n) (living P n) all (record { 0 = n }) refl
        (notices reasons.Lost (is_of_session l x) (owed P n)) (keeps_notices n reasons.Lost _) l x
        up)

    own_up : (by : By) (head : Head) (es : List Effect) → changed_node shape by head ≡ n
        → HasEffects shape P (node_by shape by) (endpoint_by P by) head es
        → KeepsPackets shape P head es → KeepsTicks shape P head es → StayUp es
    own_up by (Restart k) es here has packets ticks =
        subst StayUp (sym (has ∙ ap (restarting shape P) here))
        (subst (AreUp 0 links (λ link. session_past n link (up_session P n link)
        (restarting shape P n))) (sym (restart-alone shape P n all)) tt)
    own_up by (Wire l from verdict) es here has packets ticks =
        handed_up (delivers verdict) (node_at shape l from) l es
        (linked shape l.0 (other_of from) (subst (λ (k : ℕ). 0 < k) (sym here) above))
        (subst (λ (k : ℕ). IsHandedOver (delivers verdict) P k (node_at shape l from) l es) here
        packets)
    own_up by (Tick l side) es here has packets ticks =
        tick_up l side es (subst (λ (k : ℕ). IsTick P k l side es) here ticks)
    own_up by head es here has packets ticks =
        subst StayUp (sym has)
        (stay _ (keeps-head n P (node_by shape by) (endpoint_by P by) head))

  pub living-up : (P : List Step) → IsLegal shape P → IsShort P
      → AreUp 0 links (up_session P n) (living P n)
  living-up [] legal short = tt
  living-up (s ∷ P) legal short =
      let before : IsShort P = omega arith in
      by_node (changed_node shape s.by s.head == n) refl before (living-up P legal.0 before)
    where
      by_node : (here : Bool) → (changed_node shape s.by s.head == n) ≡ here → IsShort P
          → (rest : AreUp 0 links (up_session P n) (living P n)) → StayUp P rest s.effects
      by_node true is before rest =
          own_up P rest s.by s.head s.effects (eqb-true (changed_node shape s.by s.head) n is)
          legal.1.nodes.effects legal.1.packets legal.1.ticks
      by_node false is before rest =
          stay P rest s.effects (keeps-elsewhere (changed_node shape s.by s.head) n
          (λ same. true≢false (sym (eq-eqb (changed_node shape s.by s.head) n same) ∙ is))
          s.effects (step-about shape P legal.0 before s legal.1))
