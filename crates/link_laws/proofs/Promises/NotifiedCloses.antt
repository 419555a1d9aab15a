-- In each step: a close is notified where all that the peer sent has arrived, and it has closed or
-- gone; and what arrives over a link comes from its other side, of a peer that hasn't gone.
use Rattle.std.proofs.Common.{◌≡◌, ℕ, zero, suc, Bool, true, false, cond, ◌&&◌, inl, List, [], ◌∷◌}
use Rattle.std.proofs.Common.{length, map, Option, Some, None, refl, sym, ◌∙◌, ap, subst, ◌==◌}
use Rattle.std.proofs.Common.{filter, eq-eqb, eqb-true, true≢false}
use Rattle.std.specs.List.{list_any, AllByRecursion}
use Rattle.std.proofs.lemmas.Bool.{and_parts, false_from_ne_true, or_left, or_right}
use Rattle.std.proofs.lemmas.List.Folds.{list_any-append}
use Rattle.linx_base.specs.Numbers.{is_on, node_of}
use Rattle.linx_base.specs.Peers.{same_inc, same_peer}
use Rattle.linx_base.specs.Pending.{is_of_session}
use Rattle.linx_base.specs.Sides.{other_of}
use Rattle.linx_base.specs.declared.identity.Inc.{Inc}
use Rattle.linx_base.specs.declared.identity.LinkNo.{LinkNo}
use Rattle.linx_base.specs.declared.identity.Peer.{Peer}
use Rattle.linx_base.specs.declared.identity.Peer.TheVariants.{Here, There}
use Rattle.linx_base.specs.declared.identity.Session.{Session}
use Rattle.linx_base.specs.declared.identity.Side.{Side}
use Rattle.linx_base.specs.declared.name.Path.{Path}
use Rattle.linx_base.specs.declared.name.Path.TheVariants.{Local, Over}
use Rattle.linx_base.specs.declared.pending.PendingAttach.{PendingAttach}
use Rattle.linx_base.specs.declared.pending.PendingHunt.{PendingHunt}
use Rattle.linx_base.specs.declared.signal.Reason.{Reason}
use Rattle.linx_base.specs.declared.signal.Reason.TheVariants as reasons
use Rattle.linx_base.specs.SigNotes.{SigNote}
use Rattle.journal.specs.Effects.{arrivals_of, attached, closing, closings, ending, found, founds}
use Rattle.journal.specs.Effects.{held_elsewhere, hunted, notice, notices}
use Rattle.journal.specs.History.{closes, effects_of, endpoint_by, next_inc, open_endpoints}
use Rattle.journal.specs.History.{opened_on}
use Rattle.journal.specs.Living.{find, is_alive}
use Rattle.journal.specs.Pending.{hunting, owed}
use Rattle.journal.specs.Sessions.{up_session}
use Rattle.journal.specs.Shapes.{Shape, node_by}
use Rattle.journal.specs.Traffic.{arrived_from, sent_to}
use Rattle.journal.specs.declared.effect.Effect.{Effect}
use Rattle.journal.specs.declared.effect.Effect.TheVariants.{Arrived, Notified}
use Rattle.journal.specs.declared.effect.Step.{Step}
use Rattle.journal.specs.declared.head.Head.{Head}
use Rattle.journal.specs.declared.head.Head.TheVariants.{Attach, Close, Ended, Hunt, Open, Restart}
use Rattle.journal.specs.declared.head.Head.TheVariants.{Send, Tick, Wire}
use Rattle.journal.proofs.Lists.{all-append}
use Rattle.journal.proofs.Openings.{open-after, same_inc-refl, same_inc-true}
use Rattle.link_laws.specs.Brought.{Brought, IsArrival, MayBring, arrives, brought_at, goes_down}
use Rattle.link_laws.specs.Brought.{goes_up, meets, nothing, parts}
use Rattle.link_laws.specs.Ends.{IsLinkOf, node_at}
use Rattle.link_laws.specs.Laws.{HasEffects, IsHandedOver, IsLegalStep, IsTick, KeepsLinks}
use Rattle.link_laws.specs.Laws.{KeepsPackets, KeepsTicks, delivers, down_if, downs_of, loses}
use Rattle.link_laws.specs.Laws.{stays}
use Rattle.link_laws.specs.NotifiedCloses.{HasAllOf}
use Rattle.link_laws.specs.Promises.{AllCarried, GotAll, has_parted, parts_peer}
use Rattle.link_laws.specs.Runs.{AllBetweenLiving, IsBetweenLiving}
use Rattle.link_laws.specs.Sessions.{paired_session}
use Rattle.link_laws.proofs.Sides.Untouched.{same_peer-is}
use Rattle.link_laws.proofs.Sides.WordsAfterStep.{any-items, closes-items}
use Rattle.link_laws.proofs.Endpoints.OpenAfterStep.{open-on}
use Rattle.link_laws.proofs.AllLinks.OthersStay.{notices-items, other_twice}
use Rattle.link_laws.proofs.Hunts.UnfoundPeers.{all-each}

-- ---- what is to be shown of each effect

-- these effects end the peer of an endpoint: on the node they close it, over a link its node parts
-- from it
abbrev pub EndsPeer : List Effect → Inc → Peer → Type 0
EndsPeer es j (Here i) = list_any (closes i) es ≡ true
EndsPeer es j (There l x i) = list_any (parts_peer (node_of j) (There l x i)) es ≡ true

-- the close of a peer that an endpoint is notified of, in the last step
pub record IsClosed (P : List Step) (es : List Effect) (j : Inc) (q : Peer) : Type 0 where
  pub whole : HasAllOf P j q
  pub ends : EndsPeer es j q

-- a link joins the nodes of two incarnations
pub record IsAcross (shape : Shape) (l : LinkNo) (a b : Inc) : Type 0 where
  pub of_shape : IsLinkOf shape l
  pub side : Side
  pub sender : is_on (node_at shape l (other_of side)) a ≡ true
  pub receiver : is_on (node_at shape l side) b ≡ true

-- an effect of step s after the steps P
abbrev pub IsSound : Shape → List Step → Step → Effect → Type 0
IsSound shape P s (Notified j q note reference reasons.Closed) = IsClosed (s ∷ P) s.effects j q
IsSound shape P s (Arrived b (There l x a) note) =
    IsAcross shape l a b × (has_parted P (node_of b) (There l x a) ≡ false)
IsSound shape P s _ = Unit {0}

-- ---- notices

module _ (G : Effect → Type 0) where
  -- what holds of each notice of an attach whose peer passes
  all-notices : (F : PendingAttach → Type 0) (reason : Reason) (ended : Peer → Bool)
      → ((a : PendingAttach) → F a → ended a.peer ≡ true → G (notice reason a))
      → (owes : List PendingAttach) → AllByRecursion F owes
      → AllByRecursion G (notices reason ended owes)
  all-notices F reason ended each [] fs = tt
  all-notices F reason ended each (a ∷ owes) fs =
      by_test (ended a.peer) refl (all-notices F reason ended each owes fs.1)
    where
      rest : List PendingAttach
      rest = filter (λ b. ended b.peer) owes

      by_test : (t : Bool) → ended a.peer ≡ t → AllByRecursion G (map (notice reason) rest)
          → AllByRecursion G (map (notice reason) (cond t (a ∷ rest) rest))
      by_test true e is = (each a fs.0 e, is)
      by_test false e is = is

  all-mapped : {X : Type 0} (f : X → Effect) → ((x : X) → G (f x)) → (xs : List X)
      → AllByRecursion G (map f xs)
  all-mapped f each [] = tt
  all-mapped f each (x ∷ xs) = (each x, all-mapped f each xs)

abbrev Any : PendingAttach → Type 0
Any a = Unit {0}

-- ---- a step

module _ (shape : Shape) (P : List Step) (s : Step)
    (nodes : (i j : Inc) → arrived_from (s ∷ P) j (Here i) ≡ sent_to (s ∷ P) i (Here j))
    (was : AllCarried shape P) (now : AllCarried shape (s ∷ P)) (living : AllBetweenLiving P) where
  abbrev Q : List Step
  Q = s ∷ P

  abbrev Sound : List Effect → Type 0
  Sound es = AllByRecursion (IsSound shape P s) es

  lost-sound : (ended : Peer → Bool) (owes : List PendingAttach)
      → Sound (notices reasons.Lost ended owes)
  lost-sound ended owes =
      all-notices (IsSound shape P s) Any reasons.Lost ended (λ a any is. tt) owes
      (all-each Any (λ a. tt) owes)

  -- a close on the node
  module _ (j : Inc) (owes : List PendingAttach) (is : s.effects ≡ closing j owes) where
    closed-here : (b : Inc) (q : Peer) → same_peer (Here j) q ≡ true → IsClosed Q s.effects b q
    closed-here b (Here i) same = record {
      whole = nodes i b;
      ends = ap (list_any (closes i)) is
          ∙ or_left (same_inc i j) _
          (ap (same_inc i) (same_inc-true j i same) ∙ same_inc-refl i);
    }
    closed-here b (There l x i) same = absurd (true≢false (sym same))

    closing-sound : Sound (closing j owes)
    closing-sound = (
      tt,
      all-notices (IsSound shape P s) Any reasons.Closed (same_peer (Here j))
          (λ a any same. closed-here a.at a.peer same) (held_elsewhere j owes)
          (all-each Any (λ a. tt) (held_elsewhere j owes)),
    )

  ending-sound : (me : Option Inc) (owes : List PendingAttach) → s.effects ≡ ending me owes
      → Sound (ending me owes)
  ending-sound None owes is = tt
  ending-sound (Some j) owes is = closing-sound j owes is

  founds-sound : (path : Path) (q : Peer) (hunts : List PendingHunt) → Sound (founds path q hunts)
  founds-sound path q hunts = all-mapped (IsSound shape P s) (found q) (λ h. tt) _

  closings-sound : (incs : List Inc) → Sound (closings incs)
  closings-sound incs = all-mapped (IsSound shape P s) _ (λ i. tt) incs

  downs-sound : (n links : ℕ) → Sound (downs_of P n links)
  downs-sound n zero = tt
  downs-sound n (suc l) =
      all-append (IsSound shape P s) (downs_of P n l) _ (downs-sound n l) (one (up_session P n (suc l)))
    where
      one : (u : Option Session) → Sound (down_if n (suc l) u)
      one None = tt
      one (Some x) = (tt, tt)

  arrivals-sound : (j : Inc) (note : SigNote) (alive : Bool) (q : Peer)
      → Sound (arrivals_of j note alive q)
  arrivals-sound j note false q = tt
  arrivals-sound j note true (Here i) = (tt, tt)
  arrivals-sound j note true (There l x i) = tt

  hunted-sound : (q : Option Peer) (h : PendingHunt) → Sound (hunted q h)
  hunted-sound None h = tt
  hunted-sound (Some q) h = (tt, tt)

  attached-sound : (alive : Bool) (a : PendingAttach) → Sound (attached alive a)
  attached-sound true a = tt
  attached-sound false a = (tt, tt)

  -- over a link, at node n
  module _ (l : LinkNo) (of_shape : IsLinkOf shape l) (from : Side) where
    abbrev n : ℕ
    n = node_at shape l (other_of from)

    abbrev m : ℕ
    m = node_at shape l from

    -- a peer parts
    module _ (x : Session) (a : Inc) (is : s.effects ≡ brought_at P n l (parts x a)) where
      abbrev q : Peer
      q = There l x a

      peer-itself : same_peer q q ≡ true
      peer-itself =
          let link : (l.0 == l.0) ≡ true = eq-eqb l.0 l.0 refl in
          let session : (x.0 == x.0) ≡ true = eq-eqb x.0 x.0 refl in
          rw (link, session) (same_inc-refl a)

      parted-now : (k : ℕ) → (n == k) ≡ true → list_any (parts_peer k q) s.effects ≡ true
      parted-now k same = ap (list_any (parts_peer k q)) is
          ∙ or_left ((n == k) && same_peer q q) _ (rw same peer-itself)

      parted : has_parted Q n q ≡ true
      parted = list_any-append (parts_peer n q) (effects_of P) s.effects
          ∙ or_right (list_any (parts_peer n q) (effects_of P)) _ (parted-now n (eq-eqb n n refl))

      still-open : (b : Inc) → is_alive P n (Here b) ≡ true → is_alive Q n (Here b) ≡ true
      still-open b open_ =
          open-after P s n b
          (ap (list_any (closes b)) is
          ∙ any-items (closes b) (closes-items b) _
          (notices-items reasons.Closed (same_peer q) (owed P n)))
          (inl open_)

      parted-from : (b : Inc) → is_alive P n (Here b) ≡ true → IsClosed Q s.effects b q
      parted-from b open_ =
          let home : node_of b ≡ n = eqb-true (node_of b) n (open-on P n b open_) in
          record {
            whole = subst (λ (k : ℕ). GotAll Q l x a b (paired_session Q k l.0 x)) (sym home)
                ((now l of_shape (other_of from)).complete x a b parted (still-open b open_));
            ends = parted-now (node_of b) (eq-eqb n (node_of b) (sym home));
          }

      parting-sound : Sound (brought_at P n l (parts x a))
      parting-sound = (
        tt,
        all-notices (IsSound shape P s) (IsBetweenLiving P n) reasons.Closed (same_peer q)
            (λ b between same. subst (IsClosed Q s.effects b.at)
            (sym (same_peer-is l x a b.peer same)) (parted-from b.at between.holder)) (owed P n)
            (living n),
      )

    -- a signal arrives
    arriving-sound : (x : Session) (a b : Inc) (note : SigNote) → IsArrival P n m l x a b note
        → IsAcross shape l a b × (has_parted P (node_of b) (There l x a) ≡ false)
    arriving-sound x a b note may =
        let home : node_of b ≡ n = eqb-true (node_of b) n (open-on P n b may.receiver) in (
          record {
            of_shape = of_shape;
            side = other_of from;
            sender = subst (λ (side : Side). is_on (node_at shape l side) a ≡ true)
                (sym (other_twice from)) (and_parts (is_on m a) _ may.sender).0;
            receiver = open-on P n b may.receiver;
          },
          subst (λ (k : ℕ). has_parted P k (There l x a) ≡ false) (sym home)
              (false_from_ne_true (has_parted P n (There l x a)) (λ parted.
              true≢false (sym may.alive ∙ (was l of_shape (other_of from)).over x a parted))),
        )

    brought-sound : (what : Brought) → s.effects ≡ brought_at P n l what → MayBring P n m l what
        → Sound (brought_at P n l what)
    brought-sound nothing is may = tt
    brought-sound (goes_up x y) is may = (tt, tt)
    brought-sound (goes_down x) is may = (tt, lost-sound (is_of_session l x) (owed P n))
    brought-sound (arrives x a b note) is may = (arriving-sound x a b note may, tt)
    brought-sound (meets x a name) is may =
        (tt, founds-sound (Over l name) (There l x a) (hunting P n))
    brought-sound (parts x a) is may = parting-sound x a is

    handed-sound : (t : Bool) → IsHandedOver t P n m l s.effects → Sound s.effects
    handed-sound true packet =
        subst Sound (sym packet.effects) (brought-sound packet.what packet.effects packet.may)
    handed-sound false none = subst Sound (sym none) tt

  tick-sound : (k : ℕ) (l : LinkNo) (side : Side) → IsTick P k l side s.effects → Sound s.effects
  tick-sound k l side (stays none) = subst Sound (sym none) tt
  tick-sound k l side (loses x up silent same) =
      subst Sound (sym same) (tt, lost-sound (is_of_session l x) (owed P k))

  by-head : (node : ℕ) (me : Option Inc) (head : Head) → HasEffects shape P node me head s.effects
      → KeepsLinks shape head → KeepsPackets shape P head s.effects
      → KeepsTicks shape P head s.effects → Sound s.effects
  by-head node me (Open name) has links packets ticks =
      let i : Inc = next_inc node (opened_on P node) in
      subst Sound (sym has) (tt, founds-sound (Local name) (Here i) (hunting P node))
  by-head node me Close has links packets ticks =
      subst Sound (sym has) (ending-sound me (owed P node) has)
  by-head node None (Send q note answer) has links packets ticks = subst Sound (sym has) tt
  by-head node (Some j) (Send q note answer) has links packets ticks =
      subst Sound (sym has) (arrivals-sound j note (is_alive P node q) q)
  by-head node None (Hunt path note) has links packets ticks = subst Sound (sym has) tt
  by-head node (Some j) (Hunt path note) has links packets ticks =
      subst Sound (sym has)
      (hunted-sound (find P node path)
      (record { at = j; path = path; signal = note; number = suc (length P) }))
  by-head node None (Attach q note) has links packets ticks = subst Sound (sym has) tt
  by-head node (Some j) (Attach q note) has links packets ticks =
      subst Sound (sym has)
      (attached-sound (is_alive P node q)
      (record { at = j; peer = q; signal = note; reference = record { 0 = suc (length P) } }))
  by-head node me (Restart k) has links packets ticks =
      subst Sound (sym has)
      (all-append (IsSound shape P s) (downs_of P k.0 (length shape.links)) _
      (downs-sound k.0 (length shape.links)) (closings-sound (open_endpoints P k.0)))
  by-head node me (Wire l from verdict) has links packets ticks =
      handed-sound l links from (delivers verdict) packets
  by-head node me (Tick l side) has links packets ticks =
      tick-sound (node_at shape l side) l side ticks
  by-head node me Ended has links packets ticks =
      subst Sound (sym has) (ending-sound me (owed P node) has)
  by-head node me head has links packets ticks = subst Sound (sym has) tt

  -- EACH EFFECT IS SOUND
  pub all-sound : IsLegalStep shape P s → Sound s.effects
  all-sound legal =
      by-head (node_by shape s.by) (endpoint_by P s.by) s.head legal.nodes.effects legal.nodes.links
      legal.packets legal.ticks
