-- In a legal journal each notification has the signal of its attach, with the byte of its reason.
use Rattle.std.proofs.Common.{◌≡◌, ℕ, zero, suc, Bool, true, false, List, [], ◌∷◌, map, length}
use Rattle.std.proofs.Common.{Option, Some, None, refl, sym, subst, not, filter}
use Rattle.std.specs.List.{AllByRecursion}
use Rattle.linx_base.specs.Content.{with_reason}
use Rattle.linx_base.specs.Peers.{same_inc, same_peer}
use Rattle.linx_base.specs.Pending.{is_of_session}
use Rattle.linx_base.specs.Sides.{other_of}
use Rattle.linx_base.specs.declared.identity.Inc.{Inc}
use Rattle.linx_base.specs.declared.identity.LinkNo.{LinkNo}
use Rattle.linx_base.specs.declared.identity.Peer.{Peer}
use Rattle.linx_base.specs.declared.identity.Peer.TheVariants.{Here, There}
use Rattle.linx_base.specs.declared.identity.Session.{Session}
use Rattle.linx_base.specs.declared.pending.PendingAttach.{PendingAttach}
use Rattle.linx_base.specs.declared.pending.PendingHunt.{PendingHunt}
use Rattle.linx_base.specs.declared.signal.Reason.{Reason}
use Rattle.linx_base.specs.declared.signal.Reason.TheVariants as reasons
use Rattle.linx_base.specs.SigNotes.{SigNote}
use Rattle.journal.specs.Effects.{arrivals_of, attached, closings, ending, found, held_elsewhere}
use Rattle.journal.specs.Effects.{hunted, notice, notices}
use Rattle.journal.specs.History.{endpoint_by, open_endpoints}
use Rattle.journal.specs.Laws.{effects_by}
use Rattle.journal.specs.Living.{find, is_alive}
use Rattle.journal.specs.Pending.{owed}
use Rattle.journal.specs.Sessions.{up_session}
use Rattle.journal.specs.Shapes.{Shape, node_by}
use Rattle.journal.specs.declared.head.Head.{Head}
use Rattle.journal.specs.declared.head.Head.TheVariants.{Open, Close, Send, Hunt, Attach, Restart}
use Rattle.journal.specs.declared.head.Head.TheVariants.{Wire, Tick, Ended}
use Rattle.journal.specs.declared.effect.Effect.{Effect}
use Rattle.journal.specs.declared.effect.Effect.TheVariants.{Notified}
use Rattle.journal.specs.declared.effect.Step.{Step}
use Rattle.journal.proofs.Lists.{all-append, all-filter}
use Rattle.link_laws.specs.Brought.{Brought, arrives, brought_at, goes_down, goes_up, meets}
use Rattle.link_laws.specs.Brought.{nothing, parts}
use Rattle.link_laws.specs.Ends.{node_at}
use Rattle.link_laws.specs.Laws.{HasEffects, IsHandedOver, IsLegalStep, IsTick, KeepsPackets}
use Rattle.link_laws.specs.Laws.{KeepsTicks, delivers, down_if, downs_of, loses, stays}
use Rattle.image_laws.specs.Told.{attach_in_head, attached_at}
use Rattle.image_laws.proofs.Attaches.{IsHeld, attached-now, held-after, owed-held}

-- what is told is the signal of the attach, with the byte of the reason behind
abbrev pub IsTold : List Step → Effect → Type 0
IsTold H (Notified i q note r reason) =
    (attach : SigNote)
    × ((attached_at H r.0 ≡ Some attach) × (note ≡ with_reason reason attach))
IsTold H _ = Unit {0}

abbrev pub AllTold : List Step → List Effect → Type 0
AllTold H es = AllByRecursion (IsTold H) es

module _ (H : List Step) where
  founds-told : (q : Peer) (hunts : List PendingHunt) → AllTold H (map (found q) hunts)
  founds-told q [] = tt
  founds-told q (h ∷ hunts) = (tt, founds-told q hunts)

  notice-told : (reason : Reason) (a : PendingAttach) → IsHeld H a → IsTold H (notice reason a)
  notice-told reason a held = (a.signal, (held, refl))

  each_notice-told : (reason : Reason) (attaches : List PendingAttach) → AllByRecursion (IsHeld H) attaches
      → AllTold H (map (notice reason) attaches)
  each_notice-told reason [] held = tt
  each_notice-told reason (a ∷ attaches) held =
      (notice-told reason a held.0, each_notice-told reason attaches held.1)

  notices-told : (reason : Reason) (ended : Peer → Bool) (attaches : List PendingAttach)
      → AllByRecursion (IsHeld H) attaches → AllTold H (notices reason ended attaches)
  notices-told reason ended attaches held =
      each_notice-told reason (filter (λ a. ended a.peer) attaches)
      (all-filter (IsHeld H) (λ a. ended a.peer) attaches held)

  ending-told : (me : Option Inc) (attaches : List PendingAttach) → AllByRecursion (IsHeld H) attaches
      → AllTold H (ending me attaches)
  ending-told None attaches held = tt
  ending-told (Some j) attaches held = (
    tt,
    notices-told reasons.Closed (same_peer (Here j)) (held_elsewhere j attaches)
        (all-filter (IsHeld H) (λ a. not (same_inc j a.at)) attaches held),
  )

  closings-told : (incs : List Inc) → AllTold H (closings incs)
  closings-told [] = tt
  closings-told (i ∷ incs) = (tt, closings-told incs)

  arrivals-told : (j : Inc) (note : SigNote) (alive : Bool) (q : Peer)
      → AllTold H (arrivals_of j note alive q)
  arrivals-told j note false q = tt
  arrivals-told j note true (Here i) = (tt, tt)
  arrivals-told j note true (There l x i) = tt

  hunted-told : (q : Option Peer) (h : PendingHunt) → AllTold H (hunted q h)
  hunted-told None h = tt
  hunted-told (Some q) h = (tt, tt)

  attached-told : (alive : Bool) (a : PendingAttach) → IsHeld H a → AllTold H (attached alive a)
  attached-told true a held = tt
  attached-told false a held = (notice-told reasons.Dead a held, tt)

  down_if-told : (node link : ℕ) (x : Option Session) → AllTold H (down_if node link x)
  down_if-told node link None = tt
  down_if-told node link (Some x) = (tt, tt)

  downs-told : (P : List Step) (node k : ℕ) → AllTold H (downs_of P node k)
  downs-told P node zero = tt
  downs-told P node (suc k) =
      all-append (IsTold H) (downs_of P node k)
      (down_if node (suc k) (up_session P node (suc k))) (downs-told P node k)
      (down_if-told node (suc k) (up_session P node (suc k)))

-- of a step after P, where the history with it is H
module _ (H P : List Step)
    (held : (node : ℕ) → AllByRecursion (IsHeld H) (owed P node)) where
  effects_by-told : (node : ℕ) (me : Option Inc) (head : Head)
      → attached_at H (suc (length P)) ≡ attach_in_head head
      → AllTold H (effects_by P node me head)
  effects_by-told node me (Open name) now = (tt, founds-told H _ _)
  effects_by-told node me Close now = ending-told H me (owed P node) (held node)
  effects_by-told node None (Send q note answer) now = tt
  effects_by-told node (Some j) (Send q note answer) now =
      arrivals-told H j note (is_alive P node q) q
  effects_by-told node None (Hunt path note) now = tt
  effects_by-told node (Some j) (Hunt path note) now = hunted-told H (find P node path) _
  effects_by-told node None (Attach q note) now = tt
  effects_by-told node (Some j) (Attach q note) now = attached-told H (is_alive P node q) _ now
  effects_by-told node me (Restart n) now = closings-told H (open_endpoints P n.0)
  effects_by-told node me Ended now = ending-told H me (owed P node) (held node)
  effects_by-told node me _ now = tt

  brought-told : (n : ℕ) (l : LinkNo) (what : Brought) → AllTold H (brought_at P n l what)
  brought-told n l nothing = tt
  brought-told n l (goes_up x y) = (tt, tt)
  brought-told n l (goes_down x) =
      (tt, notices-told H reasons.Lost (is_of_session l x) (owed P n) (held n))
  brought-told n l (arrives x a b note) = (tt, tt)
  brought-told n l (meets x a name) = (tt, founds-told H _ _)
  brought-told n l (parts x a) =
      (tt, notices-told H reasons.Closed (same_peer (There l x a)) (owed P n) (held n))

  handed_over-told : (over : Bool) (n m : ℕ) (l : LinkNo) (es : List Effect)
      → IsHandedOver over P n m l es → AllTold H es
  handed_over-told true n m l es packet =
      subst (AllTold H) (sym packet.effects) (brought-told n l packet.what)
  handed_over-told false n m l es none = subst (AllTold H) (sym none) tt

  tick-told : (n : ℕ) (l : LinkNo) (side : _) (es : List Effect) → IsTick P n l side es
      → AllTold H es
  tick-told n l side es (stays none) = subst (AllTold H) (sym none) tt
  tick-told n l side es (loses x up silent lost) =
      subst (AllTold H) (sym lost)
      (tt, notices-told H reasons.Lost (is_of_session l x) (owed P n) (held n))

  effects-told : (shape : Shape) (node : ℕ) (me : Option Inc) (head : Head) (es : List Effect)
      → attached_at H (suc (length P)) ≡ attach_in_head head
      → HasEffects shape P node me head es → KeepsPackets shape P head es
      → KeepsTicks shape P head es → AllTold H es
  effects-told shape node me (Restart n) es now has packets ticks =
      subst (AllTold H) (sym has)
      (all-append (IsTold H) (downs_of P n.0 (length shape.links))
      (closings (open_endpoints P n.0)) (downs-told H P n.0 (length shape.links))
      (closings-told H (open_endpoints P n.0)))
  effects-told shape node me (Wire l from verdict) es now has packets ticks =
      handed_over-told (delivers verdict) (node_at shape l (other_of from)) (node_at shape l from)
      l es packets
  effects-told shape node me (Tick l side) es now has packets ticks =
      tick-told (node_at shape l side) l side es ticks
  effects-told shape node me head es now has packets ticks =
      subst (AllTold H) (sym has) (effects_by-told node me head now)

-- EACH NOTIFICATION OF A LEGAL STEP IS TOLD
pub legal-told : (shape : Shape) (P : List Step) (s : Step) → IsLegalStep shape P s
    → AllTold (s ∷ P) s.effects
legal-told shape P s is =
    effects-told (s ∷ P) P (λ node. held-after s P (owed P node) (owed-held P node)) shape
    (node_by shape s.by) (endpoint_by P s.by) s.head s.effects (attached-now s P)
    is.nodes.effects is.packets is.ticks
