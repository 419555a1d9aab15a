-- What a legal step meets: one peer over a link, which answers the hunts for it, or none.
use Rattle.std.proofs.Common.{◌≡◌, ℕ, zero, suc, Bool, true, false, ◌||◌, ◌⊎◌, inl, inr, List, []}
use Rattle.std.proofs.Common.{◌∷◌, length, Option, Some, None, refl, sym, ◌∙◌, ap, true≢false}
use Rattle.std.specs.List.{list_any}
use Rattle.std.proofs.lemmas.List.Folds.{list_any-append}
use Rattle.linx_base.specs.Peers.{same_peer}
use Rattle.linx_base.specs.Sides.{other_of}
use Rattle.linx_base.specs.declared.identity.Inc.{Inc}
use Rattle.linx_base.specs.declared.identity.LinkNo.{LinkNo}
use Rattle.linx_base.specs.declared.identity.Peer.{Peer}
use Rattle.linx_base.specs.declared.identity.Peer.TheVariants.{Here, There}
use Rattle.linx_base.specs.declared.identity.Session.{Session}
use Rattle.linx_base.specs.declared.identity.Side.{Side}
use Rattle.linx_base.specs.declared.name.Path.TheVariants.{Local}
use Rattle.linx_base.specs.declared.pending.PendingAttach.{PendingAttach}
use Rattle.linx_base.specs.declared.pending.PendingHunt.{PendingHunt}
use Rattle.linx_base.specs.SigNotes.{SigNote}
use Rattle.journal.specs.Effects.{arrivals_of, attached, closings, ending, held_elsewhere, hunted}
use Rattle.journal.specs.Effects.{meeting}
use Rattle.journal.specs.History.{endpoint_by, next_inc, open_endpoints, opened_on}
use Rattle.journal.specs.Laws.{effects_by}
use Rattle.linx_base.specs.Pending.{is_of_session}
use Rattle.journal.specs.Living.{find, is_alive}
use Rattle.journal.specs.Pending.{hunting, owed}
use Rattle.journal.specs.Sessions.{up_session}
use Rattle.journal.specs.Shapes.{Shape, node_by}
use Rattle.journal.specs.declared.effect.Effect.{Effect}
use Rattle.journal.specs.declared.effect.Effect.TheVariants.{Met}
use Rattle.journal.specs.declared.effect.Step.{Step}
use Rattle.journal.specs.declared.head.Head.{Head}
use Rattle.journal.specs.declared.head.Head.TheVariants.{Attach, Close, Ended, Hunt, Open, Restart}
use Rattle.journal.specs.declared.head.Head.TheVariants.{Send, Tick, Wire}
use Rattle.link_laws.specs.Brought.{Brought, IsMeeting, MayBring, arrives, brought_at, goes_down}
use Rattle.link_laws.specs.Brought.{goes_up, meets, nothing, parts}
use Rattle.link_laws.specs.Ends.{node_at}
use Rattle.link_laws.specs.Laws.{HasEffects, IsHandedOver, IsLegalStep, IsTick, KeepsPackets}
use Rattle.link_laws.specs.Laws.{KeepsTicks, delivers, down_if, downs_of, loses, restarting, stays}
use Rattle.link_laws.proofs.Sides.WordsAfterStep.{any-items, is_item}
use Rattle.link_laws.proofs.AllLinks.OthersStay.{founds-items, notices-items}
use Rattle.linx_base.specs.declared.signal.Reason.TheVariants as reasons

-- the effect is a meeting
abbrev pub is_meeting : Effect → Bool
is_meeting (Met n q name) = true
is_meeting _ = false

abbrev pub MeetsNone : List Effect → Type 0
MeetsNone es = list_any is_meeting es ≡ false

pub items-meet_none : (e : Effect) → is_item e ≡ true → is_meeting e ≡ false
items-meet_none (Met n q name) is = absurd (true≢false (sym is))
items-meet_none _ is = refl

ending-meets_none : (me : Option Inc) (attaches : List PendingAttach)
    → MeetsNone (ending me attaches)
ending-meets_none None attaches = refl
ending-meets_none (Some j) attaches = any-items is_meeting items-meet_none _
    (notices-items reasons.Closed (same_peer (Here j)) (held_elsewhere j attaches))

arrivals-meet_none : (j : Inc) (note : SigNote) (alive : Bool) (q : Peer)
    → MeetsNone (arrivals_of j note alive q)
arrivals-meet_none j note false q = refl
arrivals-meet_none j note true (Here i) = refl
arrivals-meet_none j note true (There l x i) = refl

pub hunted-meets_none : (q : Option Peer) (h : PendingHunt) → MeetsNone (hunted q h)
hunted-meets_none None h = refl
hunted-meets_none (Some q) h = refl

attached-meets_none : (alive : Bool) (a : PendingAttach) → MeetsNone (attached alive a)
attached-meets_none true a = refl
attached-meets_none false a = refl

closings-meet_none : (incs : List Inc) → MeetsNone (closings incs)
closings-meet_none [] = refl
closings-meet_none (i ∷ incs) = closings-meet_none incs

module _ (P : List Step) where
  pub effects-meet_none : (node : ℕ) (me : Option Inc) (head : Head)
      → MeetsNone (effects_by P node me head)
  effects-meet_none node me (Open name) = any-items is_meeting items-meet_none _
      (founds-items (Local name) (Here (next_inc node (opened_on P node))) (hunting P node))
  effects-meet_none node me Close = ending-meets_none me (owed P node)
  effects-meet_none node None (Send q note answer) = refl
  effects-meet_none node (Some j) (Send q note answer) =
      arrivals-meet_none j note (is_alive P node q) q
  effects-meet_none node None (Hunt path note) = refl
  effects-meet_none node (Some j) (Hunt path note) = hunted-meets_none (find P node path)
      (record { at = j; path = path; signal = note; number = suc (length P) })
  effects-meet_none node None (Attach q note) = refl
  effects-meet_none node (Some j) (Attach q note) = attached-meets_none (is_alive P node q)
      (record { at = j; peer = q; signal = note; reference = record { 0 = suc (length P) } })
  effects-meet_none node me (Restart n) = closings-meet_none (open_endpoints P n.0)
  effects-meet_none node me Ended = ending-meets_none me (owed P node)
  effects-meet_none node me _ = refl

  downs-meet_none : (n k : ℕ) → MeetsNone (downs_of P n k)
  downs-meet_none n zero = refl
  downs-meet_none n (suc k) =
      list_any-append is_meeting (downs_of P n k) (down_if n (suc k) (up_session P n (suc k)))
      ∙ ap (λ t. t || list_any is_meeting (down_if n (suc k) (up_session P n (suc k))))
      (downs-meet_none n k)
      ∙ one (up_session P n (suc k))
    where
      one : (u : Option Session) → MeetsNone (down_if n (suc k) u)
      one None = refl
      one (Some x) = refl

  pub restarting-meets_none : (shape : Shape) (n : ℕ) → MeetsNone (restarting shape P n)
  restarting-meets_none shape n =
      list_any-append is_meeting (downs_of P n (length shape.links)) (closings (open_endpoints P n))
      ∙ ap (λ t. t || list_any is_meeting (closings (open_endpoints P n)))
      (downs-meet_none n (length shape.links))
      ∙ closings-meet_none (open_endpoints P n)

-- the effects are those of one meeting, which may come
pub record MeetsOne (P : List Step) (es : List Effect) : Type 0 where
  pub n : ℕ
  pub m : ℕ
  pub l : LinkNo
  pub x : Session
  pub a : Inc
  pub name : List ℕ
  pub effects : es ≡ meeting (record { 0 = n }) l (There l x a) name (hunting P n)
  pub may : IsMeeting P n m l x a name

brought-meets : (P : List Step) (n m : ℕ) (l : LinkNo) (what : Brought) (es : List Effect)
    → es ≡ brought_at P n l what → MayBring P n m l what → MeetsNone es ⊎ MeetsOne P es
brought-meets P n m l nothing es is may = inl (ap (list_any is_meeting) is)
brought-meets P n m l (goes_up x y) es is may = inl (ap (list_any is_meeting) is)
brought-meets P n m l (goes_down x) es is may = inl (ap (list_any is_meeting) is
    ∙ any-items is_meeting items-meet_none _
    (notices-items reasons.Lost (is_of_session l x) (owed P n)))
brought-meets P n m l (arrives x a b note) es is may = inl (ap (list_any is_meeting) is)
brought-meets P n m l (meets x a name) es is may = inr (record {
  n = n;
  m = m;
  l = l;
  x = x;
  a = a;
  name = name;
  effects = is;
  may = may;
})
brought-meets P n m l (parts x a) es is may = inl (ap (list_any is_meeting) is
    ∙ any-items is_meeting items-meet_none _
    (notices-items reasons.Closed (same_peer (There l x a)) (owed P n)))

handed-meets : (t : Bool) (P : List Step) (n m : ℕ) (l : LinkNo) (es : List Effect)
    → IsHandedOver t P n m l es → MeetsNone es ⊎ MeetsOne P es
handed-meets true P n m l es packet = brought-meets P n m l packet.what es packet.effects packet.may
handed-meets false P n m l es none = inl (ap (list_any is_meeting) none)

pub tick-meets_none : (P : List Step) (n : ℕ) (l : LinkNo) (side : Side) (es : List Effect)
    → IsTick P n l side es → MeetsNone es
tick-meets_none P n l side es (stays none) = ap (list_any is_meeting) none
tick-meets_none P n l side es (loses x up silent same) = ap (list_any is_meeting) same
    ∙ any-items is_meeting items-meet_none _
    (notices-items reasons.Lost (is_of_session l x) (owed P n))

head-meets : (shape : Shape) (P : List Step) (node : ℕ) (me : Option Inc) (head : Head)
    (es : List Effect) → HasEffects shape P node me head es → KeepsPackets shape P head es
    → KeepsTicks shape P head es → MeetsNone es ⊎ MeetsOne P es
head-meets shape P node me (Restart n) es has packets ticks =
    inl (ap (list_any is_meeting) has ∙ restarting-meets_none P shape n.0)
head-meets shape P node me (Wire l from verdict) es has packets ticks =
    handed-meets (delivers verdict) P (node_at shape l (other_of from)) (node_at shape l from) l es
    packets
head-meets shape P node me (Tick l side) es has packets ticks =
    inl (tick-meets_none P (node_at shape l side) l side es ticks)
head-meets shape P node me head es has packets ticks =
    inl (ap (list_any is_meeting) has ∙ effects-meet_none P node me head)

-- A LEGAL STEP meets one peer or none
pub step-meets : (shape : Shape) (P : List Step) (s : Step) → IsLegalStep shape P s
    → MeetsNone s.effects ⊎ MeetsOne P s.effects
step-meets shape P s legal = head-meets shape P (node_by shape s.by) (endpoint_by P s.by) s.head
    s.effects legal.nodes.effects legal.packets legal.ticks
