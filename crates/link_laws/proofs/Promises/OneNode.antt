-- What a legal journal promises of the signals between endpoints of one node: links bring nothing
-- from such an endpoint.
use Rattle.std.proofs.Common.{◌≡◌, ℕ, zero, suc, Bool, true, false, cond, ◌&&◌, ◌||◌, List, [], ◌∷◌}
use Rattle.std.proofs.Common.{◌++◌, length, Option, Some, None, refl, sym, ap, ◌∙◌, subst, arith}
use Rattle.std.proofs.Common.{if◌then◌else◌, filter_map, true≢false}
use Rattle.std.specs.List.{list_any, AllByRecursion}
use Rattle.std.proofs.lemmas.Bool.Decides.{nat_tests}
use Rattle.std.proofs.lemmas.List.Elements.{filter_map-append}
use Rattle.std.proofs.lemmas.List.Folds.{list_any-append}
use Rattle.linx_base.specs.Peers.{same_inc, same_peer}
use Rattle.linx_base.specs.Sides.{other_of}
use Rattle.linx_base.specs.declared.identity.Inc.{Inc}
use Rattle.linx_base.specs.declared.identity.LinkNo.{LinkNo}
use Rattle.linx_base.specs.declared.identity.Peer.{Peer}
use Rattle.linx_base.specs.declared.identity.Peer.TheVariants.{Here, There}
use Rattle.linx_base.specs.declared.identity.Session.{Session}
use Rattle.linx_base.specs.declared.identity.Side.{Side}
use Rattle.linx_base.specs.declared.name.Path.TheVariants.{Local, Over}
use Rattle.linx_base.specs.declared.pending.PendingAttach.{PendingAttach}
use Rattle.linx_base.specs.declared.pending.PendingHunt.{PendingHunt}
use Rattle.linx_base.specs.declared.signal.Reason.TheVariants as reasons
use Rattle.linx_base.specs.SigNotes.{SigNote}
use Rattle.journal.specs.Effects.{arrivals_of, attached, closings, ending, held_elsewhere, hunted}
use Rattle.journal.specs.Effects.{send_answer}
use Rattle.journal.specs.History.{effects_of, endpoint_by, next_inc, open_endpoints, opened_on}
use Rattle.journal.specs.Laws.{KeepsSends}
use Rattle.linx_base.specs.Pending.{is_of_session}
use Rattle.journal.specs.Living.{find, is_alive}
use Rattle.journal.specs.Pending.{hunting, owed}
use Rattle.journal.specs.Promises.{IsFromLiving, KeepsNodePromises, NeverFromTheDead}
use Rattle.journal.specs.Sessions.{up_session}
use Rattle.journal.specs.Shapes.{Shape, node_by}
use Rattle.journal.specs.Traffic.{arrival_in, arrived_from, is_endpoint, sent_by, sent_to}
use Rattle.journal.specs.declared.effect.Effect.{Effect}
use Rattle.journal.specs.declared.effect.Effect.TheVariants.{Arrived}
use Rattle.journal.specs.declared.effect.Step.{Step}
use Rattle.journal.specs.declared.head.Head.{Head}
use Rattle.journal.specs.declared.head.Head.TheVariants.{Attach, Close, Ended, Hunt, Open, Restart}
use Rattle.journal.specs.declared.head.Head.TheVariants.{Send, Tick, Wire}
use Rattle.journal.specs.declared.head.SentTo.{SentTo}
use Rattle.journal.proofs.Openings.{IsShort}
use Rattle.link_laws.specs.Brought.{Brought, arrives, brought_at, goes_down, goes_up, meets}
use Rattle.link_laws.specs.Brought.{nothing, parts}
use Rattle.link_laws.specs.Ends.{node_at}
use Rattle.link_laws.specs.Laws.{HasEffects, IsHandedOver, IsLegal, IsLegalStep, IsTick}
use Rattle.link_laws.specs.Laws.{KeepsPackets, KeepsTicks, delivers, down_if, downs_of, loses}
use Rattle.link_laws.specs.Laws.{restarting, stays}
use Rattle.link_laws.proofs.Sides.Acts.{cond-nil}
use Rattle.link_laws.proofs.Sides.WordsAfterStep.{any-items, is_item}
use Rattle.link_laws.proofs.Endpoints.Makers.{maker-open}
use Rattle.link_laws.proofs.AllLinks.OthersStay.{founds-items, notices-items}

-- an effect brings a signal from an endpoint of the node
abbrev is_near : Effect → Bool
is_near (Arrived j (Here i) note) = true
is_near _ = false

abbrev BringsNone : List Effect → Type 0
BringsNone es = list_any is_near es ≡ false

-- such effects add no arrival between endpoints of the node, and none from a dead one
and-false : (b : Bool) → (b && false) ≡ false
and-false true = refl
and-false false = refl

none-arrived : (i j : Inc) (es : List Effect) → BringsNone es
    → filter_map (arrival_in j (Here i)) es ≡ []
none-arrived i j [] none = refl
none-arrived i j (Arrived k (Here m) note ∷ es) none = absurd (true≢false none)
none-arrived i j (Arrived k (There l x m) note ∷ es) none =
    rw (and-false (same_inc k j)) (none-arrived i j es none)
none-arrived i j (_ ∷ es) none = none-arrived i j es none

none-dead : (P : List Step) (node : ℕ) (es : List Effect) → BringsNone es
    → AllByRecursion (IsFromLiving P node) es
none-dead P node [] none = tt
none-dead P node (Arrived k (Here m) note ∷ es) none = absurd (true≢false none)
none-dead P node (Arrived k (There l x m) note ∷ es) none = (tt, none-dead P node es none)
none-dead P node (_ ∷ es) none = (tt, none-dead P node es none)

-- WHAT BRINGS NONE
items-near_none : (e : Effect) → is_item e ≡ true → is_near e ≡ false
items-near_none (Arrived k q note) is = absurd (true≢false (sym is))
items-near_none _ is = refl

ending-brings_none : (me : Option Inc) (owes : List PendingAttach) → BringsNone (ending me owes)
ending-brings_none None owes = refl
ending-brings_none (Some j) owes = any-items is_near items-near_none _
    (notices-items reasons.Closed (same_peer (Here j)) (held_elsewhere j owes))

hunted-brings_none : (q : Option Peer) (h : PendingHunt) → BringsNone (hunted q h)
hunted-brings_none None h = refl
hunted-brings_none (Some q) h = refl

attached-brings_none : (alive : Bool) (a : PendingAttach) → BringsNone (attached alive a)
attached-brings_none true a = refl
attached-brings_none false a = refl

closings-bring_none : (incs : List Inc) → BringsNone (closings incs)
closings-bring_none [] = refl
closings-bring_none (i ∷ incs) = closings-bring_none incs

module _ (P : List Step) where
  downs-bring_none : (n k : ℕ) → BringsNone (downs_of P n k)
  downs-bring_none n zero = refl
  downs-bring_none n (suc k) =
      list_any-append is_near (downs_of P n k) (down_if n (suc k) (up_session P n (suc k)))
      ∙ ap (λ t. t || list_any is_near (down_if n (suc k) (up_session P n (suc k))))
      (downs-bring_none n k)
      ∙ one (up_session P n (suc k))
    where
      one : (u : Option Session) → BringsNone (down_if n (suc k) u)
      one None = refl
      one (Some x) = refl

  restarting-brings_none : (shape : Shape) (n : ℕ) → BringsNone (restarting shape P n)
  restarting-brings_none shape n =
      list_any-append is_near (downs_of P n (length shape.links)) (closings (open_endpoints P n))
      ∙ ap (λ t. t || list_any is_near (closings (open_endpoints P n)))
      (downs-bring_none n (length shape.links))
      ∙ closings-bring_none (open_endpoints P n)

  brought-brings_none : (n : ℕ) (l : LinkNo) (what : Brought)
      → BringsNone (brought_at P n l what)
  brought-brings_none n l nothing = refl
  brought-brings_none n l (goes_up x y) = refl
  brought-brings_none n l (goes_down x) = any-items is_near items-near_none _
      (notices-items reasons.Lost (is_of_session l x) (owed P n))
  brought-brings_none n l (arrives x a b note) = refl
  brought-brings_none n l (meets x a name) = any-items is_near items-near_none _
      (founds-items (Over l name) (There l x a) (hunting P n))
  brought-brings_none n l (parts x a) = any-items is_near items-near_none _
      (notices-items reasons.Closed (same_peer (There l x a)) (owed P n))

  handed-brings_none : (t : Bool) (n m : ℕ) (l : LinkNo) (es : List Effect)
      → IsHandedOver t P n m l es → BringsNone es
  handed-brings_none true n m l es packet = ap (list_any is_near) packet.effects
      ∙ brought-brings_none n l packet.what
  handed-brings_none false n m l es none = ap (list_any is_near) none

  tick-brings_none : (n : ℕ) (l : LinkNo) (side : Side) (es : List Effect)
      → IsTick P n l side es → BringsNone es
  tick-brings_none n l side es (stays none) = ap (list_any is_near) none
  tick-brings_none n l side es (loses x up silent same) = ap (list_any is_near) same
      ∙ any-items is_near items-near_none _
      (notices-items reasons.Lost (is_of_session l x) (owed P n))

-- WHAT A STEP BRINGS to an endpoint from another of the node is what that one sent in it, and it
-- comes from an open one
abbrev sent_in : Inc → Inc → Option Inc → Head → List SigNote
sent_in i j me head = if is_endpoint i me then sent_by (Here j) head else []

record KeepsNear (P : List Step) (node : ℕ) (me : Option Inc) (head : Head) (es : List Effect)
    : Type 0 where
  brings : (i j : Inc) → filter_map (arrival_in j (Here i)) es ≡ sent_in i j me head
  living : AllByRecursion (IsFromLiving P node) es

-- a send of endpoint m
module _ (P : List Step) (node : ℕ) (m : Inc) (note : SigNote) where
  send-brings : (i j : Inc) (alive : Bool) (q : Peer)
      → filter_map (arrival_in j (Here i)) (arrivals_of m note alive q)
      ≡ sent_in i j (Some m) (Send q note (send_answer alive q))
  send-brings i j false q = cond-nil (same_inc i m)
  send-brings i j true (There link session k) = cond-nil (same_inc i m)
  send-brings i j true (Here k) =
      grind (arith, nat_tests)

  send-living : (alive : Bool) (q : Peer) → is_alive P node (Here m) ≡ true
      → AllByRecursion (IsFromLiving P node) (arrivals_of m note alive q)
  send-living false q open_ = tt
  send-living true (Here k) open_ = (open_, tt)
  send-living true (There link session k) open_ = tt

module _ (shape : Shape) (P : List Step) (node : ℕ) where
  -- a step that sends nothing
  near_none : (me : Option Inc) (head : Head) (es : List Effect)
      → ((q : Peer) → sent_by q head ≡ []) → BringsNone es → KeepsNear P node me head es
  near_none me head es sends none = record {
    brings = λ i j. none-arrived i j es none ∙ cond-nil (is_endpoint i me)
        ∙ ap (λ (xs : List SigNote). cond (is_endpoint i me) xs []) (sym (sends (Here j)));
    living = none-dead P node es none;
  }

  near_send : (m : Inc) (q : Peer) (note : SigNote) (answer : SentTo) (es : List Effect)
      → is_alive P node (Here m) ≡ true → es ≡ arrivals_of m note (is_alive P node q) q
      → KeepsSends P node (Send q note answer)
      → KeepsNear P node (Some m) (Send q note answer) es
  near_send m q note answer es open_ has answered = record {
    brings = λ i j. ap (filter_map (arrival_in j (Here i))) has
        ∙ send-brings P node m note i j (is_alive P node q) q
        ∙ ap (λ (a : SentTo). sent_in i j (Some m) (Send q note a)) (sym answered);
    living = subst (AllByRecursion (IsFromLiving P node)) (sym has)
        (send-living P node m note (is_alive P node q) q open_);
  }

  near : (me : Option Inc) → ((m : Inc) → me ≡ Some m → is_alive P node (Here m) ≡ true)
      → (head : Head) (es : List Effect) → HasEffects shape P node me head es
      → KeepsSends P node head → KeepsPackets shape P head es → KeepsTicks shape P head es
      → KeepsNear P node me head es
  near me own (Open name) es has answered packets ticks =
      near_none me (Open name) es (λ q. refl) (ap (list_any is_near) has
      ∙ any-items is_near items-near_none _
      (founds-items (Local name) (Here (next_inc node (opened_on P node))) (hunting P node)))
  near me own Close es has answered packets ticks =
      near_none me Close es (λ q. refl) (ap (list_any is_near) has
      ∙ ending-brings_none me (owed P node))
  near None own (Send q note answer) es has answered packets ticks = record {
    brings = λ i j. ap (filter_map (arrival_in j (Here i))) has;
    living = subst (AllByRecursion (IsFromLiving P node)) (sym has) tt;
  }
  near (Some m) own (Send q note answer) es has answered packets ticks =
      near_send m q note answer es (own m refl) has answered
  near None own (Hunt path note) es has answered packets ticks =
      near_none None (Hunt path note) es (λ q. refl) (ap (list_any is_near) has)
  near (Some m) own (Hunt path note) es has answered packets ticks =
      near_none (Some m) (Hunt path note) es (λ q. refl) (ap (list_any is_near) has
      ∙ hunted-brings_none (find P node path)
      (record { at = m; path = path; signal = note; number = suc (length P) }))
  near None own (Attach q note) es has answered packets ticks =
      near_none None (Attach q note) es (λ q. refl) (ap (list_any is_near) has)
  near (Some m) own (Attach q note) es has answered packets ticks =
      near_none (Some m) (Attach q note) es (λ q. refl) (ap (list_any is_near) has
      ∙ attached-brings_none (is_alive P node q)
      (record { at = m; peer = q; signal = note; reference = record { 0 = suc (length P) } }))
  near me own (Restart n) es has answered packets ticks =
      near_none me (Restart n) es (λ q. refl) (ap (list_any is_near) has
      ∙ restarting-brings_none P shape n.0)
  near me own (Wire l from verdict) es has answered packets ticks =
      near_none me (Wire l from verdict) es (λ q. refl)
      (handed-brings_none P (delivers verdict) (node_at shape l (other_of from))
      (node_at shape l from) l es packets)
  near me own (Tick l side) es has answered packets ticks =
      near_none me (Tick l side) es (λ q. refl)
      (tick-brings_none P (node_at shape l side) l side es ticks)
  near me own Ended es has answered packets ticks =
      near_none me Ended es (λ q. refl) (ap (list_any is_near) has
      ∙ ending-brings_none me (owed P node))
  near me own head es has answered packets ticks =
      near_none me head es (λ q. refl) (ap (list_any is_near) has)

step-near : (shape : Shape) (P : List Step) (s : Step) → IsLegal shape P → IsShort P
    → IsLegalStep shape P s
    → KeepsNear P (node_by shape s.by) (endpoint_by P s.by) s.head s.effects
step-near shape P s legal short step =
    near shape P (node_by shape s.by) (endpoint_by P s.by) (maker-open shape P legal short s.by)
    s.head s.effects step.nodes.effects step.nodes.sends step.packets step.ticks

-- THE PROMISES
arrived-sent : (i j : Inc) (shape : Shape) (P : List Step) → IsLegal shape P → IsShort P
    → arrived_from P j (Here i) ≡ sent_to P i (Here j)
arrived-sent i j shape [] legal short = refl
arrived-sent i j shape (s ∷ P) legal short =
    let before : IsShort P = omega arith in
    filter_map-append (arrival_in j (Here i)) (effects_of P) s.effects
    ∙ ap (λ (xs : List SigNote). xs ++ filter_map (arrival_in j (Here i)) s.effects)
    (arrived-sent i j shape P legal.0 before)
    ∙ ap (λ (ys : List SigNote). sent_to P i (Here j) ++ ys)
    ((step-near shape P s legal.0 before legal.1).brings i j)

never-from_the_dead : (shape : Shape) (P : List Step) → IsLegal shape P → IsShort P
    → NeverFromTheDead shape P
never-from_the_dead shape [] legal short = tt
never-from_the_dead shape (s ∷ P) legal short =
    let before : IsShort P = omega arith in (
      never-from_the_dead shape P legal.0 before,
      (step-near shape P s legal.0 before legal.1).living,
    )

pub keeps-node_promises : (shape : Shape) (P : List Step) → IsLegal shape P → IsShort P
    → KeepsNodePromises shape P
keeps-node_promises shape P legal short = record {
  arrived = λ i j. arrived-sent i j shape P legal short;
  living = never-from_the_dead shape P legal short;
}
