-- What a legal step opens is new: the incarnations of a node are numbered in order of opening.
use Rattle.std.proofs.Common.{◌≡◌, ℕ, zero, suc, ◌<◌, ◌||◌, Bool, true, false, cond, inl, inr, List}
use Rattle.std.proofs.Common.{[], ◌∷◌, ◌++◌, length, Option, Some, None, refl, sym, ◌∙◌, ap, subst}
use Rattle.std.proofs.Common.{arith, filter, filter_map, eq-eqb, true≢false}
use Rattle.std.specs.List.{list_any}
use Rattle.std.proofs.Math.Bool.{or-false}
use Rattle.std.proofs.lemmas.Bool.{false_from_ne_true, or_cases}
use Rattle.std.proofs.lemmas.List.Elements.{filter_map-append}
use Rattle.std.proofs.lemmas.List.Folds.{list_any-append}
use Rattle.linx_base.specs.Numbers.{is_on, node_of}
use Rattle.linx_base.specs.Peers.{same_inc, same_peer}
use Rattle.linx_base.specs.Sides.{other_of}
use Rattle.linx_base.specs.declared.identity.Inc.{Inc}
use Rattle.linx_base.specs.declared.identity.LinkNo.{LinkNo}
use Rattle.linx_base.specs.declared.identity.Peer.TheVariants.{Here, There}
use Rattle.linx_base.specs.declared.identity.Session.{Session}
use Rattle.linx_base.specs.declared.identity.Side.{Side}
use Rattle.linx_base.specs.declared.name.Path.TheVariants.{Over}
use Rattle.journal.specs.Effects.{closings}
use Rattle.journal.specs.History.{effects_of, endpoint_by, open_endpoints, opened_by, opened_in}
use Rattle.journal.specs.History.{name_in, name_of, name_or_none, opening_name, openings}
use Rattle.journal.specs.Laws.{is_opening}
use Rattle.linx_base.specs.Pending.{is_of_session}
use Rattle.journal.specs.Living.{is_alive}
use Rattle.journal.specs.Pending.{hunting, owed}
use Rattle.journal.specs.Sessions.{up_session}
use Rattle.journal.specs.Shapes.{Shape, node_by}
use Rattle.journal.specs.declared.effect.Effect.{Effect}
use Rattle.journal.specs.declared.effect.Effect.TheVariants.{Opened}
use Rattle.journal.specs.declared.effect.Step.{Step}
use Rattle.journal.specs.declared.head.Head.{Head}
use Rattle.journal.specs.declared.head.Head.TheVariants.{Restart, Tick, Wire}
use Rattle.journal.proofs.Openings.{IsShort, effects-open, next_on, same_inc-true}
use Rattle.link_laws.specs.Brought.{Brought, arrives, brought_at, goes_down, goes_up, meets}
use Rattle.link_laws.specs.Brought.{nothing, parts}
use Rattle.link_laws.specs.Ends.{node_at}
use Rattle.link_laws.specs.Laws.{HasEffects, IsHandedOver, IsLegal, IsLegalStep, IsTick}
use Rattle.link_laws.specs.Laws.{KeepsPackets, KeepsTicks, delivers, down_if, downs_of, loses}
use Rattle.link_laws.specs.Laws.{restarting, stays}
use Rattle.link_laws.proofs.Sides.WordsAfterStep.{opened-items}
use Rattle.link_laws.proofs.Endpoints.OpenAfterStep.{OpensNew, both_true, open-opened, opened-any}
use Rattle.link_laws.proofs.Endpoints.Orderly.{IsOrderly, IsOrderlyStep, node_of-next_on}
use Rattle.link_laws.proofs.Endpoints.Orderly.{opened_next}
use Rattle.link_laws.proofs.AllLinks.OthersStay.{founds-items, notices-items}
use Rattle.linx_base.specs.declared.signal.Reason.TheVariants as reasons

-- what a packet brings opens nothing
pub brought-opens_none : (P : List Step) (n : ℕ) (l : LinkNo) (what : Brought)
    → filter_map opened_in (brought_at P n l what) ≡ []
brought-opens_none P n l nothing = refl
brought-opens_none P n l (goes_up x y) = refl
brought-opens_none P n l (goes_down x) = opened-items _
    (notices-items reasons.Lost (is_of_session l x) (owed P n))
brought-opens_none P n l (arrives x a b note) = refl
brought-opens_none P n l (meets x a name) = opened-items _
    (founds-items (Over l name) (There l x a) (hunting P n))
brought-opens_none P n l (parts x a) = opened-items _
    (notices-items reasons.Closed (same_peer (There l x a)) (owed P n))

handed-opens_none : (t : Bool) (P : List Step) (n m : ℕ) (l : LinkNo) (es : List Effect)
    → IsHandedOver t P n m l es → filter_map opened_in es ≡ []
handed-opens_none true P n m l es packet = ap (filter_map opened_in) packet.effects
    ∙ brought-opens_none P n l packet.what
handed-opens_none false P n m l es none = ap (filter_map opened_in) none

tick-opens_none : (P : List Step) (n : ℕ) (l : LinkNo) (side : Side) (es : List Effect)
    → IsTick P n l side es → filter_map opened_in es ≡ []
tick-opens_none P n l side es (stays none) = ap (filter_map opened_in) none
tick-opens_none P n l side es (loses x up silent same) = ap (filter_map opened_in) same
    ∙ opened-items _ (notices-items reasons.Lost (is_of_session l x) (owed P n))

-- nor does a restart
downs-open_none : (P : List Step) (n k : ℕ) → filter_map opened_in (downs_of P n k) ≡ []
downs-open_none P n zero = refl
downs-open_none P n (suc k) =
    filter_map-append opened_in (downs_of P n k) (down_if n (suc k) (up_session P n (suc k)))
    ∙ ap (λ xs. xs ++ filter_map opened_in (down_if n (suc k) (up_session P n (suc k))))
    (downs-open_none P n k)
    ∙ one (up_session P n (suc k))
  where
    one : (u : Option Session) → filter_map opened_in (down_if n (suc k) u) ≡ []
    one None = refl
    one (Some x) = refl

closings-open_none : (incs : List Inc) → filter_map opened_in (closings incs) ≡ []
closings-open_none [] = refl
closings-open_none (i ∷ incs) = closings-open_none incs

pub restarting-opens_none : (shape : Shape) (P : List Step) (n : ℕ)
    → filter_map opened_in (restarting shape P n) ≡ []
restarting-opens_none shape P n =
    filter_map-append opened_in (downs_of P n (length shape.links)) (closings (open_endpoints P n))
    ∙ ap (λ xs. xs ++ filter_map opened_in (closings (open_endpoints P n)))
    (downs-open_none P n (length shape.links))
    ∙ closings-open_none (open_endpoints P n)

-- AN OPENING OPENS the next incarnation of its maker's node, and no other step opens one
head-opens : (shape : Shape) (P : List Step) (node : ℕ) (me : Option Inc) (head : Head)
    (es : List Effect) → HasEffects shape P node me head es → KeepsPackets shape P head es
    → KeepsTicks shape P head es → filter_map opened_in es ≡ opened_next P node head
head-opens shape P node me (Restart n) es has packets ticks = ap (filter_map opened_in) has
    ∙ restarting-opens_none shape P n.0
head-opens shape P node me (Wire l from verdict) es has packets ticks =
    handed-opens_none (delivers verdict) P (node_at shape l (other_of from)) (node_at shape l from)
    l es packets
head-opens shape P node me (Tick l side) es has packets ticks =
    tick-opens_none P (node_at shape l side) l side es ticks
head-opens shape P node me head es has packets ticks = ap (filter_map opened_in) has
    ∙ effects-open P node me head

pub step-opens : (shape : Shape) (P : List Step) (s : Step) → IsLegalStep shape P s
    → filter_map opened_in s.effects ≡ opened_next P (node_by shape s.by) s.head
step-opens shape P s legal = head-opens shape P (node_by shape s.by) (endpoint_by P s.by) s.head
    s.effects legal.nodes.effects legal.packets legal.ticks

-- so a legal step is orderly
pub orderly-step : (shape : Shape) (P : List Step) (s : Step) → IsLegalStep shape P s
    → IsOrderlyStep shape P s
orderly-step shape P s legal = record {
  makers = legal.nodes.makers;
  endpoints = legal.nodes.endpoints;
  opens = step-opens shape P s legal;
}

-- and so is a legal run
pub orderly : (shape : Shape) (P : List Step) → IsLegal shape P → IsOrderly shape P
orderly shape [] legal = tt
orderly shape (s ∷ P) legal =
    (orderly shape P legal.0, orderly-step shape P s legal.1)

-- the next incarnation of a node is on it
pub next_on-home : (shape : Shape) (P : List Step) → IsLegal shape P → IsShort P → (node : ℕ)
    → node_of (next_on P node) ≡ node
next_on-home shape P legal = node_of-next_on shape P (orderly shape P legal)

-- each incarnation that was opened is below the next one of its node
pub opened-below : (shape : Shape) (P : List Step) → IsLegal shape P → IsShort P → (i : Inc)
    → list_any (same_inc i) (openings P) ≡ true → i.0 < (next_on P (node_of i)).0
opened-below shape [] legal short i is = absurd (true≢false (sym is))
opened-below shape (s ∷ P) legal short i is =
    let before : IsShort P = omega arith in
    elim (or_cases (list_any (same_inc i) (openings P))
    (list_any (same_inc i) (filter_map opened_in s.effects))
    (sym (list_any-append (same_inc i) (openings P) (filter_map opened_in s.effects))
    ∙ sym (ap (list_any (same_inc i))
    (filter_map-append opened_in (effects_of P) s.effects)) ∙ is)) [
      | inl was ↦ let low = opened-below shape P legal.0 before i was in omega arith
      | inr new ↦ opens_it (is_opening s.head) refl
          (sym (ap (list_any (same_inc i)) (step-opens shape P s legal.1)) ∙ new)
    ]
  where
    node : ℕ
    node = node_by shape s.by

    opens_it : (t : Bool) → is_opening s.head ≡ t
        → list_any (same_inc i) (cond t (next_on P node ∷ []) []) ≡ true
        → i.0 < (next_on (s ∷ P) (node_of i)).0
    opens_it false e among = absurd (true≢false (sym among))
    opens_it true e among =
        let short_before : IsShort P = omega arith in
        let same : i ≡ next_on P node = same_inc-true i (next_on P node)
        (sym (or-false (same_inc i (next_on P node))) ∙ among) in
        let home : node_of (next_on P node) ≡ node =
        next_on-home shape P legal.0 short_before node in
        let on : is_on node (next_on P node) ≡ true = eq-eqb (node_of (next_on P node)) node home in
        let one : opened_by node s.effects ≡ next_on P node ∷ [] =
        ap (filter (is_on node)) (step-opens shape P s legal.1
        ∙ ap (λ (b : Bool). cond b (next_on P node ∷ []) []) e)
        ∙ ap (λ (b : Bool). cond b (next_on P node ∷ []) []) on in
        let more : length (opened_by node s.effects) ≡ 1 = ap length one in
        let there : (next_on P node).0 < (next_on (s ∷ P) node).0 = omega arith in
        subst (λ (k : Inc). k.0 < (next_on (s ∷ P) (node_of k)).0) (sym same)
        (subst (λ (h : ℕ). (next_on P node).0 < (next_on (s ∷ P) h).0) (sym home) there)

-- so the next opening of a node is of a new one
pub opens-new : (shape : Shape) (P : List Step) → IsLegal shape P → IsShort P → (node : ℕ)
    → OpensNew P (Opened (next_on P node) ∷ [])
opens-new shape P legal short node i was =
    ap (λ t. t || false) (false_from_ne_true (same_inc i (next_on P node)) (λ is.
    let same : i ≡ next_on P node = same_inc-true i (next_on P node) is in
    let home : node_of (next_on P node) ≡ node = next_on-home shape P legal short node in
    let low : i.0 < (next_on P (node_of i)).0 = opened-below shape P legal short i was in
    let at : node_of i ≡ node = ap node_of same ∙ home in
    let lower : i.0 < (next_on P node).0 = subst (λ (h : ℕ). i.0 < (next_on P h).0) at low in
    let number : i.0 ≡ (next_on P node).0 = ap (λ (k : Inc). k.0) same in
    omega arith))

-- so a step leaves the name of each endpoint that was open before it
pub open-name : (shape : Shape) (P : List Step) (s : Step) → IsLegal shape P → IsShort P
    → IsLegalStep shape P s → (node : ℕ) (i : Inc) → is_alive P node (Here i) ≡ true
    → name_of (s ∷ P) i ≡ name_of P i
open-name shape P s legal short step node i was =
    ap (λ t. name_or_none (cond t (name_in s.head) (opening_name P i)))
    (sym (opened-any i s.effects) ∙ ap (list_any (same_inc i)) (step-opens shape P s step)
    ∙ by_opening (is_opening s.head))
  where
    by_opening : (t : Bool) → list_any (same_inc i)
        (cond t (next_on P (node_by shape s.by) ∷ []) []) ≡ false
    by_opening true = opens-new shape P legal short (node_by shape s.by) i
        (both_true (is_on node i) (list_any (same_inc i) (openings P))
        (open-opened P node i was)).1
    by_opening false = refl
