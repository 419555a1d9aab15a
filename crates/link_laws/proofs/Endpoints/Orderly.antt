-- The endpoints of an orderly run: what holds of them by who makes each step, who opens, and what a
-- step opens, whatever else the laws say.
use Rattle.std.proofs.Common.{◌≡◌, ℕ, zero, suc, ◌<◌, ◌≤◌, Bool, true, false, not, cond, ◌||◌, ◌⊎◌}
use Rattle.std.proofs.Common.{inl, inr, List, [], ◌∷◌, ◌++◌, append-nil, length, Option, Some, None}
use Rattle.std.proofs.Common.{is_none, refl, sym, ap, ◌∙◌, subst, arith, if◌then◌else◌, filter}
use Rattle.std.proofs.Common.{filter_map, eq-eqb, eqb-true, ne_eqb, true≢false}
use Rattle.std.specs.List.{list_any, AllByRecursion}
use Rattle.std.proofs.lemmas.Bool.{cases_eq, cond_both, false_from_ne_true, not-true, or_left}
use Rattle.std.proofs.lemmas.Bool.{or_parts, true_from_ne_false}
use Rattle.linx_base.specs.Numbers.{is_on, node_of}
use Rattle.linx_base.specs.Peers.{same_inc}
use Rattle.linx_base.specs.declared.identity.Inc.{Inc}
use Rattle.linx_base.specs.declared.identity.LinkNo.{LinkNo}
use Rattle.linx_base.specs.declared.identity.Peer.{Peer}
use Rattle.linx_base.specs.declared.name.Path.{Path}
use Rattle.linx_base.specs.declared.pending.PendingAttach.{PendingAttach}
use Rattle.linx_base.specs.declared.pending.PendingHunt.{PendingHunt}
use Rattle.linx_base.specs.SigNotes.{SigNote}
use Rattle.journal.specs.History.{closes, endpoint_by, endpoint_of, is_by, last_opened}
use Rattle.journal.specs.History.{open_endpoints, opened_by, opened_in, opened_on, unless_closed}
use Rattle.journal.specs.Laws.{KeepsEndpoints, KeepsMakers, is_opening, may_make}
use Rattle.journal.specs.Pending.{answers_hunt, attach_at, attach_in, detaches, ends_hunt, hunt_at}
use Rattle.journal.specs.Pending.{hunt_in, hunting, notifies, owed, ends_attach}
use Rattle.journal.specs.Shapes.{Shape, node_by}
use Rattle.journal.specs.Traffic.{is_endpoint}
use Rattle.journal.specs.declared.by.By.{By}
use Rattle.journal.specs.declared.by.By.TheVariants.{Actor, Pump}
use Rattle.journal.specs.declared.effect.Step.{Step}
use Rattle.journal.specs.declared.head.Head.{Head}
use Rattle.journal.specs.declared.head.Head.TheVariants.{Attach, Hunt, Open}
use Rattle.journal.proofs.Lists.{all-append, all-filter, all-impl, filter-all, list_any-filter}
use Rattle.journal.proofs.Lists.{list_any-one}
use Rattle.journal.proofs.Openings.{IsBelow, IsOpenAt, IsShort, OpensBy, Owner, Rising, all-among}
use Rattle.journal.proofs.Openings.{endpoint_opened, is_by-actor, last_in, last_opened-opens}
use Rattle.journal.proofs.Openings.{list_any-passed, list_any-passing, next_on, open-after}
use Rattle.journal.proofs.Openings.{same_inc-refl, same_inc-true, unless_closed-some}
use Rattle.link_laws.proofs.Endpoints.OpenAfterStep.{open-on, stays-unclosed, was_open_or_opened}

-- ORDERLY STEPS. What a step of this head opens: the next incarnation of its maker's node where it
-- is an opening, and else nothing
abbrev pub opened_next : List Step → ℕ → Head → List Inc
opened_next P node head = if is_opening head then next_on P node ∷ [] else []

-- a step is orderly after the steps P: its maker may make it, who opens has no endpoint, and it
-- opens what its head opens
pub record IsOrderlyStep (shape : Shape) (P : List Step) (s : Step) : Type 0 where
  pub makers : KeepsMakers shape P s.by s.head
  pub endpoints : KeepsEndpoints (endpoint_by P s.by) s.head
  pub opens : filter_map opened_in s.effects ≡ opened_next P (node_by shape s.by) s.head

-- a run is orderly: each step is, after the steps before it
abbrev pub IsOrderly : Shape → List Step → Type 0
IsOrderly shape [] = Unit {0}
IsOrderly shape (s ∷ P) = IsOrderly shape P × IsOrderlyStep shape P s

last_in-one : (e : Option Inc) (i : Inc) (opens : Bool)
    → last_in e (cond opens (i ∷ []) []) ≡ cond opens (Some i) e
last_in-one e i true = refl
last_in-one e i false = refl

-- what it opens on a node, and what it opens last
module _ (shape : Shape) (P : List Step) (s : Step) (step : IsOrderlyStep shape P s) where
  opens_on : (node : ℕ) → opened_by node s.effects
      ≡ filter (is_on node) (opened_next P (node_by shape s.by) s.head)
  opens_on node = ap (filter (is_on node)) step.opens

  opens_last : (e : Option Inc) → last_opened e s.effects ≡
      (if is_opening s.head then Some (next_on P (node_by shape s.by)) else e)
  opens_last e =
      last_opened-opens e s.effects ∙ ap (last_in e) step.opens
      ∙ last_in-one e (next_on P (node_by shape s.by)) (is_opening s.head)

one_at_most : (p : Inc → Bool) (i : Inc) (opens : Bool)
    → length (filter p (cond opens (i ∷ []) [])) ≤ 1
one_at_most p i false = omega arith
one_at_most p i true = elim (p i) as (λ b. length (cond b (i ∷ []) []) ≤ 1) [
  | true ↦ omega arith
  | false ↦ omega arith
]

-- a step opens at most one
pub opened_on-few : (shape : Shape) (P : List Step) → IsOrderly shape P → (node : ℕ)
    → opened_on P node ≤ length P
opened_on-few shape [] orderly node = omega arith
opened_on-few shape (s ∷ P) orderly node =
    let before = opened_on-few shape P orderly.0 node in
    let one = one_at_most (is_on node) (next_on P (node_by shape s.by)) (is_opening s.head) in
    let new = ap length (opens_on shape P s orderly.1 node) in
    omega arith

-- the next incarnation of a node is on it, and on no other
module _ (shape : Shape) (P : List Step) (orderly : IsOrderly shape P) (short : IsShort P)
    (node : ℕ) where
  pub node_of-next_on : node_of (next_on P node) ≡ node
  node_of-next_on =
      let few = opened_on-few shape P orderly node in
      omega arith

  pub next_on-is_on : is_on node (next_on P node) ≡ true
  next_on-is_on = eq-eqb (node_of (next_on P node)) node node_of-next_on

  pub next_on-one_node : (other : ℕ) → is_on other (next_on P node) ≡ true → other ≡ node
  next_on-one_node other is =
      sym (eqb-true (node_of (next_on P node)) other is) ∙ node_of-next_on

-- a step opens on a node its next incarnation, or none
pub opened_by-next : (shape : Shape) (P : List Step) (s : Step) → IsOrderly shape P → IsShort P
    → IsOrderlyStep shape P s → (node : ℕ)
    → (opened_by node s.effects ≡ []) ⊎ (opened_by node s.effects ≡ next_on P node ∷ [])
opened_by-next shape P s orderly short step node =
    subst Next (sym (opens_on shape P s step node)) (by_opening (is_opening s.head))
  where
    by : ℕ
    by = node_by shape s.by

    Next : List Inc → Type 0
    Next incs = (incs ≡ []) ⊎ (incs ≡ next_on P node ∷ [])

    by_opening : (t : Bool) → Next (filter (is_on node) (cond t (next_on P by ∷ []) []))
    by_opening true =
        cond_both (is_on node (next_on P by)) (next_on P by ∷ []) [] Next
        (λ is. inr (ap (λ n. next_on P n ∷ [])
        (sym (next_on-one_node shape P orderly short by node is))))
        (λ off. inl refl)
    by_opening false = inl refl

-- RISING NUMBERS. Incarnations that rise do so in a part of them, and with one above them
rising-filter : (p : Inc → Bool) (incs : List Inc) → Rising incs → Rising (filter p incs)
rising-filter p [] rising = tt
rising-filter p (i ∷ incs) rising =
    elim (p i) as (λ b. Rising (cond b (i ∷ filter p incs) (filter p incs))) [
      | true ↦ (all-filter (λ j. i.0 < j.0) p incs rising.0, rising-filter p incs rising.1)
      | false ↦ rising-filter p incs rising.1
    ]

rising-push : (incs : List Inc) (new : Inc) → Rising incs
    → AllByRecursion (λ i. i.0 < new.0) incs → Rising (incs ++ new ∷ [])
rising-push [] new rising below = (tt, tt)
rising-push (i ∷ incs) new rising below = (
  all-append (λ j. i.0 < j.0) incs (new ∷ []) rising.0 (below.0, tt),
  rising-push incs new rising.1 below.1,
)

-- the open endpoints of a node are incarnations of it below its next one
pub open-below : (shape : Shape) (P : List Step) → IsOrderly shape P → IsShort P → (node : ℕ)
    → AllByRecursion (IsBelow P node) (open_endpoints P node)
open-below shape [] orderly short node = tt
open-below shape (s ∷ P) orderly short node =
    let short_before : IsShort P = omega arith in
    let incs : List Inc = opened_by node s.effects in
    let old : AllByRecursion (IsBelow (s ∷ P) node) (open_endpoints P node) =
    all-impl (IsBelow P node) (IsBelow (s ∷ P) node) (λ i h. (h.0, omega arith))
    (open_endpoints P node) (open-below shape P orderly.0 short_before node) in
    let new : AllByRecursion (IsBelow (s ∷ P) node) incs =
    elim (opened_by-next shape P s orderly.0 short_before orderly.1 node) [
      | inl none ↦ subst (AllByRecursion (IsBelow (s ∷ P) node)) (sym none) tt
      | inr one ↦
          let more : length incs ≡ 1 = ap length one in
          let below : (next_on P node).0 < (next_on (s ∷ P) node).0 = omega arith in
          subst (AllByRecursion (IsBelow (s ∷ P) node)) (sym one)
          ((next_on-is_on shape P orderly.0 short_before node, below), tt)
    ]
    in
    all-filter (IsBelow (s ∷ P) node) _ (open_endpoints P node ++ incs)
    (all-append (IsBelow (s ∷ P) node) (open_endpoints P node) incs old new)

-- they stand in the order of their numbers, which is that of opening
pub open-rising : (shape : Shape) (P : List Step) → IsOrderly shape P → IsShort P → (node : ℕ)
    → Rising (open_endpoints P node)
open-rising shape [] orderly short node = tt
open-rising shape (s ∷ P) orderly short node =
    let short_before : IsShort P = omega arith in
    let before : List Inc = open_endpoints P node in
    let old : Rising before = open-rising shape P orderly.0 short_before node in
    let new : Rising (before ++ opened_by node s.effects) =
    elim (opened_by-next shape P s orderly.0 short_before orderly.1 node) [
      | inl none ↦ subst (λ incs. Rising (before ++ incs)) (sym none)
          (subst Rising (sym (append-nil before)) old)
      | inr one ↦ subst (λ incs. Rising (before ++ incs)) (sym one)
          (rising-push before (next_on P node) old
          (all-impl (IsBelow P node) (λ i. i.0 < (next_on P node).0) (λ i h. h.1) before
          (open-below shape P orderly.0 short_before node)))
    ]
    in
    rising-filter _ (before ++ opened_by node s.effects) new

-- THE ENDPOINT OF AN ACTOR is the one that it had, or the one that its step opens
pub endpoint_opened-from : (shape : Shape) (P : List Step) (s : Step) → IsOrderlyStep shape P s
    → (k : ℕ) (j : Inc) → endpoint_opened P s k ≡ Some j
    → (endpoint_of P k ≡ Some j) ⊎ OpensBy shape P s k j
endpoint_opened-from shape P s step k j is =
    cond_both (is_by s.by k) (last_opened before s.effects) before (λ e. e ≡ Some j → Known)
    (λ by some.
    opened (is_by-actor s.by k by) (sym (opens_last shape P s step before) ∙ some))
    (λ other some. inl some) is
  where
    before : Option Inc
    before = endpoint_of P k

    Known : Type 0
    Known = (before ≡ Some j) ⊎ OpensBy shape P s k j

    next : Inc
    next = next_on P (node_by shape s.by)

    opened : s.by ≡ Actor k → cond (is_opening s.head) (Some next) before ≡ Some j → Known
    opened by =
        cond_both (is_opening s.head) (Some next) before (λ e. e ≡ Some j → Known)
        (λ opens some.
        let same : next ≡ j = cc in
        inr (record {
          by = by;
          opens = opens;
          next = sym same ∙ ap (λ maker. next_on P (node_by shape maker)) by;
        }))
        (λ none some. inl some)

-- it is among the open ones of its node
pub endpoint-open : (shape : Shape) (P : List Step) → IsOrderly shape P → IsShort P
    → (k : ℕ) (j : Inc) → endpoint_of P k ≡ Some j
    → list_any (same_inc j) (open_endpoints P (node_by shape (Actor k))) ≡ true
endpoint-open shape [] orderly short k j is = absurd cc
endpoint-open shape (s ∷ P) orderly short k j is =
    let short_before : IsShort P = omega arith in
    let node : ℕ = node_by shape (Actor k) in
    let kept = unless_closed-some s.effects (endpoint_opened P s k) j is in
    open-after P s node j kept.1
    elim (endpoint_opened-from shape P s orderly.1 k j kept.0) [
      | inl had ↦ inl (endpoint-open shape P orderly.0 short_before k j had)
      | inr new ↦
          let next : Inc = next_on P node in
          let opens : filter_map opened_in s.effects ≡ next ∷ [] =
          orderly.1.opens
          ∙ ap (λ b. cond b (next_on P (node_by shape s.by) ∷ []) []) new.opens
          ∙ ap (λ maker. next_on P (node_by shape maker) ∷ []) new.by in
          let among : list_any (same_inc next) (filter_map opened_in s.effects) ≡ true =
          ap (list_any (same_inc next)) opens ∙ or_left (same_inc next next) false
          (same_inc-refl next) in
          inr (subst (λ i. list_any (same_inc i) (opened_by node s.effects) ≡ true) (sym new.next)
          (list_any-passing (is_on node) next (filter_map opened_in s.effects) among
          (next_on-is_on shape P orderly.0 short_before node)))
    ]

-- and on its node
pub endpoint-on : (shape : Shape) (P : List Step) → IsOrderly shape P → IsShort P
    → (k : ℕ) (j : Inc) → endpoint_of P k ≡ Some j → is_on (node_by shape (Actor k)) j ≡ true
endpoint-on shape P orderly short k j is =
    open-on P (node_by shape (Actor k)) j (endpoint-open shape P orderly short k j is)

-- OWNERS. A pump opens no endpoint
pump-opens_none : (link : LinkNo) (head : Head) → may_make (Pump link) head ≡ true
    → is_opening head ≡ false
pump-opens_none link (Open name) may = absurd (true≢false (sym may))
pump-opens_none link _ may = refl

-- the maker of an opening is an actor of the shape
opening-actor : (shape : Shape) (P : List Step) (by : By) (head : Head)
    → KeepsMakers shape P by head → is_opening head ≡ true
    → (k : ℕ) × (0 < k) × (k ≤ length shape.actors) × (by ≡ Actor k)
opening-actor shape P (Actor k) head keeps opens = (k, keeps.maker.0, keeps.maker.1, refl)
opening-actor shape P (Pump link) head keeps opens =
    absurd (true≢false (sym opens ∙ pump-opens_none link head keeps.may))

-- who has an endpoint opens none
owner-opens_none : (me : Option Inc) (i : Inc) (head : Head) → KeepsEndpoints me head
    → me ≡ Some i → is_opening head ≡ false
owner-opens_none me i head keeps is =
    false_from_ne_true (is_opening head) (λ opens.
    true≢false (sym (keeps.opens opens) ∙ ap is_none is))

-- an endpoint that its owner has and that a step doesn't close is still its owner's
endpoint-stays : (shape : Shape) (P : List Step) (s : Step) → IsOrderlyStep shape P s
    → (k : ℕ) (i : Inc) → endpoint_of P k ≡ Some i → list_any (closes i) s.effects ≡ false
    → endpoint_of (s ∷ P) k ≡ Some i
endpoint-stays shape P s step k i had stays =
    let before : Option Inc = endpoint_of P k in
    let opened : endpoint_opened P s k ≡ Some i =
    cond_both (is_by s.by k) (last_opened before s.effects) before (λ e. e ≡ Some i)
    (λ by.
    let me : endpoint_by P s.by ≡ Some i = ap (endpoint_by P) (is_by-actor s.by k by) ∙ had in
    opens_last shape P s step before
    ∙ ap (λ c. cond c (Some (next_on P (node_by shape s.by))) before)
    (owner-opens_none (endpoint_by P s.by) i s.head step.endpoints me)
    ∙ had)
    (λ other. had)
    in
    ap (unless_closed s.effects) opened ∙ ap (λ b. cond b None (Some i)) stays

-- the maker of an opening owns what it opens
owned-new : (shape : Shape) (P : List Step) (s : Step) → IsOrderlyStep shape P s
    → (node : ℕ) (i : Inc) → list_any (same_inc i) (opened_by node s.effects) ≡ true
    → list_any (closes i) s.effects ≡ false → Owner shape (s ∷ P) i
owned-new shape P s step node i new stays =
    let next : Inc = next_on P (node_by shape s.by) in
    let among : list_any (same_inc i) (cond (is_opening s.head) (next ∷ []) []) ≡ true =
    sym (ap (list_any (same_inc i)) step.opens)
    ∙ list_any-filter (same_inc i) (is_on node) (filter_map opened_in s.effects) new in
    let opens : is_opening s.head ≡ true =
    true_from_ne_false (is_opening s.head) (λ none.
    true≢false (sym among ∙ ap (λ b. list_any (same_inc i) (cond b (next ∷ []) [])) none)) in
    let same : i ≡ next =
    same_inc-true i next (list_any-one (same_inc i) next (cond (is_opening s.head) (next ∷ []) [])
    (ap (λ b. cond b (next ∷ []) []) opens) among) in
    let maker = opening-actor shape P s.by s.head step.makers opens in
    let mine : is_by s.by maker.0 ≡ true =
    ap (λ by. is_by by maker.0) maker.3 ∙ eq-eqb maker.0 maker.0 refl in (
      maker.0,
      maker.1,
      maker.2,
      ap (unless_closed s.effects)
          (ap (λ b. cond b (last_opened (endpoint_of P maker.0) s.effects) (endpoint_of P maker.0))
          mine
          ∙ opens_last shape P s step (endpoint_of P maker.0)
          ∙ ap (λ b. cond b (Some next) (endpoint_of P maker.0)) opens
          ∙ ap Some (sym same))
          ∙ ap (λ b. cond b None (Some i)) stays,
    )

-- each open endpoint has an owner
pub owned : (shape : Shape) (P : List Step) → IsOrderly shape P → IsShort P → (node : ℕ) (i : Inc)
    → list_any (same_inc i) (open_endpoints P node) ≡ true → Owner shape P i
owned shape [] orderly short node i is = absurd (true≢false (sym is))
owned shape (s ∷ P) orderly short node i is =
    let short_before : IsShort P = omega arith in
    let stays = stays-unclosed P s node i is in
    elim (was_open_or_opened P s node i is) [
      | inl had ↦
          let owner = owned shape P orderly.0 short_before node i had in (
            owner.0,
            owner.1,
            owner.2,
            endpoint-stays shape P s orderly.1 owner.0 i owner.3 stays,
          )
      | inr new ↦ owned-new shape P s orderly.1 node i new stays
    ]

is_endpoint-true : (i : Inc) (e : Option Inc) → is_endpoint i e ≡ true → e ≡ Some i
is_endpoint-true i None is = absurd (true≢false (sym is))
is_endpoint-true i (Some j) is = ap Some (sym (same_inc-true i j is))

-- of rising incarnations at most one is this endpoint
one-endpoint : (e : Option Inc) (incs : List Inc) → Rising incs
    → length incs ≤ suc (length (filter (λ i. not (is_endpoint i e)) incs))
one-endpoint e [] rising = omega arith
one-endpoint e (i ∷ incs) rising =
    let others : Inc → Bool = λ j. not (is_endpoint j e) in
    let rest : List Inc = filter others incs in
    let go : (b : Bool) → is_endpoint i e ≡ b
    → suc (length incs) ≤ suc (length (cond (not b) (i ∷ rest) rest)) = λ b.
    elim b as (λ c. is_endpoint i e ≡ c
    → suc (length incs) ≤ suc (length (cond (not c) (i ∷ rest) rest))) [
      | true ↦ λ is.
          let other : (j : Inc) → i.0 < j.0 → others j ≡ true = λ j above.
          ap (λ x. not (is_endpoint j x)) (is_endpoint-true i e is)
          ∙ ap not (ne_eqb j.0 i.0 (λ same. absurd (omega arith))) in
          let all : length rest ≡ length incs =
          ap length (filter-all others incs
          (all-impl (λ j. i.0 < j.0) (λ j. others j ≡ true) other incs rising.0)) in
          omega arith
      | false ↦ λ is. let fewer = one-endpoint e incs rising.1 in omega arith
    ]
    in
    go (is_endpoint i e) refl

-- of incarnations with an owner among n there are at most n
pigeonhole : (f : ℕ → Option Inc) (n : ℕ) (incs : List Inc) → Rising incs
    → ((i : Inc) → list_any (same_inc i) incs ≡ true
    → (k : ℕ) × (0 < k) × (k ≤ n) × (f k ≡ Some i))
    → length incs ≤ n
pigeonhole f zero [] rising own = omega arith
pigeonhole f zero (i ∷ incs) rising own =
    let owner = own i (or_left (same_inc i i) (list_any (same_inc i) incs) (same_inc-refl i)) in
    let low = owner.1 in
    let high = owner.2 in
    absurd (omega arith)
pigeonhole f (suc n) incs rising own =
    let one = one-endpoint (f (suc n)) incs rising in
    let rest = pigeonhole f n (filter others incs) (rising-filter others incs rising) below in
    omega arith
  where
    others : Inc → Bool
    others i = not (is_endpoint i (f (suc n)))

    below : (i : Inc) → list_any (same_inc i) (filter others incs) ≡ true
        → (k : ℕ) × (0 < k) × (k ≤ n) × (f k ≡ Some i)
    below i is =
        let owner = own i (list_any-filter (same_inc i) others incs is) in
        let apart : is_endpoint i (f (suc n)) ≡ false =
        not-true (is_endpoint i (f (suc n))) (list_any-passed others i incs is) in
        let last : owner.0 ≡ suc n → ⊥ = λ same.
        true≢false (sym (same_inc-refl i)
        ∙ sym (ap (is_endpoint i) (ap f (sym same) ∙ owner.3)) ∙ apart) in
        let high = owner.2 in
        let within : owner.0 ≤ n = elim (cases_eq owner.0 (suc n)) [
          | inl same ↦ absurd (last same)
          | inr other ↦ omega arith
        ]
        in
        (owner.0, owner.1, within, owner.3)

-- a node has at most as many open endpoints as there are actors
pub open-few : (shape : Shape) (P : List Step) → IsOrderly shape P → IsShort P → (node : ℕ)
    → length (open_endpoints P node) ≤ length shape.actors
open-few shape P orderly short node =
    pigeonhole (endpoint_of P) (length shape.actors) (open_endpoints P node)
    (open-rising shape P orderly short node) (owned shape P orderly short node)

-- NO TWO ACTORS HAVE ONE ENDPOINT
module _ (shape : Shape) (P : List Step) (orderly : IsOrderly shape P) (short : IsShort P) where
  -- what an actor has isn't opened by the next step
  had-not_next : (m : ℕ) (j : Inc) (node : ℕ) → endpoint_of P m ≡ Some j → j ≡ next_on P node → ⊥
  had-not_next m j node had next =
      let home : ℕ = node_by shape (Actor m) in
      let low : IsBelow P home j = all-among (IsBelow P home) j (open_endpoints P home)
      (open-below shape P orderly short home) (endpoint-open shape P orderly short m j had) in
      let at : node_of j ≡ home = eqb-true (node_of j) home low.0 in
      let few = opened_on-few shape P orderly node in
      let number : j.0 ≡ (next_on P node).0 = ap (λ (x : Inc). x.0) next in
      let same : home ≡ node = omega arith in
      let again : (next_on P home).0 ≡ (next_on P node).0 = ap (λ (n : ℕ). (next_on P n).0) same in
      omega arith

pub endpoints-differ : (shape : Shape) (P : List Step) → IsOrderly shape P → IsShort P
    → (k m : ℕ) (j : Inc) → endpoint_of P k ≡ Some j → endpoint_of P m ≡ Some j → k ≡ m
endpoints-differ shape [] orderly short k m j one other = cc
endpoints-differ shape (s ∷ P) orderly short k m j one other =
    let before : IsShort P = omega arith in
    let first = unless_closed-some s.effects (endpoint_opened P s k) j one in
    let second = unless_closed-some s.effects (endpoint_opened P s m) j other in
    go (endpoints-differ shape P orderly.0 before k m j)
    (endpoint_opened-from shape P s orderly.1 k j first.0)
    (endpoint_opened-from shape P s orderly.1 m j second.0)
  where
    actors : (a b : ℕ) → s.by ≡ Actor a → s.by ≡ Actor b → a ≡ b
    actors a b x y = let both : Actor a ≡ Actor b = sym x ∙ y in cc

    go : (endpoint_of P k ≡ Some j → endpoint_of P m ≡ Some j → k ≡ m)
        → (endpoint_of P k ≡ Some j) ⊎ OpensBy shape P s k j
        → (endpoint_of P m ≡ Some j) ⊎ OpensBy shape P s m j → k ≡ m
    go both (inl had) (inl has) = both had has
    go both (inl had) (inr new) = absurd (had-not_next shape P orderly.0 (omega arith) k j
        (node_by shape (Actor m)) had new.next)
    go both (inr new) (inl has) = absurd (had-not_next shape P orderly.0 (omega arith) m j
        (node_by shape (Actor k)) has new.next)
    go both (inr new) (inr other) = actors k m new.by other.by

-- HUNTERS AND HOLDERS ARE OPEN. The maker's endpoint, where it is one of the node
maker-open : (shape : Shape) (P : List Step) → IsOrderly shape P → IsShort P
    → (by : By) (node : ℕ) (j : Inc)
    → endpoint_by P by ≡ Some j → is_on node j ≡ true → IsOpenAt P node j
maker-open shape P orderly short (Pump link) node j is on = absurd cc
maker-open shape P orderly short (Actor k) node j is on =
    let home : ℕ = node_by shape (Actor k) in
    let at : is_on home j ≡ true = endpoint-on shape P orderly short k j is in
    let same : home ≡ node = sym (eqb-true (node_of j) home at) ∙ eqb-true (node_of j) node on in
    subst (λ (n : ℕ). IsOpenAt P n j) same (endpoint-open shape P orderly short k j is)

-- what a step begins on a node is of an open endpoint
module _ (shape : Shape) (P : List Step) (orderly : IsOrderly shape P) (short : IsShort P) (by : By)
    (node k : ℕ) where
  begun-one : {X : Type 0} (at : X → Inc) (x : X) → endpoint_by P by ≡ Some (at x)
      → AllByRecursion (λ y. IsOpenAt P node (at y)) (cond (is_on node (at x)) (x ∷ []) [])
  begun-one at x is =
      cond_both (is_on node (at x)) (x ∷ []) [] (AllByRecursion (λ y. IsOpenAt P node (at y)))
      (λ on. (maker-open shape P orderly short by node (at x) is on, tt)) (λ off. tt)

  begun-hunt : (path : Path) (note : SigNote) (me : Option Inc) → endpoint_by P by ≡ me
      → AllByRecursion (λ h. IsOpenAt P node h.at) (hunt_at node k me path note)
  begun-hunt path note None is = tt
  begun-hunt path note (Some j) is =
      begun-one (λ (h : PendingHunt). h.at)
      (record { at = j; path = path; signal = note; number = k }) is

  begun-hunts : (head : Head) → AllByRecursion (λ h. IsOpenAt P node h.at)
      (hunt_in node k (endpoint_by P by) head)
  begun-hunts (Hunt path note) = begun-hunt path note (endpoint_by P by) refl
  begun-hunts _ = tt

  begun-attach : (q : Peer) (note : SigNote) (me : Option Inc) → endpoint_by P by ≡ me
      → AllByRecursion (λ a. IsOpenAt P node a.at) (attach_at node k me q note)
  begun-attach q note None is = tt
  begun-attach q note (Some j) is =
      begun-one (λ (a : PendingAttach). a.at)
      (record { at = j; peer = q; signal = note; reference = record { 0 = k } }) is

  begun-attaches : (head : Head) → AllByRecursion (λ a. IsOpenAt P node a.at)
      (attach_in node k (endpoint_by P by) head)
  begun-attaches (Attach q note) = begun-attach q note (endpoint_by P by) refl
  begun-attaches _ = tt

-- what isn't closed stays open
stays-open : {X : Type 0} (at : X → Inc) (keep : X → Bool) (P : List Step) (s : Step) (node : ℕ)
    → ((x : X) → keep x ≡ true → list_any (closes (at x)) s.effects ≡ false)
    → (xs : List X) → AllByRecursion (λ x. IsOpenAt P node (at x)) xs
    → AllByRecursion (λ x. IsOpenAt (s ∷ P) node (at x)) (filter keep xs)
stays-open at keep P s node kept [] all = tt
stays-open at keep P s node kept (x ∷ xs) all =
    let rest = stays-open at keep P s node kept xs all.1 in
    cond_both (keep x) (x ∷ filter keep xs) (filter keep xs)
    (AllByRecursion (λ x. IsOpenAt (s ∷ P) node (at x)))
    (λ yes. (open-after P s node (at x) (kept x yes) (inl all.0), rest)) (λ no. rest)

pub hunters-open : (shape : Shape) (P : List Step) → IsOrderly shape P → IsShort P → (node : ℕ)
    → AllByRecursion (λ h. IsOpenAt P node h.at) (hunting P node)
hunters-open shape [] orderly short node = tt
hunters-open shape (s ∷ P) orderly short node =
    let before : IsShort P = omega arith in
    let k : ℕ = suc (length P) in
    let begun : List PendingHunt = hunt_in node k (endpoint_by P s.by) s.head in
    stays-open (λ h. h.at) (λ h. not (ends_hunt s.effects h)) P s node
    (λ h keep. (or_parts (list_any (answers_hunt h) s.effects) (list_any
    (closes h.at) s.effects) (not-true (ends_hunt s.effects h) keep)).1)
    (hunting P node ++ begun)
    (all-append (λ h. IsOpenAt P node h.at) (hunting P node) begun
    (hunters-open shape P orderly.0 before node)
    (begun-hunts shape P orderly.0 before s.by node k s.head))

pub holders-open : (shape : Shape) (P : List Step) → IsOrderly shape P → IsShort P → (node : ℕ)
    → AllByRecursion (λ a. IsOpenAt P node a.at) (owed P node)
holders-open shape [] orderly short node = tt
holders-open shape (s ∷ P) orderly short node =
    let before : IsShort P = omega arith in
    let k : ℕ = suc (length P) in
    let me : Option Inc = endpoint_by P s.by in
    let begun : List PendingAttach = attach_in node k me s.head in
    stays-open (λ a. a.at) (λ a. not (ends_attach me s.head s.effects a)) P s node
    (λ a keep. (or_parts (list_any (notifies a) s.effects || detaches me s.head a) (list_any
    (closes a.at) s.effects) (not-true (ends_attach me s.head s.effects a) keep)).1)
    (owed P node ++ begun)
    (all-append (λ a. IsOpenAt P node a.at) (owed P node) begun
    (holders-open shape P orderly.0 before node)
    (begun-attaches shape P orderly.0 before s.by node k s.head))
