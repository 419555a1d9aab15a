-- What a legal step closes was opened before, so an endpoint that is open was never closed.
use Rattle.std.proofs.Common.{◌≡◌, ℕ, zero, suc, Bool, true, false, cond, ◌||◌, ◌⊎◌, inl, inr, List}
use Rattle.std.proofs.Common.{[], ◌∷◌, ◌++◌, length, Option, Some, None, refl, sym, ◌∙◌, ap, subst}
use Rattle.std.proofs.Common.{arith, filter_map, true≢false}
use Rattle.std.specs.List.{list_any}
use Rattle.std.proofs.Math.Bool.{or-false}
use Rattle.std.proofs.lemmas.Bool.{false_from_ne_true, or_cases, or_left, or_right}
use Rattle.std.proofs.lemmas.List.Elements.{filter_map-append}
use Rattle.std.proofs.lemmas.List.Folds.{list_any-append}
use Rattle.linx_base.specs.Numbers.{is_on}
use Rattle.linx_base.specs.Peers.{same_inc, same_peer}
use Rattle.linx_base.specs.Sides.{other_of}
use Rattle.linx_base.specs.declared.identity.Inc.{Inc}
use Rattle.linx_base.specs.declared.identity.LinkNo.{LinkNo}
use Rattle.linx_base.specs.declared.identity.Peer.{Peer}
use Rattle.linx_base.specs.declared.identity.Peer.TheVariants.{Here, There}
use Rattle.linx_base.specs.declared.identity.Session.{Session}
use Rattle.linx_base.specs.declared.identity.Side.{Side}
use Rattle.linx_base.specs.declared.name.Path.{Path}
use Rattle.linx_base.specs.declared.name.Path.TheVariants.{Local, Over}
use Rattle.linx_base.specs.declared.pending.PendingAttach.{PendingAttach}
use Rattle.linx_base.specs.SigNotes.{SigNote}
use Rattle.journal.specs.Effects.{notices, arrivals_of, attached, closings, ending, held_elsewhere}
use Rattle.journal.specs.Effects.{hunted}
use Rattle.journal.specs.History.{closes, effects_of, endpoint_by, endpoint_of, is_by, is_closed}
use Rattle.journal.specs.History.{last_opened, next_inc, open_endpoints, opened_by, opened_in}
use Rattle.journal.specs.History.{opened_on, openings}
use Rattle.journal.specs.Laws.{is_opening, attaching, effects_by, hunting_by, sending}
use Rattle.linx_base.specs.Pending.{is_of_session}
use Rattle.journal.specs.Living.{find, is_alive}
use Rattle.journal.specs.Pending.{hunting, owed}
use Rattle.journal.specs.Sessions.{up_session}
use Rattle.journal.specs.Shapes.{Shape, node_by}
use Rattle.journal.specs.declared.by.By.{By}
use Rattle.journal.specs.declared.by.By.TheVariants.{Actor, Pump}
use Rattle.journal.specs.declared.effect.Effect.{Effect}
use Rattle.journal.specs.declared.effect.Step.{Step}
use Rattle.journal.specs.declared.head.Head.{Head}
use Rattle.journal.specs.declared.head.Head.TheVariants.{Attach, Close, Ended, Hunt, Open, Restart}
use Rattle.journal.specs.declared.head.Head.TheVariants.{Send, Tick, Wire}
use Rattle.journal.proofs.Lists.{list_any-filter}
use Rattle.journal.proofs.Openings.{IsShort, last_in, last_opened-opens, next_on, same_inc-true}
use Rattle.journal.proofs.Openings.{unless_closed-some}
use Rattle.link_laws.specs.Brought.{Brought, arrives, brought_at, goes_down, goes_up, meets}
use Rattle.link_laws.specs.Brought.{nothing, parts}
use Rattle.link_laws.specs.Ends.{node_at}
use Rattle.link_laws.specs.Laws.{HasEffects, IsHandedOver, IsLegal, IsTick, KeepsPackets}
use Rattle.link_laws.specs.Laws.{KeepsTicks, delivers, down_if, downs_of, loses, stays}
use Rattle.trunk_record.proofs.Sayings.{same_inc-itself}
use Rattle.link_laws.proofs.Sides.WordsAfterStep.{AreItems, any-items, closes-items}
use Rattle.link_laws.proofs.Endpoints.Fresh.{opens-new, step-opens}
use Rattle.link_laws.proofs.Endpoints.OpenAfterStep.{both_true, open-opened, stays-unclosed}
use Rattle.link_laws.proofs.Endpoints.OpenAfterStep.{was_open_or_opened}
use Rattle.link_laws.proofs.AllLinks.OthersStay.{founds-items, notices-items}
use Rattle.linx_base.specs.declared.signal.Reason.TheVariants as reasons

-- the incarnation was opened, on whatever node
abbrev WasOpened : List Step → Inc → Type 0
WasOpened P i = list_any (same_inc i) (openings P) ≡ true

-- THE ENDPOINT OF AN ACTOR was opened
last_in-from : (e : Option Inc) (incs : List Inc) (j : Inc) → last_in e incs ≡ Some j
    → (e ≡ Some j) ⊎ (list_any (same_inc j) incs ≡ true)
last_in-from e [] j is = inl is
last_in-from e (i ∷ incs) j is =
    elim (last_in-from (Some i) incs j is) [
      | inl first ↦ let same : i ≡ j = cc in
          inr (or_left (same_inc j i) (list_any (same_inc j) incs) (ap (same_inc j) same
          ∙ same_inc-itself j))
      | inr later ↦ inr (or_right (same_inc j i) (list_any (same_inc j) incs) later)
    ]

opened-later : (P : List Step) (s : Step) (i : Inc)
    → WasOpened P i ⊎ (list_any (same_inc i) (filter_map opened_in s.effects) ≡ true)
    → WasOpened (s ∷ P) i
opened-later P s i either =
    ap (list_any (same_inc i)) (filter_map-append opened_in (effects_of P) s.effects)
    ∙ list_any-append (same_inc i) (openings P) (filter_map opened_in s.effects)
    ∙ elim either [
      | inl was ↦ or_left (list_any (same_inc i) (openings P))
          (list_any (same_inc i) (filter_map opened_in s.effects)) was
      | inr new ↦ or_right (list_any (same_inc i) (openings P))
          (list_any (same_inc i) (filter_map opened_in s.effects)) new
    ]

endpoint-opened : (P : List Step) (k : ℕ) (j : Inc) → endpoint_of P k ≡ Some j → WasOpened P j
endpoint-opened [] k j is = absurd cc
endpoint-opened (s ∷ P) k j is =
    by_maker (is_by s.by k) (endpoint-opened P k j)
    (unless_closed-some s.effects
    (cond (is_by s.by k) (last_opened (endpoint_of P k) s.effects) (endpoint_of P k)) j is).0
  where
    by_maker : (t : Bool) → (endpoint_of P k ≡ Some j → WasOpened P j)
        → cond t (last_opened (endpoint_of P k) s.effects) (endpoint_of P k) ≡ Some j
        → WasOpened (s ∷ P) j
    by_maker false before had = opened-later P s j (inl (before had))
    by_maker true before last =
        elim (last_in-from (endpoint_of P k) (filter_map opened_in s.effects) j
        (sym (last_opened-opens (endpoint_of P k) s.effects) ∙ last)) [
          | inl had ↦ opened-later P s j (inl (before had))
          | inr new ↦ opened-later P s j (inr new)
        ]

maker-opened : (P : List Step) (by : By) (j : Inc) → endpoint_by P by ≡ Some j → WasOpened P j
maker-opened P (Actor k) j is = endpoint-opened P k j is
maker-opened P (Pump l) j is = absurd cc

-- WHAT A STEP CLOSES was opened before
module _ (P : List Step) (i : Inc) where
  no_items : (items : List Effect) → AreItems items → list_any (closes i) items ≡ true
      → WasOpened P i
  no_items items are is = absurd (true≢false (sym is
      ∙ any-items (closes i) (closes-items i) items are))

  abbrev told : Inc → List PendingAttach → List Effect
  told j attaches = notices reasons.Closed (same_peer (Here j)) (held_elsewhere j attaches)

  ending-closes : (me : Option Inc) → ((j : Inc) → me ≡ Some j → WasOpened P j)
      → (attaches : List PendingAttach) → list_any (closes i) (ending me attaches) ≡ true
      → WasOpened P i
  ending-closes None own attaches is = absurd (true≢false (sym is))
  ending-closes (Some j) own attaches is =
      elim (or_cases (same_inc i j) (list_any (closes i) (told j attaches)) is) [
        | inl same ↦ subst (WasOpened P) (sym (same_inc-true i j same)) (own j refl)
        | inr later ↦ no_items (told j attaches) (notices-items reasons.Closed (same_peer (Here j))
            (held_elsewhere j attaches)) later
      ]

  sending-closes : (node : ℕ) (me : Option Inc) (q : Peer) (note : SigNote)
      → list_any (closes i) (sending P node me q note) ≡ true → WasOpened P i
  sending-closes node None q note is = absurd (true≢false (sym is))
  sending-closes node (Some j) q note is = by_life (is_alive P node q) q is
    where
      by_life : (t : Bool) (p : Peer) → list_any (closes i) (arrivals_of j note t p) ≡ true
          → WasOpened P i
      by_life false p none = absurd (true≢false (sym none))
      by_life true (Here k) none = absurd (true≢false (sym none))
      by_life true (There l x k) none = absurd (true≢false (sym none))

  hunting-closes : (node : ℕ) (me : Option Inc) (path : Path) (note : SigNote)
      → list_any (closes i) (hunting_by P node me path note) ≡ true → WasOpened P i
  hunting-closes node None path note is = absurd (true≢false (sym is))
  hunting-closes node (Some j) path note is = by_found (find P node path) is
    where
      by_found : (q : Option Peer) → list_any (closes i)
          (hunted q (record { at = j; path = path; signal = note; number = suc (length P) })) ≡ true
          → WasOpened P i
      by_found None none = absurd (true≢false (sym none))
      by_found (Some q) none = absurd (true≢false (sym none))

  attaching-closes : (node : ℕ) (me : Option Inc) (q : Peer) (note : SigNote)
      → list_any (closes i) (attaching P node me q note) ≡ true → WasOpened P i
  attaching-closes node None q note is = absurd (true≢false (sym is))
  attaching-closes node (Some j) q note is = by_life (is_alive P node q) is
    where
      by_life : (t : Bool) → list_any (closes i) (attached t
          (record { at = j; peer = q; signal = note; reference = record { 0 = suc (length P) } }))
          ≡ true → WasOpened P i
      by_life true none = absurd (true≢false (sym none))
      by_life false none = absurd (true≢false (sym none))

  brought-closes : (n : ℕ) (l : LinkNo) (what : Brought)
      → list_any (closes i) (brought_at P n l what) ≡ true → WasOpened P i
  brought-closes n l nothing is = absurd (true≢false (sym is))
  brought-closes n l (goes_up x y) is = absurd (true≢false (sym is))
  brought-closes n l (goes_down x) is = no_items _
      (notices-items reasons.Lost (is_of_session l x) (owed P n)) is
  brought-closes n l (arrives x a b note) is = absurd (true≢false (sym is))
  brought-closes n l (meets x a name) is = no_items _
      (founds-items (Over l name) (There l x a) (hunting P n)) is
  brought-closes n l (parts x a) is = no_items _
      (notices-items reasons.Closed (same_peer (There l x a)) (owed P n)) is

  handed-closes : (t : Bool) (n m : ℕ) (l : LinkNo) (es : List Effect) → IsHandedOver t P n m l es
      → list_any (closes i) es ≡ true → WasOpened P i
  handed-closes true n m l es packet is = brought-closes n l packet.what
      (sym (ap (list_any (closes i)) packet.effects) ∙ is)
  handed-closes false n m l es none is = absurd
      (true≢false (sym is ∙ ap (list_any (closes i)) none))

  tick-closes : (n : ℕ) (l : LinkNo) (side : Side) (es : List Effect) → IsTick P n l side es
      → list_any (closes i) es ≡ true → WasOpened P i
  tick-closes n l side es (stays none) is = absurd
      (true≢false (sym is ∙ ap (list_any (closes i)) none))
  tick-closes n l side es (loses x up silent same) is =
      no_items _ (notices-items reasons.Lost (is_of_session l x) (owed P n))
      (sym (ap (list_any (closes i)) same) ∙ is)

  downs-close_none : (n k : ℕ) → list_any (closes i) (downs_of P n k) ≡ false
  downs-close_none n zero = refl
  downs-close_none n (suc k) =
      list_any-append (closes i) (downs_of P n k) (down_if n (suc k) (up_session P n (suc k)))
      ∙ ap (λ t. t || list_any (closes i) (down_if n (suc k) (up_session P n (suc k))))
      (downs-close_none n k)
      ∙ one (up_session P n (suc k))
    where
      one : (u : Option Session) → list_any (closes i) (down_if n (suc k) u) ≡ false
      one None = refl
      one (Some x) = refl

  closings-any : (incs : List Inc) → list_any (closes i) (closings incs)
      ≡ list_any (same_inc i) incs
  closings-any [] = refl
  closings-any (j ∷ incs) = ap (λ t. same_inc i j || t) (closings-any incs)

  restart-closes : (shape : Shape) (n : ℕ) → list_any (closes i) (downs_of P n (length shape.links)
      ++ closings (open_endpoints P n)) ≡ true → WasOpened P i
  restart-closes shape n is =
      elim (or_cases (list_any (closes i) (downs_of P n (length shape.links)))
      (list_any (closes i) (closings (open_endpoints P n)))
      (sym (list_any-append (closes i) (downs_of P n (length shape.links))
      (closings (open_endpoints P n))) ∙ is)) [
        | inl down ↦ absurd (true≢false (sym down ∙ downs-close_none n (length shape.links)))
        | inr closed ↦ (both_true (is_on n i) (list_any (same_inc i) (openings P))
            (open-opened P n i (sym (closings-any (open_endpoints P n))
            ∙ closed))).1
      ]

  effects-close : (node : ℕ) (me : Option Inc) → ((j : Inc) → me ≡ Some j → WasOpened P j)
      → (head : Head) → list_any (closes i) (effects_by P node me head) ≡ true → WasOpened P i
  effects-close node me own (Open name) is = no_items _
      (founds-items (Local name) (Here (next_inc node (opened_on P node))) (hunting P node)) is
  effects-close node me own Close is = ending-closes me own (owed P node) is
  effects-close node me own (Send q note answer) is = sending-closes node me q note is
  effects-close node me own (Hunt path note) is = hunting-closes node me path note is
  effects-close node me own (Attach q note) is = attaching-closes node me q note is
  effects-close node me own (Restart n) is = (both_true (is_on n.0 i)
      (list_any (same_inc i) (openings P)) (open-opened P n.0 i
      (sym (closings-any (open_endpoints P n.0)) ∙ is))).1
  effects-close node me own Ended is = ending-closes me own (owed P node) is
  effects-close node me own _ is = absurd (true≢false (sym is))

head-closes : (shape : Shape) (P : List Step) (node : ℕ) (me : Option Inc) (head : Head)
    (es : List Effect) (i : Inc) → HasEffects shape P node me head es → KeepsPackets shape P head es
    → KeepsTicks shape P head es → ((j : Inc) → me ≡ Some j → WasOpened P j)
    → list_any (closes i) es ≡ true → WasOpened P i
head-closes shape P node me (Restart n) es i has packets ticks own is =
    restart-closes P i shape n.0 (sym (ap (list_any (closes i)) has) ∙ is)
head-closes shape P node me (Wire l from verdict) es i has packets ticks own is =
    handed-closes P i (delivers verdict) (node_at shape l (other_of from)) (node_at shape l from) l
    es packets is
head-closes shape P node me (Tick l side) es i has packets ticks own is =
    tick-closes P i (node_at shape l side) l side es ticks is
head-closes shape P node me head es i has packets ticks own is =
    effects-close P i node me own head (sym (ap (list_any (closes i)) has) ∙ is)

-- WHO WAS CLOSED had been opened
pub closed-opened : (shape : Shape) (P : List Step) → IsLegal shape P → (i : Inc)
    → is_closed P i ≡ true → WasOpened P i
closed-opened shape [] legal i is = absurd (true≢false (sym is))
closed-opened shape (s ∷ P) legal i is =
    elim (or_cases (is_closed P i) (list_any (closes i) s.effects)
    (sym (list_any-append (closes i) (effects_of P) s.effects) ∙ is)) [
      | inl was ↦ opened-later P s i (inl (closed-opened shape P legal.0 i was))
      | inr now ↦ opened-later P s i (inl (head-closes shape P (node_by shape s.by)
          (endpoint_by P s.by) s.head s.effects i
          legal.1.nodes.effects legal.1.packets legal.1.ticks (maker-opened P s.by) now))
    ]

-- AN OPEN ENDPOINT was never closed
pub open-unclosed : (shape : Shape) (P : List Step) → IsLegal shape P → IsShort P
    → (n : ℕ) (i : Inc) → is_alive P n (Here i) ≡ true → is_closed P i ≡ false
open-unclosed shape [] legal short n i is = absurd (true≢false (sym is))
open-unclosed shape (s ∷ P) legal short n i is =
    list_any-append (closes i) (effects_of P) s.effects
    ∙ ap (λ t. is_closed P i || t) (stays-unclosed P s n i is) ∙ or-false (is_closed P i)
    ∙ elim (was_open_or_opened P s n i is) [
      | inl was ↦ open-unclosed shape P legal.0 before n i was
      | inr new ↦ false_from_ne_true (is_closed P i)
          (λ closed. not_new (closed-opened shape P legal.0 i closed) new)
    ]
  where
    before : IsShort P
    before = omega arith

    next : Inc
    next = next_on P (node_by shape s.by)

    -- what is opened now wasn't opened before
    not_new : WasOpened P i → list_any (same_inc i) (opened_by n s.effects) ≡ true → ⊥
    not_new was new = by_opening (is_opening s.head)
        (sym (ap (list_any (same_inc i)) (step-opens shape P s legal.1))
        ∙ list_any-filter (same_inc i) (is_on n) (filter_map opened_in s.effects) new)
      where
        by_opening : (t : Bool) → list_any (same_inc i) (cond t (next ∷ []) []) ≡ true → ⊥
        by_opening false among = true≢false (sym among)
        by_opening true among = true≢false (sym among
            ∙ opens-new shape P legal.0 before (node_by shape s.by) i was)
