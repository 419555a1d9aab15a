-- In a legal journal an attach that is owed a notification is between living: whatever ends its
-- peer notifies it, or closes its holder too.
use Rattle.std.proofs.Common.{◌≡◌, ℕ, zero, suc, Bool, true, false, cond, not, ◌||◌, ◌&&◌, inl, inr}
use Rattle.std.proofs.Common.{List, [], ◌∷◌, ◌++◌, length, map, Option, Some, None, refl, sym, ◌∙◌}
use Rattle.std.proofs.Common.{ap, subst, arith, ◌==◌, filter, fold, eq-eqb, eqb-true, true≢false}
use Rattle.std.specs.List.{list_any, AllByRecursion}
use Rattle.std.proofs.lemmas.Bool.{false_from_ne_true, or_cases, or_left, or_parts, or_right}
use Rattle.std.proofs.lemmas.List.Folds.{list_any-append}
use Rattle.linx_base.specs.Numbers.{is_on, node_of}
use Rattle.linx_base.specs.Peers.{same_inc, same_peer}
use Rattle.linx_base.specs.Pending.{is_of_session}
use Rattle.linx_base.specs.Sides.{other_of}
use Rattle.linx_base.specs.declared.identity.Inc.{Inc}
use Rattle.linx_base.specs.declared.identity.LinkNo.{LinkNo}
use Rattle.linx_base.specs.declared.identity.Peer.{Peer}
use Rattle.linx_base.specs.declared.identity.Peer.TheVariants.{Here, There}
use Rattle.linx_base.specs.declared.identity.Session.{Session}
use Rattle.linx_base.specs.declared.identity.Side.{Side}
use Rattle.linx_base.specs.declared.name.Path.TheVariants.{Local, Over}
use Rattle.linx_base.specs.declared.pending.MetPeer.{MetPeer}
use Rattle.linx_base.specs.declared.pending.PendingAttach.{PendingAttach}
use Rattle.linx_base.specs.declared.pending.PendingHunt.{PendingHunt}
use Rattle.linx_base.specs.declared.signal.Reason.{Reason}
use Rattle.linx_base.specs.declared.signal.Reason.TheVariants as reasons
use Rattle.linx_base.specs.SigNotes.{SigNote}
use Rattle.journal.specs.Effects.{arrivals_of, attached, closing, closings, ending, held_elsewhere}
use Rattle.journal.specs.Effects.{hunted, notice, notices}
use Rattle.journal.specs.History.{closes, endpoint_by, open_endpoints, next_inc, opened_on}
use Rattle.journal.specs.Living.{find, is_alive, is_met, living, living_after}
use Rattle.journal.specs.Pending.{attach_in, detaches, hunting, notifies, owed, ends_attach}
use Rattle.journal.specs.Sessions.{up_session}
use Rattle.journal.specs.Shapes.{Shape, node_by}
use Rattle.journal.specs.declared.effect.Effect.{Effect}
use Rattle.journal.specs.declared.effect.Effect.TheVariants.{Closed, Down, Gone, Met}
use Rattle.journal.specs.declared.effect.Step.{Step}
use Rattle.journal.specs.declared.head.Head.{Head}
use Rattle.journal.specs.declared.head.Head.TheVariants.{Attach, Close, Ended, Hunt, Open, Restart}
use Rattle.journal.specs.declared.head.Head.TheVariants.{Send, Tick, Wire}
use Rattle.journal.proofs.Lists.{all-append, all-impl, filter-filter}
use Rattle.journal.proofs.Openings.{IsOpenAt, IsShort, open-after, same_inc-refl, same_inc-true}
use Rattle.link_laws.specs.Brought.{Brought, arrives, brought_at, goes_down, goes_up, meets}
use Rattle.link_laws.specs.Brought.{nothing, parts}
use Rattle.link_laws.specs.Ends.{node_at}
use Rattle.link_laws.specs.Laws.{HasEffects, IsHandedOver, IsLegal, IsLegalStep, IsTick}
use Rattle.link_laws.specs.Laws.{KeepsPackets, KeepsTicks, delivers, down_if, downs_of, loses}
use Rattle.link_laws.specs.Laws.{restarting, stays}
use Rattle.link_laws.specs.Runs.{AllBetweenLiving, IsBetweenLiving}
use Rattle.link_laws.proofs.Sides.Untouched.{any-off, fewer-off, same_peer-is, second_fails}
use Rattle.link_laws.proofs.Sides.WordsAfterStep.{any-items, is_item}
use Rattle.link_laws.proofs.Endpoints.OpenAfterStep.{both_true, open-on}
use Rattle.link_laws.proofs.Endpoints.Places.{holders-open}
use Rattle.link_laws.proofs.AllLinks.OthersStay.{founds-items, notices-items}
use Rattle.link_laws.proofs.Hunts.UnfoundPeers.{all-both, all-each, all-kept, all-passed}
use Rattle.link_laws.proofs.Hunts.UnfoundPeers.{maker-home}

-- WHAT ENDS A PEER at a node: its endpoint is closed, it goes, or its session goes down
abbrev ends_at : ℕ → Peer → Effect → Bool
ends_at n q (Closed i) = same_peer q (Here i)
ends_at n q (Gone k p) = k.0 == n && same_peer p q
ends_at n q (Down k l x) = k.0 == n && is_of_session l x q
ends_at n q _ = false

-- an effect ends somebody
abbrev is_end_of : Effect → Bool
is_end_of (Closed i) = true
is_end_of (Gone k p) = true
is_end_of (Down k l x) = true
is_end_of _ = false

abbrev EndsNone : List Effect → Type 0
EndsNone es = list_any is_end_of es ≡ false

ends-none : (n : ℕ) (q : Peer) (e : Effect) → is_end_of e ≡ false → ends_at n q e ≡ false
ends-none n q (Closed i) none = absurd (true≢false none)
ends-none n q (Gone k p) none = absurd (true≢false none)
ends-none n q (Down k l x) none = absurd (true≢false none)
ends-none n q _ none = refl

items-end_none : (e : Effect) → is_item e ≡ true → is_end_of e ≡ false
items-end_none (Closed i) is = absurd (true≢false (sym is))
items-end_none (Gone k p) is = absurd (true≢false (sym is))
items-end_none (Down k l x) is = absurd (true≢false (sym is))
items-end_none _ is = refl

items-spare : (n : ℕ) (q : Peer) (e : Effect) → is_item e ≡ true → ends_at n q e ≡ false
items-spare n q e is = ends-none n q e (items-end_none e is)

-- A PEER LIVES ON past effects that don't end it
met-on : (n : ℕ) (l : LinkNo) (x : Session) (a : Inc) (z : List MetPeer) (es : List Effect)
    → is_met z (There l x a) ≡ true → list_any (ends_at n (There l x a)) es ≡ false
    → is_met (fold (living_after n) z es) (There l x a) ≡ true
met-on n l x a z [] was none = was
met-on n l x a z (e ∷ es) was none =
    let both = or_parts (ends_at n q e) (list_any (ends_at n q) es) none in
    met-on n l x a (living_after n z e) es (one e both.0) both.1
  where
    q : Peer
    q = There l x a

    more : (t : Bool) (m : MetPeer) → is_met (cond t (z ++ m ∷ []) z) q ≡ true
    more true m = list_any-append (λ k. same_peer q k.peer) z (m ∷ [])
        ∙ or_left (is_met z q) (is_met (m ∷ []) q) was
    more false m = was

    fewer : (t : Bool) (ended : Peer → Bool) → (t && ended q) ≡ false
        → is_met (cond t (filter (λ m. not (ended m.peer)) z) z) q ≡ true
    fewer t ended spared = fewer-off t q (λ m. not (ended m.peer))
        (λ m on is. ap (λ p. not (ended p)) (same_peer-is l x a m.peer is)
        ∙ ap not (second_fails t (ended q) spared on)) z ∙ was

    one : (e : Effect) → ends_at n q e ≡ false → is_met (living_after n z e) q ≡ true
    one (Met k p name) spared = more (k.0 == n) (record { peer = p; name = name })
    one (Gone k p) spared = fewer (k.0 == n) (same_peer p) spared
    one (Down k m y) spared = fewer (k.0 == n) (is_of_session m y) spared
    one _ spared = was

lives-on : (P : List Step) (s : Step) (n : ℕ) (q : Peer) → is_alive P n q ≡ true
    → list_any (ends_at n q) s.effects ≡ false → is_alive (s ∷ P) n q ≡ true
lives-on P s n (There l x a) was none = met-on n l x a (living P n) s.effects was none
lives-on P s n (Here i) was none =
    open-after P s n i (any-off (ends_at n (Here i)) (closes i) closed s.effects none) (inl was)
  where
    closed : (e : Effect) → ends_at n (Here i) e ≡ false → closes i e ≡ false
    closed (Closed j) spared = spared
    closed _ spared = refl

-- AN ATTACH IS TOLD of the end of its peer: it is notified, or its holder is closed
abbrev is_told : List Effect → PendingAttach → Bool
is_told es a = list_any (notifies a) es || list_any (closes a.at) es

abbrev IsToldOfEnd : ℕ → List Effect → PendingAttach → Type 0
IsToldOfEnd n es a = list_any (ends_at n a.peer) es ≡ true → is_told es a ≡ true

-- so where it stays owed it isn't told
untold : (me : Option Inc) (head : Head) (es : List Effect) (a : PendingAttach)
    → not (ends_attach me head es a) ≡ true → is_told es a ≡ true → ⊥
untold me head es a kept told =
    by_tests (list_any (notifies a) es) (detaches me head a) (list_any (closes a.at) es) kept told
  where
    by_tests : (s t u : Bool) → not (s || t || u) ≡ true → (s || u) ≡ true → ⊥
    by_tests true t u kept told = true≢false (sym kept)
    by_tests false true u kept told = true≢false (sym kept)
    by_tests false false true kept told = true≢false (sym kept)
    by_tests false false false kept told = true≢false (sym told)

-- a notice notifies its attach
notice-notifies : (reason : Reason) (a : PendingAttach) → notifies a (notice reason a) ≡ true
notice-notifies reason a =
    ap (λ t. t && same_inc a.at a.at) (eq-eqb a.reference.0 a.reference.0 refl)
    ∙ same_inc-refl a.at

-- those whose peer ends are notified
notices-tell : (reason : Reason) (ended : Peer → Bool) (owes : List PendingAttach)
    → AllByRecursion (λ a. ended a.peer ≡ true
    → list_any (notifies a) (notices reason ended owes) ≡ true) owes
notices-tell reason ended owes =
    all-passed notifies (notice reason) (notice-notifies reason) (λ a. ended a.peer) owes

-- what ends a peer in an effect with its notices is the effect
before-notices : (n : ℕ) (q : Peer) (e : Effect) (reason : Reason) (ended : Peer → Bool)
    (owes : List PendingAttach) → list_any (ends_at n q) (e ∷ notices reason ended owes) ≡ true
    → ends_at n q e ≡ true
before-notices n q e reason ended owes is =
    elim (or_cases (ends_at n q e) (list_any (ends_at n q) (notices reason ended owes)) is) [
      | inl it ↦ it
      | inr item ↦ absurd (true≢false (sym item ∙ any-items (ends_at n q) (items-spare n q) _
          (notices-items reason ended owes)))
    ]

-- WHAT ELSE A NODE DOES ends nobody
arrivals-end_none : (j : Inc) (note : SigNote) (alive : Bool) (q : Peer)
    → EndsNone (arrivals_of j note alive q)
arrivals-end_none j note false q = refl
arrivals-end_none j note true (Here i) = refl
arrivals-end_none j note true (There l x i) = refl

hunted-ends_none : (q : Option Peer) (h : PendingHunt) → EndsNone (hunted q h)
hunted-ends_none None h = refl
hunted-ends_none (Some q) h = refl

attached-ends_none : (alive : Bool) (a : PendingAttach) → EndsNone (attached alive a)
attached-ends_none true a = refl
attached-ends_none false a = refl

-- CLOSINGS end and close those that they close
closings-end : (n : ℕ) (i : Inc) (incs : List Inc)
    → list_any (ends_at n (Here i)) (closings incs) ≡ list_any (same_inc i) incs
closings-end n i [] = refl
closings-end n i (j ∷ incs) = ap (λ t. same_inc i j || t) (closings-end n i incs)

closings-close : (i : Inc) (incs : List Inc)
    → list_any (closes i) (closings incs) ≡ list_any (same_inc i) incs
closings-close i [] = refl
closings-close i (j ∷ incs) = ap (λ t. same_inc i j || t) (closings-close i incs)

module _ (shape : Shape) (P : List Step) (n : ℕ)
    (between : AllByRecursion (IsBetweenLiving P n) (owed P n)) where
  -- the attaches of the node are told by these effects
  abbrev AllTold : List Effect → Type 0
  AllTold es = AllByRecursion (IsToldOfEnd n es) (owed P n)

  none-told : (es : List Effect) → EndsNone es → AllTold es
  none-told es none = all-each (IsToldOfEnd n es)
      (λ a is. absurd (true≢false (sym is ∙ any-off is_end_of (ends_at n a.peer)
      (ends-none n a.peer) es none))) (owed P n)

  -- AN END AT NODE K of the peers that pass a test, with its notices, tells them
  end-tells : (k : ℕ) (e : Effect) (reason : Reason) (ended : Peer → Bool)
      → ((q : Peer) → ends_at n q e ≡ (k == n && ended q))
      → AllTold (e ∷ notices reason ended (owed P k))
  end-tells k e reason ended ends =
      all-impl _ _ (λ a tells is.
      let both = both_true (k == n) (ended a.peer)
      (sym (ends a.peer) ∙ before-notices n a.peer e reason ended (owed P k) is) in
      or_left (list_any (notifies a) (e ∷ notices reason ended (owed P k))) _
      (or_right (notifies a e) _
      (ap (λ (h : ℕ). list_any (notifies a) (notices reason ended (owed P h)))
      (eqb-true k n both.0) ∙ tells both.1)))
      (owed P n) (notices-tell reason ended (owed P n))

  -- A CLOSING tells the attaches to the endpoint that others hold, and takes away its own
  closing-tells : (k : ℕ) (j : Inc) → is_on k j ≡ true → AllTold (closing j (owed P k))
  closing-tells k j on =
      all-both (IsBetweenLiving P n) IsNotified (IsToldOfEnd n (closing j (owed P k))) one
      (owed P n) between
      (all-passed notifies (notice reasons.Closed) (notice-notifies reasons.Closed) is_others
      (owed P n))
    where
      -- an attach to the endpoint that another holds
      is_others : PendingAttach → Bool
      is_others a = not (same_inc j a.at) && same_peer (Here j) a.peer

      IsNotified : PendingAttach → Type 0
      IsNotified a = is_others a ≡ true → list_any (notifies a)
          (map (notice reasons.Closed) (filter is_others (owed P n))) ≡ true

      by_holder : (a : PendingAttach) → n ≡ k → a.peer ≡ Here j → IsNotified a → (t : Bool)
          → same_inc j a.at ≡ t → is_told (closing j (owed P k)) a ≡ true
      by_holder a at peer tells true own =
          or_right (list_any (notifies a) (closing j (owed P k))) _
          (or_left (same_inc a.at j) _
          (ap (same_inc a.at) (same_inc-true j a.at own) ∙ same_inc-refl a.at))
      by_holder a at peer tells false other =
          or_left (list_any (notifies a) (closing j (owed P k))) _
          (ap (λ (h : ℕ). list_any (notifies a)
          (notices reasons.Closed (same_peer (Here j)) (held_elsewhere j (owed P h)))) (sym at)
          ∙ ap (λ bs. list_any (notifies a) (map (notice reasons.Closed) bs))
          (filter-filter (λ b. same_peer (Here j) b.peer) (λ b. not (same_inc j b.at)) (owed P n))
          ∙ tells (ap (λ t. not t && same_peer (Here j) a.peer) other
          ∙ ap (same_peer (Here j)) peer ∙ same_inc-refl j))

      here-is : (q : Peer) → same_peer q (Here j) ≡ true → q ≡ Here j
      here-is (Here i) same = ap Here (same_inc-true i j same)
      here-is (There l x i) same = absurd (true≢false (sym same))

      one : (a : PendingAttach) → IsBetweenLiving P n a → IsNotified a
          → IsToldOfEnd n (closing j (owed P k)) a
      one a alive tells is =
          let peer : a.peer ≡ Here j = here-is a.peer (before-notices n a.peer (Closed j)
          reasons.Closed (same_peer (Here j)) (held_elsewhere j (owed P k)) is) in
          let home : is_on n j ≡ true = open-on P n j
          (subst (λ (q : Peer). is_alive P n q ≡ true) peer alive.peer) in
          by_holder a (sym (eqb-true (node_of j) n home) ∙ eqb-true (node_of j) k on) peer tells
          (same_inc j a.at) refl

  ending-tells : (k : ℕ) (me : Option Inc) → ((j : Inc) → me ≡ Some j → is_on k j ≡ true)
      → AllTold (ending me (owed P k))
  ending-tells k None on = none-told [] refl
  ending-tells k (Some j) on = closing-tells k j (on j refl)

  -- A RESTART closes every holder of its node, and ends nobody at another one
  downs-home : (k : ℕ) (q : Peer) (links : ℕ) → list_any (ends_at n q) (downs_of P k links) ≡ true
      → k ≡ n
  downs-home k q zero is = absurd (true≢false (sym is))
  downs-home k q (suc l) is =
      elim (or_cases (list_any (ends_at n q) (downs_of P k l)) _
      (sym (list_any-append (ends_at n q) (downs_of P k l)
      (down_if k (suc l) (up_session P k (suc l)))) ∙ is)) [
        | inl before ↦ downs-home k q l before
        | inr last ↦ one (up_session P k (suc l)) last
      ]
    where
      one : (u : Option Session) → list_any (ends_at n q) (down_if k (suc l) u) ≡ true → k ≡ n
      one None is = absurd (true≢false (sym is))
      one (Some x) is = elim (or_cases (k == n && is_of_session (record { 0 = suc l }) x q) false
          is) [
            | inl it ↦ eqb-true k n (both_true (k == n)
                (is_of_session (record { 0 = suc l }) x q) it).0
            | inr none ↦ absurd (true≢false (sym none))
          ]

  closings-home : (k : ℕ) (q : Peer) → is_alive P n q ≡ true
      → list_any (ends_at n q) (closings (open_endpoints P k)) ≡ true → k ≡ n
  closings-home k (There l x i) alive is = absurd (true≢false (sym is ∙ none (open_endpoints P k)))
    where
      none : (incs : List Inc) → list_any (ends_at n (There l x i)) (closings incs) ≡ false
      none [] = refl
      none (j ∷ incs) = none incs
  closings-home k (Here i) alive is =
      let there : is_on k i ≡ true =
      open-on P k i (sym (closings-end n i (open_endpoints P k)) ∙ is) in
      sym (eqb-true (node_of i) k there) ∙ eqb-true (node_of i) n (open-on P n i alive)

  restarting-tells : (k : ℕ) → AllTold (restarting shape P k)
  restarting-tells k = all-impl (IsBetweenLiving P n) _ one (owed P n) between
    where
      home : (a : PendingAttach) → IsBetweenLiving P n a
          → list_any (ends_at n a.peer) (restarting shape P k) ≡ true → k ≡ n
      home a alive is =
          elim (or_cases (list_any (ends_at n a.peer) (downs_of P k (length shape.links))) _
          (sym (list_any-append (ends_at n a.peer) (downs_of P k (length shape.links))
          (closings (open_endpoints P k))) ∙ is)) [
            | inl down ↦ downs-home k a.peer (length shape.links) down
            | inr closed ↦ closings-home k a.peer alive.peer closed
          ]

      one : (a : PendingAttach) → IsBetweenLiving P n a → IsToldOfEnd n (restarting shape P k) a
      one a alive is =
          or_right (list_any (notifies a) (restarting shape P k)) _
          (list_any-append (closes a.at) (downs_of P k (length shape.links))
          (closings (open_endpoints P k))
          ∙ or_right (list_any (closes a.at) (downs_of P k (length shape.links))) _
          (closings-close a.at (open_endpoints P k)
          ∙ ap (λ (h : ℕ). list_any (same_inc a.at) (open_endpoints P h)) (home a alive is)
          ∙ alive.holder))

  -- A PACKET AND A TICK tell whom they end
  losing-tells : (k : ℕ) (l : LinkNo) (x : Session)
      → AllTold (Down (record { 0 = k }) l x ∷ notices reasons.Lost (is_of_session l x) (owed P k))
  losing-tells k l x = end-tells k (Down (record { 0 = k }) l x) reasons.Lost (is_of_session l x)
      (λ q. refl)

  brought-tells : (k : ℕ) (l : LinkNo) (what : Brought) → AllTold (brought_at P k l what)
  brought-tells k l nothing = none-told [] refl
  brought-tells k l (goes_up x y) = none-told (brought_at P k l (goes_up x y)) refl
  brought-tells k l (goes_down x) = losing-tells k l x
  brought-tells k l (arrives x a b note) = none-told (brought_at P k l (arrives x a b note)) refl
  brought-tells k l (meets x a name) = none-told (brought_at P k l (meets x a name))
      (any-items is_end_of items-end_none _
      (founds-items (Over l name) (There l x a) (hunting P k)))
  brought-tells k l (parts x a) = end-tells k (Gone (record { 0 = k }) (There l x a)) reasons.Closed
      (same_peer (There l x a)) (λ q. refl)

  handed-tells : (t : Bool) (k m : ℕ) (l : LinkNo) (es : List Effect) → IsHandedOver t P k m l es
      → AllTold es
  handed-tells true k m l es packet = subst AllTold (sym packet.effects)
      (brought-tells k l packet.what)
  handed-tells false k m l es none = subst AllTold (sym none) (none-told [] refl)

  tick-tells : (k : ℕ) (l : LinkNo) (side : Side) (es : List Effect) → IsTick P k l side es
      → AllTold es
  tick-tells k l side es (stays none) = subst AllTold (sym none) (none-told [] refl)
  tick-tells k l side es (loses x up silent same) = subst AllTold (sym same) (losing-tells k l x)

  step-tells : (node : ℕ) (me : Option Inc) → ((j : Inc) → me ≡ Some j → is_on node j ≡ true)
      → (head : Head) (es : List Effect) → HasEffects shape P node me head es
      → KeepsPackets shape P head es → KeepsTicks shape P head es → AllTold es
  step-tells node me home (Open name) es has packets ticks =
      none-told es (ap (list_any is_end_of) has ∙ any-items is_end_of items-end_none _
      (founds-items (Local name) (Here (next_inc node (opened_on P node))) (hunting P node)))
  step-tells node me home Close es has packets ticks =
      subst AllTold (sym has) (ending-tells node me home)
  step-tells node None home (Send q note answer) es has packets ticks =
      none-told es (ap (list_any is_end_of) has)
  step-tells node (Some j) home (Send q note answer) es has packets ticks =
      none-told es (ap (list_any is_end_of) has
      ∙ arrivals-end_none j note (is_alive P node q) q)
  step-tells node None home (Hunt path note) es has packets ticks =
      none-told es (ap (list_any is_end_of) has)
  step-tells node (Some j) home (Hunt path note) es has packets ticks =
      none-told es (ap (list_any is_end_of) has ∙ hunted-ends_none (find P node path)
      (record { at = j; path = path; signal = note; number = suc (length P) }))
  step-tells node None home (Attach q note) es has packets ticks =
      none-told es (ap (list_any is_end_of) has)
  step-tells node (Some j) home (Attach q note) es has packets ticks =
      none-told es (ap (list_any is_end_of) has ∙ attached-ends_none (is_alive P node q)
      (record { at = j; peer = q; signal = note; reference = record { 0 = suc (length P) } }))
  step-tells node me home (Restart k) es has packets ticks =
      subst AllTold (sym has) (restarting-tells k.0)
  step-tells node me home (Wire l from verdict) es has packets ticks =
      handed-tells (delivers verdict) (node_at shape l (other_of from)) (node_at shape l from) l es
      packets
  step-tells node me home (Tick l side) es has packets ticks =
      tick-tells (node_at shape l side) l side es ticks
  step-tells node me home Ended es has packets ticks =
      subst AllTold (sym has) (ending-tells node me home)
  step-tells node me home head es has packets ticks =
      none-told es (ap (list_any is_end_of) has)

-- the peer of an attach is alive
abbrev IsOfLiving : List Step → ℕ → PendingAttach → Type 0
IsOfLiving P n a = is_alive P n a.peer ≡ true

-- the attach that a step begins is of a living peer, or is told at once
module _ (shape : Shape) (P : List Step) (s : Step) (n : ℕ) (legal : IsLegal shape P)
    (short : IsShort P) (step : IsLegalStep shape P s) where
  abbrev node : ℕ
  node = node_by shape s.by

  abbrev Goes : PendingAttach → Type 0
  Goes a = not (ends_attach (endpoint_by P s.by) s.head s.effects a) ≡ true → IsOfLiving (s ∷ P) n a

  goes_on : (a : PendingAttach) → IsOfLiving P n a → IsToldOfEnd n s.effects a → Goes a
  goes_on a alive told kept =
      lives-on P s n a.peer alive
      (false_from_ne_true (list_any (ends_at n a.peer) s.effects) (λ is.
      untold (endpoint_by P s.by) s.head s.effects a kept (told is)))

  begun : (head : Head) → s.head ≡ head → (me : Option Inc) → endpoint_by P s.by ≡ me
      → AllByRecursion Goes (attach_in n (suc (length P)) me head)
  begun (Attach q note) head None me = tt
  begun (Attach q note) head (Some j) me = by_node (is_on n j) refl
    where
      a : PendingAttach
      a = record { at = j; peer = q; signal = note; reference = record { 0 = suc (length P) } }

      effects : s.effects ≡ attached (is_alive P node q) a
      effects = subst (λ (t : Head). HasEffects shape P node (Some j) t s.effects) head
          (subst (λ (m : Option Inc). HasEffects shape P node m s.head s.effects) me
          step.nodes.effects)

      by_peer : node ≡ n → (t : Bool) → is_alive P node q ≡ t → Goes a
      by_peer at true alive kept =
          lives-on P s n q (subst (λ (k : ℕ). is_alive P k q ≡ true) at alive)
          (ap (list_any (ends_at n q)) (effects ∙ ap (λ t. attached t a) alive))
      by_peer at false dead kept =
          absurd (untold (endpoint_by P s.by) s.head s.effects a kept
          (or_left (list_any (notifies a) s.effects) _
          (ap (list_any (notifies a)) (effects ∙ ap (λ t. attached t a) dead)
          ∙ or_left (notifies a (notice reasons.Dead a)) false (notice-notifies reasons.Dead a))))

      by_node : (t : Bool) → is_on n j ≡ t → AllByRecursion Goes (cond t (a ∷ []) [])
      by_node true on =
          let home : is_on node j ≡ true = maker-home shape P legal short s.by j me in (
            by_peer (sym (eqb-true (node_of j) node home) ∙ eqb-true (node_of j) n on)
                (is_alive P node q) refl,
            tt,
          )
      by_node false off = tt
  begun _ head me is = tt

-- EACH ATTACH that is owed a notification is of a living peer
of-living : (shape : Shape) (P : List Step) → IsLegal shape P → IsShort P → (n : ℕ)
    → AllByRecursion (IsOfLiving P n) (owed P n)
of-living shape [] legal short n = tt
of-living shape (s ∷ P) legal short n =
    let before : IsShort P = omega arith in
    let was : AllByRecursion (IsOfLiving P n) (owed P n) = of-living shape P legal.0 before n in
    all-kept (IsOfLiving (s ∷ P) n) (λ a. not (ends_attach (endpoint_by P s.by) s.head s.effects a)) _
    (all-append (Goes shape P s n legal.0 before legal.1) (owed P n) _
    (all-both (IsOfLiving P n) (IsToldOfEnd n s.effects) (Goes shape P s n legal.0 before legal.1)
    (goes_on shape P s n legal.0 before legal.1) (owed P n) was
    (step-tells shape P n
    (all-both (IsOfLiving P n) (λ a. IsOpenAt P n a.at) (IsBetweenLiving P n)
    (λ a alive open_. record { holder = open_; peer = alive }) (owed P n) was
    (holders-open shape P legal.0 before n))
    (node_by shape s.by) (endpoint_by P s.by) (maker-home shape P legal.0 before s.by) s.head
    s.effects legal.1.nodes.effects legal.1.packets legal.1.ticks))
    (begun shape P s n legal.0 before legal.1 s.head refl (endpoint_by P s.by) refl))

-- and of a holder that is open
pub between_living : (shape : Shape) (P : List Step) → IsLegal shape P → IsShort P
    → AllBetweenLiving P
between_living shape P legal short n =
    all-both (IsOfLiving P n) (λ a. IsOpenAt P n a.at) (IsBetweenLiving P n)
    (λ a alive open_. record { holder = open_; peer = alive }) (owed P n)
    (of-living shape P legal short n) (holders-open shape P legal short n)
