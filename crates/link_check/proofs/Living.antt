-- IN A LEGAL HISTORY a living peer over a link is one of the session that is up.
use Rattle.std.proofs.Common.{◌≡◌, ℕ, zero, suc, Bool, true, false, not, ◌&&◌, ◌||◌, ◌==◌, List, []}
use Rattle.std.proofs.Common.{◌∷◌, ◌++◌, length, map, filter, Option, Some, None, inl, inr, ◌⊎◌}
use Rattle.std.proofs.Common.{refl, sym, ◌∙◌, ap, subst, fold, eq-eqb, eqb-true, true≢false}
use Rattle.std.proofs.Common.{if◌then◌else◌}
use Rattle.std.proofs.lemmas.Bool.{and_parts, or_cases}
use Rattle.std.proofs.lemmas.List.Folds.{list_any-append}
use Rattle.linx_base.specs.Peers.{same_inc, same_peer}
use Rattle.linx_base.specs.Pending.{is_of_session}
use Rattle.linx_base.specs.Sides.{other_of}
use Rattle.linx_base.specs.declared.identity.Inc.{Inc}
use Rattle.linx_base.specs.declared.identity.LinkNo.{LinkNo}
use Rattle.linx_base.specs.declared.identity.Peer.{Peer}
use Rattle.linx_base.specs.declared.identity.Peer.TheVariants.{Here, There}
use Rattle.linx_base.specs.declared.identity.Session.{Session}
use Rattle.linx_base.specs.declared.identity.Side.{Side}
use Rattle.linx_base.specs.declared.name.Path.TheVariants.{Over}
use Rattle.linx_base.specs.declared.pending.MetPeer.{MetPeer}
use Rattle.linx_base.specs.declared.pending.PendingAttach.{PendingAttach}
use Rattle.linx_base.specs.declared.pending.PendingHunt.{PendingHunt}
use Rattle.linx_base.specs.declared.signal.Reason.{Reason}
use Rattle.linx_base.specs.declared.signal.Reason.TheVariants as reasons
use Rattle.journal.specs.declared.by.By.{By}
use Rattle.journal.specs.declared.effect.Effect.{Effect}
use Rattle.journal.specs.declared.effect.Effect.TheVariants.{Down, Gone, Met, Up}
use Rattle.journal.specs.declared.effect.Step.{Step}
use Rattle.journal.specs.declared.head.Head.{Head}
use Rattle.journal.specs.declared.head.Head.TheVariants as heads
use Rattle.journal.specs.Effects.{closings, found, hunts_for, losing, notice}
use Rattle.journal.specs.History.{endpoint_by, open_endpoints}
use Rattle.journal.specs.Living.{is_met, living, living_after}
use Rattle.journal.specs.Pending.{hunting, owed}
use Rattle.journal.specs.Sessions.{session_after, session_past, up_session}
use Rattle.journal.specs.Shapes.{Shape, node_by}
use Rattle.link_laws.specs.Brought.{Brought, MayBring, arrives, brought_at, goes_down, goes_up}
use Rattle.link_laws.specs.Brought.{meets, nothing, parts}
use Rattle.link_laws.specs.Ends.{node_at}
use Rattle.link_laws.specs.Laws.{HasEffects, IsHandedOver, IsLegal, IsLegalStep, IsTick}
use Rattle.link_laws.specs.Laws.{KeepsPackets, KeepsTicks, delivers, down_if, downs_of, loses}
use Rattle.link_laws.specs.Laws.{stays}
use Rattle.link_check.specs.Lines.{touches}
use Rattle.link_check.proofs.Calm.{calm-downs, calm-up}
use Rattle.link_check.proofs.Heads.{AreHere, here-closings, here-founds, here-notices}
use Rattle.link_check.proofs.Off.{AreOff, step-off}
use Rattle.link_check.proofs.Ones.{any-and, any-kept, any-one}
use Rattle.link_check.proofs.Tests.{none-some, session-is}

module _ (n : ℕ) (l : LinkNo) where
  -- AN EFFECT FITS the session that is up: whoever is met is met in it, what goes down is it, and
  -- what goes up finds none
  abbrev pub Fits : Option Session → Effect → Type 0
  Fits up (Met m (There h x a) name) = (m.0 == n && h.0 == l.0) ≡ true → up ≡ Some x
  Fits up (Up m h x y) = (m.0 == n && h.0 == l.0) ≡ true → up ≡ None
  Fits up (Down m h x) = (m.0 == n && h.0 == l.0) ≡ true → (up ≡ Some x) ⊎ (up ≡ None)
  Fits up _ = Unit {0}

  abbrev pub AllFit : Option Session → List Effect → Type 0
  AllFit up [] = Unit {0}
  AllFit up (e ∷ es) = Fits up e × AllFit (session_after n l.0 up e) es

  -- every living peer over the link is of the session that is up
  abbrev pub LivesUp : List MetPeer → Option Session → Type 0
  LivesUp met up = (x : Session) (a : Inc) → is_met met (There l x a) ≡ true → up ≡ Some x

  module _ (met : List MetPeer) (up : Option Session) (lives : LivesUp met up) where
    one-met : (q : Peer) (name : List ℕ) (b : Bool)
        → ((x : Session) (a : Inc) → b ≡ true → same_peer (There l x a) q ≡ true → up ≡ Some x)
        → LivesUp (if b then met ++ (record { peer = q; name = name }) ∷ [] else met) up
    one-met q name true new x a is =
        elim (or_cases (is_met met (There l x a)) (same_peer (There l x a) q || false)
        (sym (list_any-append (λ (p : MetPeer). same_peer (There l x a) p.peer) met
        ((record { peer = q; name = name }) ∷ [])) ∙ is)) [
          | inl was ↦ lives x a was
          | inr e ↦ elim (or_cases (same_peer (There l x a) q) false e) [
            | inl this ↦ new x a refl this
            | inr none ↦ absurd (true≢false (sym none))
          ]
        ]
    one-met q name false new x a is = lives x a is

    fewer : (p : MetPeer → Bool) (b : Bool) → LivesUp (if b then filter p met else met) up
    fewer p true x a is =
        lives x a (any-kept (λ (q : MetPeer). same_peer (There l x a) q.peer) p met is)
    fewer p false x a is = lives x a is

    -- one of the session that goes down is gone
    of-session : (h : LinkNo) (z : Session) → (h.0 == l.0) ≡ true → (x : Session) (a : Inc)
        → x ≡ z → (q : Peer) → (not (is_of_session h z q) && same_peer (There l x a) q) ≡ true → ⊥
    of-session h z same x a session (Here i) is = true≢false (sym is)
    of-session h z same x a session (There k w b) is =
        let halves = and_parts (not (k.0 == h.0 && w.0 == z.0)) (same_peer (There l x a)
        (There k w b)) is in
        let pieces = and_parts (l.0 == k.0 && x.0 == w.0) (same_inc a b) halves.1 in
        let others = and_parts (l.0 == k.0) (x.0 == w.0) pieces.0 in
        let link : k.0 ≡ h.0 = sym (eqb-true l.0 k.0 others.0) ∙ sym (eqb-true h.0 l.0 same) in
        let sessions : w.0 ≡ z.0 =
        sym (eqb-true x.0 w.0 others.1) ∙ ap (λ (y : Session). y.0) session in
        true≢false (sym halves.0
        ∙ ap not (ap (λ (b : Bool). b && w.0 == z.0) (eq-eqb k.0 h.0 link)
        ∙ eq-eqb w.0 z.0 sessions))

    goes : (h : LinkNo) (z : Session) → (b : Bool) → (h.0 == l.0) ≡ b
        → (b ≡ true → (up ≡ Some z) ⊎ (up ≡ None))
        → LivesUp (filter (λ (q : MetPeer). not (is_of_session h z q.peer)) met)
        (if b then None else up)
    goes h z true same fits x a is =
        let one = any-one (λ (q : MetPeer). not (is_of_session h z q.peer)
        && same_peer (There l x a) q.peer) met
        (any-and (λ (q : MetPeer). same_peer (There l x a) q.peer)
        (λ (q : MetPeer). not (is_of_session h z q.peer)) met is) in
        let was : up ≡ Some x =
        lives x a (any-kept (λ (q : MetPeer). same_peer (There l x a) q.peer)
        (λ (q : MetPeer). not (is_of_session h z q.peer)) met is) in
        elim (fits refl) [
          | inl at ↦
              let two : (let o : Option Session = Some x in o) ≡ Some z = sym was ∙ at in
              let session : x ≡ z = cc in
              absurd (of-session h z same x a session one.it.peer one.passes)
          | inr none ↦ sym none ∙ was
        ]
    goes h z false same fits x a is =
        lives x a (any-kept (λ (q : MetPeer). same_peer (There l x a) q.peer)
        (λ (q : MetPeer). not (is_of_session h z q.peer)) met is)

    by-node : (h : LinkNo) (z : Session) (b : Bool)
        → ((b && h.0 == l.0) ≡ true → (up ≡ Some z) ⊎ (up ≡ None))
        → LivesUp (if b then filter (λ (q : MetPeer). not (is_of_session h z q.peer)) met else met)
        (if b && h.0 == l.0 then None else up)
    by-node h z true fits = goes h z (h.0 == l.0) refl fits
    by-node h z false fits = lives

    one : (e : Effect) → Fits up e → LivesUp (living_after n met e) (session_after n l.0 up e)
    one (Met m (There h z c) name) fits =
        one-met (There h z c) name (m.0 == n) (λ x a here same.
        let pieces = and_parts (l.0 == h.0 && x.0 == z.0) (same_inc a c) same in
        let others = and_parts (l.0 == h.0) (x.0 == z.0) pieces.0 in
        fits (ap (λ (b : Bool). b && h.0 == l.0) here
        ∙ eq-eqb h.0 l.0 (sym (eqb-true l.0 h.0 others.0)))
        ∙ ap (λ (y : Session). Some y) (sym (session-is x z others.1)))
    one (Met m (Here i) name) fits =
        one-met (Here i) name (m.0 == n) (λ x a here same. absurd (true≢false (sym same)))
    one (Gone m q) fits = fewer (λ (p : MetPeer). not (same_peer q p.peer)) (m.0 == n)
    one (Down m h z) fits = by-node h z (m.0 == n) fits
    one (Up m h z y) fits = by_test (m.0 == n && h.0 == l.0) fits
      where
        by_test : (b : Bool) → (b ≡ true → up ≡ None) → LivesUp met (if b then Some z else up)
        by_test true none x a is =
            absurd (none-some up x (none refl) (lives x a is))
        by_test false none x a is = lives x a is
    one _ fits = lives

  pub fits-live : (es : List Effect) (met : List MetPeer) (up : Option Session) → AllFit up es
      → LivesUp met up → LivesUp (fold (living_after n) met es) (session_past n l.0 up es)
  fits-live [] met up fits lives = lives
  fits-live (e ∷ es) met up fits lives =
      fits-live es (living_after n met e) (session_after n l.0 up e) fits.1
      (one met up lives e fits.0)

  -- LISTS THAT FIT
  fit-here : (es : List Effect) → AreHere es → (up : Option Session) → AllFit up es
  fit-here [] here up = tt
  fit-here (Met m q name ∷ es) here up = absurd here.0
  fit-here (Up m h x y ∷ es) here up = absurd here.0
  fit-here (Down m h x ∷ es) here up = absurd here.0
  fit-here (_ ∷ es) here up = (tt, fit-here es here.1 up)

  fit-founds : (q : Peer) (hunts : List PendingHunt) (up : Option Session)
      → AllFit up (map (found q) hunts)
  fit-founds q hunts up = fit-here (map (found q) hunts) (here-founds q hunts) up

  fit-notices : (reason : Reason) (attaches : List PendingAttach) (up : Option Session)
      → AllFit up (map (notice reason) attaches)
  fit-notices reason attaches up =
      fit-here (map (notice reason) attaches) (here-notices reason attaches) up

  fit-more : (es fs : List Effect) (up : Option Session) → AllFit up es
      → AllFit (session_past n l.0 up es) fs → AllFit up (es ++ fs)
  fit-more [] fs up first rest = rest
  fit-more (e ∷ es) fs up first rest =
      (first.0, fit-more es fs (session_after n l.0 up e) first.1 rest)

  no-other : (a b : Bool) → b ≡ false → (a && b) ≡ true → ⊥
  no-other true b off is = true≢false (sym is ∙ off)
  no-other false b off is = true≢false (sym is)

  fit-off : (es : List Effect) → AreOff l.0 es → (up : Option Session) → AllFit up es
  fit-off [] off up = tt
  fit-off (Met m (There h x a) name ∷ es) off up =
      (λ is. absurd (no-other (m.0 == n) (h.0 == l.0) off.0 is), fit-off es off.1 up)
  fit-off (Met m (Here i) name ∷ es) off up = (tt, fit-off es off.1 up)
  fit-off (Up m h x y ∷ es) off up =
      (λ is. absurd (no-other (m.0 == n) (h.0 == l.0) off.0 is), fit-off es off.1 _)
  fit-off (Down m h x ∷ es) off up =
      (λ is. absurd (no-other (m.0 == n) (h.0 == l.0) off.0 is), fit-off es off.1 _)
  fit-off (_ ∷ es) off up = (tt, fit-off es off.1 up)

  -- THE EFFECTS OF A STEP fit
  module _ (shape : Shape) (P : List Step) where
    abbrev now : Option Session
    now = up_session P n l.0

    -- what is up at this side of this link
    here-up : (m : ℕ) (h : LinkNo) (o : Option Session) → (m == n && h.0 == l.0) ≡ true
        → up_session P m h.0 ≡ o → now ≡ o
    here-up m h o is up =
        let pieces = and_parts (m == n) (h.0 == l.0) is in
        subst (λ (i : ℕ). up_session P i l.0 ≡ o) (eqb-true m n pieces.0)
        (subst (λ (i : ℕ). up_session P m i ≡ o) (eqb-true h.0 l.0 pieces.1) up)

    fit-losing : (m : ℕ) (h : LinkNo) (x : Session) → up_session P m h.0 ≡ Some x
        → AllFit now (losing (record { 0 = m }) h x (owed P m))
    fit-losing m h x up = (
      λ is. inl (here-up m h (Some x) is up),
      fit-notices reasons.Lost (filter (λ (a : PendingAttach). is_of_session h x a.peer)
          (owed P m)) _,
    )

    fit-brought : (m k : ℕ) (h : LinkNo) (what : Brought) → MayBring P m k h what
        → AllFit now (brought_at P m h what)
    fit-brought m k h nothing may = tt
    fit-brought m k h (goes_up x y) may = (λ is. here-up m h None is may.down, tt)
    fit-brought m k h (goes_down x) may = fit-losing m h x may.up
    fit-brought m k h (arrives x a b note) may = (tt, tt)
    fit-brought m k h (meets x a name) may = (
      λ is. here-up m h (Some x) is may.up,
      fit-founds (There h x a) (hunts_for (Over h name) (hunting P m)) now,
    )
    fit-brought m k h (parts x a) may = (
      tt,
      fit-notices reasons.Closed (filter (λ (b : PendingAttach). same_peer (There h x a) b.peer)
          (owed P m)) now,
    )

    fit-packet : (handed : Bool) (m k : ℕ) (h : LinkNo) (es : List Effect)
        → IsHandedOver handed P m k h es → AllFit now es
    fit-packet true m k h es packet =
        subst (AllFit now) (sym packet.effects) (fit-brought m k h packet.what packet.may)
    fit-packet false m k h es none = subst (AllFit now) (sym none) tt

    fit-tick : (m : ℕ) (h : LinkNo) (side : Side) (es : List Effect) → IsTick P m h side es
        → AllFit now es
    fit-tick m h side es (stays none) = subst (AllFit now) (sym none) tt
    fit-tick m h side es (loses x up silent same) =
        subst (AllFit now) (sym same) (fit-losing m h x up)

    -- a restart ends what is up
    down-fits : (m k : ℕ) (before : Option Session) → ((x : Session) → before ≡ Some x → now ≡ Some x)
        → (up : Option Session) → up_session P m k ≡ up → AllFit before (down_if m k up)
    down-fits m k before was None up = tt
    down-fits m k before was (Some x) up = (λ is. by_state before was is, tt)
      where
        by_state : (o : Option Session) → ((z : Session) → o ≡ Some z → now ≡ Some z)
            → (m == n && k == l.0) ≡ true → (o ≡ Some x) ⊎ (o ≡ None)
        by_state None was is = inr refl
        by_state (Some z) was is =
            let mine : now ≡ Some x = here-up m (record { 0 = k }) (Some x) is up in
            let his : now ≡ Some z = was z refl in
            inl (sym his ∙ mine)

    downs-fit : (m k : ℕ) → AllFit now (downs_of P m k)
    downs-fit m zero = tt
    downs-fit m (suc k) =
        fit-more (downs_of P m k) (down_if m (suc k) (up_session P m (suc k))) now (downs-fit m k)
        (down-fits m (suc k) (session_past n l.0 now (downs_of P m k))
        (λ x is. calm-up n l.0 (downs_of P m k) (calm-downs P m k) now x is)
        (up_session P m (suc k)) refl)

    by-head : (by : By) (head : Head) (es : List Effect) → touches l.0 head ≡ true
        → HasEffects shape P (node_by shape by) (endpoint_by P by) head es
        → KeepsPackets shape P head es → KeepsTicks shape P head es → AllFit now es
    by-head by (heads.Restart k) es on has packets ticks =
        subst (AllFit now) (sym has)
        (fit-more (downs_of P k.0 (length shape.links)) (closings (open_endpoints P k.0)) now
        (downs-fit k.0 (length shape.links))
        (fit-here (closings (open_endpoints P k.0)) (here-closings (open_endpoints P k.0)) _))
    by-head by (heads.Wire h from verdict) es on has packets ticks =
        fit-packet (delivers verdict) (node_at shape h (other_of from)) (node_at shape h from) h es
        packets
    by-head by (heads.Tick h side) es on has packets ticks =
        fit-tick (node_at shape h side) h side es ticks
    by-head by (heads.Cut h) es on has packets ticks = subst (AllFit now) (sym has) tt
    by-head by (heads.Mend h) es on has packets ticks = subst (AllFit now) (sym has) tt
    by-head by head es on has packets ticks = absurd (true≢false (sym on))

    step-fits : (s : Step) → IsLegalStep shape P s → AllFit now s.effects
    step-fits s legal = go (touches l.0 s.head) refl
      where
        go : (b : Bool) → touches l.0 s.head ≡ b → AllFit now s.effects
        go true on =
            by-head s.by s.head s.effects on legal.nodes.effects legal.packets legal.ticks
        go false off = fit-off s.effects (step-off l.0 shape P s legal off) now

  pub lives-up : (shape : Shape) (P : List Step) → IsLegal shape P
      → LivesUp (living P n) (up_session P n l.0)
  lives-up shape [] legal x a is = absurd (true≢false (sym is))
  lives-up shape (s ∷ P) legal x a is =
      fits-live s.effects (living P n) (up_session P n l.0) (step-fits shape P s legal.1)
      (lives-up shape P legal.0) x a is
