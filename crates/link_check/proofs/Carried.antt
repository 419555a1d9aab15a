-- IN A LEGAL HISTORY what arrived in a session is the front of what was sent in its pair.
use Rattle.std.proofs.Common.{◌≡◌, ℕ, suc, ◌+◌, ◌≤◌, ◌<◌, Bool, true, false, ◌&&◌, ◌==◌, List, []}
use Rattle.std.proofs.Common.{◌∷◌, ◌++◌, filter, length, Option, Some, None, inl, inr, ◌⊎◌, refl}
use Rattle.std.proofs.Common.{sym, ◌∙◌, ap, subst, fold, arith, append_assoc, append-nil, eqb-true}
use Rattle.std.proofs.Common.{if◌then◌else◌}
use Rattle.std.specs.Prelude.{IsSomeAnd}
use Rattle.std.specs.List.{list_any, filter_map}
use Rattle.std.proofs.lemmas.Bool.{and_parts}
use Rattle.std.proofs.lemmas.List.Elements.{filter_map-append}
use Rattle.linx_base.specs.Fronts.{IsFront}
use Rattle.linx_base.specs.Numbers.{is_on, node_of, number_of}
use Rattle.linx_base.specs.Peers.{same_inc, same_peer}
use Rattle.linx_base.specs.Sides.{other_of}
use Rattle.linx_base.specs.SigNotes.{SigNote}
use Rattle.linx_base.specs.declared.identity.Inc.{Inc}
use Rattle.linx_base.specs.declared.identity.LinkNo.{LinkNo}
use Rattle.linx_base.specs.declared.identity.Peer.{Peer}
use Rattle.linx_base.specs.declared.identity.Peer.TheVariants.{There}
use Rattle.linx_base.specs.declared.identity.Session.{Session}
use Rattle.linx_base.specs.declared.identity.Side.{Side}
use Rattle.linx_base.specs.declared.pending.PendingAttach.{PendingAttach}
use Rattle.linx_base.specs.declared.name.Path.TheVariants.{Over}
use Rattle.linx_base.specs.declared.signal.Reason.TheVariants as reasons
use Rattle.journal.specs.declared.by.By.{By}
use Rattle.journal.specs.declared.effect.Effect.{Effect}
use Rattle.journal.specs.declared.effect.Effect.TheVariants.{Arrived, Up}
use Rattle.journal.specs.declared.effect.Step.{Step}
use Rattle.journal.specs.declared.head.Head.{Head}
use Rattle.journal.specs.declared.head.Head.TheVariants as heads
use Rattle.journal.specs.Effects.{hunts_for}
use Rattle.journal.specs.History.{effects_of, endpoint_by}
use Rattle.journal.specs.Laws.{effects_by}
use Rattle.journal.specs.Pending.{hunting, owed}
use Rattle.journal.specs.Sessions.{session_past, up_session}
use Rattle.journal.specs.Shapes.{Shape, node_by}
use Rattle.journal.specs.Traffic.{arrival_in, arrived_from, is_endpoint, sent_by, sent_to}
use Rattle.link_laws.specs.Brought.{Brought, MayBring, arrives, brought_at, goes_down, goes_up}
use Rattle.link_laws.specs.Brought.{IsArrival, IsGoingUp, meets, nothing, parts}
use Rattle.link_laws.specs.Ends.{node_at}
use Rattle.link_laws.specs.Laws.{HasEffects, IsHandedOver, IsLegal, IsLegalStep, IsTick}
use Rattle.link_laws.specs.Laws.{KeepsPackets, KeepsTicks, delivers, loses, stays}
use Rattle.link_laws.specs.Sessions.{boots, downs, ends_session, own_session, paired_after}
use Rattle.link_laws.specs.Sessions.{paired_session, restarts}
use Rattle.link_laws.proofs.Endpoints.OpenAfterStep.{open-on}
use Rattle.link_laws.proofs.Moves.Restarts.{few-downs}
use Rattle.link_check.proofs.Calm.{AreCalm, EndsOrStays, calm-arrived, calm-ends, calm-founds}
use Rattle.link_check.proofs.Calm.{calm-here, calm-losing, calm-notices, calm-pairs, calm-restart}
use Rattle.link_check.proofs.Calm.{calm-up}
use Rattle.link_check.proofs.Heads.{here-head}
use Rattle.link_check.proofs.Tests.{inc-is, le-le, le-less, less-le, link-is, none-some, session-is}

-- WHAT A STEP BRINGS over links: nothing that isn't calm; or one session goes up as the law of
-- sessions says; or one signal arrives as that of arrivals says
pub data Brings (P : List Step) (es : List Effect) : Type 0 where
  brings_calm : AreCalm es → Brings P es
  brings_up : (n m : ℕ) (l : LinkNo) (x y : Session) → IsGoingUp P n m l x y
      → es ≡ Up (record { 0 = n }) l x y ∷ [] → Brings P es
  brings_signal : (n m : ℕ) (l : LinkNo) (x : Session) (a b : Inc) (note : SigNote)
      → IsArrival P n m l x a b note → es ≡ Arrived b (There l x a) note ∷ [] → Brings P es

module _ (shape : Shape) (P : List Step) where
  by-packet : (n m : ℕ) (l : LinkNo) (what : Brought) (es : List Effect)
      → es ≡ brought_at P n l what → MayBring P n m l what → Brings P es
  by-packet n m l nothing es same may = brings_calm (subst AreCalm (sym same) tt)
  by-packet n m l (goes_up x y) es same may = brings_up n m l x y may same
  by-packet n m l (goes_down x) es same may = brings_calm (subst AreCalm (sym same) (calm-losing P n l x))
  by-packet n m l (arrives x a b note) es same may = brings_signal n m l x a b note may same
  by-packet n m l (meets x a name) es same may =
      brings_calm (subst AreCalm (sym same)
      (tt, calm-founds (There l x a) (hunts_for (Over l name) (hunting P n))))
  by-packet n m l (parts x a) es same may =
      brings_calm (subst AreCalm (sym same) (
        tt,
        calm-notices reasons.Closed (filter (λ (b : PendingAttach). same_peer (There l x a) b.peer)
            (owed P n)),
      ))

  by-verdict : (handed : Bool) (n m : ℕ) (l : LinkNo) (es : List Effect)
      → IsHandedOver handed P n m l es → Brings P es
  by-verdict true n m l es packet = by-packet n m l packet.what es packet.effects packet.may
  by-verdict false n m l es none = brings_calm (subst AreCalm (sym none) tt)

  by-tick : (n : ℕ) (l : LinkNo) (side : Side) (es : List Effect) → IsTick P n l side es
      → Brings P es
  by-tick n l side es (stays none) = brings_calm (subst AreCalm (sym none) tt)
  by-tick n l side es (loses x up silent same) =
      brings_calm (subst AreCalm (sym same) (calm-losing P n l x))

  by-head : (by : By) (head : Head) (es : List Effect)
      → HasEffects shape P (node_by shape by) (endpoint_by P by) head es
      → KeepsPackets shape P head es → KeepsTicks shape P head es → Brings P es
  by-head by (heads.Restart k) es has packets ticks =
      brings_calm (subst AreCalm (sym has) (calm-restart P k.0 shape))
  by-head by (heads.Wire l from verdict) es has packets ticks =
      by-verdict (delivers verdict) (node_at shape l (other_of from)) (node_at shape l from) l es
      packets
  by-head by (heads.Tick l side) es has packets ticks =
      by-tick (node_at shape l side) l side es ticks
  by-head by head es has packets ticks =
      brings_calm (subst AreCalm (sym has)
      (calm-here (effects_by P (node_by shape by) (endpoint_by P by) head)
      (here-head P (node_by shape by) (endpoint_by P by) head)))

  pub step-brings : (s : Step) → IsLegalStep shape P s → Brings P s.effects
  step-brings s legal =
      by-head s.by s.head s.effects legal.nodes.effects legal.packets legal.ticks

not-less : (a b : ℕ) → a ≡ b → a < b → ⊥
not-less a b same less = omega arith

-- FRONTS of what grows
front-longer : {X : Type 0} (xs ys zs : List X) → IsFront xs ys → IsFront xs (ys ++ zs)
front-longer xs ys zs front =
    (front.0 ++ zs, ap (λ (l : List _). l ++ zs) front.1 ∙ append_assoc xs front.0 zs)

-- OF ONE SIDE OF A LINK: a session that has a pair is below the own one, or is up; and none that is
-- up is above it
pub record AreBelow (n : ℕ) (l : LinkNo) (P : List Step) : Type 0 where
  pub paired : (x y : Session) → paired_session P n l.0 x ≡ Some y
      → (x.0 < (own_session P n l.0).0) ⊎ (up_session P n l.0 ≡ Some x)
  pub up : (x : Session) → up_session P n l.0 ≡ Some x → x.0 ≤ (own_session P n l.0).0

-- what arrived is the front of what was sent in the pair; nothing without one
abbrev pub IsFrontOf : LinkNo → List Step → Session → (a b : Inc) → Option Session → Type 0
IsFrontOf l P x a b None = arrived_from P b (There l x a) ≡ []
IsFrontOf l P x a b (Some y) =
    IsFront (arrived_from P b (There l x a)) (sent_to P a (There l y b))

-- so it is at each endpoint of the node
pub record AreCarried (n : ℕ) (l : LinkNo) (P : List Step) : Type 0 where
  pub below : AreBelow n l P
  pub fronts : (x : Session) (a b : Inc) → is_on n b ≡ true
      → IsFrontOf l P x a b (paired_session P n l.0 x)

module _ (shape : Shape) (n : ℕ) (l : LinkNo) where
  abbrev pair : List Step → Session → Option Session
  pair P x = paired_session P n l.0 x

  abbrev own : List Step → ℕ
  own P = (own_session P n l.0).0

  -- the own session doesn't fall, and rises where one ends, or where the node restarts
  abbrev Next : Bool → Bool → ℕ → ℕ → ℕ
  Next restart ends B D =
      number_of (1 + (if restart then suc B else B))
      (1 + (if restart then 0 else (if ends then suc D else D)))

  rises : (restart ends : Bool) (B D : ℕ) → D < 4294967294
      → number_of (1 + B) (1 + D) ≤ Next restart ends B D
  rises true ends B D few = omega arith
  rises false true B D few = omega arith
  rises false false B D few = omega arith

  above : (restart : Bool) (B D : ℕ) → D < 4294967294
      → number_of (1 + B) (1 + D) < Next restart true B D
  above true B D few = omega arith
  above false B D few = omega arith

  module _ (s : Step) (P : List Step) (short : length P < 4294967294) where
    few : downs P n l.0 < 4294967294
    few = let some : downs P n l.0 ≤ length P = few-downs P n l.0 in omega arith

    own-rises : own P ≤ own (s ∷ P)
    own-rises =
        rises (restarts n s.head) (list_any (ends_session n l.0) s.effects) (boots P n)
        (downs P n l.0) few

    own-above : list_any (ends_session n l.0) s.effects ≡ true → own P < own (s ∷ P)
    own-above ends =
        subst (λ (b : Bool). own P < Next (restarts n s.head) b (boots P n) (downs P n l.0))
        (sym ends) (above (restarts n s.head) (boots P n) (downs P n l.0) few)

    -- CALM STEPS keep it
    module _ (calm : AreCalm s.effects) (old : AreBelow n l P) where
      stays-or-ends : EndsOrStays n l.0 (up_session P n l.0) s.effects
      stays-or-ends = calm-ends n l.0 s.effects calm (up_session P n l.0)

      same-pair : (x : Session) → pair (s ∷ P) x ≡ pair P x
      same-pair x = calm-pairs n l.0 x s.effects calm (pair P x)

      less : (x : Session) → (x.0 < own P) ⊎ (up_session P n l.0 ≡ Some x)
          → EndsOrStays n l.0 (up_session P n l.0) s.effects
          → (x.0 < own (s ∷ P)) ⊎ (up_session (s ∷ P) n l.0 ≡ Some x)
      less x (inl below) any = inl (less-le x.0 (own P) (own (s ∷ P)) below own-rises)
      less x (inr is) (inl same) = inr (same ∙ is)
      less x (inr is) (inr ends) =
          inl (le-less x.0 (own P) (own (s ∷ P)) (old.up x is) (own-above ends))

      pub calm-below : AreBelow n l (s ∷ P)
      calm-below = record {
        paired = λ x y is. less x (old.paired x y (sym (same-pair x) ∙ is)) stays-or-ends;
        up = λ x is. le-le x.0 (own P) (own (s ∷ P))
            (old.up x (calm-up n l.0 s.effects calm (up_session P n l.0) x is)) own-rises;
      }

    -- and so does one that only adds an arrival
    module _ (b : Inc) (q : Peer) (note : SigNote) (is : s.effects ≡ Arrived b q note ∷ [])
        (old : AreBelow n l P) where
      came-up : up_session (s ∷ P) n l.0 ≡ up_session P n l.0
      came-up = ap (λ (es : List Effect). session_past n l.0 (up_session P n l.0) es) is

      pub came-pair : (x : Session) → pair (s ∷ P) x ≡ pair P x
      came-pair x = ap (λ (es : List Effect). fold (paired_after n l.0 x) (pair P x) es) is

      pub came-below : AreBelow n l (s ∷ P)
      came-below = record {
        paired = λ x y paired. elim (old.paired x y (sym (came-pair x) ∙ paired)) [
          | inl below ↦ inl (less-le x.0 (own P) (own (s ∷ P)) below own-rises)
          | inr up ↦ inr (came-up ∙ up)
        ];
        up = λ x up. le-le x.0 (own P) (own (s ∷ P)) (old.up x (sym came-up ∙ up)) own-rises;
      }

    -- and one by which a session goes up, of this side or of another
    module _ (k m : ℕ) (h : LinkNo) (x y : Session) (may : IsGoingUp P k m h x y)
        (is : s.effects ≡ Up (record { 0 = k }) h x y ∷ []) (old : AreBelow n l P) where
      abbrev After : Bool → Type 0
      After b =
          (up_session (s ∷ P) n l.0 ≡ (if b then Some x else up_session P n l.0))
          × ((z : Session) → pair (s ∷ P) z ≡ (if b && x.0 == z.0 then Some y else pair P z))

      after : (b : Bool) → (k == n && h.0 == l.0) ≡ b → After b
      after b e = (
        ap (λ (es : List Effect). session_past n l.0 (up_session P n l.0) es) is
            ∙ ap (λ (t : Bool). if t then Some x else up_session P n l.0) e,
        λ z. ap (λ (es : List Effect). fold (paired_after n l.0 z) (pair P z) es) is
            ∙ ap (λ (t : Bool). if t && x.0 == z.0 then Some y else pair P z) e,
      )

      -- of this side: the session is new
      module _ (e : (k == n && h.0 == l.0) ≡ true) where
        both_same : ((k == n) ≡ true) × ((h.0 == l.0) ≡ true)
        both_same = and_parts (k == n) (h.0 == l.0) e

        down : up_session P n l.0 ≡ None
        down =
            subst (λ (i : ℕ). up_session P i l.0 ≡ None) (eqb-true k n both_same.0)
            (subst (λ (i : ℕ). up_session P k i ≡ None) (eqb-true h.0 l.0 both_same.1) may.down)

        mine : x.0 ≡ own P
        mine =
            ap (λ (z : Session). z.0) may.own
            ∙ ap (λ (i : ℕ). (own_session P i h.0).0) (eqb-true k n both_same.0)
            ∙ ap (λ (i : ℕ). (own_session P n i).0) (eqb-true h.0 l.0 both_same.1)

        pub new-pair : (z : Session) → z.0 ≡ x.0 → pair P z ≡ None
        new-pair z same = go (pair P z) refl
          where
            go : (o : Option Session) → pair P z ≡ o → pair P z ≡ None
            go None paired = paired
            go (Some w) paired =
                elim (old.paired z w paired) [
                  | inl below ↦ absurd (not-less z.0 (own P) (same ∙ mine) below)
                  | inr up ↦ absurd (none-some (up_session P n l.0) z down up)
                ]

        up-here : AreBelow n l (s ∷ P)
        up-here = record {
          paired = λ z w paired. go z w (x.0 == z.0) refl
              (sym ((after true e).1 z) ∙ paired);
          up = λ z up. is-le z x (sym ((after true e).0) ∙ up) mine;
        }
          where
            is-le : (z v : Session) → (let o : Option Session = Some v in o) ≡ Some z
                → v.0 ≡ own P → z.0 ≤ own (s ∷ P)
            is-le z v same is =
                let one : v ≡ z = cc in
                subst (λ (w : Session). w.0 ≤ own (s ∷ P)) one
                (subst (λ (i : ℕ). i ≤ own (s ∷ P)) (sym is) own-rises)

            go : (z w : Session) (t : Bool) → (x.0 == z.0) ≡ t
                → (if x.0 == z.0 then Some y else pair P z) ≡ Some w
                → (z.0 < own (s ∷ P)) ⊎ (up_session (s ∷ P) n l.0 ≡ Some z)
            go z w true is paired =
                inr ((after true e).0 ∙ ap (λ (v : Session). Some v) (session-is x z is))
            go z w false is paired =
                let was : pair P z ≡ Some w =
                sym (ap (λ (t : Bool). if t then Some y else pair P z) is) ∙ paired in
                elim (old.paired z w was) [
                  | inl below ↦ inl (less-le z.0 (own P) (own (s ∷ P)) below own-rises)
                  | inr up ↦ absurd (none-some (up_session P n l.0) z down up)
                ]

      -- of another side: this one is as it was
      module _ (e : (k == n && h.0 == l.0) ≡ false) where
        pub up-elsewhere : AreBelow n l (s ∷ P)
        up-elsewhere = record {
          paired = λ z w paired. elim (old.paired z w (sym ((after false e).1 z) ∙ paired)) [
            | inl below ↦ inl (less-le z.0 (own P) (own (s ∷ P)) below own-rises)
            | inr up ↦ inr ((after false e).0 ∙ up)
          ];
          up = λ z up. le-le z.0 (own P) (own (s ∷ P)) (old.up z (sym ((after false e).0) ∙ up))
              own-rises;
        }

  module _ (s : Step) (P : List Step) (short : length P < 4294967294) (old : AreCarried n l P) where
    abbrev sends : (a b : Inc) (y : Session) → List SigNote
    sends a b y =
        if is_endpoint a (endpoint_by P s.by) then sent_by (There l y b) s.head else []

    abbrev comes : (a b : Inc) (x : Session) → List SigNote
    comes a b x = filter_map (arrival_in b (There l x a)) s.effects

    arrived-more : (a b : Inc) (x : Session)
        → arrived_from (s ∷ P) b (There l x a) ≡ arrived_from P b (There l x a) ++ comes a b x
    arrived-more a b x = filter_map-append (arrival_in b (There l x a)) (effects_of P) s.effects

    -- where nothing came, it is as it was
    no-more : (a b : Inc) (x : Session) → comes a b x ≡ [] → (p : Option Session)
        → IsFrontOf l P x a b p → IsFrontOf l (s ∷ P) x a b p
    no-more a b x none p front =
        go p front (arrived-more a b x
        ∙ ap (λ (notes : List SigNote). arrived_from P b (There l x a) ++ notes) none
        ∙ append-nil (arrived_from P b (There l x a)))
      where
        go : (p : Option Session) → IsFrontOf l P x a b p
            → arrived_from (s ∷ P) b (There l x a) ≡ arrived_from P b (There l x a)
            → IsFrontOf l (s ∷ P) x a b p
        go None was same = same ∙ was
        go (Some y) was same =
            subst (λ (xs : List SigNote). IsFront xs (sent_to (s ∷ P) a (There l y b))) (sym same)
            (front-longer (arrived_from P b (There l x a)) (sent_to P a (There l y b))
            (sends a b y) was)

    calm-carried : AreCalm s.effects → AreCarried n l (s ∷ P)
    calm-carried calm = record {
      below = calm-below s P short calm old.below;
      fronts = λ x a b on.
          subst (IsFrontOf l (s ∷ P) x a b) (sym (calm-pairs n l.0 x s.effects calm (pair P x)))
          (no-more a b x (calm-arrived b l x a s.effects calm) (pair P x) (old.fronts x a b on));
    }

    -- one that came is the next one
    module _ (k m : ℕ) (h : LinkNo) (y : Session) (c e : Inc) (note : SigNote)
        (may : IsArrival P k m h y c e note)
        (is : s.effects ≡ Arrived e (There h y c) note ∷ []) where
      one-came : (a b : Inc) (x : Session) (t : Bool)
          → (same_inc e b && same_peer (There h y c) (There l x a)) ≡ t
          → filter_map (arrival_in b (There l x a)) (Arrived e (There h y c) note ∷ [])
          ≡ (if t then note ∷ [] else [])
      one-came a b x true same = rw same refl
      one-came a b x false same = rw same refl

      this-one : (a b : Inc) (x : Session) → is_on n b ≡ true
          → (same_inc e b && same_peer (There h y c) (There l x a)) ≡ true
          → (p : Option Session) → pair P x ≡ p → IsFrontOf l (s ∷ P) x a b p
      this-one a b x on same p paired =
          let halves = and_parts (same_inc e b) (same_peer (There h y c) (There l x a)) same in
          let two = and_parts (h.0 == l.0 && y.0 == x.0) (same_inc c a) halves.1 in
          let three = and_parts (h.0 == l.0) (y.0 == x.0) two.0 in
          let at : e ≡ b = inc-is e b halves.0 in
          let from : c ≡ a = inc-is c a two.1 in
          let link : h ≡ l = link-is h l three.0 in
          let session : y ≡ x = session-is y x three.1 in
          let node : k ≡ n =
          sym (eqb-true (node_of e) k (open-on P k e may.receiver))
          ∙ ap node_of at ∙ eqb-true (node_of b) n on in
          let front : IsSomeAnd (pair P x)
          (λ z. IsFront (arrived_from P b (There l x a) ++ note ∷ []) (sent_to P a (There l z b))) =
          subst (λ (i : ℕ). IsSomeAnd (paired_session P i l.0 x) (λ z. IsFront
          (arrived_from P b (There l x a) ++ note ∷ []) (sent_to P a (There l z b)))) node
          (subst (λ (i : LinkNo). IsSomeAnd (paired_session P k i.0 x) (λ z. IsFront
          (arrived_from P b (There i x a) ++ note ∷ []) (sent_to P a (There i z b)))) link
          (subst (λ (i : Session). IsSomeAnd (paired_session P k h.0 i) (λ z. IsFront
          (arrived_from P b (There h i a) ++ note ∷ []) (sent_to P a (There h z b)))) session
          (subst (λ (i : Inc). IsSomeAnd (paired_session P k h.0 y) (λ z. IsFront
          (arrived_from P b (There h y i) ++ note ∷ []) (sent_to P i (There h z b)))) from
          (subst (λ (i : Inc). IsSomeAnd (paired_session P k h.0 y) (λ z. IsFront
          (arrived_from P i (There h y c) ++ note ∷ []) (sent_to P c (There h z i)))) at
          may.front)))) in
          let came_one : comes a b x ≡ note ∷ [] =
          ap (λ (es : List Effect). filter_map (arrival_in b (There l x a)) es) is
          ∙ one-came a b x true same in
          go p paired front (arrived-more a b x
          ∙ ap (λ (notes : List SigNote). arrived_from P b (There l x a) ++ notes) came_one)
        where
          go : (p : Option Session) → pair P x ≡ p → IsSomeAnd (pair P x)
              (λ z. IsFront (arrived_from P b (There l x a) ++ note ∷ []) (sent_to P a (There l z b)))
              → arrived_from (s ∷ P) b (There l x a) ≡ arrived_from P b (There l x a) ++ note ∷ []
              → IsFrontOf l (s ∷ P) x a b p
          go None paired front more =
              absurd (subst (λ (o : Option Session). IsSomeAnd o (λ z. IsFront
              (arrived_from P b (There l x a) ++ note ∷ []) (sent_to P a (There l z b)))) paired front)
          go (Some z) paired front more =
              subst (λ (xs : List SigNote). IsFront xs (sent_to (s ∷ P) a (There l z b))) (sym more)
              (front-longer (arrived_from P b (There l x a) ++ note ∷ [])
              (sent_to P a (There l z b)) (sends a b z)
              (subst (λ (o : Option Session). IsSomeAnd o (λ z. IsFront
              (arrived_from P b (There l x a) ++ note ∷ []) (sent_to P a (There l z b)))) paired front))

      came-front : (x : Session) (a b : Inc) → is_on n b ≡ true
          → (t : Bool) → (same_inc e b && same_peer (There h y c) (There l x a)) ≡ t
          → IsFrontOf l (s ∷ P) x a b (pair P x)
      came-front x a b on true same = this-one a b x on same (pair P x) refl
      came-front x a b on false same =
          no-more a b x
          (ap (λ (es : List Effect). filter_map (arrival_in b (There l x a)) es) is
          ∙ one-came a b x false same)
          (pair P x) (old.fronts x a b on)

      came-carried : AreCarried n l (s ∷ P)
      came-carried = record {
        below = came-below s P short e (There h y c) note is old.below;
        fronts = λ x a b on.
            subst (IsFrontOf l (s ∷ P) x a b)
            (sym (came-pair s P short e (There h y c) note is old.below x))
            (came-front x a b on (same_inc e b && same_peer (There h y c) (There l x a)) refl);
      }

    -- a session that goes up is new: nothing came in it
    module _ (k m : ℕ) (h : LinkNo) (x y : Session) (may : IsGoingUp P k m h x y)
        (is : s.effects ≡ Up (record { 0 = k }) h x y ∷ []) where
      nothing-came : (z : Session) (a b : Inc) → comes a b z ≡ []
      nothing-came z a b = ap (λ (es : List Effect). filter_map (arrival_in b (There l z a)) es) is

      new-front : (z : Session) (a b : Inc) → arrived_from P b (There l z a) ≡ []
          → (p : Option Session) → IsFrontOf l P z a b p
      new-front z a b none None = none
      new-front z a b none (Some w) =
          subst (λ (xs : List SigNote). IsFront xs (sent_to P a (There l w b))) (sym none)
          (sent_to P a (There l w b), refl)

      up-fronts : (z : Session) (a b : Inc) → is_on n b ≡ true
          → (t : Bool) → (k == n && h.0 == l.0) ≡ t → (u : Bool) → (x.0 == z.0) ≡ u
          → IsFrontOf l P z a b (if t && u then Some y else pair P z)
      up-fronts z a b on true e true same =
          new-front z a b
          (subst (IsFrontOf l P z a b)
          (new-pair s P short k m h x y may is old.below e z (sym (eqb-true x.0 z.0 same)))
          (old.fronts z a b on)) (Some y)
      up-fronts z a b on true e false same = old.fronts z a b on
      up-fronts z a b on false e u same = old.fronts z a b on

      up-carried : (t : Bool) → (k == n && h.0 == l.0) ≡ t → AreCarried n l (s ∷ P)
      up-carried t e = record {
        below = by_side t e;
        fronts = λ z a b on.
            subst (IsFrontOf l (s ∷ P) z a b) (sym ((after s P short k m h x y may is old.below t e).1 z))
            (no-more a b z (nothing-came z a b) (if t && x.0 == z.0 then Some y else pair P z)
            (up-fronts z a b on t e (x.0 == z.0) refl));
      }
        where
          by_side : (t : Bool) → (k == n && h.0 == l.0) ≡ t → AreBelow n l (s ∷ P)
          by_side true e = up-here s P short k m h x y may is old.below e
          by_side false e = up-elsewhere s P short k m h x y may is old.below e

    step-carried : Brings P s.effects → AreCarried n l (s ∷ P)
    step-carried (brings_calm all) = calm-carried all
    step-carried (brings_up k m h x y may is) =
        up-carried k m h x y may is (k == n && h.0 == l.0) refl
    step-carried (brings_signal k m h x a b note may is) = came-carried k m h x a b note may is

  none-carried : AreCarried n l []
  none-carried = record {
    below = record { paired = λ x y is. cc is; up = λ x is. cc is };
    fronts = λ x a b on. refl;
  }

  -- OF EVERY LEGAL HISTORY
  pub carried : (P : List Step) → IsLegal shape P → length P < 4294967295 → AreCarried n l P
  carried [] legal short = none-carried
  carried (s ∷ P) legal short =
      step-carried s P (omega arith) (carried P legal.0 (omega arith)) (step-brings shape P s legal.1)

  pub fronts-carried : (P : List Step) → IsLegal shape P → length P < 4294967295
      → (x y : Session) → pair P x ≡ Some y → (a b : Inc) → is_on n b ≡ true
      → IsFront (arrived_from P b (There l x a)) (sent_to P a (There l y b))
  fronts-carried P legal short x y paired a b on =
      subst (IsFrontOf l P x a b) paired ((carried P legal short).fronts x a b on)
