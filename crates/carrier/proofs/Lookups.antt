-- What stands in a record of sessions under a number, and how a record grows.
use Rattle.std.proofs.Common.{◌≡◌, ℕ, ◌<◌, ◌≤◌, eqb, true, false, Option, Some, None, List, [], ◌∷◌}
use Rattle.std.proofs.Common.{All, refl, sym, ◌∙◌, subst, arith, inl, inr, eq-eqb, ne_eqb}
use Rattle.std.specs.Option.{ForSome}
use Rattle.std.proofs.lemmas.Bool.Decides.{eqb_tells}
use Rattle.std.proofs.lemmas.List.Elements.{All-nil}
use Rattle.std.proofs.lemmas.Option.{same_Some}
use Rattle.linx_base.specs.Fronts.{IsFront}
use Rattle.linx_base.specs.declared.identity.Session.{Session}
use Rattle.linx_base.specs.Frames.{IsMessage}
use Rattle.ethcm_end.specs.States.{peer_of}
use Rattle.carrier.specs.Records.{Entry, HalfState, entries, has_session, is_pair, mine_of}
use Rattle.carrier.specs.Records.{names, offered_at, peer_at, source}
use Rattle.carrier.specs.Keeping.{FallsBelow, HandedFronts, OfferedMessages, PeersHeld, PeersUpTo}
use Rattle.carrier.proofs.Fronts.{either, front_nil, front_refl, front_trans}

-- ---- the present session

pub same_number : (n : ℕ) → eqb n n ≡ true
same_number n = eq-eqb n n refl

-- what holds of the peer that is known holds of each
pub at_peer : (P : Session → Type 0) (y : Session) (peer : Option Session) → peer ≡ Some y → P y
    → ForSome peer P
at_peer P y peer e h = λ z q. subst P (same_Some y z (sym e ∙ q)) h

pub of_none : (P : Session → Type 0) (peer : Option Session) → peer ≡ None → ForSome peer P
of_none P peer e = λ z q. absurd (grind arith)

pub own_session : (h : HalfState) → has_session (mine_of h) (entries h) ≡ true
own_session h = rw (same_number (mine_of h)) refl

pub own_pair : (h : HalfState) (y : Session) → peer_of h.end ≡ Some y
    → is_pair y.0 (mine_of h) (entries h) ≡ true
own_pair h y e = rw (same_number (mine_of h), e) (same_number y.0)

pub own_unpaired : (h : HalfState) (n : ℕ) → peer_of h.end ≡ None
    → is_pair n (mine_of h) (entries h) ≡ false
own_unpaired h n e = rw (same_number (mine_of h), e) refl

pub own_offered : (h : HalfState) → offered_at (mine_of h) (entries h) ≡ h.offered
own_offered h = rw (same_number (mine_of h)) refl

-- ---- numbers that fall

-- no session has a number from the bound on
pub none_from : (n low : ℕ) (es : List Entry) → FallsBelow low es → low ≤ n
    → (has_session n es ≡ false) × (peer_at n es ≡ None) × (offered_at n es ≡ [])
none_from n low [] f h = (refl, refl, refl)
none_from n low (e ∷ es) f h =
    let below = f.0 in
    let other : eqb e.number.0 n ≡ false = ne_eqb e.number.0 n (λ q. omega arith) in
    rw other (none_from n e.number.0 es f.1 (omega arith))

pub session_below : (n low : ℕ) (es : List Entry) → FallsBelow low es
    → has_session n es ≡ true → n < low
session_below n low [] f e = absurd (grind arith)
session_below n low (x ∷ es) f e =
    let below = f.0 in
    elim (eqb_tells x.number.0 n) [
      | inl same ↦ let q = same.1 in omega arith
      | inr other ↦
          let rest = session_below n x.number.0 es f.1 (rw other.0 at e) in
          omega arith
    ]

-- no session of a side is later than its present one
pub session_upto : (n : ℕ) (h : HalfState) → FallsBelow (mine_of h) h.past
    → has_session n (entries h) ≡ true → n ≤ mine_of h
session_upto n h f e =
    elim (eqb_tells (mine_of h) n) [
      | inl same ↦ let q = same.1 in omega arith
      | inr other ↦
          let rest = session_below n (mine_of h) h.past f (rw other.0 at e) in
          omega arith
    ]

-- the peers that are sessions of a side are no later than its present one
pub peers_upto : (h : HalfState) (es : List Entry) → FallsBelow (mine_of h) h.past
    → PeersHeld (entries h) es → PeersUpTo (mine_of h) es
peers_upto h [] f held = tt
peers_upto h (e ∷ es) f held =
    (λ y q. session_upto y.0 h f (held.0 y q), peers_upto h es f held.1)

-- ---- a record grows

-- the sessions of the first record stand in the second, with the same peers where they had one, and
-- what was offered in them is a front
pub record Grows (es later : List Entry) : Type 0 where
  pub held : (n : ℕ) → has_session n es ≡ true → has_session n later ≡ true
  pub pairs : (x y : ℕ) → is_pair x y es ≡ true → is_pair x y later ≡ true
  pub offers : (n : ℕ) → IsFront (offered_at n es) (offered_at n later)

-- the newest session goes on
pub grows_on : (es : List Entry) (e f : Entry) → f.number.0 ≡ e.number.0
    → ((x : ℕ) → names x e.peer ≡ true → names x f.peer ≡ true) → IsFront e.offered f.offered
    → Grows (e ∷ es) (f ∷ es)
grows_on es e f n p o =
    record {
      held = λ k. elim (eqb_tells e.number.0 k) [
        | inl same ↦ λ h. rw (n, same.0) refl
        | inr other ↦ λ h. rw (n, other.0) (rw other.0 at h)
      ];
      pairs = λ x y. elim (eqb_tells e.number.0 y) [
        | inl same ↦ λ h. rw (n, same.0) (p x (rw same.0 at h))
        | inr other ↦ λ h. rw (n, other.0) (rw other.0 at h)
      ];
      offers = λ k. elim (eqb_tells e.number.0 k) [
        | inl same ↦ rw (n, same.0) o
        | inr other ↦ rw (n, other.0) (front_refl _)
      ];
    }

-- a new session begins
pub grows_new : (es : List Entry) (f : Entry) → FallsBelow f.number.0 es → Grows es (f ∷ es)
grows_new es f below =
    record {
      held = λ k. elim (eqb_tells f.number.0 k) [
        | inl same ↦ λ h. rw same.0 refl
        | inr other ↦ λ h. rw other.0 h
      ];
      pairs = λ x y. elim (eqb_tells f.number.0 y) [
        | inl same ↦ λ h.
            let number = same.1 in
            let none = none_from y f.number.0 es below (omega arith) in
            let q : names x None ≡ true = rw none.1 at h in
            absurd (grind arith)
        | inr other ↦ λ h. rw other.0 h
      ];
      offers = λ k. elim (eqb_tells f.number.0 k) [
        | inl same ↦
            let number = same.1 in
            let none = none_from k f.number.0 es below (omega arith) in
            rw none.2 (front_nil _)
        | inr other ↦ rw other.0 (front_refl _)
      ];
    }

module _ (es later : List Entry) (grows : Grows es later) where
  -- what is offered to a session grows
  pub source_grows : (x : ℕ) (peer : Option Session)
      → IsFront (source es x peer) (source later x peer)
  source_grows x None = front_nil []
  source_grows x (Some y) =
      elim (either (is_pair x y.0 es)) [
        | inl paired ↦ rw (paired, grows.pairs x y.0 paired) (grows.offers y.0)
        | inr other ↦ rw other (front_nil _)
      ]

  pub held_grows : (own : List Entry) → PeersHeld es own → PeersHeld later own
  held_grows [] h = tt
  held_grows (e ∷ own) h = (λ y q. grows.held y.0 (h.0 y q), held_grows own h.1)

  pub fronts_grow : (own : List Entry) → HandedFronts es own → HandedFronts later own
  fronts_grow [] h = tt
  fronts_grow (e ∷ own) h = (
    front_trans _ _ _ h.0 (source_grows e.number.0 e.peer),
    fronts_grow own h.1,
  )

-- ---- what is offered are messages

offered_messages : (n : ℕ) (es : List Entry) → OfferedMessages es → All IsMessage (offered_at n es)
offered_messages n [] h = All-nil IsMessage
offered_messages n (e ∷ es) h =
    elim (eqb_tells e.number.0 n) [
      | inl same ↦ rw same.0 h.0
      | inr other ↦ rw other.0 (offered_messages n es h.1)
    ]

pub source_messages : (es : List Entry) (x : ℕ) (peer : Option Session) → OfferedMessages es
    → All IsMessage (source es x peer)
source_messages es x None h = All-nil IsMessage
source_messages es x (Some y) h =
    elim (either (is_pair x y.0 es)) [
      | inl paired ↦ rw paired (offered_messages y.0 es h)
      | inr other ↦ rw other (All-nil IsMessage)
    ]

-- what the present session of a side that has no peer offers to another is nothing
pub source_unpaired : (h : HalfState) (x : ℕ) (y : Session) (peer : Option Session)
    → peer ≡ Some y → y.0 ≡ mine_of h → peer_of h.end ≡ None → source (entries h) x peer ≡ []
source_unpaired h x y peer e n none =
    let unpaired : is_pair x y.0 (entries h) ≡ false =
    subst (λ k. is_pair x k (entries h) ≡ false) (sym n) (own_unpaired h x none) in
    rw (e, unpaired) refl

-- what the peer, which has this session as its peer, offers to it
pub source_paired : (es : List Entry) (x : ℕ) (y : Session) (peer : Option Session)
    → peer ≡ Some y → is_pair x y.0 es ≡ true → source es x peer ≡ offered_at y.0 es
source_paired es x y peer e paired = rw (e, paired) refl
