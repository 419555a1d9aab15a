-- What a packet brings, and when it may.
use Rattle.std.proofs.Common.{◌≡◌, ℕ, ◌<◌, Bool, true, false, List, [], ◌∷◌, ◌++◌, map, Option}
use Rattle.std.proofs.Common.{Some, None, refl, sym, ap, ◌∙◌, subst, IsSomeAnd}
use Rattle.std.specs.List.{AllByRecursion}
use Rattle.std.proofs.lemmas.List.{map-append}
use Rattle.linx_base.specs.Fronts.{IsFront}
use Rattle.linx_base.specs.declared.identity.Inc.{Inc}
use Rattle.linx_base.specs.declared.identity.LinkNo.{LinkNo}
use Rattle.linx_base.specs.declared.identity.Peer.{Peer}
use Rattle.linx_base.specs.declared.identity.Peer.TheVariants.{Here, There}
use Rattle.linx_base.specs.declared.identity.Session.{Session}
use Rattle.linx_base.specs.SigNotes.{SigNote}
use Rattle.journal.specs.Effects.{losing, meeting, parting}
use Rattle.journal.specs.History.{open_endpoints}
use Rattle.journal.specs.Pending.{hunting, owed}
use Rattle.journal.specs.Traffic.{arrived_from, sent_to}
use Rattle.journal.specs.declared.effect.Effect.{Effect}
use Rattle.journal.specs.declared.effect.Step.{Step}
use Rattle.journal.proofs.Lists.{all-impl}
use Rattle.link_laws.specs.Brought.{Brought, IsArrival, IsGoingDown, IsGoingUp, IsMeeting}
use Rattle.link_laws.specs.Brought.{IsParting, MayBring, arrives, brought_at, goes_down, goes_up}
use Rattle.link_laws.specs.Brought.{meets, nothing, parts}
use Rattle.link_laws.specs.Laws.{IsHandedOver}
use Rattle.link_laws.specs.Sessions.{own_session, paired_session}
use Rattle.image_laws.specs.Images.{effect_by, journal_by, note_by}
use Rattle.image_laws.proofs.Effects.{losing-by, meeting-by, parting-by}
use Rattle.image_laws.proofs.Endpoints.{is_closed-by, name_of-by, open_endpoints-by}
use Rattle.image_laws.proofs.Peers.{had_session-by, is_alive-by, own_session-by, paired_session-by}
use Rattle.image_laws.proofs.Peers.{up_session-by, was_met-by, was_opened-by}
use Rattle.image_laws.proofs.Pendings.{hunting-by, owed-by}
use Rattle.image_laws.proofs.Signals.{arrived_from-by, sent_to-by}

-- of a value that is the same
pub some-by : {X : Type 0} (Q R : X → Type 0) (o before : Option X) → o ≡ before
    → ((x : X) → Q x → R x) → IsSomeAnd before Q → IsSomeAnd o R
some-by {X = X} Q R o before same h is = subst (λ z. IsSomeAnd z R) (sym same) (go before is)
  where
    go : (z : Option X) → IsSomeAnd z Q → IsSomeAnd z R
    go None none = none
    go (Some x) holds = h x holds

-- the map of a front is one of the map
pub front-by : {X Y : Type 0} (h : X → Y) (xs ys : List X) → IsFront xs ys
    → IsFront (map h xs) (map h ys)
front-by h xs ys front = (map h front.0, ap (map h) front.1 ∙ map-append h xs front.0)

module _ (f : List ℕ → List ℕ) where
  -- what is brought
  pub bring : Brought → Brought
  bring nothing = nothing
  bring (goes_up x y) = goes_up x y
  bring (goes_down x) = goes_down x
  bring (arrives x a b note) = arrives x a b (note_by f note)
  bring (meets x a name) = meets x a name
  bring (parts x a) = parts x a

  brought-by : (P : List Step) (n : ℕ) (l : LinkNo) (what : Brought)
      → brought_at (journal_by f P) n l (bring what) ≡ map (effect_by f) (brought_at P n l what)
  unfolding bring
  brought-by P n l nothing = refl
  brought-by P n l (goes_up x y) = refl
  brought-by P n l (goes_down x) =
      ap (losing (record { 0 = n }) l x) (owed-by f P n)
      ∙ losing-by f (record { 0 = n }) l x (owed P n)
  brought-by P n l (arrives x a b note) = refl
  brought-by P n l (meets x a name) =
      ap (meeting (record { 0 = n }) l (There l x a) name) (hunting-by f P n)
      ∙ meeting-by f (record { 0 = n }) l (There l x a) name (hunting P n)
  brought-by P n l (parts x a) =
      ap (parting (record { 0 = n }) (There l x a)) (owed-by f P n)
      ∙ parting-by f (record { 0 = n }) (There l x a) (owed P n)

  -- what was sent is what arrived
  pub got-by : (P : List Step) (b a : Inc) (p q : Peer) → arrived_from P b p ≡ sent_to P a q
      → arrived_from (journal_by f P) b p ≡ sent_to (journal_by f P) a q
  got-by P b a p q got =
      arrived_from-by f P b p ∙ ap (map (note_by f)) got ∙ sym (sent_to-by f P a q)

  pub all_got-by : (P : List Step) (n : ℕ) (l : LinkNo) (x y : Session) (a : Inc)
      → AllByRecursion (λ b. arrived_from P b (There l x a) ≡ sent_to P a (There l y b))
      (open_endpoints P n)
      → AllByRecursion (λ b. arrived_from (journal_by f P) b (There l x a)
      ≡ sent_to (journal_by f P) a (There l y b)) (open_endpoints (journal_by f P) n)
  all_got-by P n l x y a all =
      rw (open_endpoints-by f P n)
      (all-impl (λ b. arrived_from P b (There l x a) ≡ sent_to P a (There l y b))
      (λ b. arrived_from (journal_by f P) b (There l x a)
      ≡ sent_to (journal_by f P) a (There l y b))
      (λ b got. got-by P b a (There l x a) (There l y b) got) (open_endpoints P n) all)

  arrival_front-by : (P : List Step) (a b : Inc) (p q : Peer) (note : SigNote)
      → IsFront (arrived_from P b p ++ note ∷ []) (sent_to P a q)
      → IsFront (arrived_from (journal_by f P) b p ++ note_by f note ∷ [])
      (sent_to (journal_by f P) a q)
  arrival_front-by P a b p q note front =
      rw (arrived_from-by f P b p, sent_to-by f P a q)
      (subst (λ (xs : List SigNote). IsFront xs (map (note_by f) (sent_to P a q)))
      (map-append (note_by f) (arrived_from P b p) (note ∷ []))
      (front-by (note_by f) (arrived_from P b p ++ note ∷ []) (sent_to P a q) front))

  arrival-by : (P : List Step) (n m : ℕ) (l : LinkNo) (x : Session) (a b : Inc) (note : SigNote)
      → IsArrival P n m l x a b note → IsArrival (journal_by f P) n m l x a b (note_by f note)
  arrival-by P n m l x a b note is = record {
    receiver = is_alive-by f P n (Here b) ∙ is.receiver;
    sender = was_opened-by f P m a ∙ is.sender;
    alive = is_alive-by f P n (There l x a) ∙ is.alive;
    front = some-by
        (λ y. IsFront (arrived_from P b (There l x a) ++ note ∷ []) (sent_to P a (There l y b)))
        (λ y. IsFront (arrived_from (journal_by f P) b (There l x a) ++ note_by f note ∷ [])
        (sent_to (journal_by f P) a (There l y b)))
        (paired_session (journal_by f P) n l.0 x) (paired_session P n l.0 x)
        (paired_session-by f P n l.0 x)
        (λ y front. arrival_front-by P a b (There l x a) (There l y b) note front) is.front;
  }

  meeting_law-by : (P : List Step) (n m : ℕ) (l : LinkNo) (x : Session) (a : Inc) (name : List ℕ)
      → IsMeeting P n m l x a name → IsMeeting (journal_by f P) n m l x a name
  meeting_law-by P n m l x a name is = record {
    up = up_session-by f P n l.0 ∙ is.up;
    opened = was_opened-by f P m a ∙ is.opened;
    named = name_of-by f P a ∙ is.named;
    new = was_met-by f P n (There l x a) ∙ is.new;
  }

  parting_law-by : (P : List Step) (n m : ℕ) (l : LinkNo) (x : Session) (a : Inc)
      → IsParting P n m l x a → IsParting (journal_by f P) n m l x a
  parting_law-by P n m l x a is = record {
    alive = is_alive-by f P n (There l x a) ∙ is.alive;
    closed = is_closed-by f P a ∙ is.closed;
    all_got = some-by
        (λ y. AllByRecursion (λ b. arrived_from P b (There l x a) ≡ sent_to P a (There l y b))
        (open_endpoints P n))
        (λ y. AllByRecursion (λ b. arrived_from (journal_by f P) b (There l x a)
        ≡ sent_to (journal_by f P) a (There l y b)) (open_endpoints (journal_by f P) n))
        (paired_session (journal_by f P) n l.0 x) (paired_session P n l.0 x)
        (paired_session-by f P n l.0 x)
        (λ y all. all_got-by P n l x y a all)
        is.all_got;
  }

  going_up-by : (P : List Step) (n m : ℕ) (l : LinkNo) (x y : Session) → IsGoingUp P n m l x y
      → IsGoingUp (journal_by f P) n m l x y
  going_up-by P n m l x y is = record {
    down = up_session-by f P n l.0 ∙ is.down;
    own = is.own ∙ sym (own_session-by f P n l.0);
    other_had = had_session-by f P m l.0 y ∙ is.other_had;
  }

  going_down-by : (P : List Step) (n m : ℕ) (l : LinkNo) (x : Session) → IsGoingDown P n m l x
      → IsGoingDown (journal_by f P) n m l x
  going_down-by P n m l x is = record {
    up = up_session-by f P n l.0 ∙ is.up;
    passed = some-by (λ y. y.0 < (own_session P m l.0).0)
        (λ y. y.0 < (own_session (journal_by f P) m l.0).0)
        (paired_session (journal_by f P) n l.0 x) (paired_session P n l.0 x)
        (paired_session-by f P n l.0 x)
        (λ y less. subst (λ (z : Session). y.0 < z.0) (sym (own_session-by f P m l.0)) less)
        is.passed;
  }

  may_bring-by : (P : List Step) (n m : ℕ) (l : LinkNo) (what : Brought) → MayBring P n m l what
      → MayBring (journal_by f P) n m l (bring what)
  unfolding bring
  may_bring-by P n m l nothing may = tt
  may_bring-by P n m l (goes_up x y) may = going_up-by P n m l x y may
  may_bring-by P n m l (goes_down x) may = going_down-by P n m l x may
  may_bring-by P n m l (arrives x a b note) may = arrival-by P n m l x a b note may
  may_bring-by P n m l (meets x a name) may = meeting_law-by P n m l x a name may
  may_bring-by P n m l (parts x a) may = parting_law-by P n m l x a may

  pub handed_over-by : (over : Bool) (P : List Step) (n m : ℕ) (l : LinkNo) (es : List Effect)
      → IsHandedOver over P n m l es
      → IsHandedOver over (journal_by f P) n m l (map (effect_by f) es)
  handed_over-by true P n m l es packet = record {
    what = bring packet.what;
    effects = ap (map (effect_by f)) packet.effects ∙ sym (brought-by P n l packet.what);
    may = may_bring-by P n m l packet.what packet.may;
  }
  handed_over-by false P n m l es none = ap (map (effect_by f)) none
