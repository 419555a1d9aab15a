-- WHAT A PACKET MAY BRING, as what is known tells it, is what the laws let it bring.
use Rattle.std.proofs.Common.{◌≡◌, ℕ, ◌+◌, ◌<◌, Bool, true, false, not, ◌&&◌, ◌==◌, List, [], ◌∷◌}
use Rattle.std.proofs.Common.{◌++◌, length, Option, Some, None, is_none, is_some, slice_get, refl}
use Rattle.std.proofs.Common.{sym, ◌∙◌, ap, subst, eq-eqb, lt-ltb, ltb-true, true≢false}
use Rattle.std.specs.Prelude.{IsSomeAnd}
use Rattle.std.specs.List.{list_any, AllByRecursion}
use Rattle.std.proofs.lemmas.Bool.{and_parts, not-true}
use Rattle.linx_base.specs.Fronts.{IsFront}
use Rattle.linx_base.specs.Numbers.{is_on, session_of}
use Rattle.linx_base.specs.Peers.{same_inc}
use Rattle.linx_base.specs.Sides.{other_of}
use Rattle.linx_base.specs.SigNotes.{SigNote}
use Rattle.linx_base.specs.declared.identity.Inc.{Inc}
use Rattle.linx_base.specs.declared.identity.LinkNo.{LinkNo}
use Rattle.linx_base.specs.declared.identity.NodeNo.{NodeNo}
use Rattle.linx_base.specs.declared.identity.Peer.TheVariants.{Here, There}
use Rattle.linx_base.specs.declared.identity.Session.{Session}
use Rattle.linx_base.specs.declared.identity.Side.{Side}
use Rattle.journal.specs.History.{name_of, name_or_none, open_endpoints}
use Rattle.journal.specs.Living.{is_alive}
use Rattle.journal.specs.Sessions.{up_session}
use Rattle.journal.specs.Traffic.{arrived_from, sent_to}
use Rattle.journal.specs.declared.effect.Effect.{Effect}
use Rattle.journal.specs.declared.effect.Effect.TheVariants as effects
use Rattle.journal.specs.declared.effect.Step.{Step}
use Rattle.link_laws.specs.Brought.{IsArrival, IsGoingDown, IsGoingUp, IsMeeting, IsParting}
use Rattle.link_laws.specs.Brought.{MayBring, was_opened}
use Rattle.link_laws.specs.Sessions.{downs, own_session, paired_session}
use Rattle.node_kernel.specs.Nodes.{NodeState, is_living, is_open}
use Rattle.link_tables.specs.Arrivals.{count_in, counts_left}
use Rattle.link_tables.specs.Marks.{is_closing_of, is_meeting_of, opened_as}
use Rattle.link_tables.specs.Sent.{flows_of, is_from, sent_left}
use Rattle.link_tables.specs.Sides.{had_in, own_in, side_left, up_pair}
use Rattle.link_tables.specs.declared.sent.Flow.{Flow}
use Rattle.link_tables.proofs.Arrived.{arrived-told}
use Rattle.link_tables.proofs.Flows.{flow-told}
use Rattle.link_tables.proofs.Had.{boots-earlier, had-told}
use Rattle.link_tables.proofs.Marked.{closed-told, met-told, opened-told}
use Rattle.link_tables.proofs.Named.{name-told}
use Rattle.link_tables.proofs.Pairs.{up-paired}
use Rattle.link_check.specs.Deliveries.{Known, all_came, comes_next, flow_of, is_due, is_passed}
use Rattle.link_check.specs.Deliveries.{is_session, is_to_come, known_left, may_arrive, may_bring}
use Rattle.link_check.specs.Deliveries.{may_go_down, may_go_up, may_meet, may_part, next_sent}
use Rattle.link_check.specs.Deliveries.{was_named, was_opened_there}
use Rattle.link_check.specs.Orderly.{IsOrderly, TellsAlive}
use Rattle.link_check.specs.Reading.{brought_by}
use Rattle.link_check.proofs.Fronts.{all-behind, front-all, front-next, next-front}
use Rattle.link_check.proofs.Ones.{none-filtered}
use Rattle.link_check.proofs.Sendings.{among, each-all, noted-flow}
use Rattle.link_check.proofs.Tests.{both, inc-is, inc-same, is-named, is-note, is-session, named-is}
use Rattle.link_check.proofs.Tests.{note-is, session-is, session-up, up-session}

module _ (P : List Step) (node : NodeState) (at other : NodeNo) (l : LinkNo) (side : Side)
    (arrived : List (Flow × ℕ)) (counted : (f : Flow) → count_in arrived f ≡ counts_left P f)
    (short : length P < 4294967294) (tells : TellsAlive P at.0 l node)
    (orderly : IsOrderly P at.0 l) where
  abbrev n : ℕ
  n = at.0

  abbrev m : ℕ
  m = other.0

  abbrev d : Known
  d = known_left P node at other l side arrived

  -- SESSIONS. The session that a side has
  own-same : (k : ℕ) (s : Side) → own_in (side_left P k l.0 s) ≡ own_session P k l.0
  own-same k s =
      ap (λ (b : ℕ). session_of (1 + b) (1 + downs P k l.0)) (boots-earlier P k l.0)

  pub down-is : (up : Option Session) → is_none up ≡ true → up ≡ None
  down-is None is = refl
  down-is (Some x) is = absurd (true≢false (sym is))

  goes-up : (x y : Session) → may_go_up d x y ≡ true → IsGoingUp P n m l x y
  goes-up x y is =
      let parts = and_parts (is_none d.here.up) (x.0 == (own_in d.here).0 && had_in d.there y) is in
      let others = and_parts (x.0 == (own_in d.here).0) (had_in d.there y) parts.1 in
      record {
        down = down-is (up_session P n l.0) parts.0;
        own = session-is x (own_in d.here) others.0 ∙ own-same n side;
        other_had = had-told P m l.0 (other_of side) y short ∙ others.1;
      }

  up-goes : (x y : Session) → IsGoingUp P n m l x y → may_go_up d x y ≡ true
  up-goes x y may =
      both (is_none d.here.up) (x.0 == (own_in d.here).0 && had_in d.there y)
      (ap (λ (up : Option Session). is_none up) may.down)
      (both (x.0 == (own_in d.here).0) (had_in d.there y)
      (is-session x (own_in d.here) (may.own ∙ sym (own-same n side)))
      (sym (had-told P m l.0 (other_of side) y short) ∙ may.other_had))

  -- the pair of the session that is up
  pub pair-is : (x : Session) → up_session P n l.0 ≡ Some x
      → paired_session P n l.0 x ≡ up_pair P n l.0
  pair-is x up = up-paired n l.0 x P up

  passed-is : (pair : Option Session) → is_passed pair (own_in d.there) ≡ true
      → IsSomeAnd pair (λ y. y.0 < (own_session P m l.0).0)
  passed-is None is = absurd (true≢false (sym is))
  passed-is (Some y) is =
      subst (λ (z : Session). y.0 < z.0) (own-same m (other_of side))
      (ltb-true y.0 (own_in d.there).0 is)

  is-passed : (pair : Option Session) → IsSomeAnd pair (λ y. y.0 < (own_session P m l.0).0)
      → is_passed pair (own_in d.there) ≡ true
  is-passed None is = absurd is
  is-passed (Some y) is =
      lt-ltb y.0 (own_in d.there).0
      (subst (λ (z : Session). y.0 < z.0) (sym (own-same m (other_of side))) is)

  goes-down : (x : Session) → may_go_down d x ≡ true → IsGoingDown P n m l x
  goes-down x is =
      let parts = and_parts (is_session d.here.up x) (is_passed d.here.pair (own_in d.there)) is in
      let up = session-up (up_session P n l.0) x parts.0 in
      record {
        up = up;
        passed = subst (λ (o : Option Session). IsSomeAnd o (λ y. y.0 < (own_session P m l.0).0))
            (sym (pair-is x up)) (passed-is (up_pair P n l.0) parts.1);
      }

  down-goes : (x : Session) → IsGoingDown P n m l x → may_go_down d x ≡ true
  down-goes x may =
      both (is_session d.here.up x) (is_passed d.here.pair (own_in d.there))
      (up-session (up_session P n l.0) x may.up)
      (is-passed (up_pair P n l.0)
      (subst (λ (o : Option Session). IsSomeAnd o (λ y. y.0 < (own_session P m l.0).0))
      (pair-is x may.up) may.passed))

  -- WHO WAS OPENED across
  opened-same : (a : Inc) → was_opened_there d a ≡ was_opened P m a
  opened-same a = ap (λ (t : Bool). is_on m a && t) (opened-told a P)

  -- ARRIVALS: the signal behind those that arrived
  abbrev sent : Session → (a b : Inc) → List SigNote
  sent y a b = sent_to P a (There l y b)

  abbrev came : Session → (a b : Inc) → List SigNote
  came x a b = arrived_from P b (There l x a)

  pub next-same : (x y : Session) (a b : Inc)
      → next_sent d x y a b ≡ slice_get (sent y a b) (length (came x a b))
  next-same x y a b =
      ap (λ (notes : List SigNote). slice_get notes (count_in arrived (flow_of b l x a)))
      (flow-told (flow_of a l y b) P)
      ∙ ap (λ (k : ℕ). slice_get (sent y a b) k)
      (counted (flow_of b l x a) ∙ arrived-told (flow_of b l x a) P)

  module _ (x : Session) (up : up_session P n l.0 ≡ Some x) (a b : Inc)
      (open_ : is_alive P n (Here b) ≡ true) where
    abbrev IsNext : SigNote → Option Session → Type 0
    IsNext note pair = IsSomeAnd pair (λ y. IsFront (came x a b ++ note ∷ []) (sent y a b))

    front-of : (pair : Option Session) → paired_session P n l.0 x ≡ pair → (y : Session)
        → pair ≡ Some y → IsFront (came x a b) (sent y a b)
    front-of pair is y same = orderly.fronts x y up (is ∙ same) a b open_

    comes : (note : SigNote) (pair : Option Session) → paired_session P n l.0 x ≡ pair
        → comes_next pair d x a b note ≡ true → IsNext note pair
    comes note None paired is = absurd (true≢false (sym is))
    comes note (Some y) paired is =
        next-front (came x a b) note (sent y a b) (front-of (Some y) paired y refl)
        (sym (next-same x y a b) ∙ note-is (next_sent d x y a b) note is)

    next-comes : (note : SigNote) (pair : Option Session) → IsNext note pair
        → comes_next pair d x a b note ≡ true
    next-comes note None is = absurd is
    next-comes note (Some y) is =
        is-note (next_sent d x y a b) note
        (next-same x y a b ∙ front-next (came x a b) note (sent y a b) is)

  arrives-told : (x : Session) (a b : Inc) (note : SigNote) → may_arrive d x a b note ≡ true
      → IsArrival P n m l x a b note
  arrives-told x a b note is =
      let one = and_parts (is_open node.endpoints b) (is_living node (There l x a)
      && (was_opened_there d a && comes_next d.here.pair d x a b note)) is in
      let two = and_parts (is_living node (There l x a)) (was_opened_there d a
      && comes_next d.here.pair d x a b note) one.1 in
      let three = and_parts (was_opened_there d a) (comes_next d.here.pair d x a b note) two.1 in
      let receiver : is_alive P n (Here b) ≡ true = sym (tells.here b) ∙ one.0 in
      let alive : is_alive P n (There l x a) ≡ true = sym (tells.there x a) ∙ two.0 in
      let up = orderly.living x a alive in
      record {
        receiver = receiver;
        sender = sym (opened-same a) ∙ three.0;
        alive = alive;
        front = subst (IsNext x up a b receiver note) (sym (pair-is x up))
            (comes x up a b receiver note (up_pair P n l.0) (pair-is x up) three.1);
      }

  told-arrives : (x : Session) (a b : Inc) (note : SigNote) → IsArrival P n m l x a b note
      → may_arrive d x a b note ≡ true
  told-arrives x a b note may =
      let up = orderly.living x a may.alive in
      both (is_open node.endpoints b) (is_living node (There l x a)
      && (was_opened_there d a && comes_next d.here.pair d x a b note))
      (tells.here b ∙ may.receiver)
      (both (is_living node (There l x a)) (was_opened_there d a
      && comes_next d.here.pair d x a b note) (tells.there x a ∙ may.alive)
      (both (was_opened_there d a) (comes_next d.here.pair d x a b note)
      (opened-same a ∙ may.sender)
      (next-comes x up a b may.receiver note (up_pair P n l.0)
      (subst (IsNext x up a b may.receiver note) (pair-is x up) may.front))))

  -- MEETINGS
  name-same : (a : Inc) → name_or_none (opened_as a d.marks) ≡ name_of P a
  name-same a = ap name_or_none (name-told a P)

  meets-told : (x : Session) (a : Inc) (name : List ℕ) → may_meet d x a name ≡ true
      → IsMeeting P n m l x a name
  meets-told x a name is =
      let one = and_parts (is_session d.here.up x) (was_opened_there d a && (was_named d a name
      && not (list_any (is_meeting_of n (There l x a)) d.marks))) is in
      let two = and_parts (was_opened_there d a) (was_named d a name
      && not (list_any (is_meeting_of n (There l x a)) d.marks)) one.1 in
      let three = and_parts (was_named d a name)
      (not (list_any (is_meeting_of n (There l x a)) d.marks)) two.1 in
      record {
        up = session-up (up_session P n l.0) x one.0;
        opened = sym (opened-same a) ∙ two.0;
        named = sym (name-same a) ∙ named-is (opened_as a d.marks) name three.0;
        new = sym (met-told n l x a P) ∙ not-true _ three.1;
      }

  told-meets : (x : Session) (a : Inc) (name : List ℕ) → IsMeeting P n m l x a name
      → may_meet d x a name ≡ true
  told-meets x a name may =
      both (is_session d.here.up x) (was_opened_there d a && (was_named d a name
      && not (list_any (is_meeting_of n (There l x a)) d.marks)))
      (up-session (up_session P n l.0) x may.up)
      (both (was_opened_there d a) (was_named d a name
      && not (list_any (is_meeting_of n (There l x a)) d.marks)) (opened-same a ∙ may.opened)
      (both (was_named d a name) (not (list_any (is_meeting_of n (There l x a)) d.marks))
      (is-named (opened_as a d.marks) name (name-same a ∙ may.named))
      (ap not (met-told n l x a P ∙ may.new))))

  -- PARTINGS
  module _ (x : Session) (up : up_session P n l.0 ≡ Some x) (a : Inc) where
    abbrev HasGot : Session → Inc → Type 0
    HasGot y b = came x a b ≡ sent y a b

    abbrev AllGot : Option Session → Type 0
    AllGot pair = IsSomeAnd pair (λ y. AllByRecursion (HasGot y) (open_endpoints P n))

    -- a signal from a to b in session y is one that is looked at
    looked-at : (y : Session) (b : Inc) → is_alive P n (Here b) ≡ true
        → (note : SigNote) → next_sent d x y a b ≡ Some note
        → (is_from a l y (flow_of a l y b) && is_to_come d x (flow_of a l y b)) ≡ true
    looked-at y b open_ note is =
        both (is_from a l y (flow_of a l y b))
        (is_some (next_sent d x y a b) && is_open node.endpoints b)
        (both (same_inc a a) (l.0 == l.0 && y.0 == y.0) (inc-same a)
        (both (l.0 == l.0) (y.0 == y.0) (eq-eqb l.0 l.0 refl) (eq-eqb y.0 y.0 refl)))
        (both (is_some (next_sent d x y a b)) (is_open node.endpoints b)
        (ap (λ (o : Option SigNote). is_some o) is) (tells.here b ∙ open_))

    got-of : (y : Session) → paired_session P n l.0 x ≡ Some y → is_due d x y a ≡ false
        → (b : Inc) → is_alive P n (Here b) ≡ true → HasGot y b
    got-of y paired none b open_ = go (next_sent d x y a b) refl
      where
        go : (o : Option SigNote) → next_sent d x y a b ≡ o → HasGot y b
        go None is =
            front-all (came x a b) (sent y a b) (orderly.fronts x y up paired a b open_)
            (sym (next-same x y a b) ∙ is)
        go (Some note) is =
            absurd (true≢false (sym (noted-flow (flow_of a l y b) (is_to_come d x) (is_from a l y)
            (looked-at y b open_ note is) (count_in arrived (flow_of b l x a)) note (sent_left P)
            is) ∙ none))

    all-got : (pair : Option Session) → paired_session P n l.0 x ≡ pair
        → all_came pair d x a ≡ true → AllGot pair
    all-got None paired is = absurd (true≢false (sym is))
    all-got (Some y) paired is =
        each-all (HasGot y) (open_endpoints P n) (got-of y paired (not-true _ is))

    -- and where each has got all, none is due
    came-of : (y : Session) → AllByRecursion (HasGot y) (open_endpoints P n) → (f : Flow)
        → is_from a l y f ≡ true → is_to_come d x f ≡ true → ⊥
    came-of y all f from due =
        let halves = and_parts (same_inc a f.at) (l.0 == f.link.0 && y.0 == f.session.0) from in
        let others = and_parts (l.0 == f.link.0) (y.0 == f.session.0) halves.1 in
        let parts = and_parts (is_some (next_sent d x f.session f.at f.peer))
        (is_open node.endpoints f.peer) due in
        let b : Inc = f.peer in
        let there : is_some (next_sent d x y a b) ≡ true =
        subst (λ (z : Session). is_some (next_sent d x z a b) ≡ true)
        (sym (session-is y f.session others.1))
        (subst (λ (i : Inc). is_some (next_sent d x f.session i b) ≡ true)
        (sym (inc-is a f.at halves.0)) parts.0) in
        let got : HasGot y b =
        among (HasGot y) b (open_endpoints P n) all (sym (tells.here b) ∙ parts.1) in
        let none : next_sent d x y a b ≡ None =
        next-same x y a b ∙ ap (λ (notes : List SigNote). slice_get (sent y a b) (length notes)) got
        ∙ all-behind (sent y a b) in
        true≢false (sym there ∙ ap (λ (o : Option SigNote). is_some o) none)

    got-all : (pair : Option Session) → AllGot pair → all_came pair d x a ≡ true
    got-all None is = absurd is
    got-all (Some y) all =
        ap not (none-filtered (is_to_come d x) (is_from a l y) (flows_of (sent_left P))
        (came-of y all))

  parts-told : (x : Session) (a : Inc) → may_part d x a ≡ true → IsParting P n m l x a
  parts-told x a is =
      let one = and_parts (is_living node (There l x a)) (list_any (is_closing_of a) d.marks
      && all_came d.here.pair d x a) is in
      let two = and_parts (list_any (is_closing_of a) d.marks) (all_came d.here.pair d x a) one.1 in
      let alive : is_alive P n (There l x a) ≡ true = sym (tells.there x a) ∙ one.0 in
      let up = orderly.living x a alive in
      record {
        alive = alive;
        closed = sym (closed-told a P) ∙ two.0;
        all_got = subst (AllGot x up a) (sym (pair-is x up))
            (all-got x up a (up_pair P n l.0) (pair-is x up) two.1);
      }

  told-parts : (x : Session) (a : Inc) → IsParting P n m l x a → may_part d x a ≡ true
  told-parts x a may =
      let up = orderly.living x a may.alive in
      both (is_living node (There l x a)) (list_any (is_closing_of a) d.marks
      && all_came d.here.pair d x a) (tells.there x a ∙ may.alive)
      (both (list_any (is_closing_of a) d.marks) (all_came d.here.pair d x a)
      (closed-told a P ∙ may.closed)
      (got-all x up a (up_pair P n l.0) (subst (AllGot x up a) (pair-is x up) may.all_got)))

  -- WHAT IT BRINGS, read from its effects
  abbrev May : List Effect → Type 0
  May es = IsSomeAnd (brought_by es) (MayBring P n m l)

  pub told-may : (es : List Effect) → may_bring d es ≡ true → May es
  told-may [] is = tt
  told-may (effects.Up k h x y ∷ es) is = goes-up x y is
  told-may (effects.Down k h x ∷ es) is = goes-down x is
  told-may (effects.Arrived b (There h x a) note ∷ es) is = arrives-told x a b note is
  told-may (effects.Met k (There h x a) name ∷ es) is = meets-told x a name is
  told-may (effects.Gone k (There h x a) ∷ es) is = parts-told x a is
  told-may (effects.Arrived b (Here i) note ∷ es) is = absurd (true≢false (sym is))
  told-may (effects.Met k (Here i) name ∷ es) is = absurd (true≢false (sym is))
  told-may (effects.Gone k (Here i) ∷ es) is = absurd (true≢false (sym is))
  told-may (_ ∷ es) is = absurd (true≢false (sym is))

  pub may-told : (es : List Effect) → May es → may_bring d es ≡ true
  may-told [] may = refl
  may-told (effects.Up k h x y ∷ es) may = up-goes x y may
  may-told (effects.Down k h x ∷ es) may = down-goes x may
  may-told (effects.Arrived b (There h x a) note ∷ es) may = told-arrives x a b note may
  may-told (effects.Met k (There h x a) name ∷ es) may = told-meets x a name may
  may-told (effects.Gone k (There h x a) ∷ es) may = told-parts x a may
  may-told (effects.Arrived b (Here i) note ∷ es) may = absurd may
  may-told (effects.Met k (Here i) name ∷ es) may = absurd may
  may-told (effects.Gone k (Here i) ∷ es) may = absurd may
  may-told (_ ∷ es) may = absurd may
