-- Sessions of a side going up and down.
use Rattle.std.proofs.Common.{◌≡◌, ℕ, ◌+◌, Bool, true, false, cond, not, ◌&&◌, List, [], ◌∷◌, ◌++◌}
use Rattle.std.proofs.Common.{Option, Some, None, map, refl, sym, ◌∙◌, ap, subst, arith, ◌==◌}
use Rattle.std.proofs.Common.{filter, true≢false, eq-eqb, eqb-true}
use Rattle.std.specs.List.{AllByRecursion}
use Rattle.std.proofs.lemmas.Bool.{or_left}
use Rattle.std.proofs.lemmas.Bool.Decides.{nat_tests}
use Rattle.linx_base.specs.FirstMatch.{first_match}
use Rattle.linx_base.specs.Numbers.{next_session}
use Rattle.linx_base.specs.Peers.{same_peer}
use Rattle.linx_base.specs.declared.identity.Inc.{Inc}
use Rattle.linx_base.specs.declared.identity.LinkNo.{LinkNo}
use Rattle.linx_base.specs.declared.identity.Peer.TheVariants.{There}
use Rattle.linx_base.specs.declared.identity.Session.{Session}
use Rattle.trunk_record.specs.Changes.{going_up, beginning, fresh}
use Rattle.trunk_record.specs.Records.{SessionRecord, SideRecord, all, has_session, said_of}
use Rattle.trunk_record.specs.Records.{given_of, peer_of, said_in, given_in, peer_in, session_if}
use Rattle.trunk_record.specs.Sayings.{Said, heard_as, is_live, is_shown, is_signal}
use Rattle.trunk_record.specs.Trunks.{IsBelow}
use Rattle.journal.specs.History.{endpoint_by}
use Rattle.linx_base.specs.Pending.{is_of_session}
use Rattle.journal.specs.Living.{is_alive, living}
use Rattle.journal.specs.Sessions.{up_session}
use Rattle.journal.specs.declared.effect.Effect.{Effect}
use Rattle.journal.specs.declared.effect.Effect.TheVariants.{Up, Down}
use Rattle.journal.specs.declared.effect.Step.{Step}
use Rattle.journal.proofs.Lists.{all-impl}
use Rattle.link_laws.specs.Came.{came_in, sent_in, signal_over}
use Rattle.link_laws.specs.Linked.{IsLinked, IsTrueOf, is_session}
use Rattle.link_laws.specs.Sessions.{paired_session, own_session, had_session, restarts}
use Rattle.trunk_record.proofs.Lookups.{given-now, none_such}
use Rattle.link_laws.proofs.Sides.Untouched.{alive_in, same_peer-is}
use Rattle.link_laws.proofs.Sides.WordsAfterStep.{IsDone, came-done, living-done, up-done}
use Rattle.link_laws.proofs.Sides.WordsAfterStep.{paired-done, own-done, down-done}
use Rattle.link_laws.proofs.Sides.Keeps.{had-more}
use Rattle.link_laws.proofs.Endpoints.OpenAfterStep.{any-filter, OpensNew, still-true, open-more}

turn : (m k : ℕ) → (m == k) ≡ (k == m)
turn m k = grind (arith, nat_tests)

-- GOING UP
module _ (P : List Step) (s : Step) (n : ℕ) (l : LinkNo) (A : SideRecord) (y : Session)
    (items : List Effect) (done : IsDone s (Up (record { 0 = n }) l A.now.session y ∷ []) items)
    (link : IsLinked P n l A) (down : A.now.peer ≡ None) (none : A.now.given ≡ []) where
  abbrev es : List Effect
  es = Up (record { 0 = n }) l A.now.session y ∷ []

  ids : ((n == n) ≡ true) × ((l.0 == l.0) ≡ true)
  ids = (eq-eqb n n refl, eq-eqb l.0 l.0 refl)

  up-pair : (x : Session) → peer_in (going_up y A) x
      ≡ cond (has_session x A.now) (Some y) (peer_in A x)
  up-pair x =
      elim (has_session x A.now) as (λ t. peer_of
      (cond t (Some (record A.now { peer = Some y })) (first_match (has_session x) A.earlier))
      ≡ cond t (Some y) (peer_of (cond t (Some A.now) (first_match (has_session x) A.earlier))))
      [ true ↦ refl | false ↦ refl ]

  up-said : (x : Session) → said_in (going_up y A) x ≡ said_in A x
  up-said x =
      elim (has_session x A.now) as (λ t. said_of
      (cond t (Some (record A.now { peer = Some y })) (first_match (has_session x) A.earlier))
      ≡ said_of (cond t (Some A.now) (first_match (has_session x) A.earlier))) [
        | true ↦
            refl
        | false ↦ refl
      ]

  up-given : (x : Session) → given_in (going_up y A) x ≡ given_in A x
  up-given x =
      elim (has_session x A.now) as (λ t. given_of
      (cond t (Some (record A.now { peer = Some y })) (first_match (has_session x) A.earlier))
      ≡ given_of (cond t (Some A.now) (first_match (has_session x) A.earlier))) [
        | true ↦
            refl
        | false ↦ refl
      ]

  -- in the session that goes up no peer was met yet
  nobody : (x : Session) (a : Inc) → (x.0 == A.now.session.0 && is_live a
      (map heard_as (given_in A x))) ≡ false
  nobody x a = by_test (x.0 == A.now.session.0) refl
    where
      by_test : (t : Bool) → (x.0 == A.now.session.0) ≡ t
          → (t && is_live a (map heard_as (given_in A x))) ≡ false
      by_test false e = refl
      by_test true e =
          let same : x ≡ A.now.session = ap (λ (k : ℕ). let z : Session = record { 0 = k } in
          z) (eqb-true x.0 A.now.session.0 e) in
          ap (λ k. is_live a (map heard_as k)) (ap (given_in A) same ∙ given-now A ∙ none)

  pub keeps_up : restarts n s.head ≡ false → ((x : Session)
      → signal_over n l.0 x (endpoint_by P s.by) s.head ≡ []) → IsLinked (s ∷ P) n l (going_up y A)
  keeps_up stays says =
      let new : OpensNew P es = λ i was. refl in
      let more : (said : List Said) → AllByRecursion (IsTrueOf P n) said
      → AllByRecursion (IsTrueOf (s ∷ P) n) said =
      λ said was. all-impl (IsTrueOf P n) (IsTrueOf (s ∷ P) n)
      (still-true P s es items done n new) said was in
      record {
        own = own-done P s es items done n l.0 stays refl ∙ link.own;
        up = up-done P s es items done n l.0 ∙ rw (ids.0, ids.1) refl;
        pairs = λ x. paired-done P s es items done n l.0 x
            ∙ rw (ids.0, ids.1) (ap (λ z. cond (has_session x A.now) (Some y) z) (link.pairs x)
            ∙ sym (up-pair x));
        had = (
          had-more P s n l.0 A.now.session link.had.0,
          all-impl _ _ (λ e was. had-more P s n l.0 e.session was) A.earlier link.had.1,
        );
        sent = λ x. ap (λ k. k ++ sent_in P n l.0 x) (says x) ∙ link.sent x
            ∙ ap (filter is_signal) (sym (up-said x));
        came = λ x. came-done P s es items done n l.0 x ∙ link.came x
            ∙ ap (filter is_shown) (sym (up-given x));
        truly = (
          more A.now.said link.truly.0,
          all-impl _ _ (λ e was. more e.said was) A.earlier
              link.truly.1,
        );
        live = λ i is. open-more P s es items done n new i (link.live i is) refl;
        living = λ x a.
            ap (alive_in (There l x a)) (living-done P s es items done n) ∙ link.living x a
            ∙ ap (λ u. is_session x (session_if u A.now.session) && is_live a
            (map heard_as (given_in A x))) down
            ∙ sym (nobody x a) ∙ ap (λ k. x.0 == A.now.session.0 && is_live a (map heard_as k))
            (sym (up-given x));
      }

-- BEGINNING ANEW, whatever ended the session: what the history has to say of it
pub record IsEnded (P Q : List Step) (n : ℕ) (l : LinkNo) (x : Session) : Type 0 where
  pub own : own_session Q n l.0 ≡ x
  pub down : up_session Q n l.0 ≡ None
  pub pairs : (z : Session) → paired_session Q n l.0 z ≡ paired_session P n l.0 z
  pub came : (z : Session) → came_in Q n l.0 z ≡ came_in P n l.0 z
  pub sent : (z : Session) → sent_in Q n l.0 z ≡ sent_in P n l.0 z
  pub dead : (z : Session) (a : Inc) → is_alive Q n (There l z a) ≡ false
  pub truly : (w : Said) → IsTrueOf P n w → IsTrueOf Q n w

pub keeps_beginning : (P : List Step) (s : Step) (n : ℕ) (l : LinkNo) (A : SideRecord) (x : Session)
    → IsLinked P n l A → IsEnded P (s ∷ P) n l x → AllByRecursion (IsBelow x) (all A)
    → IsLinked (s ∷ P) n l (beginning x A)
keeps_beginning P s n l A x link ended below = record {
  own = ended.own;
  up = ended.down;
  pairs = λ z. ended.pairs z ∙ link.pairs z ∙ look peer_of z refl;
  had = (
    or_left ((own_session (s ∷ P) n l.0).0 == x.0) (had_session P n l.0 x)
        (eq-eqb (own_session (s ∷ P) n l.0).0 x.0 (ap (λ (k : Session). k.0) ended.own)),
    all-impl _ _ (λ e was. had-more P s n l.0 e.session was) (all A) link.had,
  );
  sent = λ z. ended.sent z ∙ link.sent z ∙ ap (filter is_signal) (look said_of z refl);
  came = λ z. ended.came z ∙ link.came z ∙ ap (filter is_shown) (look given_of z refl);
  truly = (
    tt,
    all-impl (λ e. AllByRecursion (IsTrueOf P n) e.said)
        (λ e. AllByRecursion (IsTrueOf (s ∷ P) n) e.said)
        (λ e was. all-impl (IsTrueOf P n) (IsTrueOf (s ∷ P) n) ended.truly e.said was) (all A)
        link.truly,
  );
  live = λ i is. absurd (true≢false (sym is));
  living = λ z a. ended.dead z a;
}
  where
    look : {X : Type 0} (f : Option SessionRecord → X) (z : Session) → f (Some (fresh x)) ≡ f None
        → f (first_match (has_session z) (all A)) ≡ f
        (first_match (has_session z) (all (beginning x A)))
    look f z same = by_test (x.0 == z.0) refl
      where
        by_test : (t : Bool) → (x.0 == z.0) ≡ t → f (first_match (has_session z) (all A))
            ≡ f (cond t (Some (fresh x)) (first_match (has_session z) (all A)))
        by_test false e = refl
        by_test true e =
            let is : x ≡ z = ap (λ (k : ℕ). let w : Session = record { 0 = k } in
            w) (eqb-true x.0 z.0 e) in
            ap f (subst (λ (w : Session). first_match (has_session w) (all A) ≡ None) is
            (none_such x (all A) below)) ∙ sym same

-- GOING DOWN by a Wire or a Tick step
pub keeps_down : (P : List Step) (s : Step) (n : ℕ) (l : LinkNo) (A : SideRecord) (y : Session)
    (items : List Effect) → IsDone s (Down (record { 0 = n }) l A.now.session ∷ []) items
    → IsLinked P n l A → A.now.peer ≡ Some y → restarts n s.head ≡ false
    → ((x : Session) → signal_over n l.0 x (endpoint_by P s.by) s.head ≡ [])
    → IsEnded P (s ∷ P) n l (next_session A.now.session)
keeps_down P s n l A y items done link pair stays says = record {
  own = down-done P s es items done n l.0 stays (rw (nn, ll) refl)
      ∙ ap (λ (k : Session). let z : Session = record { 0 = k.0 + 1 } in z) link.own;
  down = up-done P s es items done n l.0 ∙ rw (nn, ll) refl;
  pairs = λ z. paired-done P s es items done n l.0 z;
  came = λ z. came-done P s es items done n l.0 z;
  sent = λ z. ap (λ k. k ++ sent_in P n l.0 z) (says z);
  dead = λ z a.
      ap (alive_in (There l z a)) (living-done P s es items done n)
      ∙ ap (λ t. alive_in (There l z a) (cond t (filter
      (λ m. not (is_of_session l A.now.session m.peer)) (living P n)) (living P n))) nn
      ∙ any-filter (λ m. same_peer (There l z a) m.peer)
      (λ m. not (is_of_session l A.now.session m.peer))
      (not (l.0 == l.0 && z.0 == A.now.session.0))
      (λ m is. ap (λ k. not (is_of_session l A.now.session k)) (same_peer-is l z a m.peer is))
      (living P n)
      ∙ ap (λ t. not (t && z.0 == A.now.session.0) && is_alive P n (There l z a)) ll
      ∙ ap (λ t. not (z.0 == A.now.session.0) && t) (link.living z a
      ∙ ap (λ u. is_session z (session_if u A.now.session) && is_live a
      (map heard_as (given_in A z))) pair)
      ∙ both (z.0 == A.now.session.0) (is_live a (map heard_as (given_in A z)));
  truly = still-true P s es items done n (λ i was. refl);
}
  where
    es : List Effect
    es = Down (record { 0 = n }) l A.now.session ∷ []

    nn : (n == n) ≡ true
    nn = eq-eqb n n refl

    ll : (l.0 == l.0) ≡ true
    ll = eq-eqb l.0 l.0 refl

    both : (t u : Bool) → (not t && (t && u)) ≡ false
    both true u = refl
    both false u = refl
