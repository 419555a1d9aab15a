-- What keeps a side of a link: a step that says more on it, or nothing, and one that shows what it
-- was given.
use Rattle.std.proofs.Common.{◌≡◌, ℕ, Bool, true, false, cond, not, ◌||◌, ◌&&◌, List, [], ◌∷◌, ◌++◌}
use Rattle.std.proofs.Common.{Option, Some, map, refl, sym, ◌∙◌, ap, arith, ◌==◌, filter, fold}
use Rattle.std.proofs.Common.{eq-eqb}
use Rattle.std.specs.List.{list_any, AllByRecursion}
use Rattle.std.proofs.Math.Bool.{or-false}
use Rattle.std.proofs.lemmas.Bool.{or_right}
use Rattle.std.proofs.lemmas.Bool.Decides.{nat_tests}
use Rattle.std.proofs.lemmas.List.Elements.{filter-append}
use Rattle.std.proofs.lemmas.List.Folds.{list_any-append}
use Rattle.linx_base.specs.Peers.{same_inc, same_peer}
use Rattle.linx_base.specs.declared.identity.Inc.{Inc}
use Rattle.linx_base.specs.declared.identity.LinkNo.{LinkNo}
use Rattle.linx_base.specs.declared.identity.Peer.{Peer}
use Rattle.linx_base.specs.declared.identity.Peer.TheVariants.{Here, There}
use Rattle.linx_base.specs.declared.identity.Session.{Session}
use Rattle.linx_base.specs.declared.pending.MetPeer.{MetPeer}
use Rattle.linx_base.specs.SigNotes.{SigNote}
use Rattle.trunk_record.specs.Changes.{saying, giving}
use Rattle.trunk_record.specs.Records.{SideRecord, has_session, said_in, given_in, up_in}
use Rattle.trunk_record.specs.Records.{session_if}
use Rattle.trunk_record.specs.Sayings.{Said, Given, met, asked_for, arrived, freed, gone, heard_as}
use Rattle.trunk_record.specs.Sayings.{is_live, is_shown, is_signal}
use Rattle.journal.specs.History.{closes, endpoint_by, opens}
use Rattle.journal.specs.Living.{is_alive, living, living_after}
use Rattle.journal.specs.Sessions.{up_session, session_after}
use Rattle.journal.specs.declared.effect.Effect.{Effect}
use Rattle.journal.specs.declared.effect.Effect.TheVariants.{Arrived, Met, Gone}
use Rattle.journal.specs.declared.effect.Step.{Step}
use Rattle.journal.proofs.Lists.{all-append, all-impl}
use Rattle.link_laws.specs.Came.{came_after, came_in, sent_in, signal_over}
use Rattle.link_laws.specs.Linked.{IsLinked, IsTrueOf, is_session}
use Rattle.link_laws.specs.Sessions.{paired_session, own_session, had_session, paired_after}
use Rattle.link_laws.specs.Sessions.{ends_session, restarts}
use Rattle.trunk_record.proofs.Lookups.{saying-said, saying-given, saying-peer, giving-said}
use Rattle.trunk_record.proofs.Lookups.{giving-peer, giving-given}
use Rattle.link_laws.proofs.Sides.Untouched.{touches, up-away, paired-away, came-away, alive-away}
use Rattle.link_laws.proofs.Sides.Untouched.{own-away, alive_in, same_peer-is}
use Rattle.link_laws.proofs.Sides.WordsAfterStep.{IsDone, came-done, living-done, up-done}
use Rattle.link_laws.proofs.Sides.WordsAfterStep.{paired-done, own-done}
use Rattle.link_laws.proofs.Endpoints.OpenAfterStep.{any-filter, OpensNew, open-more, still-true}
use Rattle.link_laws.proofs.AllLinks.OthersStay.{shown_by, IsAt}

pub had-more : (P : List Step) (s : Step) (n l : ℕ) (y : Session) → had_session P n l y ≡ true
    → had_session (s ∷ P) n l y ≡ true
had-more P s n l y was = or_right ((own_session (s ∷ P) n l).0 == y.0) (had_session P n l y) was

-- SAYING. A step that touches not a side, and says more on it (or nothing), keeps it
pub keeps_saying : (P : List Step) (s : Step) (es items : List Effect) (done : IsDone s es items)
    (n : ℕ) (l : LinkNo) (A : SideRecord) (ws : List Said) → IsLinked P n l A →
    list_any (touches n l.0) es ≡ false → restarts n s.head ≡ false → OpensNew P es →
    ((x : Session) → signal_over n l.0 x (endpoint_by P s.by) s.head
    ≡ cond (has_session x A.now) (filter is_signal ws) []) →
    AllByRecursion (IsTrueOf (s ∷ P) n) ws →
    ((i : Inc) → is_live i (ws ++ A.now.said) ≡ true → is_alive (s ∷ P) n (Here i) ≡ true) →
    IsLinked (s ∷ P) n l (saying ws A)
keeps_saying P s es items done n l A ws link away stays new says truly live = record {
  own = own-away P s es items done n l away stays ∙ link.own;
  up = up-away P s es items done n l away ∙ link.up;
  pairs = λ x. paired-away P s es items done n l away x ∙ link.pairs x ∙ sym (saying-peer ws A x);
  had = (
    had-more P s n l.0 A.now.session link.had.0,
    all-impl _ _ (λ e was. had-more P s n l.0 e.session was) A.earlier link.had.1,
  );
  sent = λ x.
      ap (λ k. k ++ sent_in P n l.0 x) (says x) ∙ ap
      (λ k. cond (has_session x A.now) (filter is_signal ws) [] ++ k) (link.sent x)
      ∙ ap (λ k. k ++ filter is_signal (said_in A x)) (filtered (has_session x A.now))
      ∙ sym (filter-append is_signal (cond (has_session x A.now) ws []) (said_in A x))
      ∙ ap (filter is_signal) (sym (saying-said ws A x));
  came = λ x. came-away P s es items done n l away x ∙ link.came x
      ∙ ap (filter is_shown) (sym (saying-given ws A x));
  truly = (
    all-append (IsTrueOf (s ∷ P) n) ws A.now.said truly (more A.now.said link.truly.0),
    all-impl _ _ (λ e was. more e.said was) A.earlier link.truly.1,
  );
  live = live;
  living = λ x a. alive-away P s es items done n l away x a ∙ link.living x a
      ∙ ap (λ g. is_session x (up_in A) && is_live a (map heard_as g)) (sym (saying-given ws A x));
}
  where
    filtered : (t : Bool) → cond t (filter is_signal ws) [] ≡ filter is_signal (cond t ws [])
    filtered true = refl
    filtered false = refl

    more : (said : List Said) → AllByRecursion (IsTrueOf P n) said
        → AllByRecursion (IsTrueOf (s ∷ P) n) said
    more said was = all-impl (IsTrueOf P n) (IsTrueOf (s ∷ P) n)
        (still-true P s es items done n new) said was

turn : (m k : ℕ) → (m == k) ≡ (k == m)
turn m k = grind (arith, nat_tests)

-- GIVING. A step that shows what a side was given keeps it
module _ (P : List Step) (s : Step) (n : ℕ) (l : LinkNo) (A : SideRecord) (g : Given) (y : Session)
    (items : List Effect) (done : IsDone s (shown_by (record { 0 = n }) l A.now.session g) items)
    (link : IsLinked P n l A) (pair : A.now.peer ≡ Some y) (at : IsAt n g) where
  private_x : Session
  private_x = A.now.session

  node_itself : (n == n) ≡ true
  node_itself = eq-eqb n n refl

  link_itself : (l.0 == l.0) ≡ true
  link_itself = eq-eqb l.0 l.0 refl

  given-came : (x : Session) → came_in (s ∷ P) n l.0 x
      ≡ cond (has_session x A.now) (filter is_shown (g ∷ [])) [] ++ came_in P n l.0 x
  given-came x = came-done P s _ items done n l.0 x ∙ shown g at
    where
      one : (t : Bool) (h : Given) (z : List Given) → cond t (h ∷ z) z ≡ cond t (h ∷ []) [] ++ z
      one true h z = refl
      one false h z = refl

      none : (t : Bool) (z : List Given) → z ≡ cond t [] [] ++ z
      none true z = refl
      none false z = refl

      shown : (h : Given) → IsAt n h → fold (came_after n l.0 x) (came_in P n l.0 x)
          (shown_by (record { 0 = n }) l A.now.session h)
          ≡ cond (has_session x A.now) (filter is_shown (h ∷ [])) [] ++ came_in P n l.0 x
      shown (met a name) is = rw (node_itself, link_itself)
          (one (has_session x A.now) (met a name) (came_in P n l.0 x))
      shown (asked_for name) is = none (has_session x A.now) (came_in P n l.0 x)
      shown (arrived a b note) is = rw (is, link_itself)
          (one (has_session x A.now) (arrived a b note) (came_in P n l.0 x))
      shown (freed a b note) is = none (has_session x A.now) (came_in P n l.0 x)
      shown (gone a) is = rw (node_itself, link_itself)
          (one (has_session x A.now) (gone a) (came_in P n l.0 x))

  -- the living peers of the link after it
  given-living : (x : Session) (a : Inc) → is_alive (s ∷ P) n (There l x a)
      ≡ (is_session x (up_in A) && is_live a (map heard_as (given_in (giving g A) x)))
  given-living x a =
      ap (alive_in (There l x a)) (living-done P s _ items done n)
      ∙ shown g
      ∙ ap (λ u. is_session x u && is_live a (map heard_as (cond (has_session x A.now) (g ∷ []) []
      ++ given_in A x))) (sym up)
      ∙ ap (λ k. is_session x (up_in A) && is_live a (map heard_as k)) (sym (giving-given g A x))
    where
      up : up_in A ≡ Some A.now.session
      up = ap (λ p. session_if p A.now.session) pair

      was : is_alive P n (There l x a) ≡ (x.0 == A.now.session.0 && is_live a
          (map heard_as (given_in A x)))
      was = link.living x a ∙ ap (λ u. is_session x u && is_live a (map heard_as (given_in A x))) up

      same : has_session x A.now ≡ (x.0 == A.now.session.0)
      same = turn A.now.session.0 x.0

      or_turn : (u v : Bool) → (u || v) ≡ (v || u)
      or_turn true true = refl
      or_turn true false = refl
      or_turn false true = refl
      or_turn false false = refl

      adds : (t u v : Bool) (i : Inc) (name : List ℕ) (k : List Given) → u ≡ t
          → is_live a (map heard_as k) ≡ v → ((t && v) || (((true && t) && same_inc a i) || false))
          ≡ (t && is_live a (map heard_as (cond u (met i name ∷ []) [] ++ k)))
      adds true u v i name k e is =
          ap (λ w. v || w) (or-false (same_inc a i)) ∙ or_turn v (same_inc a i)
          ∙ ap (λ w. same_inc a i || w) (sym is)
          ∙ ap (λ w. is_live a (map heard_as (cond w (met i name ∷ []) [] ++ k))) (sym e)
      adds false u v i name k e is = refl

      takes : (t u v : Bool) (i : Inc) (k : List Given) → u ≡ t → is_live a (map heard_as k) ≡ v
          → (not ((true && u) && same_inc i a) && (t && v))
          ≡ (t && is_live a (map heard_as (cond u (gone i ∷ []) [] ++ k)))
      takes true u v i k e is =
          ap (λ w. not ((true && w) && same_inc i a) && v) e
          ∙ ap (λ w. not w && v) (turn i.0 a.0) ∙ ap (λ w. not (same_inc a i) && w) (sym is)
          ∙ ap (λ w. is_live a (map heard_as (cond w (gone i ∷ []) [] ++ k))) (sym e)
      takes false u v i k e is = ap (λ w. not ((true && w) && same_inc i a) && false) e

      leaves : (t u : Bool) (h : Given) (k : List Given)
          → ((z : List Said) → is_live a (heard_as h ∷ z) ≡ is_live a z)
          → (t && is_live a (map heard_as k)) ≡ (t && is_live a
          (map heard_as (cond u (h ∷ []) [] ++ k)))
      leaves t true h k e = ap (λ w. t && w) (sym (e (map heard_as k)))
      leaves t false h k e = refl

      q : Peer
      q = There l x a

      shown : (h : Given) → alive_in (There l x a)
          (fold (living_after n) (living P n) (shown_by (record { 0 = n }) l A.now.session h))
          ≡ (x.0 == A.now.session.0 && is_live a (map heard_as
          (cond (has_session x A.now) (h ∷ []) [] ++ given_in A x)))
      shown (met i name) =
          ap (λ t. alive_in (There l x a) (cond t (living P n
          ++ (record { peer = There l A.now.session i; name = name }) ∷ []) (living P n)))
          node_itself
          ∙ list_any-append (λ m. same_peer (There l x a) m.peer) (living P n)
          ((record { peer = There l A.now.session i; name = name }) ∷ [])
          ∙ ap (λ t. t || (((l.0 == l.0 && x.0 == A.now.session.0) && same_inc a i) || false)) was
          ∙ ap (λ t. (x.0 == A.now.session.0 && is_live a (map heard_as (given_in A x))) ||
          (((t && x.0 == A.now.session.0) && same_inc a i) || false)) link_itself
          ∙ adds (x.0 == A.now.session.0) (has_session x A.now)
          (is_live a (map heard_as (given_in A x))) i name (given_in A x) same refl
      shown (asked_for name) = was ∙ leaves (x.0 == A.now.session.0) (has_session x A.now)
          (asked_for name) (given_in A x) (λ z. refl)
      shown (arrived i b note) = was ∙ leaves (x.0 == A.now.session.0) (has_session x A.now)
          (arrived i b note) (given_in A x) (λ z. refl)
      shown (freed i b note) = was ∙ leaves (x.0 == A.now.session.0) (has_session x A.now)
          (freed i b note) (given_in A x) (λ z. refl)
      shown (gone i) =
          let p : MetPeer → Bool = λ m. not (same_peer (There l A.now.session i) m.peer) in
          ap (λ t. alive_in (There l x a) (cond t (filter p (living P n)) (living P n))) node_itself
          ∙ any-filter (λ m. same_peer (There l x a) m.peer) p
          (not (same_peer (There l A.now.session i) (There l x a)))
          (λ m is. ap (λ k. not (same_peer (There l A.now.session i) k))
          (same_peer-is l x a m.peer is)) (living P n)
          ∙ ap (λ t. not (same_peer (There l A.now.session i) (There l x a)) && t) was
          ∙ ap (λ t. not ((t && A.now.session.0 == x.0) && same_inc i a) &&
          (x.0 == A.now.session.0 && is_live a (map heard_as (given_in A x)))) link_itself
          ∙ takes (x.0 == A.now.session.0) (has_session x A.now)
          (is_live a (map heard_as (given_in A x))) i (given_in A x) same refl

  -- what is shown neither opens nor closes, nor begins or ends a session
  abbrev es : List Effect
  es = shown_by (record { 0 = n }) l A.now.session g

  quiet : (p : Effect → Bool) → ((a : Inc) (name : List ℕ)
      → p (Met (record { 0 = n }) (There l A.now.session a) name) ≡ false)
      → ((a b : Inc) (note : SigNote) → p (Arrived b (There l A.now.session a) note) ≡ false)
      → ((a : Inc) → p (Gone (record { 0 = n }) (There l A.now.session a)) ≡ false) → (h : Given)
      → list_any p (shown_by (record { 0 = n }) l A.now.session h) ≡ false
  quiet p m r o (met a name) = ap (λ t. t || false) (m a name)
  quiet p m r o (asked_for name) = refl
  quiet p m r o (arrived a b note) = ap (λ t. t || false) (r a b note)
  quiet p m r o (freed a b note) = refl
  quiet p m r o (gone a) = ap (λ t. t || false) (o a)

  same_up : (h : Given) (z : Option Session) → fold (session_after n l.0) z
      (shown_by (record { 0 = n }) l A.now.session h) ≡ z
  same_up (met a name) z = refl
  same_up _ z = refl

  same_pair : (x : Session) (h : Given) (z : Option Session)
      → fold (paired_after n l.0 x) z (shown_by (record { 0 = n }) l A.now.session h) ≡ z
  same_pair x (met a name) z = refl
  same_pair x _ z = refl

  pub keeps_giving : restarts n s.head ≡ false → ((x : Session)
      → signal_over n l.0 x (endpoint_by P s.by) s.head ≡ []) → IsLinked (s ∷ P) n l (giving g A)
  keeps_giving stays says =
      let new : OpensNew P es = λ i was. quiet (opens i) (λ a name. refl) (λ a b note. refl)
      (λ a. refl) g in
      let more : (said : List Said) → AllByRecursion (IsTrueOf P n) said
      → AllByRecursion (IsTrueOf (s ∷ P) n) said =
      λ said was. all-impl (IsTrueOf P n) (IsTrueOf (s ∷ P) n)
      (still-true P s es items done n new) said was in
      record {
        own = own-done P s es items done n l.0 stays
            (quiet (ends_session n l.0) (λ a name. refl) (λ a b note. refl) (λ a. refl) g)
            ∙ link.own;
        up = up-done P s es items done n l.0 ∙ same_up g (up_session P n l.0) ∙ link.up;
        pairs = λ x. paired-done P s es items done n l.0 x
            ∙ same_pair x g (paired_session P n l.0 x) ∙ link.pairs x ∙ sym (giving-peer g A x);
        had = (
          had-more P s n l.0 A.now.session link.had.0,
          all-impl _ _ (λ e was. had-more P s n l.0 e.session was) A.earlier link.had.1,
        );
        sent = λ x. ap (λ k. k ++ sent_in P n l.0 x) (says x) ∙ link.sent x
            ∙ ap (filter is_signal) (sym (giving-said g A x));
        came = λ x. given-came x ∙ ap (λ k. cond (has_session x A.now) (filter is_shown (g ∷ [])) []
            ++ k) (link.came x) ∙ filtered (has_session x A.now) (given_in A x)
            ∙ ap (filter is_shown) (sym (giving-given g A x));
        truly = (
          more A.now.said link.truly.0,
          all-impl _ _ (λ e was. more e.said was) A.earlier
              link.truly.1,
        );
        live = λ i is. open-more P s es items done n new i (link.live i is)
            (quiet (closes i) (λ a name. refl) (λ a b note. refl) (λ a. refl) g);
        living = given-living;
      }
    where
      filtered : (t : Bool) (k : List Given) → cond t (filter is_shown (g ∷ [])) []
          ++ filter is_shown k ≡ filter is_shown (cond t (g ∷ []) [] ++ k)
      filtered true k = sym (filter-append is_shown (g ∷ []) k)
      filtered false k = refl

-- SAYING WITHOUT A STEP: questions and publishings that answer what the step brought
pub says_now : (Q : List Step) (n : ℕ) (l : LinkNo) (A : SideRecord) (ws : List Said)
    → IsLinked Q n l A → filter is_signal ws ≡ [] → AllByRecursion (IsTrueOf Q n) ws
    → ((i : Inc) → is_live i (ws ++ A.now.said) ≡ true → is_alive Q n (Here i) ≡ true)
    → IsLinked Q n l (saying ws A)
says_now Q n l A ws link none truly live = record {
  own = link.own;
  up = link.up;
  pairs = λ x. link.pairs x ∙ sym (saying-peer ws A x);
  had = link.had;
  sent = λ x. link.sent x ∙ sym (ap (filter is_signal) (saying-said ws A x)
      ∙ filter-append is_signal (cond (has_session x A.now) ws []) (said_in A x)
      ∙ ap (λ k. k ++ filter is_signal (said_in A x)) (nothing (has_session x A.now)));
  came = λ x. link.came x ∙ ap (filter is_shown) (sym (saying-given ws A x));
  truly = (all-append (IsTrueOf Q n) ws A.now.said truly link.truly.0, link.truly.1);
  live = live;
  living = λ x a. link.living x a ∙ ap (λ g. is_session x (up_in A) && is_live a (map heard_as g))
      (sym (saying-given ws A x));
}
  where
    nothing : (t : Bool) → filter is_signal (cond t ws []) ≡ []
    nothing true = none
    nothing false = refl
