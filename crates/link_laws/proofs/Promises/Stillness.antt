-- A quiet trunk leaves its link still, and nothing that was sent vanishes.
use Rattle.std.proofs.Common.{◌≡◌, ℕ, Bool, true, false, not, ◌||◌, List, [], ◌∷◌, map, refl, sym}
use Rattle.std.proofs.Common.{◌∙◌, ap, subst, ◌==◌, bytes_eq, true≢false, eq-eqb, eqb-true}
use Rattle.std.specs.List.{list_any, AllByRecursion}
use Rattle.std.proofs.lemmas.Bool.{or_left, or_right, false_from_ne_true}
use Rattle.linx_base.specs.Numbers.{is_on}
use Rattle.linx_base.specs.Peers.{same_peer}
use Rattle.linx_base.specs.Pending.{is_for}
use Rattle.linx_base.specs.declared.name.Path.TheVariants.{Over}
use Rattle.linx_base.specs.declared.identity.Inc.{Inc}
use Rattle.linx_base.specs.declared.identity.LinkNo.{LinkNo}
use Rattle.linx_base.specs.declared.identity.Peer.{Peer}
use Rattle.linx_base.specs.declared.identity.Peer.TheVariants.{Here, There}
use Rattle.linx_base.specs.declared.identity.Session.{Session}
use Rattle.linx_base.specs.declared.pending.MetPeer.{MetPeer}
use Rattle.trunk_record.specs.Records.{SideRecord, given_in, up_in, session_if}
use Rattle.trunk_record.specs.Sayings.{heard_as, frees, is_live, signals_between}
use Rattle.trunk_record.specs.Trunks.{FreesClosed, IsQuiet}
use Rattle.journal.specs.History.{open_endpoints, name_of}
use Rattle.journal.specs.Living.{living, is_alive}
use Rattle.journal.specs.Pending.{hunting}
use Rattle.journal.specs.Traffic.{sent_to, arrived_from}
use Rattle.journal.specs.declared.effect.Step.{Step}
use Rattle.link_laws.specs.Linked.{IsLinked, is_session, IsTalking, HuntStands, asking, waiting}
use Rattle.link_laws.specs.Linked.{coming, AreHunted}
use Rattle.link_laws.specs.Still.{IsStillHalf, is_open_there}
use Rattle.trunk_record.proofs.Lookups.{given-now, peer-now, said-now}
use Rattle.link_laws.proofs.Sides.Brings.{all-members, got-heard, sent-said}
use Rattle.link_laws.proofs.Peers.Living.{open-not_unpublished}
use Rattle.link_laws.proofs.Endpoints.Names.{bytes_eq-itself}
use Rattle.link_laws.proofs.Endpoints.OpenAfterStep.{both_true, open-on}

module _ (P : List Step) (n m : ℕ) (l : LinkNo) (A B : SideRecord) (noted : List (List ℕ))
    (near : IsLinked P n l A) (far : IsLinked P m l B) (frees_closed : FreesClosed A.now)
    (quiet : IsQuiet A B) (hunts : AreHunted P n m l A B noted) where
  -- nothing vanishes: whoever sent, open or closed by now, an open endpoint has got all of it
  pub nothing_vanishes : (a b : Inc) → is_on m a ≡ true → is_alive P n (Here b) ≡ true
      → arrived_from P b (There l A.now.session a) ≡ sent_to P a (There l B.now.session b)
  nothing_vanishes a b on open_ =
      let here : is_on n b ≡ true = open-on P n b open_ in
      let not_yet = open-not_unpublished P n l A near b open_ in
      let none : list_any (frees b) (given_in A A.now.session) ≡ false =
      ap (list_any (frees b)) (given-now A) ∙ false_from_ne_true
      (list_any (frees b) A.now.given) (λ is. true≢false (sym (frees_closed b is) ∙ not_yet)) in
      got-heard P n l A near A.now.session a b here none
      ∙ ap (λ given. signals_between a b (map heard_as given)) (given-now A)
      ∙ ap (signals_between a b) (sym quiet.answered)
      ∙ sym (sent-said P m l B far B.now.session a b on ∙ ap (signals_between a b) (said-now B))

  abbrev talking : IsTalking A B
  talking = record {
    pair = quiet.pair;
    back = quiet.back;
    to_far = [];
    to_near = [];
    said = quiet.said;
    answered = quiet.answered;
  }

  none_hunts : (v : List ℕ) (i : Inc) → is_alive P m (Here i) ≡ true
      → bytes_eq v (name_of P i) ≡ true → HuntStands P m noted v [] [] → ⊥
  none_hunts v i open_ named (asking is) = true≢false (sym is)
  none_hunts v i open_ named (waiting is none) = true≢false (sym named ∙ none i open_)
  none_hunts v i open_ named (coming is) = true≢false (sym is)

  pub still_half : IsStillHalf P n m l A.now.session B.now.session
  still_half = record {
    up = near.up ∙ ap (λ p. session_if p A.now.session) quiet.pair;
    pair = near.pairs A.now.session ∙ peer-now A ∙ quiet.pair;
    all_got = all-members _ (open_endpoints P m)
        (λ a open_a. all-members _ (open_endpoints P n)
        (λ b open_b. nothing_vanishes a b (open-on P m a open_a) open_b));
    peers_open = peers (living P n) (λ p is. is);
    hunts_answered = all-members _ (open_endpoints P m)
        (λ i open_. false_from_ne_true (list_any (is_for (Over l (name_of P i))) (hunting P n))
        (λ is.
        none_hunts (name_of P i) i open_ (bytes_eq-itself (name_of P i))
        (hunts.stand talking (name_of P i) is)));
  }
    where
      is_up : (x : Session) → is_session x (up_in A) ≡ true → x ≡ A.now.session
      is_up x is = ap (λ (k : ℕ). let z : Session = record { 0 = k } in
          z) (eqb-true x.0 A.now.session.0 (sym (ap (λ p. is_session x (session_if p A.now.session))
          quiet.pair) ∙ is))

      open_there : (x : Session) (a : Inc) → is_alive P n (There l x a) ≡ true
          → is_alive P m (Here a) ≡ true
      open_there x a alive =
          let both = both_true (is_session x (up_in A)) (is_live a (map heard_as (given_in A x)))
          (sym (near.living x a) ∙ alive) in
          far.live a (ap (is_live a) (quiet.answered
          ∙ ap (map heard_as) (sym (given-now A) ∙ ap (given_in A) (sym (is_up x both.0))))
          ∙ both.1)

      peer_itself : (p : Peer) → same_peer p p ≡ true
      peer_itself (Here i) = eq-eqb i.0 i.0 refl
      peer_itself (There k x i) = rw (
        eq-eqb k.0 k.0 refl,
        eq-eqb x.0 x.0 refl,
        eq-eqb i.0 i.0 refl,
      ) refl

      by_peer : (p : Peer) → (is : list_any (λ m. same_peer p m.peer) (living P n) ≡ true)
          → is_open_there P m l p ≡ true
      by_peer (Here i) is = refl
      by_peer (There k x i) is = by_link (k.0 == l.0) refl
        where
          by_link : (t : Bool) → (k.0 == l.0) ≡ t → (not t || is_alive P m (Here i)) ≡ true
          by_link false e = refl
          by_link true e =
              let same : k ≡ l = ap (λ (h : ℕ). let z : LinkNo = record { 0 = h } in
              z) (eqb-true k.0 l.0 e) in
              open_there x i (subst (λ (h : LinkNo). is_alive P n (There h x i) ≡ true) same is)

      peers : (table : List MetPeer) → ((p : Peer) → list_any (λ m. same_peer p m.peer) table ≡ true
          → list_any (λ m. same_peer p m.peer) (living P n) ≡ true)
          → AllByRecursion (λ p. is_open_there P m l p.peer ≡ true) table
      peers [] within = tt
      peers (p ∷ table) within = (
        by_peer p.peer (within p.peer (or_left (same_peer p.peer p.peer)
            (list_any (λ m. same_peer p.peer m.peer) table) (peer_itself p.peer))),
        peers table (λ q is. within q (or_right (same_peer q p.peer)
            (list_any (λ m. same_peer q m.peer) table) is)),
      )
