-- The restart of a node: its sessions end, and its endpoints are closed.
use Rattle.std.proofs.Common.{◌≡◌, ℕ, zero, suc, ◌<◌, ◌≤◌, ◌+◌, Bool, true, false, cond, not, ◌&&◌}
use Rattle.std.proofs.Common.{List, [], ◌∷◌, ◌++◌, Option, Some, None, map, refl, sym, ◌∙◌, ap}
use Rattle.std.proofs.Common.{subst, arith, append-nil, ◌==◌, filter, fold, true≢false, eq-eqb}
use Rattle.std.proofs.Common.{eqb-true}
use Rattle.std.specs.List.{list_any, AllByRecursion}
use Rattle.std.proofs.lemmas.Bool.{false_from_ne_true}
use Rattle.std.proofs.lemmas.Bool.Decides.{nat_tests}
use Rattle.linx_base.specs.Numbers.{first_session}
use Rattle.linx_base.specs.Peers.{same_peer}
use Rattle.linx_base.specs.declared.identity.Inc.{Inc}
use Rattle.linx_base.specs.declared.identity.LinkNo.{LinkNo}
use Rattle.linx_base.specs.declared.identity.Peer.{Peer}
use Rattle.linx_base.specs.declared.identity.Peer.TheVariants.{There}
use Rattle.linx_base.specs.declared.identity.Session.{Session}
use Rattle.linx_base.specs.declared.pending.MetPeer.{MetPeer}
use Rattle.trunk_record.specs.Records.{SideRecord, given_in, up_in}
use Rattle.trunk_record.specs.Sayings.{Given, heard_as, is_live}
use Rattle.journal.specs.Effects.{closings}
use Rattle.journal.specs.History.{open_endpoints, endpoint_by, opens}
use Rattle.linx_base.specs.Pending.{is_of_session}
use Rattle.journal.specs.Living.{is_alive, living, living_after}
use Rattle.journal.specs.Sessions.{up_session, session_after}
use Rattle.journal.specs.declared.effect.Effect.{Effect}
use Rattle.journal.specs.declared.effect.Effect.TheVariants.{Closed, Down}
use Rattle.journal.specs.declared.effect.Step.{Step}
use Rattle.journal.proofs.Lists.{all-append, list_any-filter}
use Rattle.link_laws.specs.Came.{came_in, sent_in, signal_over, came_after}
use Rattle.link_laws.specs.Laws.{down_if, downs_of}
use Rattle.link_laws.specs.Linked.{IsLinked, is_session}
use Rattle.link_laws.specs.Sessions.{paired_session, boots, paired_after, restarts}
use Rattle.link_laws.proofs.Sides.Untouched.{alive_in, same_peer-is}
use Rattle.link_laws.proofs.Sides.WordsAfterStep.{IsDone, came-done, living-done, up-done}
use Rattle.link_laws.proofs.Sides.WordsAfterStep.{paired-done, fold-append}
use Rattle.link_laws.proofs.Endpoints.OpenAfterStep.{any-filter, both_true, still-true}
use Rattle.link_laws.proofs.Sides.Turns.{IsEnded}

-- THE RESTART of a node. Its effects end sessions and endpoints
abbrev pub is_ending : Effect → Bool
is_ending (Closed i) = true
is_ending (Down n l x) = true
is_ending _ = false

abbrev pub AreEndings : List Effect → Type 0
AreEndings es = AllByRecursion (λ e. is_ending e ≡ true) es

pub endings-append : (xs ys : List Effect) → AreEndings xs → AreEndings ys → AreEndings (xs ++ ys)
endings-append xs ys ends_x ends_y = all-append (λ e. is_ending e ≡ true) xs ys ends_x ends_y

down-ends : (n k : ℕ) (u : Option Session) → AreEndings (down_if n k u)
down-ends n k None = tt
down-ends n k (Some x) = (refl, tt)

pub downs-end : (P : List Step) (n k : ℕ) → AreEndings (downs_of P n k)
downs-end P n zero = tt
downs-end P n (suc k) = endings-append (downs_of P n k) (down_if n (suc k) (up_session P n (suc k)))
    (downs-end P n k) (down-ends n (suc k) (up_session P n (suc k)))

pub closings-end : (is : List Inc) → AreEndings (closings is)
closings-end [] = tt
closings-end (i ∷ is) = (refl, closings-end is)

-- words that no ending changes
fold-endings : {S : Type 0} (f : S → Effect → S)
    → ((z : S) (e : Effect) → is_ending e ≡ true → f z e ≡ z) → (z : S) (es : List Effect)
    → AreEndings es → fold f z es ≡ z
fold-endings f stays z [] ends = refl
fold-endings f stays z (e ∷ es) ends = ap (λ y. fold f y es) (stays z e ends.0)
    ∙ fold-endings f stays z es ends.1

paired-endings : (n l : ℕ) (x : Session) (z : Option Session) (e : Effect) → is_ending e ≡ true
    → paired_after n l x z e ≡ z
paired-endings n l x z (Closed i) is = refl
paired-endings n l x z (Down m k y) is = refl
paired-endings n l x z _ is = absurd (true≢false (sym is))

came-endings : (n l : ℕ) (x : Session) (z : List Given) (e : Effect) → is_ending e ≡ true
    → came_after n l x z e ≡ z
came-endings n l x z (Closed i) is = refl
came-endings n l x z (Down m k y) is = refl
came-endings n l x z _ is = absurd (true≢false (sym is))

no-openings : (es : List Effect) → AreEndings es → (i : Inc) → list_any (opens i) es ≡ false
no-openings [] ends i = refl
no-openings (Closed j ∷ fs) ends i = no-openings fs ends.1 i
no-openings (Down m k y ∷ es) ends i = no-openings es ends.1 i
no-openings (_ ∷ es) ends i = absurd (true≢false (sym ends.0))

-- a session once ended stays so among endings
up-ended : (n l : ℕ) (es : List Effect) → AreEndings es → fold (session_after n l) None es ≡ None
up-ended n l [] ends = refl
up-ended n l (Closed j ∷ es) ends = up-ended n l es ends.1
up-ended n l (Down m k y ∷ es) ends = ap (λ z. fold (session_after n l) z es)
    (same (m.0 == n && k.0 == l)) ∙ up-ended n l es ends.1
  where
    same : (t : Bool) → cond t None None ≡ (let z : Option Session = None in z)
    same true = refl
    same false = refl
up-ended n l (_ ∷ es) ends = absurd (true≢false (sym ends.0))

-- the sessions that a restart ends, link by link
restart-away : (P : List Step) (n l k : ℕ) → k < l → (z : Option Session)
    → fold (session_after n l) z (downs_of P n k) ≡ z
restart-away P n l zero under z = refl
restart-away P n l (suc k) under z =
    fold-append (session_after n l) z (downs_of P n k) (down_if n (suc k) (up_session P n (suc k)))
    ∙ ap (λ y. fold (session_after n l) y (down_if n (suc k) (up_session P n (suc k))))
    (restart-away P n l k (omega arith) z)
    ∙ one (up_session P n (suc k))
  where
    one : (u : Option Session) → fold (session_after n l) z (down_if n (suc k) u) ≡ z
    one None = refl
    one (Some x) =
        let other_of : (suc k == l) ≡ false = grind (arith, nat_tests) in
        rw other_of (stays (n == n))
      where
        stays : (t : Bool) → cond (t && false) None z ≡ z
        stays true = refl
        stays false = refl

restart-down : (P : List Step) (n l k : ℕ) → 0 < l → l ≤ k
    → fold (session_after n l) (up_session P n l) (downs_of P n k) ≡ None
restart-down P n l zero above within = absurd (omega arith)
restart-down P n l (suc k) above within =
    fold-append (session_after n l) (up_session P n l) (downs_of P n k)
    (down_if n (suc k) (up_session P n (suc k)))
    ∙ by_place (l == suc k) refl (λ less. restart-down P n l k above less)
  where
    at : (u : Option Session) → u ≡ up_session P n (suc k)
        → fold (session_after n (suc k)) u (down_if n (suc k) u) ≡ None
    at None e = refl
    at (Some x) e = rw (eq-eqb n n refl, eq-eqb (suc k) (suc k) refl) refl

    by_place : (t : Bool) → (l == suc k) ≡ t → (l ≤ k
        → fold (session_after n l) (up_session P n l) (downs_of P n k) ≡ None)
        → fold (session_after n l) (fold (session_after n l) (up_session P n l) (downs_of P n k))
        (down_if n (suc k) (up_session P n (suc k))) ≡ None
    by_place true e rest =
        let same : l ≡ suc k = eqb-true l (suc k) e in
        ap (λ y. fold (session_after n l) y (down_if n (suc k) (up_session P n (suc k))))
        (restart-away P n l k (omega arith) (up_session P n l))
        ∙ subst (λ (m : ℕ). fold (session_after n m) (up_session P n m)
        (down_if n (suc k) (up_session P n (suc k))) ≡ None) (sym same)
        (at (up_session P n (suc k)) refl)
    by_place false e rest =
        let less : l ≤ k = grind (arith, nat_tests) in
        ap (λ y. fold (session_after n l) y (down_if n (suc k) (up_session P n (suc k))))
        (rest less)
        ∙ up-ended n l (down_if n (suc k) (up_session P n (suc k)))
        (down-ends n (suc k) (up_session P n (suc k)))

-- peers die by endings, and none comes to life
alive-ended : (n : ℕ) (q : Peer) (z : List MetPeer) (es : List Effect) → AreEndings es
    → alive_in q z ≡ false → alive_in q (fold (living_after n) z es) ≡ false
alive-ended n q z [] ends dead = dead
alive-ended n q z (Closed j ∷ es) ends dead = alive-ended n q z es ends.1 dead
alive-ended n q z (Down m k y ∷ es) ends dead =
    alive-ended n q (living_after n z (Down m k y)) es ends.1 (fewer (m.0 == n))
  where
    fewer : (t : Bool) → alive_in q (cond t (filter (λ p. not (is_of_session k y p.peer)) z) z)
        ≡ false
    fewer true = false_from_ne_true _ (λ is. true≢false
        (sym (list_any-filter (λ p. same_peer q p.peer) (λ p. not (is_of_session k y p.peer)) z is)
        ∙ dead))
    fewer false = dead
alive-ended n q z (_ ∷ es) ends dead = absurd (true≢false (sym ends.0))

-- the peers of the session that is up die in a restart
restart-dead : (P : List Step) (n : ℕ) (l : LinkNo) (x : Session) (a : Inc) (k : ℕ) → 0 < l.0
    → l.0 ≤ k → up_session P n l.0 ≡ Some x → (z : List MetPeer)
    → alive_in (There l x a) (fold (living_after n) z (downs_of P n k)) ≡ false
restart-dead P n l x a zero above within up z = absurd (omega arith)
restart-dead P n l x a (suc k) above within up z =
    ap (alive_in (There l x a)) (fold-append (living_after n) z (downs_of P n k)
    (down_if n (suc k) (up_session P n (suc k))))
    ∙ by_place (l.0 == suc k) refl (λ less. restart-dead P n l x a k above less up z)
  where
    T : List MetPeer
    T = fold (living_after n) z (downs_of P n k)

    dies : alive_in (There l x a) (fold (living_after n) T (down_if n l.0 (Some x))) ≡ false
    dies =
        ap (λ t. alive_in (There l x a) (cond t (filter (λ m. not (is_of_session l x m.peer)) T) T))
        (eq-eqb n n refl)
        ∙ any-filter (λ m. same_peer (There l x a) m.peer) (λ m. not (is_of_session l x m.peer))
        (not (l.0 == l.0 && x.0 == x.0)) (λ m is. ap (λ q. not (is_of_session l x q))
        (same_peer-is l x a m.peer is)) T
        ∙ ap (λ t. not (t && x.0 == x.0) && alive_in (There l x a) T) (eq-eqb l.0 l.0 refl)
        ∙ ap (λ t. not t && alive_in (There l x a) T) (eq-eqb x.0 x.0 refl)

    by_place : (t : Bool) → (l.0 == suc k) ≡ t → (l.0 ≤ k → alive_in (There l x a) T ≡ false)
        → alive_in (There l x a) (fold (living_after n) T
        (down_if n (suc k) (up_session P n (suc k)))) ≡ false
    by_place true e rest =
        let same : l.0 ≡ suc k = eqb-true l.0 (suc k) e in
        subst (λ (m : ℕ). alive_in (There l x a) (fold (living_after n) T
        (down_if n m (up_session P n m))) ≡ false) same
        (ap (λ u. alive_in (There l x a) (fold (living_after n) T (down_if n l.0 u))) up ∙ dies)
    by_place false e rest =
        let less : l.0 ≤ k = grind (arith, nat_tests) in
        alive-ended n (There l x a) T (down_if n (suc k) (up_session P n (suc k)))
        (down-ends n (suc k) (up_session P n (suc k))) (rest less)

pub keeps_restart : (P : List Step) (s : Step) (n : ℕ) (l : LinkNo) (A : SideRecord) (L : ℕ)
    → s.effects ≡ downs_of P n L ++ closings (open_endpoints P n) → 0 < l.0 → l.0 ≤ L
    → IsLinked P n l A → restarts n s.head ≡ true
    → ((x : Session) → signal_over n l.0 x (endpoint_by P s.by) s.head ≡ [])
    → IsEnded P (s ∷ P) n l (first_session (2 + boots P n))
keeps_restart P s n l A L effects above within link restart says = record {
  own = rw restart (ap (λ (k : ℕ). let z : Session = record { 0 = k } in z) (omega arith));
  down = up-done P s es [] done n l.0 ∙ fold-append (session_after n l.0) (up_session P n l.0)
      (downs_of P n L) closeds ∙ ap (λ z. fold (session_after n l.0) z closeds)
      (restart-down P n l.0 L above within) ∙ up-ended n l.0 closeds
      (closings-end (open_endpoints P n));
  pairs = λ z. paired-done P s es [] done n l.0 z
      ∙ fold-endings (paired_after n l.0 z) (paired-endings n l.0 z) (paired_session P n l.0 z) es
      ends;
  came = λ z. came-done P s es [] done n l.0 z ∙ fold-endings (came_after n l.0 z)
      (came-endings n l.0 z) (came_in P n l.0 z) es ends;
  sent = λ z. ap (λ k. k ++ sent_in P n l.0 z) (says z);
  dead = λ z a. ap (alive_in (There l z a)) (living-done P s es [] done n)
      ∙ by_life z a (is_alive P n (There l z a)) refl;
  truly = still-true P s es [] done n (λ i was. no-openings es ends i);
}
  where
    closeds : List Effect
    closeds = closings (open_endpoints P n)

    es : List Effect
    es = downs_of P n L ++ closings (open_endpoints P n)

    ends : AreEndings es
    ends = endings-append (downs_of P n L) closeds (downs-end P n L)
        (closings-end (open_endpoints P n))

    done : IsDone s es []
    done = record { effects = effects ∙ sym (append-nil es); items_only = tt }

    by_life : (z : Session) (a : Inc) (t : Bool) → is_alive P n (There l z a) ≡ t
        → alive_in (There l z a) (fold (living_after n) (living P n) es) ≡ false
    by_life z a false dead = alive-ended n (There l z a) (living P n) es ends dead
    by_life z a true lives =
        let up : up_session P n l.0 ≡ Some z = is_up (up_in A) link.up
        (both_true (is_session z (up_in A)) (is_live a (map heard_as (given_in A z)))
        (sym (link.living z a) ∙ lives)).0 in
        ap (alive_in (There l z a)) (fold-append (living_after n) (living P n) (downs_of P n L)
        closeds)
        ∙ alive-ended n (There l z a) (fold (living_after n) (living P n) (downs_of P n L)) closeds
        (closings-end (open_endpoints P n)) (restart-dead P n l z a L above within up
        (living P n))
      where
        is_up : (u : Option Session) → up_session P n l.0 ≡ u → is_session z u ≡ true
            → up_session P n l.0 ≡ Some z
        is_up None e is = absurd (true≢false (sym is))
        is_up (Some w) e is = e ∙ ap (λ (k : ℕ). let v : Session = record { 0 = k } in
            Some v) (sym (eqb-true z.0 w.0 is))
