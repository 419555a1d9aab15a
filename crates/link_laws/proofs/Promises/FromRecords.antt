-- The promises beyond the laws follow from the records: pairs both ways, sessions that go forward,
-- and whoever is met was not closed before the paired session went up.
use Rattle.std.proofs.Common.{◌≡◌, ℕ, ◌<◌, Bool, true, false, cond, ◌||◌, ◌&&◌, List, [], ◌∷◌, Some}
use Rattle.std.proofs.Common.{map, refl, sym, ◌∙◌, ap, subst, arith, ◌==◌, true≢false, eqb-true}
use Rattle.std.specs.List.{list_any, AllByRecursion}
use Rattle.std.proofs.lemmas.Bool.{or_left, false_from_ne_true}
use Rattle.std.proofs.lemmas.Bool.Decides.{nat_tests}
use Rattle.std.proofs.lemmas.List.Folds.{list_any-append}
use Rattle.linx_base.specs.FirstMatch.{first_match}
use Rattle.linx_base.specs.declared.identity.Inc.{Inc}
use Rattle.linx_base.specs.declared.identity.LinkNo.{LinkNo}
use Rattle.linx_base.specs.declared.identity.Session.{Session}
use Rattle.trunk_record.specs.Changes.{giving, saying, going_up}
use Rattle.trunk_record.specs.Records.{SideRecord, SessionRecord, all, has_session, peer_of}
use Rattle.trunk_record.specs.Records.{said_of}
use Rattle.trunk_record.specs.Sayings.{Said, published, asked, signaled, unpublished, Given}
use Rattle.trunk_record.specs.Sayings.{heard_as, met}
use Rattle.trunk_record.specs.Trunks.{IsHalf, IsBelow}
use Rattle.journal.specs.History.{is_closed, closes, effects_of}
use Rattle.journal.specs.declared.effect.Effect.TheVariants.{Up}
use Rattle.journal.specs.declared.effect.Step.{Step}
use Rattle.journal.proofs.Lists.{all-append, all-impl}
use Rattle.link_laws.specs.Linked.{IsLinked}
use Rattle.link_laws.specs.Moves.{IsTold}
use Rattle.link_laws.specs.Promises.{IsPairedBack, IsNotAbove, GoesForward, ups, before_up}
use Rattle.link_laws.specs.Promises.{was_closed_before, IsPublishedOpen, ArePublishedOpen}
use Rattle.link_laws.specs.Promises.{PublishesOpen, HasPair, IsMetOpen}
use Rattle.trunk_record.proofs.Lookups.{peer-now}
use Rattle.link_laws.proofs.Sides.Brings.{all-before, told}

-- whatever is given comes from the session that is paired both ways
pub paired_back : (P : List Step) (n m : ℕ) (l : LinkNo) (A B : SideRecord) (g : Given)
    → IsLinked P n l A → IsLinked P m l B → (tell : IsTold A B g)
    → IsPairedBack P n m l A.now.session tell.y
paired_back P n m l A B g near far tell =
    record {
      pair = near.pairs A.now.session ∙ peer-now A ∙ tell.pair;
      back = far.pairs tell.y
          ∙ tell.back;
    }

-- where the trunk hands up no lower peer session than before
pub goes_forward : (P : List Step) (n : ℕ) (l : LinkNo) (A : SideRecord) (y : Session)
    → IsLinked P n l A → AllByRecursion (λ e. IsNotAbove y e.peer) (all A) → GoesForward P n l y
goes_forward P n l A y link above x = subst (IsNotAbove y) (sym (link.pairs x)) (each (all A) above)
  where
    each : (es : List SessionRecord) → AllByRecursion (λ e. IsNotAbove y e.peer) es
        → IsNotAbove y (peer_of (first_match (has_session x) es))
    each [] none = tt
    each (e ∷ es) held =
        let rest : IsNotAbove y (peer_of (first_match (has_session x) es)) = each es held.1 in
        elim (has_session x e) as (λ t. IsNotAbove y
        (peer_of (cond t (Some e) (first_match (has_session x) es)))) [
          | true ↦ held.0
          | false ↦
              rest
        ]

-- what was closed before a session went up is closed
pub closed-since : (P : List Step) (m l : ℕ) (y : Session) (i : Inc)
    → is_closed (before_up P m l y) i ≡ true → is_closed P i ≡ true
closed-since [] m l y i is = is
closed-since (s ∷ P) m l y i is =
    list_any-append (closes i) (effects_of P) s.effects
    ∙ or_left (is_closed P i) (list_any (closes i) s.effects)
    (by_up (list_any (ups m l y) s.effects) is (closed-since P m l y i))
  where
    by_up : (t : Bool) → is_closed (cond t P (before_up P m l y)) i ≡ true
        → (is_closed (before_up P m l y) i ≡ true → is_closed P i ≡ true) → is_closed P i ≡ true
    by_up true e rest = e
    by_up false e rest = rest e

-- no session of an entry goes up in the step
abbrev pub StaysUp : Step → ℕ → LinkNo → SessionRecord → Type 0
StaysUp s m l e = list_any (ups m l.0 e.session) s.effects ≡ false

-- in such a step what was published stays open when it was
pub published-stays : (P : List Step) (s : Step) (m : ℕ) (l : LinkNo) (es : List SessionRecord)
    → AllByRecursion (StaysUp s m l) es → AllByRecursion (PublishesOpen P m l) es
    → AllByRecursion (PublishesOpen (s ∷ P) m l) es
published-stays P s m l [] stays was = tt
published-stays P s m l (e ∷ es) stays was = (
  all-impl (IsPublishedOpen P m l e.session) (IsPublishedOpen (s ∷ P) m l e.session) one e.said
      was.0,
  published-stays P s m l es stays.1 was.1,
)
  where
    one : (w : Said) → IsPublishedOpen P m l e.session w → IsPublishedOpen (s ∷ P) m l e.session w
    one (published i name) open_then = ap (λ t. is_closed (cond t P (before_up P m l.0 e.session))
        i) stays.0 ∙ open_then
    one (asked name) open_then = tt
    one (signaled a b note) open_then = tt
    one (unpublished i) open_then = tt

-- where no session of the side goes up, none of its entries does
pub all-stay : (s : Step) (m : ℕ) (l : LinkNo) (es : List SessionRecord)
    → ((x : Session) → list_any (ups m l.0 x) s.effects ≡ false)
    → AllByRecursion (StaysUp s m l) es
all-stay s m l [] none = tt
all-stay s m l (e ∷ es) none = (none e.session, all-stay s m l es none)

-- A STEP in which no session of the side goes up keeps it
pub published-step : (P : List Step) (s : Step) (m : ℕ) (l : LinkNo) (B : SideRecord)
    → ((x : Session) → list_any (ups m l.0 x) s.effects ≡ false)
    → ArePublishedOpen P m l B → ArePublishedOpen (s ∷ P) m l B
published-step P s m l B none kept =
    published-stays P s m l (all B) (all-stay s m l (all B) none) kept

-- what is published is open now
abbrev pub IsOpenNow : List Step → Said → Type 0
IsOpenNow P (published i name) = is_closed P i ≡ false
IsOpenNow P (asked name) = Unit {0}
IsOpenNow P (signaled a b note) = Unit {0}
IsOpenNow P (unpublished i) = Unit {0}

-- SAYING MORE, of which what is published is open, keeps it
pub published-saying : (Q : List Step) (m : ℕ) (l : LinkNo) (B : SideRecord) (ws : List Said)
    → AllByRecursion (IsOpenNow Q) ws → ArePublishedOpen Q m l B
    → ArePublishedOpen Q m l (saying ws B)
published-saying Q m l B ws open_now kept = (
  all-append (IsPublishedOpen Q m l B.now.session) ws B.now.said
      (all-impl (IsOpenNow Q) (IsPublishedOpen Q m l B.now.session) fresh_one ws open_now) kept.0,
  kept.1,
)
  where
    fresh_one : (w : Said) → IsOpenNow Q w → IsPublishedOpen Q m l B.now.session w
    fresh_one (published i name) is = false_from_ne_true (was_closed_before Q m l B.now.session i)
        (λ was. true≢false (sym (closed-since Q m l.0 B.now.session i was) ∙ is))
    fresh_one (asked name) is = tt
    fresh_one (signaled a b note) is = tt
    fresh_one (unpublished i) is = tt

-- GOING UP: nothing was said in the session as yet, and the earlier ones are others
pub published-up : (P : List Step) (s : Step) (m : ℕ) (l : LinkNo) (B : SideRecord) (y : Session)
    → B.now.said ≡ [] → AllByRecursion (StaysUp s m l) B.earlier → ArePublishedOpen P m l B
    → ArePublishedOpen (s ∷ P) m l (going_up y B)
published-up P s m l B y none stays kept = (
  subst (AllByRecursion (IsPublishedOpen (s ∷ P) m l B.now.session)) (sym none) tt,
  published-stays P s m l B.earlier stays kept.1,
)

-- the sessions before the present one are others than it, so its Up is none of theirs
pub earlier-stay : (s : Step) (m : ℕ) (l : LinkNo) (x y : Session) (es : List SessionRecord)
    → s.effects ≡ Up (record { 0 = m }) l x y ∷ [] → AllByRecursion (IsBelow x) es
    → AllByRecursion (StaysUp s m l) es
earlier-stay s m l x y [] effects below = tt
earlier-stay s m l x y (e ∷ es) effects below = (
  ap (list_any (ups m l.0 e.session)) effects ∙ apart (m == m && l.0 == l.0),
  earlier-stay s m l x y es effects below.1,
)
  where
    other : (x.0 == e.session.0) ≡ false
    other = higher x.0 e.session.0 below.0
      where
        higher : (j k : ℕ) → k < j → (j == k) ≡ false
        higher j k under = grind (arith, nat_tests)

    apart : (t : Bool) → ((t && x.0 == e.session.0) || false) ≡ false
    apart true = ap (λ u. u || false) other
    apart false = refl

-- who is met was not closed before its session went up
pub met_open : (P : List Step) (m : ℕ) (l : LinkNo) (A B : SideRecord) (a : Inc) (name : List ℕ)
    → ArePublishedOpen P m l B → (tell : IsTold A B (met a name))
    → was_closed_before P m l tell.y a ≡ false
met_open P m l A B a name kept tell =
    (all-before (IsPublishedOpen P m l tell.y) tell.later (published a name
    ∷ map heard_as A.now.given) (subst (AllByRecursion (IsPublishedOpen P m l tell.y)) tell.said
    (in_session (all B) kept))).0
  where
    in_session : (es : List SessionRecord) → AllByRecursion (PublishesOpen P m l) es
        → AllByRecursion (IsPublishedOpen P m l tell.y)
        (said_of (first_match (has_session tell.y) es))
    in_session [] held = tt
    in_session (e ∷ es) held = by_session (has_session tell.y e) refl (in_session es held.1)
      where
        by_session : (t : Bool) → has_session tell.y e ≡ t
            → AllByRecursion (IsPublishedOpen P m l tell.y)
            (said_of (first_match (has_session tell.y) es))
            → AllByRecursion (IsPublishedOpen P m l tell.y)
            (said_of (cond t (Some e) (first_match (has_session tell.y) es)))
        by_session true is rest =
            let same : e.session ≡ tell.y = ap (λ (k : ℕ). let z : Session = record { 0 = k } in
            z) (eqb-true e.session.0 tell.y.0 is) in
            subst (λ (z : Session). AllByRecursion (IsPublishedOpen P m l z) e.said) same held.0
        by_session false is rest = rest

-- WHAT IS GIVEN IS PROMISED: it comes from a session that is paired both ways, and who is met was
-- not closed before that one went up
pub has_pair : (P : List Step) (n m : ℕ) (l : LinkNo) (A B : SideRecord) (g : Given)
    → IsLinked P n l A → IsLinked P m l B → IsHalf (giving g A) B → HasPair P n m l A.now.session
has_pair P n m l A B g near far there =
    let tell = told A B g there.hears.0 in (tell.y, paired_back P n m l A B g near far tell)

pub is_met_open : (P : List Step) (n m : ℕ) (l : LinkNo) (A B : SideRecord) (a : Inc)
    (name : List ℕ) → IsLinked P n l A → IsLinked P m l B → IsHalf (giving (met a name) A) B
    → ArePublishedOpen P m l B → IsMetOpen P n m l A.now.session a
is_met_open P n m l A B a name near far there kept =
    let tell = told A B (met a name) there.hears.0 in record {
      y = tell.y;
      paired = paired_back P n m l A B (met a name) near far tell;
      open_then = met_open P m l A B a name kept tell;
    }
