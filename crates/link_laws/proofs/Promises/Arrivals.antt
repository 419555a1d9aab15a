-- What is carried over a link: arrivals are a front of what was sent, and at an endpoint that is
-- still open all of it once the sender's close was told.
use Rattle.std.proofs.Common.{Bool, ◌&&◌, ◌≡◌, ℕ, true, false, List, [], ◌∷◌, ◌++◌, Option, Some}
use Rattle.std.proofs.Common.{None, map, refl, sym, ◌∙◌, ap, subst, append_assoc, append-nil}
use Rattle.std.proofs.Common.{true≢false}
use Rattle.std.specs.List.{list_any, AllByRecursion}
use Rattle.std.proofs.lemmas.Bool.{false_from_ne_true}
use Rattle.linx_base.specs.FirstMatch.{first_match}
use Rattle.linx_base.specs.Numbers.{is_on}
use Rattle.linx_base.specs.Peers.{same_inc}
use Rattle.linx_base.specs.Sides.{other_of}
use Rattle.linx_base.specs.declared.identity.Inc.{Inc}
use Rattle.linx_base.specs.declared.identity.LinkNo.{LinkNo}
use Rattle.linx_base.specs.declared.identity.Peer.TheVariants.{Here, There}
use Rattle.linx_base.specs.declared.identity.Session.{Session}
use Rattle.linx_base.specs.declared.identity.Side.{Side}
use Rattle.trunk_record.specs.Records.{up_in, SessionRecord, SideRecord, all, given_in, given_of}
use Rattle.trunk_record.specs.Records.{has_session, peer_in, peer_of, said_in}
use Rattle.trunk_record.specs.Sayings.{is_live, Given, AreInTurn, IsProper, Said, frees, has_gone}
use Rattle.trunk_record.specs.Sayings.{heard_as, signals_between, was_published, was_unpublished}
use Rattle.trunk_record.specs.Trunks.{FreesClosed, IsGivenInTurn, IsHalf, IsHeardFrom, heard}
use Rattle.trunk_record.specs.Trunks.{nothing_heard}
use Rattle.journal.specs.History.{openings}
use Rattle.journal.specs.Living.{is_alive}
use Rattle.journal.specs.Shapes.{Shape}
use Rattle.journal.specs.Traffic.{arrived_from}
use Rattle.journal.specs.declared.effect.Step.{Step}
use Rattle.journal.proofs.Lists.{all-first_match}
use Rattle.linx_base.specs.Fronts.{IsFront}
use Rattle.link_laws.specs.Ends.{node_at}
use Rattle.link_laws.specs.Sides.{AllLinked, AllTrunks, Trunks}
use Rattle.link_laws.specs.Linked.{is_session, IsLinked, IsTrueOf, SaysTruly}
use Rattle.link_laws.specs.Promises.{AllCarried, GotAll, GotFront, IsCarried, has_parted}
use Rattle.link_laws.specs.Sessions.{paired_session}
use Rattle.trunk_record.proofs.Lookups.{said-all}
use Rattle.trunk_record.proofs.Sayings.{live-not_unpublished, arrivals-front, arrivals-heard}
use Rattle.trunk_record.proofs.Sayings.{arrivals-shown, arrivals_between, gone-heard, none_after}
use Rattle.trunk_record.proofs.Sayings.{proper-before, signals-append, unpublished-published}
use Rattle.link_laws.proofs.Sides.JournalWords.{arrived-came, gone-came}
use Rattle.link_laws.proofs.Sides.Brings.{published-opened, sent-said, unpublished-closed}
use Rattle.link_laws.proofs.Endpoints.OpenAfterStep.{both_true, open-on}
use Rattle.link_laws.proofs.AllLinks.OthersStay.{other_twice}

-- what was given from a to b is the front of what the other side said in the pair, or all of it
abbrev HeardFront : SideRecord → List Given → (a b : Inc) → Option Session → Type 0
HeardFront B given a b None = arrivals_between a b given ≡ []
HeardFront B given a b (Some y) = IsFront (arrivals_between a b given)
    (signals_between a b (said_in B y))

abbrev HeardAll : SideRecord → List Given → (a b : Inc) → Option Session → Type 0
HeardAll B given a b None = ⊥
HeardAll B given a b (Some y) = arrivals_between a b given ≡ signals_between a b (said_in B y)

-- in one session
entry-front : (B : SideRecord) (e : SessionRecord) (a b : Inc) → IsHeardFrom B e → AreInTurn e.given
    → HeardFront B e.given a b e.peer
entry-front B e a b (nothing_heard none) turn =
    subst (λ (g : List Given). HeardFront B g a b e.peer) (sym none) (by_peer e.peer)
  where
    by_peer : (p : Option Session) → HeardFront B [] a b p
    by_peer None = refl
    by_peer (Some y) = (signals_between a b (said_in B y), refl)
entry-front B e a b (heard y pair back later said) turn =
    let front = arrivals-front a b e.given turn in
    subst (HeardFront B e.given a b) (sym pair) (
      front.0 ++ signals_between a b later,
      ap (signals_between a b) said ∙ signals-append a b later (map heard_as e.given)
          ∙ ap (λ k. k ++ signals_between a b later) front.1
          ∙ append_assoc (arrivals_between a b e.given) front.0 (signals_between a b later),
    )

entry-all : (B : SideRecord) (e : SessionRecord) (a b : Inc) → IsHeardFrom B e
    → list_any (frees b) e.given ≡ false → was_unpublished a (map heard_as e.given) ≡ true
    → ((y : Session) → IsProper (said_in B y)) → HeardAll B e.given a b e.peer
entry-all B e a b (nothing_heard none) freed gone proper =
    absurd (true≢false (sym gone ∙ ap (λ (g : List Given). was_unpublished a (map heard_as g))
    none))
entry-all B e a b (heard y pair back later said) freed gone proper =
    subst (HeardAll B e.given a b) (sym pair)
    (arrivals-heard a b e.given freed
    ∙ sym (ap (signals_between a b) said ∙ signals-append a b later (map heard_as e.given)
    ∙ ap (λ k. signals_between a b (map heard_as e.given) ++ k)
    (none_after a b later (map heard_as e.given) (subst IsProper said (proper y)) gone)
    ∙ append-nil (signals_between a b (map heard_as e.given))))

module _ (P : List Step) (n m : ℕ) (l : LinkNo) (A B : SideRecord) (near : IsLinked P n l A)
    (far : IsLinked P m l B) (half : IsHalf A B) (back : IsHalf B A) where
  front-in : (x : Session) (a b : Inc) → HeardFront B (given_in A x) a b (peer_in A x)
  front-in x a b = by_entry (first_match (has_session x) (all A)) refl
    where
      by_entry : (o : Option SessionRecord) → first_match (has_session x) (all A) ≡ o
          → HeardFront B (given_of o) a b (peer_of o)
      by_entry None e = refl
      by_entry (Some entry) e =
          entry-front B entry a b
          (all-first_match (IsHeardFrom B) (has_session x) (all A) entry half.hears e)
          (all-first_match IsGivenInTurn (has_session x) (all A) entry half.in_turn e)

  arrived-given : (x : Session) (a b : Inc) → is_on n b ≡ true
      → arrived_from P b (There l x a) ≡ arrivals_between a b (given_in A x)
  arrived-given x a b on = arrived-came n l x a b on P ∙ ap (arrivals_between a b) (near.came x)
      ∙ arrivals-shown a b (given_in A x)

  pub got-front : (x : Session) (a b : Inc) → is_on m a ≡ true → is_on n b ≡ true
      → GotFront P l x a b (paired_session P n l.0 x)
  got-front x a b on_a on_b = subst (GotFront P l x a b) (sym (near.pairs x))
      (by_pair (peer_in A x) (front-in x a b))
    where
      by_pair : (p : Option Session) → HeardFront B (given_in A x) a b p → GotFront P l x a b p
      by_pair None none = arrived-given x a b on_b ∙ none
      by_pair (Some y) front = (
        front.0,
        sent-said P m l B far y a b on_a ∙ front.1
            ∙ ap (λ k. k ++ front.0) (sym (arrived-given x a b on_b)),
      )

  said-properly : (y : Session) → IsProper (said_in B y)
  said-properly y = said-all IsProper tt y (all B) back.proper

  said-truly : (y : Session) → AllByRecursion (IsTrueOf P m) (said_in B y)
  said-truly y = said-all (AllByRecursion (IsTrueOf P m)) tt y (all B) far.truly

  -- to an open endpoint nothing was freed, in no session
  none-freed : (x : Session) (b : Inc) (e : SessionRecord) → is_alive P n (Here b) ≡ true
      → first_match (has_session x) (all A) ≡ Some e → list_any (frees b) e.given ≡ false
  none-freed x b e open_now is =
      false_from_ne_true (list_any (frees b) e.given) (λ freed.
      let was : was_unpublished b e.said ≡ true =
      all-first_match FreesClosed (has_session x) (all A) e half.frees_closed is b freed in
      let truly : SaysTruly P n e = all-first_match (SaysTruly P n) (has_session x) (all A) e
      near.truly is in
      true≢false (sym open_now ∙ (unpublished-closed P n b e.said truly was).dead))

  -- who has gone is of the other node
  gone-on : (x : Session) (a : Inc) (e : SessionRecord) → IsHeardFrom B e
      → was_unpublished a (map heard_as e.given) ≡ true → is_on m a ≡ true
  gone-on x a e (nothing_heard none) gone = absurd
      (true≢false (sym gone ∙ ap (λ (g : List Given). was_unpublished a (map heard_as g)) none))
  gone-on x a e (heard y pair back_ later said) gone =
      let proper : IsProper (map heard_as e.given) =
      proper-before later (map heard_as e.given) (subst IsProper said (said-properly y)) in
      let was : was_published a (map heard_as e.given) ≡ true =
      unpublished-published a (map heard_as e.given) proper gone in
      let truly : AllByRecursion (IsTrueOf P m) (map heard_as e.given) =
      all-later later (map heard_as e.given) (subst (AllByRecursion (IsTrueOf P m)) said
      (said-truly y)) in
      (both_true (is_on m a) (list_any (same_inc a) (openings P))
      (published-opened P m a (map heard_as e.given) truly was)).0
    where
      all-later : (later before : List Said) → AllByRecursion (IsTrueOf P m) (later ++ before)
          → AllByRecursion (IsTrueOf P m) before
      all-later [] before held = held
      all-later (w ∷ rest) before held = all-later rest before held.1

  gone-heard_there : (x : Session) (a : Inc) → has_parted P n (There l x a) ≡ true
      → was_unpublished a (map heard_as (given_in A x)) ≡ true
  gone-heard_there x a parted =
      sym (gone-heard a (given_in A x)) ∙ sym (ap (has_gone a) (near.came x))
      ∙ sym (gone-came n l x a P) ∙ parted

  pub got-all : (x : Session) (a b : Inc) → has_parted P n (There l x a) ≡ true
      → is_alive P n (Here b) ≡ true → GotAll P l x a b (paired_session P n l.0 x)
  got-all x a b parted open_now = subst (GotAll P l x a b) (sym (near.pairs x))
      (by_entry (first_match (has_session x) (all A)) refl)
    where
      gone : was_unpublished a (map heard_as (given_in A x)) ≡ true
      gone = gone-heard_there x a parted

      by_pair : (p : Option Session) → is_on m a ≡ true → HeardAll B (given_in A x) a b p
          → GotAll P l x a b p
      by_pair None on all_heard = all_heard
      by_pair (Some y) on all_heard = arrived-given x a b (open-on P n b open_now) ∙ all_heard
          ∙ sym (sent-said P m l B far y a b on)

      by_entry : (o : Option SessionRecord) → first_match (has_session x) (all A) ≡ o
          → GotAll P l x a b (peer_of (first_match (has_session x) (all A)))
      by_entry None e = absurd (true≢false (sym gone
          ∙ ap (λ (o : Option SessionRecord). was_unpublished a (map heard_as (given_of o))) e))
      by_entry (Some entry) e =
          let there : was_unpublished a (map heard_as entry.given) ≡ true =
          sym (ap (λ (o : Option SessionRecord). was_unpublished a (map heard_as (given_of o)))
          e) ∙ gone in
          let hears : IsHeardFrom B entry = all-first_match (IsHeardFrom B) (has_session x) (all A)
          entry half.hears e in
          let heard_all : HeardAll B entry.given a b entry.peer =
          entry-all B entry a b hears (none-freed x b entry open_now e) there said-properly in
          by_pair (peer_of (first_match (has_session x) (all A))) (gone-on x a entry hears there)
          (subst (λ (o : Option SessionRecord). HeardAll B (given_of o) a b (peer_of o)) (sym e)
          heard_all)

  -- who has gone isn't live in what was heard
  not-live : (x : Session) (a : Inc) → was_unpublished a (map heard_as (given_in A x)) ≡ true
      → is_live a (map heard_as (given_in A x)) ≡ false
  not-live x a gone = by_entry (first_match (has_session x) (all A)) refl gone
    where
      by_hearing : (e : SessionRecord) → IsHeardFrom B e
          → was_unpublished a (map heard_as e.given) ≡ true
          → is_live a (map heard_as e.given) ≡ false
      by_hearing e (nothing_heard none) was = ap (λ (g : List Given). is_live a (map heard_as g))
          none
      by_hearing e (heard y pair back_ later said) was =
          false_from_ne_true (is_live a (map heard_as e.given)) (λ live.
          true≢false (sym was ∙ live-not_unpublished a (map heard_as e.given)
          (proper-before later (map heard_as e.given) (subst IsProper said (said-properly y)))
          live))

      by_entry : (o : Option SessionRecord) → first_match (has_session x) (all A) ≡ o
          → was_unpublished a (map heard_as (given_of o)) ≡ true
          → is_live a (map heard_as (given_of o)) ≡ false
      by_entry None e was = refl
      by_entry (Some entry) e was =
          by_hearing entry (all-first_match (IsHeardFrom B) (has_session x) (all A) entry half.hears
          e) was

  pub gone-dead : (x : Session) (a : Inc) → has_parted P n (There l x a) ≡ true
      → is_alive P n (There l x a) ≡ false
  gone-dead x a parted =
      near.living x a ∙ ap (λ t. is_session x (up_in A) && t)
      (not-live x a (gone-heard_there x a parted)) ∙ and_none (is_session x (up_in A))
    where
      and_none : (t : Bool) → (t && false) ≡ false
      and_none true = refl
      and_none false = refl

  pub is_carried : IsCarried P n m l
  is_carried = record { fronts = got-front; complete = got-all; over = gone-dead }

-- over all links
pub all_carried : (shape : Shape) (P : List Step) (trunks : Trunks) → AllTrunks shape trunks
    → AllLinked shape P trunks → AllCarried shape P
all_carried shape P trunks halves linked l of_shape side =
    is_carried P (node_at shape l side) (node_at shape l (other_of side)) l (trunks l.0 side)
    (trunks l.0 (other_of side))
    (linked l of_shape side) (linked l of_shape (other_of side)) (halves l of_shape side)
    (subst (λ (k : Side). IsHalf (trunks l.0 (other_of side)) (trunks l.0 k)) (other_twice side)
    (halves l of_shape (other_of side)))
