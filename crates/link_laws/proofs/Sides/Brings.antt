-- What a trunk gives is legal: arrivals, meetings, partings, sessions going up and down.
use Rattle.std.proofs.Common.{◌≡◌, ℕ, ◌<◌, true, false, cond, ◌&&◌, inl, inr, List, [], ◌∷◌, ◌++◌}
use Rattle.std.proofs.Common.{Some, None, map, refl, sym, ◌∙◌, ap, subst, append-nil, true≢false}
use Rattle.std.proofs.Common.{eq-eqb, eqb-true}
use Rattle.std.specs.List.{list_any, AllByRecursion}
use Rattle.std.proofs.lemmas.Bool.{or_cases, or_left, or_right, false_from_ne_true}
use Rattle.linx_base.specs.Numbers.{is_on}
use Rattle.linx_base.specs.Peers.{same_inc}
use Rattle.linx_base.specs.declared.identity.Inc.{Inc}
use Rattle.linx_base.specs.declared.identity.LinkNo.{LinkNo}
use Rattle.linx_base.specs.declared.identity.Peer.TheVariants.{Here, There}
use Rattle.linx_base.specs.declared.identity.Session.{Session}
use Rattle.linx_base.specs.SigNotes.{SigNote}
use Rattle.trunk_record.specs.Changes.{giving}
use Rattle.trunk_record.specs.Records.{SessionRecord, SideRecord, all, has_session, said_in}
use Rattle.trunk_record.specs.Records.{given_in, session_if}
use Rattle.trunk_record.specs.Sayings.{Said, published, asked, signaled, unpublished, Given, met}
use Rattle.trunk_record.specs.Sayings.{arrived, gone, heard_as, was_published, was_unpublished}
use Rattle.trunk_record.specs.Sayings.{is_live, signals_between, IsProper, frees, has_met}
use Rattle.trunk_record.specs.Trunks.{IsHeardFrom, nothing_heard, heard, IsHalf}
use Rattle.journal.specs.History.{openings, open_endpoints}
use Rattle.journal.specs.Living.{is_alive}
use Rattle.journal.specs.Sessions.{up_session}
use Rattle.journal.specs.Traffic.{sent_to, arrived_from}
use Rattle.journal.specs.declared.effect.Step.{Step}
use Rattle.link_laws.specs.Brought.{was_opened, IsArrival, IsMeeting, IsParting, IsGoingUp}
use Rattle.link_laws.specs.Brought.{IsGoingDown}
use Rattle.link_laws.specs.Linked.{IsLinked, IsTrueOf, is_session, IsClosedOn}
use Rattle.link_laws.specs.Moves.{IsTold}
use Rattle.link_laws.specs.Sessions.{paired_session, had_session}
use Rattle.trunk_record.proofs.Lookups.{given-now, peer-now, said-all}
use Rattle.trunk_record.proofs.Sayings.{same_inc-itself, same_inc-is, proper-before, live-published}
use Rattle.trunk_record.proofs.Sayings.{live-not_unpublished, signals-append, signals-only}
use Rattle.trunk_record.proofs.Sayings.{none_after, arrivals_between, arrivals-shown}
use Rattle.trunk_record.proofs.Sayings.{arrivals-heard, met-heard}
use Rattle.link_laws.proofs.Sides.JournalWords.{arrived-came, sent-signals, met-came}
use Rattle.link_laws.proofs.Endpoints.OpenAfterStep.{both_true, open-on}

-- what was published was opened on the node, what was unpublished is closed
pub published-opened : (P : List Step) (m : ℕ) (a : Inc) (said : List Said)
    → AllByRecursion (IsTrueOf P m) said → was_published a said ≡ true → was_opened P m a ≡ true
published-opened P m a [] truly is = absurd (true≢false (sym is))
published-opened P m a (published i name ∷ before) truly is =
    elim (or_cases (same_inc a i) (was_published a before) is) [
      | inl e ↦ let same : a ≡ i = same_inc-is a i e in
          subst (λ (k : Inc). was_opened P m k ≡ true) (sym same) truly.0.0
      | inr e ↦ published-opened P m a before truly.1 e
    ]
published-opened P m a (asked name ∷ before) truly is = published-opened P m a before truly.1 is
published-opened P m a (signaled i j note ∷ before) truly is =
    published-opened P m a before truly.1 is
published-opened P m a (unpublished i ∷ before) truly is = published-opened P m a before truly.1 is

pub unpublished-closed : (P : List Step) (m : ℕ) (a : Inc) (said : List Said)
    → AllByRecursion (IsTrueOf P m) said → was_unpublished a said ≡ true → IsClosedOn P m a
unpublished-closed P m a [] truly is = absurd (true≢false (sym is))
unpublished-closed P m a (published i name ∷ before) truly is =
    unpublished-closed P m a before truly.1 is
unpublished-closed P m a (asked name ∷ before) truly is = unpublished-closed P m a before truly.1 is
unpublished-closed P m a (signaled i j note ∷ before) truly is =
    unpublished-closed P m a before truly.1 is
unpublished-closed P m a (unpublished i ∷ before) truly is =
    elim (or_cases (same_inc a i) (was_unpublished a before) is) [
      | inl e ↦ let same : a ≡ i = same_inc-is a i e in
          subst (λ (k : Inc). IsClosedOn P m k) (sym same) truly.0
      | inr e ↦ unpublished-closed P m a before truly.1 e
    ]

-- what holds of all that was said holds of what was said before
pub all-before : (Q : Said → Type 0) (later before : List Said) → AllByRecursion Q (later ++ before)
    → AllByRecursion Q before
all-before Q [] before held = held
all-before Q (w ∷ later) before held = all-before Q later before held.1

-- what holds of each incarnation that stands in a list holds of its elements
pub all-members : (Q : Inc → Type 0) (xs : List Inc)
    → ((i : Inc) → list_any (same_inc i) xs ≡ true → Q i) → AllByRecursion Q xs
all-members Q [] each = tt
all-members Q (x ∷ xs) each = (
  each x (or_left (same_inc x x) (list_any (same_inc x) xs) (same_inc-itself x)),
  all-members Q xs (λ i is. each i (or_right (same_inc i x) (list_any (same_inc i) xs) is)),
)

-- THE TWO LISTS in the records' words: what arrived is what was heard, what was sent is what was
-- said
pub got-heard : (P : List Step) (n : ℕ) (l : LinkNo) (A : SideRecord) → IsLinked P n l A
    → (x : Session) (a b : Inc) → is_on n b ≡ true → list_any (frees b) (given_in A x) ≡ false
    → arrived_from P b (There l x a) ≡ signals_between a b (map heard_as (given_in A x))
got-heard P n l A link x a b on none =
    arrived-came n l x a b on P ∙ ap (arrivals_between a b) (link.came x)
    ∙ arrivals-shown a b (given_in A x) ∙ arrivals-heard a b (given_in A x) none

pub sent-said : (P : List Step) (m : ℕ) (l : LinkNo) (B : SideRecord) → IsLinked P m l B
    → (y : Session) (a b : Inc) → is_on m a ≡ true
    → sent_to P a (There l y b) ≡ signals_between a b (said_in B y)
sent-said P m l B link y a b on =
    sent-signals m l y a b on P ∙ ap (signals_between a b) (link.sent y)
    ∙ signals-only a b (said_in B y)

-- what one more thing given tells
pub told : (A B : SideRecord) (g : Given) → IsHeardFrom B (record A.now { given = g ∷ A.now.given })
    → IsTold A B g
told A B g (nothing_heard none) = absurd cc
told A B g (heard y pair back later said) = record {
  y = y;
  pair = pair;
  back = back;
  later = later;
  said = said;
}

module _ (P : List Step) (n m : ℕ) (l : LinkNo) (A B : SideRecord) (g : Given)
    (near : IsLinked P n l A) (far : IsLinked P m l B) (there : IsHalf (giving g A) B)
    (back : IsHalf B (giving g A)) where
  x : Session
  x = A.now.session

  abbrev told_now : IsTold A B g
  told_now = told A B g there.hears.0

  abbrev before : List Said
  before = heard_as g ∷ map heard_as A.now.given

  pub said-proper : IsProper (told_now.later ++ before)
  said-proper = subst IsProper told_now.said (said-all IsProper tt told_now.y (all B) back.proper)

  said-true : AllByRecursion (IsTrueOf P m) (told_now.later ++ before)
  said-true = subst (AllByRecursion (IsTrueOf P m)) told_now.said
      (said-all (AllByRecursion (IsTrueOf P m)) tt told_now.y (all B) far.truly)

  before-proper : IsProper before
  before-proper = proper-before told_now.later before said-proper

  before-true : AllByRecursion (IsTrueOf P m) before
  before-true = all-before (IsTrueOf P m) told_now.later before said-true

  paired : paired_session P n l.0 A.now.session ≡ Some told_now.y
  paired = near.pairs A.now.session ∙ peer-now A ∙ told_now.pair

  up : up_session P n l.0 ≡ Some A.now.session
  up = near.up ∙ ap (λ p. session_if p A.now.session) told_now.pair

  alive-live : (a : Inc) → is_live a (map heard_as A.now.given) ≡ true
      → is_alive P n (There l A.now.session a) ≡ true
  alive-live a live =
      near.living A.now.session a ∙ ap (λ p. is_session A.now.session (session_if p A.now.session)
      && is_live a (map heard_as (given_in A A.now.session))) told_now.pair
      ∙ ap (λ given. is_session A.now.session (Some A.now.session) && is_live a
      (map heard_as given)) (given-now A)
      ∙ ap (λ t. t && is_live a (map heard_as A.now.given))
      (eq-eqb A.now.session.0 A.now.session.0 refl) ∙ live

  -- to an open endpoint nothing was freed
  none_freed : (b : Inc) → was_unpublished b A.now.said ≡ false
      → list_any (frees b) A.now.given ≡ false
  none_freed b not_yet = false_from_ne_true (list_any (frees b) A.now.given) (λ is.
      true≢false (sym (there.frees_closed.0 b (or_right (frees b g) (list_any (frees b) A.now.given)
      is)) ∙ not_yet))

  got : (a b : Inc) → is_on n b ≡ true → was_unpublished b A.now.said ≡ false
      → arrived_from P b (There l A.now.session a) ≡ signals_between a b (map heard_as A.now.given)
  got a b on not_yet =
      got-heard P n l A near A.now.session a b on (ap (list_any (frees b)) (given-now A)
      ∙ none_freed b not_yet)
      ∙ ap (λ given. signals_between a b (map heard_as given)) (given-now A)

  sent : (a b : Inc) → is_on m a ≡ true → sent_to P a (There l told_now.y b)
      ≡ signals_between a b before ++ signals_between a b told_now.later
  sent a b on =
      sent-said P m l B far told_now.y a b on ∙ ap (signals_between a b) told_now.said
      ∙ signals-append a b told_now.later before

  -- an arrival, at an endpoint that is live on the receiving side
  pub legal_arrival : (a b : Inc) (note : SigNote) → g ≡ arrived a b note → IsProper A.now.said
      → is_live b A.now.said ≡ true → IsArrival P n m l A.now.session a b note
  legal_arrival a b note is mine live =
      let open_ : is_alive P n (Here b) ≡ true = near.live b live in
      let first : before ≡ signaled a b note ∷ map heard_as A.now.given =
      ap (λ k. heard_as k ∷ map heard_as A.now.given) is in
      let proper : IsProper (signaled a b note ∷ map heard_as A.now.given) =
      subst IsProper first before-proper in
      let truly : AllByRecursion (IsTrueOf P m) (signaled a b note ∷ map heard_as A.now.given) =
      subst (AllByRecursion (IsTrueOf P m)) first before-true in
      let sender : was_opened P m a ≡ true = published-opened P m a (map heard_as A.now.given)
      truly.1 (live-published a (map heard_as A.now.given) proper.0) in
      let on_m : is_on m a ≡ true = (both_true (is_on m a) (list_any (same_inc a) (openings P))
      sender).0 in
      let one : signals_between a b before ≡ signals_between a b (map heard_as A.now.given) ++ note
      ∷ [] =
      ap (signals_between a b) first ∙ ap (λ t. signals_between a b (map heard_as A.now.given)
      ++ cond t (note ∷ []) []) (ap (λ t. t && same_inc b b) (same_inc-itself a)
      ∙ same_inc-itself b) in
      record {
        receiver = open_;
        sender = sender;
        alive = alive-live a proper.0;
        front = rw paired (
          signals_between a b told_now.later,
          sent a b on_m ∙ ap (λ k. k ++ signals_between a b told_now.later) (one
              ∙ ap (λ k. k ++ note ∷ []) (sym (got a b (open-on P n b open_)
              (live-not_unpublished b A.now.said mine live)))),
        );
      }

  -- a meeting
  pub legal_meeting : (a : Inc) (name : List ℕ) → g ≡ met a name
      → IsMeeting P n m l A.now.session a name
  legal_meeting a name is =
      let first : before ≡ published a name ∷ map heard_as A.now.given =
      ap (λ k. heard_as k ∷ map heard_as A.now.given) is in
      let proper : IsProper (published a name ∷ map heard_as A.now.given) =
      subst IsProper first before-proper in
      let truly : AllByRecursion (IsTrueOf P m) (published a name ∷ map heard_as A.now.given) =
      subst (AllByRecursion (IsTrueOf P m)) first before-true in
      record {
        up = up;
        opened = truly.0.0;
        named = truly.0.1;
        new = met-came n l A.now.session a P ∙ ap (has_met a) (near.came A.now.session)
            ∙ met-heard a (given_in A A.now.session)
            ∙ ap (λ given. was_published a (map heard_as given)) (given-now A) ∙ proper.0;
      }

  -- a parting
  pub legal_parting : (a : Inc) → g ≡ gone a → AllByRecursion (IsTrueOf P n) A.now.said
      → IsParting P n m l A.now.session a
  legal_parting a is mine_true =
      let first : before ≡ unpublished a ∷ map heard_as A.now.given =
      ap (λ k. heard_as k ∷ map heard_as A.now.given) is in
      let proper : IsProper (unpublished a ∷ map heard_as A.now.given) =
      subst IsProper first before-proper in
      let truly : AllByRecursion (IsTrueOf P m) (unpublished a ∷ map heard_as A.now.given) =
      subst (AllByRecursion (IsTrueOf P m)) first before-true in
      let opened : was_opened P m a ≡ true = published-opened P m a (map heard_as A.now.given)
      truly.1 (live-published a (map heard_as A.now.given) proper.0) in
      let on_m : is_on m a ≡ true = (both_true (is_on m a) (list_any (same_inc a) (openings P))
      opened).0 in
      let ended : was_unpublished a before ≡ true = ap (was_unpublished a) first
      ∙ or_left (same_inc a a) (was_unpublished a (map heard_as A.now.given))
      (same_inc-itself a) in
      let none : (b : Inc) → signals_between a b told_now.later ≡ [] =
      λ b. none_after a b told_now.later before said-proper ended in
      record {
        alive = alive-live a proper.0;
        closed = truly.0.closed;
        all_got = rw paired (all-members _ (open_endpoints P n) (λ b open_.
            let here : is_on n b ≡ true = open-on P n b open_ in
            let not_yet : was_unpublished b A.now.said ≡ false =
            false_from_ne_true (was_unpublished b A.now.said)
            (λ was. true≢false (sym open_ ∙ (unpublished-closed P n b A.now.said mine_true
            was).dead)) in
            got a b here not_yet ∙ sym (sent a b on_m
            ∙ ap (λ k. signals_between a b before ++ k) (none b)
            ∙ append-nil (signals_between a b before) ∙ ap (signals_between a b) first)));
      }

-- going up: the contract of the trunk says that the side was down and that the other side has or
-- had the session
pub legal_going_up : (P : List Step) (n m : ℕ) (l : LinkNo) (A B : SideRecord) (y : Session)
    → IsLinked P n l A → IsLinked P m l B → A.now.peer ≡ None
    → list_any (has_session y) (all B) ≡ true → IsGoingUp P n m l A.now.session y
legal_going_up P n m l A B y near far down has =
    record {
      down = near.up ∙ ap (λ p. session_if p A.now.session) down;
      own = sym near.own;
      other_had = in_all (all B) far.had has;
    }
  where
    in_all : (es : List SessionRecord) → AllByRecursion (λ e. had_session P m l.0 e.session ≡ true)
        es → list_any (has_session y) es ≡ true → had_session P m l.0 y ≡ true
    in_all [] held is = absurd (true≢false (sym is))
    in_all (e ∷ es) held is =
        elim (or_cases (has_session y e) (list_any (has_session y) es) is) [
          | inl here ↦ let same : e.session ≡ y = ap (λ (k : ℕ). let s : Session =
              record { 0 = k } in s) (eqb-true e.session.0 y.0 here) in
              subst (λ (s : Session). had_session P m l.0 s ≡ true) same held.0
          | inr later ↦ in_all es held.1 later
        ]

-- going down in a Wire step: the other side has a greater session than the pair
pub legal_going_down : (P : List Step) (n m : ℕ) (l : LinkNo) (A B : SideRecord) (y : Session)
    → IsLinked P n l A → IsLinked P m l B → A.now.peer ≡ Some y → y.0 < B.now.session.0
    → IsGoingDown P n m l A.now.session
legal_going_down P n m l A B y near far was greater =
    record {
      up = near.up ∙ ap (λ p. session_if p A.now.session) was;
      passed = rw (near.pairs A.now.session ∙ peer-now A
          ∙ was) (subst (λ (s : Session). y.0 < s.0) (sym far.own) greater);
    }
