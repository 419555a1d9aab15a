-- What is promised of a trunk's record follows from what a trunk keeps of it.
use Rattle.std.proofs.Common.{◌≡◌, ◌≢◌, ℕ, Bool, true, false, not, ◌&&◌, cond, List, [], ◌∷◌, ◌++◌}
use Rattle.std.proofs.Common.{Some, None, ◌⊎◌, inl, inr, map, refl, sym, ◌∙◌, ap, subst, eqb-true}
use Rattle.std.proofs.Common.{true≢false, append-nil}
use Rattle.std.proofs.lemmas.Bool.{or_left, or_right}
use Rattle.std.proofs.lemmas.List.Folds.{list_any-append}
use Rattle.std.proofs.lemmas.Option.{same_Some}
use Rattle.std.specs.List.{AllByRecursion}
use Rattle.linx_base.specs.FirstMatch.{first_match}
use Rattle.linx_base.specs.Peers.{same_inc}
use Rattle.linx_base.specs.declared.identity.Inc.{Inc}
use Rattle.linx_base.specs.declared.identity.Session.{Session}
use Rattle.carrier.proofs.Fronts.{either}
use Rattle.trunk_record.specs.Records.{SessionRecord, SideRecord, all, given_in, given_of}
use Rattle.trunk_record.specs.Records.{has_session, peer_in, peer_of, said_in}
use Rattle.trunk_record.specs.Sayings.{Given, IsProper, Said, has_gone, has_met, heard_as, is_live}
use Rattle.trunk_record.specs.Sayings.{met, published, publishes, signals_between, unpublished}
use Rattle.trunk_record.specs.Sayings.{was_published, was_unpublished}
use Rattle.trunk_record.specs.Trunks.{IsHalf, IsHeardFrom, heard, nothing_heard}
use Rattle.trunk_record.proofs.Lookups.{said-all}
use Rattle.trunk_record.proofs.Sayings.{live-published, none_after, proper-before, same_inc-itself}
use Rattle.trunk_record.proofs.Sayings.{signals-append}
use Rattle.trunk.specs.Promises.{ArePaired, EndsLast, GivenPromises, HearsFront, SaidPromises}
use Rattle.trunk.proofs.Messages.ProperSayings.{gone_heard, live_is, met_heard, published_before}
use Rattle.trunk.proofs.Messages.ProperSayings.{unpublished_before}

-- ---- a session that is looked up is one of those that are recorded, or nothing stands in it

record IsEntry (x : Session) (es : List SessionRecord) (Q : SessionRecord → Type 0) : Type 0
  where
    entry : SessionRecord
    found : first_match (has_session x) es ≡ Some entry
    session : entry.session ≡ x
    holds : Q entry

entry_at : (x : Session) (Q : SessionRecord → Type 0) (es : List SessionRecord)
    → AllByRecursion Q es → (first_match (has_session x) es ≡ None) ⊎ IsEntry x es Q
entry_at x Q [] held = inl refl
entry_at x Q (e ∷ es) held = elim (either (has_session x e)) [
  | inl on ↦ inr (record {
    entry = e;
    found = ap (λ t. cond t (Some e) (first_match (has_session x) es)) on;
    session = ap (λ (n : ℕ). let w : Session = record { 0 = n } in w)
        (eqb-true e.session.0 x.0 on);
    holds = held.0;
  })
  | inr off ↦
      let step : first_match (has_session x) (e ∷ es) ≡ first_match (has_session x) es =
      ap (λ t. cond t (Some e) (first_match (has_session x) es)) off in
      elim (entry_at x Q es held.1) [
        | inl none ↦ inl (step ∙ none)
        | inr some ↦ inr (record {
          entry = some.entry;
          found = step ∙ some.found;
          session = some.session;
          holds = some.holds;
        })
      ]
]

-- ---- what was given in a session

module _ (A B : SideRecord) (near : IsHalf A B) (far : IsHalf B A) (x : Session) where
  -- nothing was given, or it is the meaning of a front of what the peer said
  heard_in : (given_in A x ≡ []) ⊎ ((y : Session) × HearsFront A B x y)
  heard_in = elim (entry_at x (IsHeardFrom B) (all A) near.hears) [
    | inl none ↦ inl (ap given_of none)
    | inr e ↦ by_entry e e.holds
  ]
    where
      by_entry : (e : IsEntry x (all A) (IsHeardFrom B)) → IsHeardFrom B e.entry
          → (given_in A x ≡ []) ⊎ ((y : Session) × HearsFront A B x y)
      by_entry e (nothing_heard none) = inl (ap given_of e.found ∙ none)
      by_entry e (heard y pair back later said) = inr (
        y,
        record {
          paired = record {
            pair = ap peer_of e.found ∙ pair;
            back = back ∙ ap Some e.session;
          };
          later = later;
          said = said ∙ ap (λ g. later ++ map heard_as g) (sym (ap given_of e.found));
        },
      )

  hears : given_in A x ≢ [] → (y : Session) × HearsFront A B x y
  hears some = elim heard_in [ inl none ↦ absurd (some none) | inr is ↦ is ]

  -- what was given means something proper
  proper_given : IsProper (map heard_as (given_in A x))
  proper_given = elim heard_in [
    | inl none ↦ subst (λ g. IsProper (map heard_as g)) (sym none) tt
    | inr is ↦ proper-before is.1.later (map heard_as (given_in A x))
        (subst IsProper is.1.said (said-all IsProper tt is.0 (all B) far.proper))
  ]

  -- what was met or has gone was given
  some_given : (p : Inc → List Given → Bool) → ((i : Inc) → p i [] ≡ false) → (i : Inc)
      → p i (given_in A x) ≡ true → given_in A x ≢ []
  some_given p none i is nil = true≢false (sym is ∙ ap (p i) nil ∙ none i)

  down : peer_in A x ≡ None → given_in A x ≡ []
  down none_up = elim heard_in [
    | inl none ↦ none
    | inr is ↦ let e = sym none_up ∙ is.1.paired.pair in absurd cc
  ]

  unbound : (y : Session) → peer_in A x ≡ Some y → peer_in B y ≢ Some x → given_in A x ≡ []
  unbound y pair apart = elim heard_in [
    | inl none ↦ none
    | inr is ↦
        let same : is.0 ≡ y = same_Some is.0 y (sym is.1.paired.pair ∙ pair) in
        absurd (apart (subst (λ (z : Session). peer_in B z ≡ Some x) same is.1.paired.back))
  ]

  once : (later before : List Given) (i : Inc) (name : List ℕ)
      → given_in A x ≡ later ++ met i name ∷ before
      → (has_met i later ≡ false) × (has_met i before ≡ false)
  once later before i name is =
      let split : map heard_as (given_in A x)
      ≡ map heard_as later ++ published i name ∷ map heard_as before =
      ap (map heard_as) is ∙ map_append later (met i name ∷ before) in
      let proper = subst IsProper split proper_given in
      let rest = proper-before (map heard_as later) (published i name ∷ map heard_as before) proper
      in (
        met_heard i later ∙ published_before i (map heard_as later)
            (published i name ∷ map heard_as before) proper
            (or_left (same_inc i i)
            (was_published i (map heard_as before)) (same_inc-itself i)),
        met_heard i before ∙ rest.0,
      )
    where
      map_append : (xs ys : List Given)
          → map heard_as (xs ++ ys) ≡ map heard_as xs ++ map heard_as ys
      map_append [] ys = refl
      map_append (g ∷ gs) ys = ap (λ k. heard_as g ∷ k) (map_append gs ys)

  living : (i : Inc) → is_live i (map heard_as (given_in A x))
      ≡ (has_met i (given_in A x) && not (has_gone i (given_in A x)))
  living i = live_is i (map heard_as (given_in A x)) proper_given
      ∙ ap (λ t. t && not (was_unpublished i (map heard_as (given_in A x))))
      (sym (met_heard i (given_in A x)))
      ∙ ap (λ t. has_met i (given_in A x) && not t) (sym (gone_heard i (given_in A x)))

  was_said : (i : Inc) → has_met i (given_in A x) ≡ true
      → (y : Session) × ArePaired A B x y × (was_published i (said_in B y) ≡ true)
  was_said i is =
      let h = hears (some_given has_met (λ j. refl) i is) in
      let given = map heard_as (given_in A x) in
      let was : was_published i given ≡ true = sym (met_heard i (given_in A x)) ∙ is in
      let all : was_published i (said_in B h.0) ≡ true =
      ap (was_published i) h.1.said ∙ list_any-append (publishes i) h.1.later given
      ∙ or_right (was_published i h.1.later) (was_published i given) was in
      (h.0, h.1.paired, all)

  parted : (i b : Inc) (y : Session) → peer_in A x ≡ Some y → has_gone i (given_in A x) ≡ true
      → signals_between i b (said_in B y) ≡ signals_between i b (map heard_as (given_in A x))
  parted i b y pair is =
      let h = hears (some_given has_gone (λ j. refl) i is) in
      let same : h.0 ≡ y = same_Some h.0 y (sym h.1.paired.pair ∙ pair) in
      let given = map heard_as (given_in A x) in
      let proper : IsProper (h.1.later ++ given) =
      subst IsProper h.1.said (said-all IsProper tt h.0 (all B) far.proper) in
      let none : signals_between i b h.1.later ≡ [] =
      none_after i b h.1.later given proper (sym (gone_heard i (given_in A x)) ∙ is) in
      subst (λ (z : Session). signals_between i b (said_in B z) ≡ signals_between i b given) same
      (ap (signals_between i b) h.1.said ∙ signals-append i b h.1.later given
      ∙ ap (λ k. signals_between i b given ++ k) none ∙ append-nil (signals_between i b given))

  pub given_promises : GivenPromises A B x
  given_promises =
      record {
        heard = hears;
        down = down;
        unbound = unbound;
        once = once;
        living = living;
        published = was_said;
        parted = parted;
      }

-- ---- what was said in a session

module _ (A B : SideRecord) (near : IsHalf A B) (x : Session) where
  proper_said : IsProper (said_in A x)
  proper_said = said-all IsProper tt x (all A) near.proper

  publishes_once : (later before : List Said) (i : Inc) (name : List ℕ)
      → said_in A x ≡ later ++ published i name ∷ before
      → (was_published i later ≡ false) × (was_published i before ≡ false)
  publishes_once later before i name is =
      let proper = subst IsProper is proper_said in (
        published_before i later (published i name ∷ before) proper
            (or_left (same_inc i i) (was_published i before)
            (same_inc-itself i)),
        (proper-before later (published i name ∷ before) proper).0,
      )

  ends_last : (later before : List Said) (i : Inc)
      → said_in A x ≡ later ++ unpublished i ∷ before → EndsLast later before i
  ends_last later before i is =
      let proper = subst IsProper is proper_said in
      let live = (proper-before later (unpublished i ∷ before) proper).0 in
      let was : was_unpublished i (unpublished i ∷ before) ≡ true =
      or_left (same_inc i i) (was_unpublished i before)
      (same_inc-itself i) in
      record {
        was_live = live;
        not_published = published_before i later (unpublished i ∷ before) proper
            (live-published i before live);
        not_unpublished = unpublished_before i later (unpublished i ∷ before) proper was;
        no_signal = λ b. none_after i b later (unpublished i ∷ before) proper was;
      }

  pub said_promises : SaidPromises A x
  said_promises = record { publishes = publishes_once; unpublishes = ends_last }

-- ---- nothing is given in two sessions of one peer

pub not_twice : (A B : SideRecord) → IsHalf A B → IsHalf B A → (x w y : Session)
    → peer_in A x ≡ Some y → peer_in A w ≡ Some y → given_in A x ≢ [] → given_in A w ≢ []
    → x ≡ w
not_twice A B near far x w y one two some more =
    let h = hears A B near far x some in
    let g = hears A B near far w more in
    let same : h.0 ≡ g.0 =
    same_Some h.0 y (sym h.1.paired.pair ∙ one) ∙ sym (same_Some g.0 y (sym g.1.paired.pair ∙ two))
    in
    same_Some x w (sym h.1.paired.back ∙ ap (peer_in B) same ∙ g.1.paired.back)
