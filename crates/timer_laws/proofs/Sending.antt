-- What is sent, cancelled or closed is gone.
use Rattle.std.proofs.Common.{◌≡◌, ◌≢◌, inl, inr, ℕ, ◌+◌, ◌<◌, ◌≤◌, Bool, true, false, List, []}
use Rattle.std.proofs.Common.{◌∷◌, ◌++◌, refl, sym, subst, arith, Some, None, not, filter, ◌==◌}
use Rattle.std.proofs.Common.{nat_le}
use Rattle.std.specs.List.{AllByRecursion, list_all}
use Rattle.std.proofs.lemmas.Bool.{cases_Bool, cases_lt}
use Rattle.std.proofs.lemmas.Bool.Decides.{nat_tests}
use Rattle.linx_base.specs.FirstMatch.{first_match, without_match}
use Rattle.linx_timers.specs.declared.timer.Timer.{Timer}
use Rattle.linx_timers.specs.Times.{is_timer, is_next, with_due}
use Rattle.linx_timers.proofs.Taking.{all_without, all_first, all_push, all_by, first_passes}
use Rattle.linx_timers.proofs.Taking.{all_pass}
use Rattle.timer_laws.specs.Laws.{AreRising, AreNumbered, IsGone, Stays, EachIsSentOnce}
use Rattle.timer_laws.specs.Laws.{EachIsSentInTime}

-- LISTS OF TIMERS
all_filter : (P : Timer → Type 0) (p : Timer → Bool) (ts : List Timer) → AllByRecursion P ts
    → AllByRecursion P (filter p ts)
all_filter P p [] all = all
all_filter P p (t ∷ ts) all = elim (cases_Bool (p t)) [
  | inl hit ↦ rw hit (all.0, all_filter P p ts all.1)
  | inr miss ↦ rw miss (all_filter P p ts all.1)
]

-- what speaks of references alone holds where one is due at another moment
all_moved : (P : ℕ → Type 0) (client reference due : ℕ) (ts : List Timer)
    → AllByRecursion (λ t. P t.reference) ts
    → AllByRecursion (λ t. P t.reference) (with_due client reference due ts)
all_moved P client reference due [] all = all
all_moved P client reference due (t ∷ ts) all = elim (cases_Bool (is_timer client reference t)) [
  | inl hit ↦ rw hit (all.0, all.1)
  | inr miss ↦ rw miss (all.0, all_moved P client reference due ts all.1)
]

rising_push : (ts : List Timer) (t : Timer) → AreRising ts
    → AllByRecursion (λ u. u.reference < t.reference) ts → AreRising (ts ++ t ∷ [])
rising_push [] t up below = (tt, tt)
rising_push (u ∷ ts) t up below =
    (all_push (λ v. u.reference < v.reference) ts t up.0 below.0, rising_push ts t up.1 below.1)

rising_without : (p : Timer → Bool) (ts : List Timer) → AreRising ts
    → AreRising (without_match p ts)
rising_without p [] up = up
rising_without p (t ∷ ts) up = elim (cases_Bool (p t)) [
  | inl hit ↦ rw hit up.1
  | inr miss ↦
      rw miss (all_without (λ u. t.reference < u.reference) p ts up.0, rising_without p ts up.1)
]

rising_filter : (p : Timer → Bool) (ts : List Timer) → AreRising ts → AreRising (filter p ts)
rising_filter p [] up = up
rising_filter p (t ∷ ts) up = elim (cases_Bool (p t)) [
  | inl hit ↦
      rw hit (all_filter (λ u. t.reference < u.reference) p ts up.0, rising_filter p ts up.1)
  | inr miss ↦ rw miss (rising_filter p ts up.1)
]

rising_moved : (client reference due : ℕ) (ts : List Timer) → AreRising ts
    → AreRising (with_due client reference due ts)
rising_moved client reference due [] up = up
rising_moved client reference due (t ∷ ts) up =
    elim (cases_Bool (is_timer client reference t)) [
      | inl hit ↦ rw hit (up.0, up.1)
      | inr miss ↦ rw miss (
        all_moved (λ r. t.reference < r) client reference due ts up.0,
        rising_moved client reference due ts up.1,
      )
    ]

-- the others have other references than the first that passes
apart : (p : Timer → Bool) (ts : List Timer) (t : Timer) → AreRising ts
    → first_match p ts ≡ Some t → AllByRecursion (λ u. u.reference ≢ t.reference) (without_match p ts)
apart p [] t up is = cc
apart p (u ∷ ts) t up is = elim (cases_Bool (p u)) [
  | inl hit ↦
      let found : Some u ≡ Some t = rw hit at is in
      let same : u ≡ t = cc in
      rw hit (subst (λ (v : Timer). AllByRecursion (λ w. w.reference ≢ v.reference) ts) same
      (all_by (λ v. u.reference < v.reference) (λ v. v.reference ≢ u.reference) ts
      (λ v less e. omega arith) up.0))
  | inr miss ↦
      let later : first_match p ts ≡ Some t = rw miss at is in
      let above : u.reference < t.reference =
      all_first (λ v. u.reference < v.reference) p ts t up.0 later in
      rw miss ((λ same. omega arith), apart p ts t up.1 later)
]

-- no timer is a client's that closed
none_of : (client : ℕ) (ts : List Timer)
    → AllByRecursion (λ t. t.client ≢ client) (filter (λ t. not (client == t.client)) ts)
none_of client [] = tt
none_of client (t ∷ ts) = elim (cases_Bool (client == t.client)) [
  | inl hit ↦ rw hit (none_of client ts)
  | inr miss ↦
      let other : t.client ≢ client = λ e. grind (arith, nat_tests) in
      rw miss (other, none_of client ts)
]

-- the first of a reference has it
has_reference : (client reference : ℕ) (t : Timer) → is_timer client reference t ≡ true
    → reference ≡ t.reference
has_reference client reference t is = elim (cases_Bool (client == t.client)) [
  | inl hit ↦
      let rest : (reference == t.reference) ≡ true = rw hit at is in grind (arith, nat_tests)
  | inr miss ↦ let out : false ≡ true = rw miss at is in cc
]

-- a timer that is next is due
due_by : (moment : ℕ) (ts : List Timer) (t : Timer) → is_next moment ts t ≡ true → t.due ≤ moment
due_by moment ts t is = elim (cases_Bool (nat_le t.due moment)) [
  | inl hit ↦ grind (arith, nat_tests)
  | inr miss ↦ let out : false ≡ true = rw miss at is in cc
]

-- THE EARLIEST: one that no other is due before, if there is a timer at all
record HasEarliest (ts : List Timer) : Type 0 where
  earliest : ℕ
  least : AllByRecursion (λ t. earliest ≤ t.due) ts
  there : (p : Timer → Bool) → ((t : Timer) → t.due ≡ earliest → p t ≡ true)
      → first_match p ts ≡ None → ⊥

found_there : (p : Timer → Bool) (t : Timer) (ts : List Timer) → p t ≡ true
    → first_match p (t ∷ ts) ≡ None → ⊥
found_there p t ts here none = let found : Some t ≡ None = rw here at none in cc

further : (p : Timer → Bool) (t : Timer) (ts : List Timer) → first_match p (t ∷ ts) ≡ None
    → first_match p ts ≡ None
further p t ts none = elim (cases_Bool (p t)) [
  | inl hit ↦ let found : Some t ≡ None = rw hit at none in cc
  | inr miss ↦ rw miss at none
]

earliest_of : (t : Timer) (ts : List Timer) → HasEarliest (t ∷ ts)
earliest_of t [] = record {
  earliest = t.due;
  least = (omega arith, tt);
  there = λ p passes none. found_there p t [] (passes t refl) none;
}
earliest_of t (u ∷ ts) =
    let rest : HasEarliest (u ∷ ts) = earliest_of u ts in
    elim (cases_lt rest.earliest t.due) [
      | inl before ↦ record {
        earliest = rest.earliest;
        least = (omega arith, rest.least);
        there = λ p passes none. rest.there p passes (further p t (u ∷ ts) none);
      }
      | inr first ↦ record {
        earliest = t.due;
        least = (
          omega arith,
          all_by (λ v. rest.earliest ≤ v.due) (λ v. t.due ≤ v.due) (u ∷ ts)
              (λ v least. omega (arith, least, first)) rest.least,
        );
        there = λ p passes none. found_there p t (u ∷ ts) (passes t refl) none;
      }
    ]

-- where none is next all are due later
all_later : (moment : ℕ) (ts : List Timer) → first_match (is_next moment ts) ts ≡ None
    → AllByRecursion (λ t. moment < t.due) ts
all_later moment [] none = tt
all_later moment (t ∷ ts) none =
    let first : HasEarliest (t ∷ ts) = earliest_of t ts in
    elim (cases_lt moment first.earliest) [
      | inl later ↦ all_by (λ u. first.earliest ≤ u.due) (λ u. moment < u.due) (t ∷ ts)
          (λ u least. omega (arith, least, later)) first.least
      | inr reached ↦ absurd (first.there (is_next moment (t ∷ ts)) (λ u is.
          let here : nat_le u.due moment ≡ true =
          let by : u.due ≤ moment = omega (arith, is, reached) in grind (arith, nat_tests) in
          let all : list_all (λ other. nat_le u.due other.due) (t ∷ ts) ≡ true =
          all_pass (λ other. nat_le u.due other.due) (t ∷ ts)
          (all_by (λ v. first.earliest ≤ v.due) (λ v. nat_le u.due v.due ≡ true) (t ∷ ts)
          (λ v least. let by : u.due ≤ v.due = omega (arith, is, least) in
          grind (arith, nat_tests)) first.least) in
          rw (here, all) refl) none)
    ]

-- THE LAWS
numbered_stays : Stays AreNumbered
numbered_stays = record {
  request = λ client due signal k is. record {
    rising = rising_push k.timers (record {
      client = client;
      reference = k.requested + 1;
      due = due;
      signal = signal;
    }) is.rising (all_by (λ (t : Timer). t.reference ≤ k.requested)
        (λ (t : Timer). t.reference < k.requested + 1) k.timers (λ t below. omega arith) is.so_far);
    so_far = all_push (λ (t : Timer). t.reference ≤ k.requested + 1) k.timers (record {
      client = client;
      reference = k.requested + 1;
      due = due;
      signal = signal;
    }) (all_by (λ (t : Timer). t.reference ≤ k.requested)
        (λ (t : Timer). t.reference ≤ k.requested + 1) k.timers (λ t below. omega arith) is.so_far)
        (omega arith);
  };
  cancel = λ client reference k is. record {
    rising = rising_without (is_timer client reference) k.timers is.rising;
    so_far = all_without (λ (t : Timer). t.reference ≤ k.requested) (is_timer client reference)
        k.timers is.so_far;
  };
  modify = λ client reference due k is. record {
    rising = rising_moved client reference due k.timers is.rising;
    so_far = all_moved (λ r. r ≤ k.requested) client reference due k.timers is.so_far;
  };
  close = λ client k is. record {
    rising = rising_filter (λ t. not (client == t.client)) k.timers is.rising;
    so_far = all_filter (λ (t : Timer). t.reference ≤ k.requested) (λ t. not (client == t.client))
        k.timers is.so_far;
  };
  sending = λ moment k is. record {
    rising = rising_without (is_next moment k.timers) k.timers is.rising;
    so_far = all_without (λ (t : Timer). t.reference ≤ k.requested) (is_next moment k.timers)
        k.timers is.so_far;
  };
}

gone_stays : (reference : ℕ) → Stays (IsGone reference)
gone_stays reference = record {
  request = λ client due signal k is. record {
    given = let given : reference ≤ k.requested = is.given in omega arith;
    nobodys = all_push (λ (t : Timer). t.reference ≢ reference) k.timers (record {
      client = client;
      reference = k.requested + 1;
      due = due;
      signal = signal;
    }) is.nobodys (λ e. let given : reference ≤ k.requested = is.given in omega arith);
  };
  cancel = λ client other k is. record {
    given = is.given;
    nobodys = all_without (λ (t : Timer). t.reference ≢ reference) (is_timer client other) k.timers
        is.nobodys;
  };
  modify = λ client other due k is. record {
    given = is.given;
    nobodys = all_moved (λ r. r ≢ reference) client other due k.timers is.nobodys;
  };
  close = λ client k is. record {
    given = is.given;
    nobodys = all_filter (λ (t : Timer). t.reference ≢ reference) (λ t. not (client == t.client))
        k.timers is.nobodys;
  };
  sending = λ moment k is. record {
    given = is.given;
    nobodys = all_without (λ (t : Timer). t.reference ≢ reference) (is_next moment k.timers)
        k.timers is.nobodys;
  };
}

pub once : EachIsSentOnce
once = record {
  first = record { rising = tt; so_far = tt };
  numbered = numbered_stays;
  sent = λ moment k t is found. record {
    given = all_first (λ (u : Timer). u.reference ≤ k.requested) (is_next moment k.timers) k.timers
        t is.so_far found;
    nobodys = apart (is_next moment k.timers) k.timers t is.rising found;
  };
  was_there = λ moment k t found gone.
      all_first (λ (u : Timer). u.reference ≢ t.reference) (is_next moment k.timers) k.timers t
      gone.nobodys found refl;
  cancelled = λ client reference k t is found.
      let same : reference ≡ t.reference = has_reference client reference t
      (first_passes (is_timer client reference) k.timers t found) in
      record {
        given = let below : t.reference ≤ k.requested =
            all_first (λ (u : Timer). u.reference ≤ k.requested) (is_timer client reference)
            k.timers t is.so_far found in omega (arith, same, below);
        nobodys = subst
            (λ r. AllByRecursion (λ (u : Timer). u.reference ≢ r)
            (without_match (is_timer client reference) k.timers)) (sym same)
            (apart (is_timer client reference) k.timers t is.rising found);
      };
  closed = λ client k. none_of client k.timers;
  gone = gone_stays;
}

pub in_time : EachIsSentInTime
in_time = record {
  reached = λ moment k t found.
      due_by moment k.timers t (first_passes (is_next moment k.timers) k.timers t found);
  later = λ moment k none. all_later moment k.timers none;
}
