-- What ties the entries of timers to their deadlines.
use Rattle.std.proofs.Common.{◌≡◌, ◌≢◌, ◌⊎◌, inl, inr, ℕ, ◌+◌, ◌<◌, ◌≤◌, Bool, true, false, List}
use Rattle.std.proofs.Common.{[], ◌∷◌, ◌++◌, refl, ap, sym, subst, ◌∙◌, arith, Option, Some, None}
use Rattle.std.proofs.Common.{◌==◌, nat_le, is_some, option_map}
use Rattle.std.specs.List.{AllByRecursion, list_any, list_all}
use Rattle.std.proofs.lemmas.Bool.{cases_Bool}
use Rattle.std.proofs.lemmas.Bool.Decides.{nat_tests}
use Rattle.std.proofs.lemmas.List.{map-append}
use Rattle.linx_base.specs.FirstMatch.{first_match, without_match}
use Rattle.linx_base.proofs.FirstMatches.{is_some-first_match}
use Rattle.deadlines.specs.declared.deadline.Deadline.{Deadline}
use Rattle.deadlines.specs.Slots.{deadline_at, at_moment, OnlySlot, IsEarliest}
use Rattle.linx_timers.specs.declared.entry.Entry.{Entry}
use Rattle.linx_timers.specs.declared.timer.Timer.{Timer}
use Rattle.linx_timers.specs.Entries.{has_reference, moment_of, ticket_of, timer_in, timers_in}
use Rattle.linx_timers.specs.Entries.{AreRising, IsTied}
use Rattle.linx_timers.specs.Times.{is_next, with_due}
use Rattle.linx_timers.proofs.Taking.{all_without, all_first, all_push, all_by, all_both}
use Rattle.linx_timers.proofs.Taking.{first_passes, any_without, any_first, all_fails, all_pass}
use Rattle.linx_timers.proofs.Taking.{none_passes, first-map, without-map}
use Rattle.std.proofs.lemmas.List.Folds.{list_all-map}

-- an entry's slot has a deadline with its ticket
abbrev Holds : List (Option Deadline) → Entry → Type 0
Holds slots e = ticket_of (deadline_at slots e.slot) ≡ Some e.ticket

-- LISTS OF ENTRIES
pub rising_push : (es : List Entry) (e : Entry) → AreRising es
    → AllByRecursion (λ f. f.ticket < e.ticket) es → AreRising (es ++ e ∷ [])
rising_push [] e up below = (tt, tt)
rising_push (f ∷ es) e up below =
    (all_push (λ g. f.ticket < g.ticket) es e up.0 below.0, rising_push es e up.1 below.1)

pub rising_without : (p : Entry → Bool) (es : List Entry) → AreRising es
    → AreRising (without_match p es)
rising_without p [] up = up
rising_without p (f ∷ es) up = elim (cases_Bool (p f)) [
  | inl hit ↦ rw hit up.1
  | inr miss ↦
      rw miss (all_without (λ g. f.ticket < g.ticket) p es up.0, rising_without p es up.1)
]

-- the others have other tickets than the first that passes
pub tickets_apart : (p : Entry → Bool) (es : List Entry) (e : Entry) → AreRising es
    → first_match p es ≡ Some e → AllByRecursion (λ f. f.ticket ≢ e.ticket) (without_match p es)
tickets_apart p [] e up is = cc
tickets_apart p (f ∷ es) e up is = elim (cases_Bool (p f)) [
  | inl hit ↦
      let found : Some f ≡ Some e = rw hit at is in
      let same : f ≡ e = cc in
      rw hit (subst (λ g. AllByRecursion (λ h. h.ticket ≢ g.ticket) es) same
      (all_by (λ g. f.ticket < g.ticket) (λ g. g.ticket ≢ f.ticket) es (λ g less e. omega arith)
      up.0))
  | inr miss ↦
      let later : first_match p es ≡ Some e = rw miss at is in
      let above : f.ticket < e.ticket = all_first (λ g. f.ticket < g.ticket) p es e up.0 later in
      rw miss ((λ same. omega arith), tickets_apart p es e up.1 later)
]

-- and so other slots
slots_apart : (slots : List (Option Deadline)) (es : List Entry) (e : Entry) → Holds slots e
    → AllByRecursion (Holds slots) es → AllByRecursion (λ f. f.ticket ≢ e.ticket) es
    → AllByRecursion (λ f. f.slot ≢ e.slot) es
slots_apart slots es e here held apart =
    all_by (λ f. Holds slots f × (f.ticket ≢ e.ticket)) (λ f. f.slot ≢ e.slot) es
    (λ f both same.
    let one : Some f.ticket ≡ Some e.ticket =
    sym both.0 ∙ ap (λ s. ticket_of (deadline_at slots s)) same ∙ here in
    both.1 (cc))
    (all_both (Holds slots) (λ f. f.ticket ≢ e.ticket) es held apart)

-- timers whose deadlines are what they were
timers_same : (old new : List (Option Deadline)) (es : List Entry)
    → AllByRecursion (λ f. deadline_at new f.slot ≡ deadline_at old f.slot) es
    → timers_in new es ≡ timers_in old es
timers_same old new [] all = refl
timers_same old new (f ∷ es) all =
    ap (λ (t : Timer). t ∷ timers_in new es) (ap (λ o. record {
      client = f.client;
      reference = f.reference;
      due = moment_of o;
      signal = f.signal;
    }) all.0) ∙ ap (λ l. timer_in old f ∷ l) (timers_same old new es all.1)

held_same : (old new : List (Option Deadline)) (es : List Entry)
    → AllByRecursion (λ f. deadline_at new f.slot ≡ deadline_at old f.slot) es
    → AllByRecursion (Holds old) es → AllByRecursion (Holds new) es
held_same old new es same held =
    all_by (λ f. (deadline_at new f.slot ≡ deadline_at old f.slot) × Holds old f) (Holds new) es
    (λ f both. ap ticket_of both.0 ∙ both.1)
    (all_both (λ f. deadline_at new f.slot ≡ deadline_at old f.slot) (Holds old) es same held)

-- A REQUEST
module _ (next due slot : ℕ) (entry : Entry) (old new : List (Option Deadline)) (es : List Entry)
    (tied : IsTied next old es) (free : deadline_at old slot ≡ None)
    (adds : OnlySlot old new slot (Some (record { due = due; ticket = next }))) where
  pub others_off : AllByRecursion (λ f. f.slot ≢ slot) es
  others_off = all_by (Holds old) (λ f. f.slot ≢ slot) es (λ f held same.
      let none : None ≡ Some f.ticket =
      ap ticket_of (sym free) ∙ ap (λ s. ticket_of (deadline_at old s)) (sym same) ∙ held in cc)
      tied.held

  others_same : AllByRecursion (λ f. deadline_at new f.slot ≡ deadline_at old f.slot) es
  others_same = all_by (λ f. f.slot ≢ slot) (λ f. deadline_at new f.slot ≡ deadline_at old f.slot)
      es (λ f off. adds.others f.slot off) others_off

  module _ (at : entry.slot ≡ slot) (ticket : entry.ticket ≡ next) where
    any_push : (q : Entry → Bool) (fs : List Entry) → (list_any q fs ≡ true) ⊎ (q entry ≡ true)
        → list_any q (fs ++ entry ∷ []) ≡ true
    any_push q [] (inl none) = cc
    any_push q [] (inr here) = rw here refl
    any_push q (f ∷ fs) some = elim (cases_Bool (q f)) [
      | inl hit ↦ rw hit refl
      | inr miss ↦ elim some [
        | inl among ↦
            let later : list_any q fs ≡ true = rw miss at among in
            rw miss (any_push q fs (inl later))
        | inr here ↦ rw miss (any_push q fs (inr here))
      ]
    ]

    pub requested : IsTied (next + 1) new (es ++ entry ∷ [])
    requested = record {
      rising = rising_push es entry tied.rising
          (subst (λ t. AllByRecursion (λ f. f.ticket < t) es) (sym ticket) tied.below);
      below = all_push (λ f. f.ticket < next + 1) es entry
          (all_by (λ f. f.ticket < next) (λ f. f.ticket < next + 1) es (λ f less. omega arith)
          tied.below) (omega arith);
      held = all_push (Holds new) es entry (held_same old new es others_same tied.held)
          (ap (λ s. ticket_of (deadline_at new s)) at ∙ ap ticket_of adds.changed
          ∙ ap Some (sym ticket));
      owned = λ s d has. elim (cases_Bool (s == slot)) [
        | inl hit ↦
            let same : s ≡ slot = grind (arith, nat_tests) in
            any_push (λ f. s == f.slot) es
            (inr (ap (λ k. s == k) at ∙ hit))
        | inr miss ↦
            let off : s ≢ slot = λ e. grind (arith, nat_tests) in
            any_push (λ f. s == f.slot) es (inl (tied.owned s d (sym (adds.others s off) ∙ has)))
      ];
    }

    pub requested_timers : timers_in new (es ++ entry ∷ []) ≡ timers_in old es ++ record {
      client = entry.client;
      reference = entry.reference;
      due = due;
      signal = entry.signal;
    } ∷ []
    requested_timers =
        map-append (timer_in new) es (entry ∷ [])
        ∙ ap (λ l. l ++ timer_in new entry ∷ []) (timers_same old new es others_same)
        ∙ ap (λ o. timers_in old es ++ record {
          client = entry.client;
          reference = entry.reference;
          due = moment_of o;
          signal = entry.signal;
        } ∷ []) (ap (deadline_at new) at ∙ adds.changed)

  -- taken back
  module _ (back : List (Option Deadline)) (takes : OnlySlot new back slot None) where
    all_as_before : (s : ℕ) → deadline_at back s ≡ deadline_at old s
    all_as_before s = elim (cases_Bool (s == slot)) [
      | inl hit ↦
          let same : s ≡ slot = grind (arith, nat_tests) in
          ap (deadline_at back) same ∙ takes.changed ∙ sym free ∙ ap (deadline_at old) (sym same)
      | inr miss ↦
          let off : s ≢ slot = λ e. grind (arith, nat_tests) in
          takes.others s off ∙ adds.others s off
    ]

    as_before : AllByRecursion (λ f. deadline_at back f.slot ≡ deadline_at old f.slot) es
    as_before = all_by (Holds old) (λ f. deadline_at back f.slot ≡ deadline_at old f.slot) es
        (λ f held. all_as_before f.slot) tied.held

    pub refused : IsTied next back es
    refused = record {
      rising = tied.rising;
      below = tied.below;
      held = held_same old back es as_before tied.held;
      owned = λ s d has. tied.owned s d (sym (all_as_before s) ∙ has);
    }

    pub refused_timers : timers_in back es ≡ timers_in old es
    refused_timers = timers_same old back es as_before

-- THE FIRST UNDER A KEY
module _ (next : ℕ) (slots : List (Option Deadline)) (es : List Entry) (tied : IsTied next slots es)
    (p : Entry → Bool) (e : Entry) (is : first_match p es ≡ Some e) where
  pub first_held : Holds slots e
  first_held = all_first (Holds slots) p es e tied.held is

  others_apart : AllByRecursion (λ f. f.slot ≢ e.slot) (without_match p es)
  others_apart = slots_apart slots (without_match p es) e first_held
      (all_without (Holds slots) p es tied.held) (tickets_apart p es e tied.rising is)

  -- taken out
  module _ (new : List (Option Deadline)) (takes : OnlySlot slots new e.slot None) where
    left_same : AllByRecursion (λ f. deadline_at new f.slot ≡ deadline_at slots f.slot)
        (without_match p es)
    left_same = all_by (λ f. f.slot ≢ e.slot)
        (λ f. deadline_at new f.slot ≡ deadline_at slots f.slot) (without_match p es)
        (λ f off. takes.others f.slot off) others_apart

    pub taken_times : timers_in new (without_match p es) ≡ timers_in slots (without_match p es)
    taken_times = timers_same slots new (without_match p es) left_same

    pub taken_tied : IsTied next new (without_match p es)
    taken_tied = record {
      rising = rising_without p es tied.rising;
      below = all_without (λ f. f.ticket < next) p es tied.below;
      held = held_same slots new (without_match p es) left_same
          (all_without (Holds slots) p es tied.held);
      owned = λ s d has. elim (cases_Bool (s == e.slot)) [
        | inl hit ↦
            let same : s ≡ e.slot = grind (arith, nat_tests) in
            let none : None ≡ Some d = sym takes.changed ∙ ap (deadline_at new) (sym same) ∙ has in
            cc
        | inr miss ↦
            let off : s ≢ e.slot = λ k. grind (arith, nat_tests) in
            any_without p (λ f. s == f.slot) es e is miss
            ∙ tied.owned s d (sym (takes.others s off) ∙ has)
      ];
    }

  -- moved to another moment
  module _ (due : ℕ) (new : List (Option Deadline))
      (moves : OnlySlot slots new e.slot (at_moment due (deadline_at slots e.slot))) where
    ticket_kept : (o : Option Deadline) → ticket_of (at_moment due o) ≡ ticket_of o
    ticket_kept None = refl
    ticket_kept (Some d) = refl

    tickets_kept : (s : ℕ) → ticket_of (deadline_at new s) ≡ ticket_of (deadline_at slots s)
    tickets_kept s = elim (cases_Bool (s == e.slot)) [
      | inl hit ↦
          let same : s ≡ e.slot = grind (arith, nat_tests) in
          ap (λ k. ticket_of (deadline_at new k)) same ∙ ap ticket_of moves.changed
          ∙ ticket_kept (deadline_at slots e.slot)
          ∙ ap (λ k. ticket_of (deadline_at slots k)) (sym same)
      | inr miss ↦
          let off : s ≢ e.slot = λ k. grind (arith, nat_tests) in
          ap ticket_of (moves.others s off)
    ]

    pub moved_tied : IsTied next new es
    moved_tied = record {
      rising = tied.rising;
      below = tied.below;
      held = all_by (Holds slots) (Holds new) es (λ f held. tickets_kept f.slot ∙ held) tied.held;
      owned = λ s d has. elim (cases_Bool (s == e.slot)) [
        | inl hit ↦ any_first p (λ f. s == f.slot) es e is hit
        | inr miss ↦
            let off : s ≢ e.slot = λ k. grind (arith, nat_tests) in
            tied.owned s d (sym (moves.others s off) ∙ has)
      ];
    }

moment_moved : (due k : ℕ) (o : Option Deadline) → ticket_of o ≡ Some k
    → moment_of (at_moment due o) ≡ due
moment_moved due k None is = cc
moment_moved due k (Some d) is = refl

-- the timers where one was moved
pub moved_timers : (client reference due : ℕ) (slots new : List (Option Deadline)) (es : List Entry)
    (e : Entry) → AreRising es → AllByRecursion (Holds slots) es
    → first_match (has_reference client reference) es ≡ Some e
    → OnlySlot slots new e.slot (at_moment due (deadline_at slots e.slot))
    → timers_in new es ≡ with_due client reference due (timers_in slots es)
moved_timers client reference due slots new [] e up held is moves = refl
moved_timers client reference due slots new (f ∷ es) e up held is moves =
    elim (cases_Bool (has_reference client reference f)) [
      | inl hit ↦
          let found : Some f ≡ Some e = rw hit at is in
          let same : f ≡ e = cc in
          let at : deadline_at new f.slot ≡ at_moment due (deadline_at slots f.slot) =
          subst (λ (g : Entry). deadline_at new g.slot ≡ at_moment due (deadline_at slots g.slot))
          (sym same) moves.changed in
          let other : (s : ℕ) → s ≢ f.slot → deadline_at new s ≡ deadline_at slots s =
          λ s off. moves.others s (λ k. off (k ∙ ap (λ (g : Entry). g.slot) (sym same))) in
          let apart : AllByRecursion (λ g. g.slot ≢ f.slot) es =
          slots_apart slots es f held.0 held.1
          (all_by (λ g. f.ticket < g.ticket) (λ g. g.ticket ≢ f.ticket) es (λ g less k. omega arith)
          up.0) in
          let rest : timers_in new es ≡ timers_in slots es =
          timers_same slots new es (all_by (λ g. g.slot ≢ f.slot)
          (λ g. deadline_at new g.slot ≡ deadline_at slots g.slot) es
          (λ g off. other g.slot off) apart) in
          let moment : moment_of (deadline_at new f.slot) ≡ due =
          ap moment_of at ∙ moment_moved due f.ticket (deadline_at slots f.slot) held.0 in
          rw hit (ap (λ l. timer_in new f ∷ l) rest ∙ ap (λ (m : ℕ). record {
            client = f.client;
            reference = f.reference;
            due = m;
            signal = f.signal;
          } ∷ timers_in slots es) moment)
      | inr miss ↦
          let later : first_match (has_reference client reference) es ≡ Some e = rw miss at is in
          let above : f.ticket < e.ticket =
          all_first (λ g. f.ticket < g.ticket) (has_reference client reference) es e up.0 later in
          let other : Holds slots e =
          all_first (Holds slots) (has_reference client reference) es e held.1 later in
          let off : f.slot ≢ e.slot = λ k.
          let both : Some f.ticket ≡ Some e.ticket =
          sym held.0 ∙ ap (λ s. ticket_of (deadline_at slots s)) k ∙ other in
          let tickets : f.ticket ≡ e.ticket = cc in omega arith in
          rw miss (ap (λ (m : ℕ). record {
            client = f.client;
            reference = f.reference;
            due = m;
            signal = f.signal;
          } ∷ timers_in new es) (ap moment_of (moves.others f.slot off))
          ∙ ap (λ l. timer_in slots f ∷ l)
          (moved_timers client reference due slots new es e up.1 held.1 later moves))
    ]

-- THE TIMER THAT IS DUE FIRST
-- a test that fails before an entry, and passes at it, finds this entry first
pub agrees : (p q : Entry → Bool) (es : List Entry) (e : Entry) → AreRising es
    → first_match p es ≡ Some e → AllByRecursion (λ f. f.ticket < e.ticket → q f ≡ false) es
    → q e ≡ true → (first_match q es ≡ Some e) × (without_match q es ≡ without_match p es)
agrees p q [] e up is before here = cc
agrees p q (f ∷ es) e up is before here = elim (cases_Bool (p f)) [
  | inl hit ↦
      let found : Some f ≡ Some e = rw hit at is in
      let same : f ≡ e = cc in
      let passes : q f ≡ true = subst (λ g. q g ≡ true) (sym same) here in
      (rw passes found, rw (hit, passes) refl)
  | inr miss ↦
      let later : first_match p es ≡ Some e = rw miss at is in
      let above : f.ticket < e.ticket = all_first (λ g. f.ticket < g.ticket) p es e up.0 later in
      let fails : q f ≡ false = before.0 above in
      let rest = agrees p q es e up.1 later before.1 here in
      (rw fails rest.0, rw (miss, fails) (ap (λ l. f ∷ l) rest.1))
]

pub no_entries : (slots : List (Option Deadline)) (es : List Entry)
    → AllByRecursion (Holds slots) es → ((s : ℕ) → deadline_at slots s ≡ None) → es ≡ []
no_entries slots [] held none = refl
no_entries slots (e ∷ es) held none =
    let gone : None ≡ Some e.ticket = ap ticket_of (sym (none e.slot)) ∙ held.0 in cc

module _ (next : ℕ) (slots : List (Option Deadline)) (es : List Entry) (tied : IsTied next slots es)
    (slot due : ℕ) (first : IsEarliest slots slot due) where
  no_later_than : (f : Entry) (o : Option Deadline) → deadline_at slots f.slot ≡ o
      → ticket_of o ≡ Some f.ticket
      → (due ≤ moment_of o) × (due ≡ moment_of o → first.ticket ≤ f.ticket)
  no_later_than f None at held = cc
  no_later_than f (Some d) at held =
      let ticket : d.ticket ≡ f.ticket = cc in
      let behind = first.least f.slot d at in
      (behind.due, λ same. let least = behind.ticket same in omega (arith, least, ticket))

  no_later : (f : Entry) → Holds slots f → (due ≤ (timer_in slots f).due)
      × (due ≡ (timer_in slots f).due → first.ticket ≤ f.ticket)
  no_later f held = no_later_than f (deadline_at slots f.slot) refl held

  -- none is due yet
  pub none_due : (now : ℕ) → now < due
      → (first_match (is_next now (timers_in slots es)) (timers_in slots es) ≡ None)
      × (without_match (is_next now (timers_in slots es)) (timers_in slots es)
      ≡ timers_in slots es)
  none_due now early = none_passes (is_next now (timers_in slots es)) (timers_in slots es)
      (over_all (timers_in slots es) es tied.held)
    where
      over_all : (all : List Timer) (fs : List Entry) → AllByRecursion (Holds slots) fs
          → AllByRecursion (λ t. is_next now all t ≡ false) (timers_in slots fs)
      over_all all [] held = tt
      over_all all (f ∷ fs) held =
          let late : due ≤ moment_of (deadline_at slots f.slot) = (no_later f held.0).0 in
          let fails : nat_le (moment_of (deadline_at slots f.slot)) now ≡ false =
          grind (arith, nat_tests) in
          (rw fails refl, over_all all fs held.1)

  -- there is an entry of the slot
  pub is_there : first_match (λ f. slot == f.slot) es ≡ None → ⊥
  is_there none =
      let some : true ≡ is_some (first_match (λ f. slot == f.slot) es) =
      sym (tied.owned slot (record { due = due; ticket = first.ticket }) first.here)
      ∙ sym (is_some-first_match (λ f. slot == f.slot) es) in
      let is : true ≡ false = some ∙ ap is_some none in
      cc

  module _ (e : Entry) (is : first_match (λ f. slot == f.slot) es ≡ Some e) where
    at_slot : slot ≡ e.slot
    at_slot =
        let passes : (slot == e.slot) ≡ true = first_passes (λ f. slot == f.slot) es e is in
        grind (arith, nat_tests)

    deadline : deadline_at slots e.slot ≡ Some (record { due = due; ticket = first.ticket })
    deadline = ap (deadline_at slots) (sym at_slot) ∙ first.here

    pub due_then : (timer_in slots e).due ≡ due
    due_then = ap moment_of deadline

    ticket_then : first.ticket ≡ e.ticket
    ticket_then =
        let both : Some first.ticket ≡ Some e.ticket =
        sym (ap ticket_of deadline)
        ∙ all_first (Holds slots) (λ f. slot == f.slot) es e tied.held is in
        cc

    module _ (now : ℕ) (reached : due ≤ now) where
      test : Entry → Bool
      test f = is_next now (timers_in slots es) (timer_in slots f)

      passes : is_next now (timers_in slots es) (timer_in slots e) ≡ true
      passes =
          let first_then : (timer_in slots e).due ≡ due = due_then in
          let here : nat_le (timer_in slots e).due now ≡ true = grind (arith, nat_tests) in
          let all : list_all (λ other. nat_le (timer_in slots e).due other.due) (timers_in slots es)
          ≡ true = list_all-map (λ other. nat_le (timer_in slots e).due other.due)
          (timer_in slots) es
          ∙ all_pass (λ f. nat_le (timer_in slots e).due (timer_in slots f).due) es
          (all_by (Holds slots)
          (λ f. nat_le (timer_in slots e).due (timer_in slots f).due ≡ true) es
          (λ f held. let late : due ≤ (timer_in slots f).due = (no_later f held).0 in
          grind (arith, nat_tests)) tied.held) in
          rw (here, all) refl

      fails_before : (f : Entry) → Holds slots f → f.ticket < e.ticket
          → is_next now (timers_in slots es) (timer_in slots f) ≡ false
      fails_before f held before =
          let behind = no_later f held in
          let late : due ≤ (timer_in slots f).due = behind.0 in
          let apart : due ≢ (timer_in slots f).due = λ same.
          let least : first.ticket ≤ f.ticket = behind.1 same in
          let ticket : first.ticket ≡ e.ticket = ticket_then in omega arith in
          let first_then : (timer_in slots e).due ≡ due = due_then in
          let out : nat_le (timer_in slots f).due (timer_in slots e).due ≡ false =
          grind (arith, nat_tests) in
          let all : list_all (λ other. nat_le (timer_in slots f).due other.due) (timers_in slots es)
          ≡ false = list_all-map (λ other. nat_le (timer_in slots f).due other.due)
          (timer_in slots) es
          ∙ all_fails (λ g. slot == g.slot)
          (λ g. nat_le (timer_in slots f).due (timer_in slots g).due) es e is out in
          rw all (elim (cases_Bool (nat_le (timer_in slots f).due now)) [
            | inl reached ↦ rw reached refl
            | inr early ↦ rw early refl
          ])

      found : (first_match (λ f. is_next now (timers_in slots es) (timer_in slots f)) es ≡ Some e)
          × (without_match (λ f. is_next now (timers_in slots es) (timer_in slots f)) es
          ≡ without_match (λ f. slot == f.slot) es)
      found = agrees (λ f. slot == f.slot)
          (λ f. is_next now (timers_in slots es) (timer_in slots f)) es e tied.rising is
          (all_by (Holds slots) (λ f. f.ticket < e.ticket
          → is_next now (timers_in slots es) (timer_in slots f) ≡ false) es fails_before tied.held)
          passes

      pub first_due : first_match (is_next now (timers_in slots es)) (timers_in slots es)
          ≡ Some (timer_in slots e)
      first_due = first-map (timer_in slots) (is_next now (timers_in slots es)) es
          ∙ ap (option_map (timer_in slots)) found.0

      pub without_due : without_match (is_next now (timers_in slots es)) (timers_in slots es)
          ≡ timers_in slots (without_match (λ f. slot == f.slot) es)
      without_due = without-map (timer_in slots) (is_next now (timers_in slots es)) es
          ∙ ap (timers_in slots) found.1
