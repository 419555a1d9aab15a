-- What each call makes of the list of timers.
use Rattle.std.proofs.Common.{◌≡◌, ℕ, Bool, true, List, [], ◌∷◌, refl, ap, sym, subst, ◌∙◌, inl, inr}
use Rattle.std.proofs.Common.{Option, Some, None, is_some, IsSome, not, filter, ◌==◌}
use Rattle.std.proofs.Common.{option_map}
use Rattle.std.specs.List.{list_any}
use Rattle.std.proofs.lemmas.Bool.{cases_Bool}
use Rattle.linx_base.specs.FirstMatch.{first_match, without_match}
use Rattle.linx_base.proofs.FirstMatches.{is_some-first_match}
use Rattle.keyed_list.proofs.Entries.{others_none}
use Rattle.deadlines.specs.declared.deadline.Deadline.{Deadline}
use Rattle.deadlines.specs.Slots.{deadline_at, OnlySlot, at_moment}
use Rattle.linx_timers.specs.declared.entry.Entry.{Entry}
use Rattle.linx_timers.specs.declared.timer.Timer.{Timer}
use Rattle.linx_timers.specs.Entries.{at_slot, has_reference, is_of, ticket_of, timer_in}
use Rattle.linx_timers.specs.Entries.{timers_in, IsTied}
use Rattle.linx_timers.specs.Times.{is_timer, is_next, due_of, with_due}
use Rattle.linx_timers.proofs.Taking.{first-map, without-map, any-map, filter-map}
use Rattle.linx_timers.proofs.Storing.{others_without}
use Rattle.linx_timers.proofs.Tying.{first_held, moved_tied, moved_timers}

held_some : (k : ℕ) (o : Option Deadline) → ticket_of o ≡ Some k → IsSome o
held_some k None is = cc
held_some k (Some d) is = refl

pub with_due_none : (client reference due : ℕ) (ts : List Timer)
    → first_match (is_timer client reference) ts ≡ None → with_due client reference due ts ≡ ts
with_due_none client reference due [] is = refl
with_due_none client reference due (t ∷ ts) is = elim (cases_Bool (is_timer client reference t)) [
  | inl hit ↦ let found : Some t ≡ None = rw hit at is in cc
  | inr miss ↦
      let later : first_match (is_timer client reference) ts ≡ None = rw miss at is in
      rw miss (ap (λ l. t ∷ l) (with_due_none client reference due ts later))
]

-- the timers of other clients
abbrev pub others_of : ℕ → List Timer → List Timer
others_of client ts = filter (λ t. not (client == t.client)) ts

-- entries under a key, whose test is p; the timers are what contracts see
module _ (slots : List (Option Deadline)) (es : List Entry) (timers : List Timer)
    (view : timers_in slots es ≡ timers) where
  -- BY A REFERENCE
  module _ (client reference : ℕ) (p : Entry → Bool) (key : p ≡ has_reference client reference)
    where
      pub first_timer : (o : Option Entry) → o ≡ first_match p es
          → first_match (is_timer client reference) timers ≡ option_map (timer_in slots) o
      first_timer o is =
          ap (first_match (is_timer client reference)) (sym view)
          ∙ first-map (timer_in slots) (is_timer client reference) es
          ∙ ap (λ q. option_map (timer_in slots) (first_match q es)) (sym key)
          ∙ ap (option_map (timer_in slots)) (sym is)

      pub without_timer : timers_in slots (without_match p es)
          ≡ without_match (is_timer client reference) timers
      without_timer =
          ap (λ q. timers_in slots (without_match q es)) key
          ∙ sym (without-map (timer_in slots) (is_timer client reference) es)
          ∙ ap (without_match (is_timer client reference)) view

      pub any_timer : (o : Option Entry) → o ≡ first_match p es
          → is_some o ≡ list_any (is_timer client reference) timers
      any_timer o is =
          ap is_some is ∙ is_some-first_match p es
          ∙ ap (λ q. list_any q es) key
          ∙ sym (any-map (timer_in slots) (is_timer client reference) es)
          ∙ ap (list_any (is_timer client reference)) view

      pub none_moved : (due : ℕ) → first_match p es ≡ None
          → timers ≡ with_due client reference due timers
      none_moved due none =
          sym (with_due_none client reference due timers
          (first_timer None (sym none)))

      module _ (next : ℕ) (tied : IsTied next slots es) (e : Entry)
          (found : first_match p es ≡ Some e) (slot : ℕ) (here : slot ≡ e.slot) where
        pub has_deadline : IsSome (deadline_at slots slot)
        has_deadline = subst (λ s. IsSome (deadline_at slots s)) (sym here)
            (held_some e.ticket (deadline_at slots e.slot)
            (first_held next slots es tied p e found))

        module _ (due : ℕ) (new : List (Option Deadline))
            (moves : OnlySlot slots new slot (at_moment due (deadline_at slots slot))) where
          moves_its : OnlySlot slots new e.slot (at_moment due (deadline_at slots e.slot))
          moves_its =
              subst (λ s. OnlySlot slots new s (at_moment due (deadline_at slots s))) here moves

          pub tied_then : IsTied next new es
          tied_then = moved_tied next slots es tied p e found due new moves_its

          pub moved_then : timers_in new es ≡ with_due client reference due timers
          moved_then =
              moved_timers client reference due slots new es e tied.rising tied.held
              (subst (λ q. first_match q es ≡ Some e) key found) moves_its
              ∙ ap (with_due client reference due) view

-- BY A CLIENT
module _ (slots : List (Option Deadline)) (es : List Entry) (client : ℕ) where
  pub others_stay : (slot : ℕ) (e : Entry) → first_match (at_slot slot) es ≡ Some e
      → is_of client e ≡ true
      → others_of client (timers_in slots (without_match (at_slot slot) es))
      ≡ others_of client (timers_in slots es)
  others_stay slot e at owner =
      filter-map (timer_in slots) (λ t. not (client == t.client))
      (without_match (at_slot slot) es)
      ∙ ap (timers_in slots) (others_without (at_slot slot) (is_of client) es e at owner)
      ∙ sym (filter-map (timer_in slots) (λ t. not (client == t.client)) es)

  pub others_alone : first_match (is_of client) es ≡ None
      → timers_in slots es ≡ others_of client (timers_in slots es)
  others_alone none =
      ap (timers_in slots) (sym (others_none (is_of client) es none))
      ∙ sym (filter-map (timer_in slots) (λ t. not (client == t.client)) es)

-- WHERE NONE IS THERE
pub none_first : (now : ℕ) (timers : List Timer) → timers ≡ []
    → (None ≡ due_of (first_match (is_next now timers) timers))
    × (timers ≡ without_match (is_next now timers) timers)
none_first now timers empty =
    subst (λ (ts : List Timer). (None ≡ due_of (first_match (is_next now ts) ts))
    × (ts ≡ without_match (is_next now ts) ts)) (sym empty) (refl, refl)
