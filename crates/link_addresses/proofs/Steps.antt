-- A table after each change.
use Rattle.std.proofs.Common.{◌≡◌, ◌≢◌, ℕ, suc, ◌+◌, ◌-◌, ◌*◌, ◌/◌, ◌<◌, ◌≤◌, Bool, false, List, []}
use Rattle.std.proofs.Common.{◌∷◌, ◌++◌, length, Option, Some, refl, sym, ap, subst, ◌∙◌, arith}
use Rattle.std.proofs.Common.{slice_get, slice_set, IsSome, length-set, length-append}
use Rattle.linx_base.specs.declared.identity.Inc.{Inc}
use Rattle.link_addresses.specs.declared.meaning.Meaning.{Meaning}
use Rattle.link_addresses.specs.declared.meaning.Meaning.TheVariants.{Free, Live, Closing}
use Rattle.link_addresses.specs.declared.change.Change.{Change}
use Rattle.link_addresses.specs.Meanings.{meaning_of, used_in, IsLive, ChangesMeaning}
use Rattle.link_addresses.specs.Finding.{group_size, AreGroups, IsIndexOf, AnswersAt, IsFirstFree}
use Rattle.link_addresses.specs.Finding.{IsPut}
use Rattle.link_addresses.specs.WayBack.{change_of, undone, changes_left, CanReturn, CanUndo}
use Rattle.link_addresses.specs.WayBack.{HasRoom, IsTable}
use Rattle.link_addresses.proofs.Lists.{in_list, closing_not_free, live_isnt_free, put_changes}
use Rattle.link_addresses.proofs.Lists.{put_sum, put_length, put_within, put_bound, used_count}
use Rattle.link_addresses.proofs.Lists.{closing_isnt_live, free_isnt_live, left_used}
use Rattle.link_addresses.proofs.Undoing.{put_back, can_more, undone_more, can_undo_more}
use Rattle.link_addresses.proofs.Undoing.{free_returns, slot_is}
use Rattle.link_addresses.proofs.Indexing.{index_entered, index_same, index_fewer, entries_stay}
use Rattle.link_addresses.proofs.Indexing.{closed_not_live}
use Rattle.link_addresses.proofs.Grouping.{groups_changed, groups_released}

module _ (f : ℕ → Option ℕ) (ms : List Meaning) (full : List Bool) (cs : List Change)
    (capacity used old_used : ℕ)
    (table : IsTable f ms full cs capacity used old_used) where
  -- what an event changed stays
  pub table_kept : (g : ℕ → Option ℕ) → IsIndexOf g ms → IsTable g ms full [] capacity used used
  table_kept g index = record {
    indexed = index;
    groups = table.groups;
    can_undo = tt;
    room = record { now = omega (arith, table.room.now); before = omega (arith, table.room.now) };
    counted = table.counted;
    old_counted = table.counted;
  }

  -- a refusal leaves what was
  pub table_refused : (g : ℕ → Option ℕ) (wider : List Bool) (larger : ℕ)
      → ((number : ℕ) → g number ≡ f number) → AreGroups wider ms → capacity ≤ larger
      → IsTable g ms wider cs larger used old_used
  table_refused g wider larger same groups more = record {
    indexed = index_same f g ms table.indexed same;
    groups = groups;
    can_undo = can_more f g (λ number some. rw (same number) some) cs ms table.can_undo;
    room = record {
      now = omega (arith, table.room.now, more);
      before = omega (arith, table.room.before, more);
    };
    counted = table.counted;
    old_counted = table.old_counted;
  }

  -- what an event changed is undone
  pub table_undone : (g : ℕ → Option ℕ) (narrower : List Bool) → IsIndexOf g (undone cs ms)
      → AreGroups narrower (undone cs ms)
      → IsTable g (undone cs ms) narrower [] capacity old_used old_used
  table_undone g narrower index groups = record {
    indexed = index;
    groups = groups;
    can_undo = tt;
    room = record { now = omega (arith, table.room.before); before = table.room.before };
    counted = table.old_counted;
    old_counted = table.old_counted;
  }

  module _ (new : List Meaning) (k : ℕ) (m : Meaning) (inc : Inc) (put : IsPut ms k m new) where
    pub was_stays : undone (cs ++ change_of k (slice_get ms k) inc ∷ []) new ≡ undone cs ms
    was_stays = undone_more f f cs ms new (change_of k (slice_get ms k) inc)
        (put_back ms new k m put)

    old_used_stays : old_used ≡ used_in (undone (cs ++ change_of k (slice_get ms k) inc ∷ []) new)
    old_used_stays = table.old_counted ∙ ap used_in (sym was_stays)

    can_undo_still : (g : ℕ → Option ℕ) → ((number : ℕ) → IsSome (f number) → IsSome (g number))
        → CanReturn g new k (slice_get ms k)
        → CanUndo g (cs ++ change_of k (slice_get ms k) inc ∷ []) new
    can_undo_still g grown here =
        can_undo_more f g cs ms new (change_of k (slice_get ms k) inc) (put_back ms new k m put)
        grown here table.can_undo

    -- a change that was counted has room
    room_stays : changes_left m + 1 ≤ changes_left (meaning_of ms (suc k))
        → HasRoom capacity (cs ++ change_of k (slice_get ms k) inc ∷ [])
        (undone (cs ++ change_of k (slice_get ms k) inc ∷ []) new) new
    room_stays less = record {
      now = omega (
        arith,
        table.room.now,
        less,
        put_sum ms new k m put changes_left refl,
        length-append cs (change_of k (slice_get ms k) inc ∷ []),
      );
      before = rw was_stays table.room.before;
    }

    -- a change that wasn't counted has room that was reserved
    room_reserved : (larger : ℕ) → capacity ≤ larger → length cs + (used * 2 + 3) ≤ larger
        → meaning_of ms (suc k) ≡ Free → changes_left m ≤ 2
        → HasRoom larger (cs ++ change_of k (slice_get ms k) inc ∷ [])
        (undone (cs ++ change_of k (slice_get ms k) inc ∷ []) new) new
    room_reserved larger more reserved free few = record {
      now = omega (
        arith,
        reserved,
        few,
        table.counted,
        left_used ms,
        put_sum ms new k m put changes_left refl,
        length-append cs (change_of k (slice_get ms k) inc ∷ []),
      );
      before = rw was_stays (omega (arith, more, table.room.before));
    }

    count_after : used_in new + used_count (meaning_of ms (suc k)) ≡ used_in ms + used_count m
    count_after = put_sum ms new k m put used_count refl

    changed : ChangesMeaning ms new (suc k) m
    changed = put_changes ms new k m put

    -- an incarnation was given the lowest free address
    pub table_published : m ≡ Live inc → (g : ℕ → Option ℕ) (wider : List Bool) (larger : ℕ)
        → (IsLive ms inc → ⊥) → IsFirstFree ms k
        → AnswersAt f g inc.0 (Some (suc k)) → AreGroups wider ms → k < group_size * length wider
        → capacity ≤ larger → length cs + (used * 2 + 3) ≤ larger
        → IsTable g new wider (cs ++ change_of k (slice_get ms k) inc ∷ []) larger (used + 1)
        old_used
    table_published is_live g wider larger not_live first answers groups covered more reserved =
        record {
          indexed = index_entered f g inc (suc k) answers ms new table.indexed not_live
              (subst (λ (x : Meaning). ChangesMeaning ms new (suc k) x) is_live changed);
          groups = groups_changed wider ms new k m groups changed
              (put_bound ms new k m put (group_size * length wider) groups.grouped covered)
              (put_within ms new k m put) (λ e. live_isnt_free inc (sym is_live ∙ e));
          can_undo = can_undo_still g (entries_stay f g inc (suc k) answers)
              (free_returns g ms new k first.free (put_length ms new k m put));
          room = room_reserved larger more reserved first.free
              (subst (λ (x : Meaning). changes_left x ≤ 2) (sym is_live) (omega arith));
          counted = omega (
            arith,
            table.counted,
            count_after,
            ap used_count first.free,
            ap used_count is_live,
          );
          old_counted = old_used_stays;
        }

    module _ (here : k < length ms) where
      same_length : length new ≡ length ms
      same_length = omega (arith, ap length (put.inside here), length-set {A = Meaning})

      -- a live incarnation began to close
      table_closed : k < 4294967295 → m ≡ Closing inc → meaning_of ms (suc k) ≡ Live inc
          → IsTable f new full (cs ++ change_of k (slice_get ms k) inc ∷ []) capacity used old_used
      table_closed small is_closing live = record {
        indexed = index_fewer f ms new (suc k) m table.indexed changed
            (λ i e. closing_isnt_live inc i (sym is_closing ∙ e));
        groups = groups_changed full ms new k m table.groups changed
            (rw same_length table.groups.grouped) (put_within ms new k m put)
            (λ e. closing_not_free inc (sym is_closing ∙ e));
        can_undo = can_undo_still f (λ number some. some)
            (subst (λ (o : Option Meaning). CanReturn f new k o)
            (sym (slot_is ms k here ∙ ap Some live)) (
              rw same_length here,
              small,
              closed_not_live f ms new inc (suc k) table.indexed live
                  (subst (λ (x : Meaning). ChangesMeaning ms new (suc k) x) is_closing changed),
              rw (table.indexed inc (suc k) live) refl,
            ));
        room = room_stays (omega (arith, ap changes_left is_closing, ap changes_left live));
        counted = omega (
          arith,
          table.counted,
          count_after,
          ap used_count live,
          ap used_count is_closing,
        );
        old_counted = old_used_stays;
      }

      -- a closing address was freed
      table_freed : m ≡ Free → meaning_of ms (suc k) ≡ Closing inc
          → IsTable f new (slice_set full (k / group_size) false) (cs
          ++ change_of k (slice_get ms k) inc ∷ []) capacity (used - 1) old_used
      table_freed is_free closing = record {
        indexed = index_fewer f ms new (suc k) m table.indexed changed
            (λ i e. free_isnt_live i (sym is_free ∙ e));
        groups = groups_released full ms new k m table.groups changed
            (rw same_length table.groups.grouped) (put_within ms new k m put)
            (omega (arith, here, table.groups.grouped));
        can_undo = can_undo_still f (λ number some. some)
            (subst (λ (o : Option Meaning). CanReturn f new k o)
            (sym (slot_is ms k here ∙ ap Some closing)) (rw same_length here));
        room = room_stays (omega (arith, ap changes_left is_free, ap changes_left closing));
        counted = omega (
          arith,
          table.counted,
          count_after,
          ap used_count closing,
          ap used_count is_free,
        );
        old_counted = old_used_stays;
      }

  -- ---- by the address

  module _ (new : List Meaning) (addr : ℕ) (m : Meaning) (inc : Inc)
      (taken : meaning_of ms addr ≢ Free) (set : new ≡ slice_set ms (addr - 1) m) where
    put_at : (k : ℕ) → addr ≡ suc k → k < length ms → IsPut ms k m new
    put_at k e here =
        let d : addr - 1 ≡ k = omega arith in
        record {
          within = omega arith;
          inside = λ lt. set ∙ ap (λ (n : ℕ). slice_set ms n m) d;
          past = λ past. absurd (omega arith);
        }

    pub was_at : undone (cs ++ change_of (addr - 1) (slice_get ms (addr - 1)) inc ∷ []) new
        ≡ undone cs ms
    was_at =
        let p = in_list ms addr taken in
        let d : addr - 1 ≡ p.0 = omega (arith, p.1) in
        rw d (was_stays new p.0 m inc (put_at p.0 p.1 p.2))

    pub closed_at : addr ≤ 4294967295 → m ≡ Closing inc → meaning_of ms addr ≡ Live inc
        → IsTable f new full (cs ++ change_of (addr - 1) (slice_get ms (addr - 1)) inc ∷ [])
        capacity used old_used
    closed_at small is_closing live =
        let p = in_list ms addr taken in
        let d : addr - 1 ≡ p.0 = omega (arith, p.1) in
        rw d (table_closed new p.0 m inc (put_at p.0 p.1 p.2) p.2 (omega (arith, p.1, small))
        is_closing (ap (meaning_of ms) (sym p.1) ∙ live))

    pub freed_at : m ≡ Free → meaning_of ms addr ≡ Closing inc
        → IsTable f new (slice_set full ((addr - 1) / group_size) false) (cs
        ++ change_of (addr - 1) (slice_get ms (addr - 1)) inc ∷ []) capacity (used - 1) old_used
    freed_at is_free closing =
        let p = in_list ms addr taken in
        let d : addr - 1 ≡ p.0 = omega (arith, p.1) in
        rw d (table_freed new p.0 m inc (put_at p.0 p.1 p.2) p.2 is_free
        (ap (meaning_of ms) (sym p.1) ∙ closing))
