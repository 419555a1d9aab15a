-- What the calls make of the places and the names of entries.
use Rattle.std.proofs.Common.{◌≡◌, ◌≢◌, inl, inr, ℕ, zero, suc, ◌<◌, ◌≤◌, Bool, true, false}
use Rattle.std.proofs.Common.{true≢false, List, [], ◌∷◌, ◌++◌, length, set, get_or, get_or-set_same}
use Rattle.std.proofs.Common.{get_or-set_other, refl, ap, sym, subst, ◌∙◌, arith, Option, Some, None}
use Rattle.std.proofs.Common.{◌==◌, slice_get, filter, not, Ordering, Less, Equal, Greater}
use Rattle.std.proofs.Common.{is_eq}
use Rattle.std.specs.Ordering.{is_le, match_ordering}
use Rattle.std.specs.List.{AllByRecursion}
use Rattle.std.specs.BTreeMap.{is_at}
use Rattle.std.specs.BTreeSet.{insert_key}
use Rattle.std.specs.Set.{remove_key}
use Rattle.std.proofs.lemmas.Bool.{cases_Bool, cases_eq}
use Rattle.std.proofs.lemmas.Bool.Decides.{nat_tests}
use Rattle.linx_base.specs.FirstMatch.{first_match, without_match}
use Rattle.keyed_list.proofs.Entries.{first_passing}
use Rattle.sorted_set.specs.Sorted.{Ascends, elements_from}
use Rattle.linx_timers.specs.declared.entry.Entry.{Entry}
use Rattle.linx_timers.specs.declared.entry.Name.{Name}
use Rattle.linx_timers.specs.Entries.{at_slot, entry_at, has_reference, is_of, last_reference}
use Rattle.linx_timers.specs.Entries.{name_cmp, name_of, HasName, IsAmong, IsFound, IsFoundOf, IsStored}
use Rattle.linx_timers.proofs.Naming.{at_most, client_of, first_least, first_none, least}
use Rattle.linx_timers.proofs.Naming.{least_of, least_of_client, name_same, parts_of, reaches}
use Rattle.linx_timers.proofs.Naming.{same_name, AtMost}
use Rattle.linx_timers.proofs.Taking.{all_both, all_by, all_first, all_push, all_without}
use Rattle.linx_timers.proofs.Taking.{first_passes, none_passes}
use Rattle.linx_timers.proofs.Tying.{agrees, rising_push, rising_without, tickets_apart}

-- PLACES
pub place_more : (places : List (Option Entry)) (s : ℕ)
    → entry_at (places ++ None ∷ []) s ≡ entry_at places s
place_more [] zero = refl
place_more [] (suc s) = refl
place_more (p ∷ places) zero = refl
place_more (p ∷ places) (suc s) = place_more places s

-- behind the last place there is none, and elsewhere what stands there
pub beyond : (places : List (Option Entry)) (s : ℕ) → length places ≤ s → entry_at places s ≡ None
beyond [] s past = refl
beyond (p ∷ places) zero past = absurd (omega (arith, past))
beyond (p ∷ places) (suc s) past = beyond places s (omega (arith, past))

pub standing : (places : List (Option Entry)) (s : ℕ) (o : Option Entry) → s < length places
    → o ≡ get_or places s o → entry_at places s ≡ o
standing places s o within is = default places s within ∙ sym is
  where
    default : (ps : List (Option Entry)) (k : ℕ) → k < length ps → entry_at ps k ≡ get_or ps k o
    default [] k within = absurd (omega (arith, within))
    default (p ∷ ps) zero within = refl
    default (p ∷ ps) (suc k) within = default ps k (omega (arith, within))

-- where the entry of a slot is found
pub slot_of : (slot : ℕ) (e : Entry) → at_slot slot e ≡ true → slot ≡ e.slot
slot_of slot e is = grind (arith, nat_tests)

not_at : (slot : ℕ) (e : Entry) → e.slot ≢ slot → at_slot slot e ≡ false
not_at slot e off = elim (cases_Bool (at_slot slot e)) [
  | inl hit ↦ absurd (off (sym (slot_of slot e hit)))
  | inr miss ↦ miss
]

module _ {X : Type 0} (p q : X → Bool) where
  -- a test that the one taken out fails finds the same first
  pub first_without : (xs : List X) (x : X) → first_match p xs ≡ Some x → q x ≡ false
      → first_match q (without_match p xs) ≡ first_match q xs
  first_without [] x is fails = cc
  first_without (y ∷ xs) x is fails = elim (cases_Bool (p y)) [
    | inl hit ↦
        let found : Some y ≡ Some x = rw hit at is in
        let same : y ≡ x = cc in
        let out : q y ≡ false = subst (λ z. q z ≡ false) (sym same) fails in
        rw (hit, out) refl
    | inr miss ↦
        let later : first_match p xs ≡ Some x = rw miss at is in
        elim (cases_Bool (q y)) [
          | inl pass ↦ rw miss (rw pass refl)
          | inr out ↦ rw miss (rw out (first_without xs x later fails))
        ]
  ]

  -- those that fail a test stay, whatever is taken out of those that pass
  pub others_without : (xs : List X) (x : X) → first_match p xs ≡ Some x → q x ≡ true
      → filter (λ y. not (q y)) (without_match p xs) ≡ filter (λ y. not (q y)) xs
  others_without [] x is passes = cc
  others_without (y ∷ xs) x is passes = elim (cases_Bool (p y)) [
    | inl hit ↦
        let found : Some y ≡ Some x = rw hit at is in
        let same : y ≡ x = cc in
        let out : q y ≡ true = subst (λ z. q z ≡ true) (sym same) passes in
        rw (hit, out) refl
    | inr miss ↦
        let later : first_match p xs ≡ Some x = rw miss at is in
        elim (cases_Bool (q y)) [
          | inl pass ↦ rw miss (rw pass (others_without xs x later passes))
          | inr out ↦ rw miss (rw out (ap (λ l. y ∷ l) (others_without xs x later passes)))
        ]
  ]

-- one behind the others
first_push : {X : Type 0} (p : X → Bool) (xs : List X) (y x : X) → first_match p xs ≡ Some x
    → first_match p (xs ++ y ∷ []) ≡ Some x
first_push p [] y x is = cc
first_push p (z ∷ xs) y x is = elim (cases_Bool (p z)) [
  | inl hit ↦ let found : Some z ≡ Some x = rw hit at is in rw hit found
  | inr miss ↦
      let later : first_match p xs ≡ Some x = rw miss at is in
      rw miss (first_push p xs y x later)
]

first_last : {X : Type 0} (p : X → Bool) (xs : List X) (x : X)
    → AllByRecursion (λ y. p y ≡ false) xs → p x ≡ true → first_match p (xs ++ x ∷ []) ≡ Some x
first_last p [] x all here = rw here refl
first_last p (y ∷ xs) x all here =
    let fails : p y ≡ false = all.0 in rw fails (first_last p xs x all.1 here)

-- NAMES
among_more : (ns : List Name) (k n : Name) → IsAmong ns n → IsAmong (insert_key name_cmp ns k) n
among_more [] k n among = absurd among
among_more (m ∷ ns) k n among = by (name_cmp k m) among (among_more ns k n)
  where
    by : (o : Ordering) → IsAmong (m ∷ ns) n
        → (IsAmong ns n → IsAmong (insert_key name_cmp ns k) n)
        → IsAmong (match_ordering o (k ∷ m ∷ ns) (m ∷ ns) (m ∷ insert_key name_cmp ns k)) n
    by Less among later = inr among
    by Equal among later = among
    by Greater (inl here) later = inl here
    by Greater (inr there) later = inr (later there)

among_new : (ns : List Name) (k : Name) → IsAmong (insert_key name_cmp ns k) k
among_new [] k = inl refl
among_new (m ∷ ns) k = by (name_cmp k m) refl (among_new ns k)
  where
    by : (o : Ordering) → name_cmp k m ≡ o → IsAmong (insert_key name_cmp ns k) k
        → IsAmong (match_ordering o (k ∷ m ∷ ns) (m ∷ ns) (m ∷ insert_key name_cmp ns k)) k
    by Less is later = inl refl
    by Equal is later = inl (sym (same_name k m is))
    by Greater is later = inr later

all_more : (P : Name → Type 0) (ns : List Name) (k : Name) → AllByRecursion P ns → P k
    → AllByRecursion P (insert_key name_cmp ns k)
all_more P [] k all here = (here, tt)
all_more P (m ∷ ns) k all here = by (name_cmp k m) (all_more P ns k all.1 here)
  where
    by : (o : Ordering) → AllByRecursion P (insert_key name_cmp ns k)
        → AllByRecursion P (match_ordering o (k ∷ m ∷ ns) (m ∷ ns)
        (m ∷ insert_key name_cmp ns k))
    by Less later = (here, all)
    by Equal later = all
    by Greater later = (all.0, later)

among_rest : (k n : Name) (ns : List Name) → IsAmong ns n → is_eq (name_cmp k n) ≡ false
    → IsAmong (remove_key (is_at (name_cmp k)) ns) n
among_rest k n [] among other = absurd among
among_rest k n (m ∷ ns) among other = elim (cases_Bool (is_eq (name_cmp k m))) [
  | inl hit ↦ elim among [
    | inl here ↦
        absurd (true≢false (sym hit ∙ ap (λ j. is_eq (name_cmp k j)) here ∙ other))
    | inr later ↦ rw hit later
  ]
  | inr miss ↦ elim among [
    | inl here ↦ rw miss (inl here)
    | inr later ↦ rw miss (inr (among_rest k n ns later other))
  ]
]

equal_of : (o : Ordering) → is_eq o ≡ true → o ≡ Equal
equal_of Less is = absurd (true≢false (sym is))
equal_of Equal is = refl
equal_of Greater is = absurd (true≢false (sym is))

-- those that are left, of names that ascend, are others
all_rest : (P : Name → Type 0) (k : Name) (ns : List Name) → Ascends name_cmp ns
    → AllByRecursion P ns
    → AllByRecursion (λ n. P n × (n ≢ k)) (remove_key (is_at (name_cmp k)) ns)
all_rest P k [] up all = tt
all_rest P k (m ∷ ns) up all = elim (cases_Bool (is_eq (name_cmp k m))) [
  | inl hit ↦
      let same : k ≡ m = same_name k m (equal_of (name_cmp k m) hit) in
      let above : AllByRecursion (λ n. n ≢ k) ns =
      all_by (λ n. name_cmp m n ≡ Less) (λ n. n ≢ k) ns
      (λ n less e. let here : Less ≡ Equal =
      sym less ∙ ap (name_cmp m) (e ∙ same) ∙ name_same m in cc) up.0 in
      rw hit (all_both P (λ n. n ≢ k) ns all.1 above)
  | inr miss ↦
      rw miss (
        (
          all.0,
          λ e. true≢false (sym (ap is_eq (name_same k))
              ∙ ap (λ j. is_eq (name_cmp k j)) (sym e) ∙ miss),
        ),
        all_rest P k ns up.1 all.1,
      )
]

module _ (places : List (Option Entry)) (names : List Name) (es : List Entry)
    (stored : IsStored places names es) where
  -- no entry is found in an empty place
  pub none_there : (slot : ℕ) → entry_at places slot ≡ None → first_match (at_slot slot) es ≡ None
  none_there slot empty =
      (none_passes (at_slot slot) es (all_by (λ e. entry_at places e.slot ≡ Some e)
      (λ e. at_slot slot e ≡ false) es (λ e kept. not_at slot e (λ same.
      let both : Some e ≡ None = sym kept ∙ ap (entry_at places) same ∙ empty in cc))
      stored.kept)).0

  -- AN ENTRY TAKEN OUT
  module _ (slot : ℕ) (e : Entry) (is : first_match (at_slot slot) es ≡ Some e) where
    here : slot ≡ e.slot
    here = slot_of slot e (first_passes (at_slot slot) es e is)

    kept_here : entry_at places e.slot ≡ Some e
    kept_here = all_first (λ f. entry_at places f.slot ≡ Some f) (at_slot slot) es e stored.kept is

    -- the others have other slots
    apart : AllByRecursion (λ f. f.slot ≢ slot) (without_match (at_slot slot) es)
    apart = all_by (λ f. (entry_at places f.slot ≡ Some f) × (f.ticket ≢ e.ticket))
        (λ f. f.slot ≢ slot) (without_match (at_slot slot) es) (λ f both same.
        let one : Some f ≡ Some e =
        sym both.0 ∙ ap (entry_at places) (same ∙ here) ∙ kept_here in
        let equal : f ≡ e = cc in
        both.1 (ap (λ (g : Entry). g.ticket) equal))
        (all_both (λ f. entry_at places f.slot ≡ Some f) (λ f. f.ticket ≢ e.ticket)
        (without_match (at_slot slot) es)
        (all_without (λ f. entry_at places f.slot ≡ Some f) (at_slot slot) es stored.kept)
        (tickets_apart (at_slot slot) es e stored.rising is))

    pub taken : (within : slot < length places)
        → Ascends name_cmp (remove_key (is_at (name_cmp (name_of e))) names)
        → IsStored (set places slot None) (remove_key (is_at (name_cmp (name_of e))) names)
        (without_match (at_slot slot) es)
    taken within up = record {
      rising = rising_without (at_slot slot) es stored.rising;
      bounded = all_without (λ f. f.reference ≤ last_reference) (at_slot slot) es stored.bounded;
      kept = all_by (λ f. (f.slot ≢ slot) × (entry_at places f.slot ≡ Some f))
          (λ f. entry_at (set places slot None) f.slot ≡ Some f)
          (without_match (at_slot slot) es)
          (λ f both. get_or-set_other places slot f.slot None None both.0 ∙ both.1)
          (all_both (λ f. f.slot ≢ slot) (λ f. entry_at places f.slot ≡ Some f)
          (without_match (at_slot slot) es) apart
          (all_without (λ f. entry_at places f.slot ≡ Some f) (at_slot slot) es stored.kept));
      filled = λ s f at. elim (cases_eq s slot) [
        | inl same ↦
            let none : None ≡ Some f =
            sym (get_or-set_same places slot None None within)
            ∙ ap (entry_at (set places slot None)) (sym same) ∙ at in cc
        | inr off ↦
            let before : entry_at places s ≡ Some f =
            sym (get_or-set_other places slot s None None off) ∙ at in
            first_without (at_slot slot) (at_slot s) es e is
            (not_at s e (λ same. off (sym same ∙ sym here)))
            ∙ stored.filled s f before
      ];
      named = all_by (λ f. (f.slot ≢ slot) × IsAmong names (name_of f))
          (λ f. IsAmong (remove_key (is_at (name_cmp (name_of e))) names) (name_of f))
          (without_match (at_slot slot) es)
          (λ f both. among_rest (name_of e) (name_of f) names both.1
          (other f both.0))
          (all_both (λ f. f.slot ≢ slot) (λ f. IsAmong names (name_of f))
          (without_match (at_slot slot) es) apart
          (all_without (λ f. IsAmong names (name_of f)) (at_slot slot) es stored.named));
      real = by_name (remove_key (is_at (name_cmp (name_of e))) names)
          (all_rest (HasName places) (name_of e) names stored.ascending stored.real);
      ascending = up;
    }
      where
        other : (f : Entry) → f.slot ≢ slot → is_eq (name_cmp (name_of e) (name_of f)) ≡ false
        other f off = elim (cases_Bool (is_eq (name_cmp (name_of e) (name_of f)))) [
          | inl hit ↦
              absurd (off (sym (ap (λ (n : Name). n.slot) (same_name (name_of e) (name_of f)
              (equal_of (name_cmp (name_of e) (name_of f)) hit))) ∙ sym here))
          | inr miss ↦ miss
        ]

        one : (n : Name) → HasName places n × (n ≢ name_of e)
            → HasName (set places slot None) n
        one n both =
            let has = both.0 in
            let off : n.slot ≢ slot = λ same.
            let found : Some has.entry ≡ Some e =
            sym has.at ∙ ap (entry_at places) (same ∙ here) ∙ kept_here in
            let equal : has.entry ≡ e = cc in
            both.1 (sym has.named ∙ ap name_of equal) in
            record {
              entry = has.entry;
              at = get_or-set_other places slot n.slot None None off ∙ has.at;
              named = has.named;
            }

        by_name : (ns : List Name) → AllByRecursion (λ n. HasName places n × (n ≢ name_of e)) ns
            → AllByRecursion (HasName (set places slot None)) ns
        by_name [] all = tt
        by_name (n ∷ ns) all = (one n all.0, by_name ns all.1)

  -- AN ENTRY ADDED, where its slot has a place
  module _ (e : Entry) (above : AllByRecursion (λ f. f.ticket < e.ticket) es)
      (apart : AllByRecursion (λ f. f.slot ≢ e.slot) es) (bound : e.reference ≤ last_reference)
    where
      pub added : e.slot < length places → Ascends name_cmp (insert_key name_cmp names (name_of e))
          → IsStored (set places e.slot (Some e)) (insert_key name_cmp names (name_of e))
          (es ++ e ∷ [])
      added within up = record {
        rising = rising_push es e stored.rising above;
        bounded = all_push (λ f. f.reference ≤ last_reference) es e stored.bounded bound;
        kept = all_push (λ f. entry_at (set places e.slot (Some e)) f.slot ≡ Some f) es e
            (all_by (λ f. (f.slot ≢ e.slot) × (entry_at places f.slot ≡ Some f))
            (λ f. entry_at (set places e.slot (Some e)) f.slot ≡ Some f) es
            (λ f both. get_or-set_other places e.slot f.slot (Some e) None both.0 ∙ both.1)
            (all_both (λ f. f.slot ≢ e.slot) (λ f. entry_at places f.slot ≡ Some f) es apart
            stored.kept))
            (get_or-set_same places e.slot (Some e) None within);
        filled = λ s f at. elim (cases_eq s e.slot) [
          | inl same ↦
              let now : Some e ≡ Some f =
              sym (get_or-set_same places e.slot (Some e) None within)
              ∙ ap (entry_at (set places e.slot (Some e))) (sym same) ∙ at in
              let equal : e ≡ f = cc in
              subst (λ g. first_match (at_slot s) (es ++ e ∷ []) ≡ Some g) equal
              (first_last (at_slot s) es e (all_by (λ g. g.slot ≢ e.slot)
              (λ g. at_slot s g ≡ false) es (λ g off. not_at s g (λ k. off (k ∙ same))) apart)
              (at_here s same))
          | inr off ↦
              first_push (at_slot s) es e f (stored.filled s f
              (sym (get_or-set_other places e.slot s (Some e) None off) ∙ at))
        ];
        named = all_push (λ f. IsAmong (insert_key name_cmp names (name_of e)) (name_of f)) es e
            (all_by (λ f. IsAmong names (name_of f))
            (λ f. IsAmong (insert_key name_cmp names (name_of e)) (name_of f)) es
            (λ f among. among_more names (name_of e) (name_of f) among) stored.named)
            (among_new names (name_of e));
        real = all_more (HasName (set places e.slot (Some e))) names (name_of e)
            (by_name names stored.real) (record {
              entry = e;
              at = get_or-set_same places e.slot (Some e) None within;
              named = refl;
            });
        ascending = up;
      }
        where
          at_here : (s : ℕ) → s ≡ e.slot → at_slot s e ≡ true
          at_here s same = grind (arith, nat_tests)

          one : (n : Name) → HasName places n → HasName (set places e.slot (Some e)) n
          one n has =
              let off : n.slot ≢ e.slot = λ same.
              let found = stored.filled n.slot has.entry has.at in
              all_first (λ f. f.slot ≢ e.slot) (at_slot n.slot) es has.entry apart found
              (sym (slot_of n.slot has.entry (first_passes (at_slot n.slot) es has.entry found))
              ∙ same) in
              record {
                entry = has.entry;
                at = get_or-set_other places e.slot n.slot (Some e) None off ∙ has.at;
                named = has.named;
              }

          by_name : (ns : List Name) → AllByRecursion (HasName places) ns
              → AllByRecursion (HasName (set places e.slot (Some e))) ns
          by_name [] all = tt
          by_name (n ∷ ns) all = (one n all.0, by_name ns all.1)

  -- other places, of which each has what it had
  pub replaced : (more : List (Option Entry)) → ((s : ℕ) → entry_at more s ≡ entry_at places s)
      → IsStored more names es
  replaced more same = record {
    rising = stored.rising;
    bounded = stored.bounded;
    kept = all_by (λ e. entry_at places e.slot ≡ Some e) (λ e. entry_at more e.slot ≡ Some e) es
        (λ e kept. same e.slot ∙ kept) stored.kept;
    filled = λ s e at. stored.filled s e (sym (same s) ∙ at);
    named = stored.named;
    real = by_name names stored.real;
    ascending = stored.ascending;
  }
    where
      by_name : (ns : List Name) → AllByRecursion (HasName places) ns
          → AllByRecursion (HasName more) ns
      by_name [] all = tt
      by_name (n ∷ ns) all = (
        record {
          entry = all.0.entry;
          at = same n.slot ∙ all.0.at;
          named = all.0.named;
        },
        by_name ns all.1,
      )

  named_bounded : AllByRecursion (λ f. IsAmong names (name_of f) × (f.reference ≤ last_reference))
      es
  named_bounded = all_both (λ f. IsAmong names (name_of f)) (λ f. f.reference ≤ last_reference) es
      stored.named stored.bounded

  -- AN ENTRY IS FOUND by the first name from the least one on
  module _ (n : Name) (from : Name) (some : first_match (reaches from) names ≡ Some n) where
    has : HasName places n
    has = all_first (HasName places) (reaches from) names n stored.real some

    at : first_match (at_slot n.slot) es ≡ Some has.entry
    at = stored.filled n.slot has.entry has.at

    before : (f : Entry) → IsAmong names (name_of f) → is_le (name_cmp from (name_of f)) ≡ true
        → AtMost n (name_of f)
    before f among reach =
        at_most n (name_of f) (first_least from names n (name_of f) stored.ascending some among
        reach)

    from_on : AtMost from n
    from_on = at_most from n (first_passes (reaches from) names n some)

    module _ (client reference : ℕ) (is : from ≡ least client reference) where
      reach_of : (f : Entry) → has_reference client reference f ≡ true
          → is_le (name_cmp from (name_of f)) ≡ true
      reach_of f hit =
          subst (λ k. is_le (name_cmp k (name_of f)) ≡ true) (sym is)
          (least_of client reference f hit)

      pub found : n.client ≡ client → n.reference ≡ reference
          → IsFound client reference es n.slot
      found client_is reference_is =
          let one : has.entry.client ≡ n.client = ap (λ (m : Name). m.client) has.named in
          let two : has.entry.reference ≡ n.reference =
          ap (λ (m : Name). m.reference) has.named in
          let three : has.entry.ticket ≡ n.ticket = ap (λ (m : Name). m.ticket) has.named in
          let first : (client == has.entry.client) ≡ true = grind (arith, nat_tests) in
          let second : (reference == has.entry.reference) ≡ true = grind (arith, nat_tests) in
          let passes : has_reference client reference has.entry ≡ true =
          rw (first, second) refl in
          let both = agrees (at_slot n.slot) (has_reference client reference) es has.entry
          stored.rising at (all_by (λ f. IsAmong names (name_of f))
          (λ f. f.ticket < has.entry.ticket → has_reference client reference f ≡ false) es
          (λ f among less. elim (cases_Bool (has_reference client reference f)) [
            | inl hit ↦
                let parts = parts_of client reference f hit in
                let later : n.ticket ≤ f.ticket =
                (before f among (reach_of f hit)).ticket (client_is ∙ parts.0)
                (reference_is ∙ parts.1) in
                absurd (omega (arith, later, less, three))
            | inr miss ↦ miss
          ]) stored.named) passes in
          record { entry = has.entry; first = both.0; at = at; others = both.1 }

      -- one of another name: there is none
      pub other : (n.client ≡ client → n.reference ≡ reference → ⊥)
          → first_match (has_reference client reference) es ≡ None
      other differs =
          (none_passes (has_reference client reference) es (all_by
          (λ f. IsAmong names (name_of f)) (λ f. has_reference client reference f ≡ false) es
          (λ f among. elim (cases_Bool (has_reference client reference f)) [
            | inl hit ↦
                let parts = parts_of client reference f hit in
                let up = before f among (reach_of f hit) in
                let down : AtMost (least client reference) n =
                subst (λ k. AtMost k n) is from_on in
                let client_is : n.client ≡ client =
                omega (arith, up.client, down.client, parts.0) in
                let reference_is : n.reference ≡ reference =
                omega (
                  arith,
                  up.reference (client_is ∙ parts.0),
                  down.reference (sym client_is),
                  parts.1,
                ) in
                absurd (differs client_is reference_is)
            | inr miss ↦ miss
          ]) stored.named)).0

    module _ (client : ℕ) (is : from ≡ least client last_reference) where
      pub found_of : n.client ≡ client → IsFoundOf client es n.slot
      found_of client_is =
          let one : has.entry.client ≡ n.client = ap (λ (m : Name). m.client) has.named in
          record { entry = has.entry; at = at; owner = grind (arith, nat_tests) }

      pub other_of : n.client ≢ client → first_match (is_of client) es ≡ None
      other_of differs =
          (none_passes (is_of client) es (all_by
          (λ f. IsAmong names (name_of f) × (f.reference ≤ last_reference))
          (λ f. is_of client f ≡ false) es
          (λ f both. elim (cases_Bool (is_of client f)) [
            | inl hit ↦
                let owner = client_of client f hit in
                let reach : is_le (name_cmp from (name_of f)) ≡ true =
                subst (λ k. is_le (name_cmp k (name_of f)) ≡ true) (sym is)
                (least_of_client client f both.1 hit) in
                let up = before f both.0 reach in
                let down : AtMost (least client last_reference) n =
                subst (λ k. AtMost k n) is from_on in
                absurd (differs (omega (arith, up.client, down.client, owner)))
            | inr miss ↦ miss
          ]) named_bounded)).0

  -- there is none where no name is
  module _ (from : Name) (none : first_match (reaches from) names ≡ None) where
    pub missing : (client reference : ℕ) → from ≡ least client reference
        → first_match (has_reference client reference) es ≡ None
    missing client reference is =
        (none_passes (has_reference client reference) es (all_by
        (λ f. IsAmong names (name_of f)) (λ f. has_reference client reference f ≡ false) es
        (λ f among. elim (cases_Bool (has_reference client reference f)) [
          | inl hit ↦
              absurd (first_none from names (name_of f) none among
              (subst (λ k. is_le (name_cmp k (name_of f)) ≡ true) (sym is)
              (least_of client reference f hit)))
          | inr miss ↦ miss
        ]) stored.named)).0

    pub missing_of : (client : ℕ) → from ≡ least client last_reference
        → first_match (is_of client) es ≡ None
    missing_of client is =
        (none_passes (is_of client) es (all_by
        (λ f. IsAmong names (name_of f) × (f.reference ≤ last_reference))
        (λ f. is_of client f ≡ false) es
        (λ f both. elim (cases_Bool (is_of client f)) [
          | inl hit ↦
              absurd (first_none from names (name_of f) none both.0
              (subst (λ k. is_le (name_cmp k (name_of f)) ≡ true) (sym is)
              (least_of_client client f both.1 hit)))
          | inr miss ↦ miss
        ]) named_bounded)).0

-- the first element from a bound on
pub first_from : (from : Name) (names : List Name) (o : Option Name)
    → o ≡ slice_get (elements_from name_cmp from names) 0 → first_match (reaches from) names ≡ o
first_from from names o is = sym (is ∙ first_passing (reaches from) names)
