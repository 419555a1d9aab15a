-- What a call on one chunk does to the elements of all.
use Rattle.std.proofs.Common.{◌≡◌, ℕ, zero, suc, ◌+◌, ◌-◌, ◌<◌, ◌≤◌, Bool, true, false, List, []}
use Rattle.std.proofs.Common.{◌∷◌, ◌++◌, length, get_or, set, take, drop, refl, ap, sym, subst, ◌∙◌}
use Rattle.std.proofs.Common.{◌==◌, arith, add-one, ◌⊎◌, inl, inr, append_assoc, true≢false}
use Rattle.std.proofs.Common.{slice_get, insert, remove, Ordering, Less, Equal, Greater, is_ge}
use Rattle.std.proofs.Common.{is_le, length-set, length-drop, get_or-set_same}
use Rattle.std.specs.List.{AllByRecursion}
use Rattle.std.specs.List.Sorted.{IsPartitionPoint, IsPartitionedBy}
use Rattle.std.specs.Ordering.{match_ordering}
use Rattle.std.specs.Cmp.{IsTotalOrder}
use Rattle.std.specs.BTreeMap.{is_at}
use Rattle.std.specs.BTreeSet.{insert_key}
use Rattle.std.specs.Set.{remove_key}
use Rattle.std.proofs.lemmas.List.{set_split, drop_all, drop_more}
use Rattle.std.proofs.lemmas.List.Concat.{flat_map-append}
use Rattle.std.proofs.lemmas.List.Elements.{filter-append}
use Rattle.sorted_set.specs.Sorted.{Ascends, elements_from, AreBelow, AreAbove}
use Rattle.sorted_set.specs.Chunks.{joined, AreFilled, AreChunks, begins_by, IsPlaceFor}
use Rattle.sorted_set.proofs.Placing.{insert_key-below, insert_key-middle, remove_key-below}
use Rattle.sorted_set.proofs.Placing.{remove_key-middle, elements_from-below, elements_from-above}
use Rattle.sorted_set.proofs.Placing.{all-append, all-map, ascends-front, ascends-back}
use Rattle.sorted_set.proofs.Placing.{ascends-before, split_at, turned_less, turned_greater}
use Rattle.sorted_set.proofs.Placing.{below_equal, ascends-insert_key, ascends-remove_key}

-- CHUNKS IN PARTS: those before a place, the one there, and those after it
module _ {X : Type 0} where
  -- the elements before a chunk, and after it
  abbrev pub before : List (List X) → ℕ → List X
  before chunks at = joined (take at chunks)

  abbrev pub after : List (List X) → ℕ → List X
  after chunks at = joined (drop (suc at) chunks)

  pub joined_parts : (chunks : List (List X)) (at : ℕ) (d : List X) → at < length chunks
      → joined chunks ≡ before chunks at ++ (get_or chunks at d ++ after chunks at)
  joined_parts chunks at d within =
      ap joined (split_at (λ x y. Less) chunks at d within)
      ∙ flat_map-append (λ chunk. chunk) (take at chunks)
      (get_or chunks at d ∷ drop (suc at) chunks)

  pub joined_set : (chunks : List (List X)) (at : ℕ) (c : List X) → at < length chunks
      → joined (set chunks at c) ≡ before chunks at ++ (c ++ after chunks at)
  joined_set chunks at c within =
      ap joined (set_split chunks at c within)
      ∙ flat_map-append (λ chunk. chunk) (take at chunks) (c ∷ drop (suc at) chunks)

  pub filled_at : (chunks : List (List X)) (at : ℕ) (d : List X) → AreFilled chunks
      → at < length chunks → 0 < length (get_or chunks at d)
  filled_at [] at d filled within = absurd (omega arith)
  filled_at (x ∷ chunks) zero d filled within = filled.0
  filled_at (x ∷ chunks) (suc at) d filled within = filled_at chunks at d filled.1 (omega arith)

up_to : (i j : ℕ) → i ≤ j → (i < j) ⊎ (i ≡ j)
up_to i j le = grind arith

drop_from : {Y : Type 0} (ys : List Y) (at : ℕ) (d : Y) → at < length ys
    → drop at ys ≡ get_or ys at d ∷ drop (suc at) ys
drop_from [] at d within = absurd (omega arith)
drop_from (y ∷ ys) zero d within = refl
drop_from (y ∷ ys) (suc at) d within = drop_from ys at d (omega arith)

-- WHERE AN ELEMENT STANDS among the chunks
module _ {X : Type 0} (cmp : X → X → Ordering) (total : IsTotalOrder cmp) (x : X) where
  -- a chunk that doesn't begin above x has only lower elements before it
  below_chunk : (ys : List X) (c : List X) (rest : List X) → 0 < length c → begins_by cmp x c ≡ true
      → Ascends cmp (ys ++ (c ++ rest)) → AreBelow cmp x ys
  below_chunk ys [] rest some begins up = absurd (omega arith)
  below_chunk ys (y ∷ c) rest some begins up =
      all-map cmp (λ z. cmp z y ≡ Less) (λ z. cmp x z ≡ Greater)
      (λ z less. by (cmp x y) refl z less) ys (ascends-before cmp ys y (c ++ rest) up)
    where
      by : (o : Ordering) → cmp x y ≡ o → (z : X) → cmp z y ≡ Less → cmp x z ≡ Greater
      by Less is z less = absurd (true≢false (sym begins ∙ ap is_ge is))
      by Equal is z less = below_equal cmp total x y z is less
      by Greater is z less =
          turned_less cmp total z x (total.trans z y x less (turned_greater cmp total x y is))

  -- and one that begins above it has only higher elements from there on
  above_chunk : (c : List X) (rest : List X) → 0 < length c → begins_by cmp x c ≡ false
      → Ascends cmp (c ++ rest) → AreAbove cmp x (c ++ rest)
  above_chunk [] rest some begins up = absurd (omega arith)
  above_chunk (y ∷ c) rest some begins up =
      let less : cmp x y ≡ Less = by (cmp x y) refl in (
        less,
        all-map cmp (λ z. cmp y z ≡ Less) (λ z. cmp x z ≡ Less)
            (λ z above. total.trans x y z less above) (c ++ rest) up.0,
      )
    where
      by : (o : Ordering) → cmp x y ≡ o → cmp x y ≡ Less
      by Less is = is
      by Equal is = absurd (true≢false (sym (ap is_ge is) ∙ begins))
      by Greater is = absurd (true≢false (sym (ap is_ge is) ∙ begins))

  -- so the chunks that don't begin above x come first
  all_in_chunk : (P : X → Type 0) (chunks : List (List X)) (i j : ℕ) (d : List X) → i < j
      → j < length chunks → AllByRecursion P (before chunks j)
      → AllByRecursion P (get_or chunks i d)
  all_in_chunk P [] i j d under within all = absurd (omega arith)
  all_in_chunk P (c ∷ chunks) i zero d under within all = absurd (omega arith)
  all_in_chunk P (c ∷ chunks) zero (suc j) d under within all =
      (all-append cmp P c (before chunks j) all).0
  all_in_chunk P (c ∷ chunks) (suc i) (suc j) d under within all =
      all_in_chunk P chunks i j d (omega arith) (omega arith)
      (all-append cmp P c (before chunks j) all).1

  begins_by_below : (c : List X) → AreBelow cmp x c → begins_by cmp x c ≡ true
  begins_by_below [] below = refl
  begins_by_below (y ∷ c) below = ap is_ge below.0

  module _ (chunks : List (List X)) (are : AreChunks cmp chunks) where
    up_at : (at : ℕ) (d : List X) → at < length chunks
        → Ascends cmp (before chunks at ++ (get_or chunks at d ++ after chunks at))
    up_at at d within = subst (Ascends cmp) (joined_parts chunks at d within) are.ascending

    below_at : (at : ℕ) (d : List X) → at < length chunks
        → begins_by cmp x (get_or chunks at d) ≡ true → AreBelow cmp x (before chunks at)
    below_at at d within begins =
        below_chunk (before chunks at) (get_or chunks at d) (after chunks at)
        (filled_at chunks at d are.filled within) begins (up_at at d within)

    pub begins_first : IsPartitionedBy (begins_by cmp x) chunks
    begins_first i j d le within begins =
        elim (up_to i j le) [
          | inl under ↦
              begins_by_below (get_or chunks i d)
              (all_in_chunk (λ y. cmp x y ≡ Greater) chunks i j d under within
              (below_at j d within begins))
          | inr same ↦ subst (λ n. begins_by cmp x (get_or chunks n d) ≡ true) (sym same) begins
        ]

    -- the last of them is the place for x, or the first chunk of all
    pub place_for : (n : ℕ) → 0 < length chunks → n ≤ length chunks
        → IsPartitionPoint (λ c. begins_by cmp x c ≡ true) (λ c. begins_by cmp x c ≡ false) chunks n
        → IsPlaceFor cmp x chunks (n - 1)
    place_for n some within parts = record {
      within = omega arith;
      before = low n within parts;
      after = elim (next (n - 1)) [
        | inl more ↦
            let at : ℕ = suc (n - 1) in
            let ends : drop at chunks ≡ get_or chunks at [] ∷ drop (suc at) chunks =
            drop_from chunks at [] more in
            let higher : begins_by cmp x (get_or chunks at []) ≡ false =
            parts.1 at [] (omega arith) more in
            let up : Ascends cmp (get_or chunks at [] ++ after chunks at) =
            ascends-back cmp (before chunks at) (get_or chunks at [] ++ after chunks at)
            (up_at at [] more) in
            rw ends (above_chunk (get_or chunks at []) (after chunks at)
            (filled_at chunks at [] are.filled more) higher up)
        | inr none ↦ rw (drop_all (suc (n - 1)) chunks none) tt
      ];
    }
      where
        low : (n : ℕ) → n ≤ length chunks
            → IsPartitionPoint (λ c. begins_by cmp x c ≡ true) (λ c. begins_by cmp x c ≡ false)
            chunks n → AreBelow cmp x (joined (take (n - 1) chunks))
        low zero within parts = tt
        low (suc m) within parts =
            let under : suc m - 1 < length chunks = omega arith in
            below_at (suc m - 1) [] under (parts.0 (suc m - 1) [] (omega arith) (omega arith))

        next : (at : ℕ) → (suc at < length chunks) ⊎ (length chunks ≤ suc at)
        next at = grind arith

-- WHAT A CALL ON THAT CHUNK DOES
module _ {X : Type 0} (cmp : X → X → Ordering) (x : X) (chunks : List (List X)) (at : ℕ)
    (place : IsPlaceFor cmp x chunks at) where
  -- the elements are those before the chunk, its own, and those after it
  parts_are : (d : List X) → joined chunks
      ≡ before chunks at ++ (get_or chunks at d ++ after chunks at)
  parts_are d = joined_parts chunks at d place.within

  pub inserted : (d c : List X) → c ≡ insert_key cmp (get_or chunks at d) x
      → joined (set chunks at c) ≡ insert_key cmp (joined chunks) x
  inserted d c is =
      joined_set chunks at c place.within
      ∙ ap (λ l. before chunks at ++ (l ++ after chunks at)) is
      ∙ ap (λ l. before chunks at ++ l)
      (sym (insert_key-middle cmp x (get_or chunks at d) (after chunks at) place.after))
      ∙ sym (insert_key-below cmp x (before chunks at) (get_or chunks at d ++ after chunks at)
      place.before)
      ∙ ap (λ l. insert_key cmp l x) (sym (parts_are d))

  pub removed : (d c : List X) → c ≡ remove_key (is_at (cmp x)) (get_or chunks at d)
      → joined (set chunks at c) ≡ remove_key (is_at (cmp x)) (joined chunks)
  removed d c is =
      joined_set chunks at c place.within
      ∙ ap (λ l. before chunks at ++ (l ++ after chunks at)) is
      ∙ ap (λ l. before chunks at ++ l)
      (sym (remove_key-middle cmp x (get_or chunks at d) (after chunks at) place.after))
      ∙ sym (remove_key-below cmp x (before chunks at) (get_or chunks at d ++ after chunks at)
      place.before)
      ∙ ap (λ l. remove_key (is_at (cmp x)) l) (sym (parts_are d))

  pub from : (d : List X) → elements_from cmp x (joined chunks)
      ≡ elements_from cmp x (get_or chunks at d) ++ after chunks at
  from d =
      ap (elements_from cmp x) (parts_are d)
      ∙ elements_from-below cmp x (before chunks at) (get_or chunks at d ++ after chunks at)
      place.before
      ∙ filter-append (λ y. is_le (cmp x y)) (get_or chunks at d) (after chunks at)
      ∙ ap (λ l. elements_from cmp x (get_or chunks at d) ++ l)
      (elements_from-above cmp x (after chunks at) place.after)

-- EDITS OF THE CHUNKS
module _ {X : Type 0} where
  -- without a chunk that became empty
  pub joined_remove : (chunks : List (List X)) (at : ℕ) (d : List X) → at < length chunks
      → length (get_or chunks at d) ≡ 0 → joined (remove chunks at) ≡ joined chunks
  joined_remove [] at d within empty = absurd (omega arith)
  joined_remove ([] ∷ chunks) zero d within empty = refl
  joined_remove ((x ∷ c) ∷ chunks) zero d within empty = absurd (omega arith)
  joined_remove (c ∷ chunks) (suc at) d within empty =
      ap (λ l. c ++ l) (joined_remove chunks at d (omega arith) empty)

  pub filled_remove : (chunks : List (List X)) (at : ℕ) (c : List X) → AreFilled chunks
      → AreFilled (remove (set chunks at c) at)
  filled_remove [] zero c filled = tt
  filled_remove [] (suc at) c filled = tt
  filled_remove (x ∷ chunks) zero c filled = filled.1
  filled_remove (x ∷ chunks) (suc at) c filled = (filled.0, filled_remove chunks at c filled.1)

  -- with a chunk cut in two
  pub joined_split : (chunks : List (List X)) (at : ℕ) (d front back : List X) → at < length chunks
      → get_or chunks at d ≡ front ++ back
      → joined (insert (set chunks at front) (suc at) back) ≡ joined chunks
  joined_split [] at d front back within is = absurd (omega arith)
  joined_split (c ∷ chunks) zero d front back within is =
      sym (append_assoc front back (joined chunks)) ∙ ap (λ l. l ++ joined chunks) (sym is)
  joined_split (c ∷ chunks) (suc at) d front back within is =
      ap (λ l. c ++ l) (joined_split chunks at d front back (omega arith) is)

  pub filled_set : (chunks : List (List X)) (at : ℕ) (c : List X) → AreFilled chunks → 0 < length c
      → AreFilled (set chunks at c)
  filled_set [] at c filled some = tt
  filled_set (x ∷ chunks) zero c filled some = (some, filled.1)
  filled_set (x ∷ chunks) (suc at) c filled some = (filled.0, filled_set chunks at c filled.1 some)

  pub filled_insert : (chunks : List (List X)) (at : ℕ) (c : List X) → AreFilled chunks
      → 0 < length c → AreFilled (insert chunks at c)
  filled_insert [] zero c filled some = (some, tt)
  filled_insert [] (suc at) c filled some = (some, tt)
  filled_insert (x ∷ chunks) zero c filled some = (some, filled)
  filled_insert (x ∷ chunks) (suc at) c filled some =
      (filled.0, filled_insert chunks at c filled.1 some)

  -- the k-th element of two lists joined
  pub slice_get-front : (xs ys : List X) (k : ℕ) → k < length xs
      → slice_get (xs ++ ys) k ≡ slice_get xs k
  slice_get-front [] ys k under = absurd (omega arith)
  slice_get-front (x ∷ xs) ys zero under = refl
  slice_get-front (x ∷ xs) ys (suc k) under = slice_get-front xs ys k (omega arith)

  pub slice_get-back : (xs ys : List X) (k j : ℕ) → length xs + j ≡ k
      → slice_get (xs ++ ys) k ≡ slice_get ys j
  slice_get-back [] ys k j is = ap (slice_get ys) (omega arith)
  slice_get-back (x ∷ xs) ys zero j is = absurd (omega arith)
  slice_get-back (x ∷ xs) ys (suc k) j is = slice_get-back xs ys k j (omega arith)

  pub slice_get-drop : (xs : List X) (n k j : ℕ) → n + k ≡ j
      → slice_get (drop n xs) k ≡ slice_get xs j
  slice_get-drop xs zero k j is = ap (slice_get xs) (omega arith)
  slice_get-drop [] (suc n) k j is = refl
  slice_get-drop (x ∷ xs) (suc n) k zero is = absurd (omega arith)
  slice_get-drop (x ∷ xs) (suc n) k (suc j) is = slice_get-drop xs n k j (omega arith)

module _ {X : Type 0} (cmp : X → X → Ordering) where
  -- each chunk ascends
  pub ascends_at : (chunks : List (List X)) (at : ℕ) (c : List X) → AreChunks cmp chunks
      → at < length chunks → c ≡ get_or chunks at c → Ascends cmp c
  ascends_at chunks at c are within is =
      let up : Ascends cmp (before chunks at ++ (get_or chunks at c ++ after chunks at)) =
      subst (Ascends cmp) (joined_parts chunks at c within) are.ascending in
      subst (Ascends cmp) (sym is)
      (ascends-front cmp (get_or chunks at c) (after chunks at)
      (ascends-back cmp (before chunks at) (get_or chunks at c ++ after chunks at) up))

  length-insert_key : (x : X) (ys : List X) → 0 < length (insert_key cmp ys x)
  length-insert_key x [] = omega arith
  length-insert_key x (y ∷ ys) = by (cmp x y)
    where
      by : (o : Ordering) → 0 < length
          (match_ordering o (x ∷ y ∷ ys) (y ∷ ys) (y ∷ insert_key cmp ys x))
      by Less = omega arith
      by Equal = omega arith
      by Greater = omega arith

  module _ (total : IsTotalOrder cmp) (x : X) (chunks : List (List X)) (at : ℕ)
      (are : AreChunks cmp chunks) (place : IsPlaceFor cmp x chunks at) (old new : List X)
      (was : old ≡ get_or chunks at old) where
    pub insert_in : new ≡ insert_key cmp old x
        → (joined (set chunks at new) ≡ insert_key cmp (joined chunks) x)
        × AreChunks cmp (set chunks at new)
    insert_in is =
        let elements : joined (set chunks at new) ≡ insert_key cmp (joined chunks) x =
        inserted cmp x chunks at place old new (is ∙ ap (λ l. insert_key cmp l x) was) in (
          elements,
          record {
            filled = filled_set chunks at new are.filled
                (subst (λ l. 0 < length l) (sym is) (length-insert_key x old));
            ascending =
                subst (Ascends cmp) (sym elements)
                (ascends-insert_key cmp total x (joined chunks) are.ascending);
          },
        )

    pub remove_in : new ≡ remove_key (is_at (cmp x)) old → 0 < length new
        → (joined (set chunks at new) ≡ remove_key (is_at (cmp x)) (joined chunks))
        × AreChunks cmp (set chunks at new)
    remove_in is some =
        let elements : joined (set chunks at new) ≡ remove_key (is_at (cmp x)) (joined chunks) =
        removed cmp x chunks at place old new (is ∙ ap (remove_key (is_at (cmp x))) was) in (
          elements,
          record {
            filled = filled_set chunks at new are.filled some;
            ascending =
                subst (Ascends cmp) (sym elements)
                (ascends-remove_key cmp total (is_at (cmp x)) (joined chunks) are.ascending);
          },
        )

    pub remove_whole : (left : List (List X)) → new ≡ remove_key (is_at (cmp x)) old
        → length new ≡ 0 → left ≡ remove (set chunks at new) at
        → (joined left ≡ remove_key (is_at (cmp x)) (joined chunks)) × AreChunks cmp left
    remove_whole left is none left_is =
        let within : at < length (set chunks at new) =
        omega (arith, length-set chunks at new, place.within) in
        let there : get_or (set chunks at new) at new ≡ new =
        get_or-set_same chunks at new new place.within in
        let elements : joined left ≡ remove_key (is_at (cmp x)) (joined chunks) =
        ap joined left_is
        ∙ joined_remove (set chunks at new) at new within (ap length there ∙ none)
        ∙ removed cmp x chunks at place old new (is ∙ ap (remove_key (is_at (cmp x))) was)
        in (
          elements,
          record {
            filled = subst AreFilled (sym left_is) (filled_remove chunks at new are.filled);
            ascending =
                subst (Ascends cmp) (sym elements)
                (ascends-remove_key cmp total (is_at (cmp x)) (joined chunks) are.ascending);
          },
        )

  pub split_in : (chunks : List (List X)) (at : ℕ) (old front back : List X) (new : List (List X))
      → AreChunks cmp chunks → at < length chunks → old ≡ get_or chunks at old → old ≡ front ++ back
      → 0 < length front → 0 < length back → new ≡ insert (set chunks at front) (at + 1) back
      → (joined new ≡ joined chunks) × AreChunks cmp new
  split_in chunks at old front back new are within was is some more new_is =
      let elements : joined new ≡ joined chunks =
      ap joined (new_is ∙ ap (λ n. insert (set chunks at front) n back) (add-one at))
      ∙ joined_split chunks at old front back within (sym was ∙ is) in (
        elements,
        record {
          filled = subst AreFilled (sym new_is)
              (filled_insert (set chunks at front) (at + 1) back
              (filled_set chunks at front are.filled some) more);
          ascending = subst (Ascends cmp) (sym elements) are.ascending;
        },
      )

-- the chunks from a place on
pub joined_drop : {X : Type 0} (chunks : List (List X)) (at : ℕ) (c : List X) → at < length chunks
    → c ≡ get_or chunks at c → joined (drop at chunks) ≡ c ++ joined (drop (at + 1) chunks)
joined_drop chunks at c within is =
    ap joined (drop_more chunks at c within) ∙ ap (λ l. l ++ joined (drop (at + 1) chunks)) (sym is)

-- the k-th element from x on stands in its chunk, or in those after it
module _ {X : Type 0} (cmp : X → X → Ordering) (x : X) (chunks : List (List X)) (at : ℕ)
    (place : IsPlaceFor cmp x chunks at) (c : List X) (is : c ≡ get_or chunks at c) (first : ℕ)
    (rest : elements_from cmp x c ≡ drop first c) (k : ℕ) where
  pub from_parts : elements_from cmp x (joined chunks) ≡ drop first c ++ after chunks at
  from_parts =
      from cmp x chunks at place c
      ∙ ap (λ l. l ++ after chunks at) (ap (elements_from cmp x) (sym is) ∙ rest)

  pub nth_here : k < length c - first
      → slice_get c (first + k) ≡ slice_get (elements_from cmp x (joined chunks)) k
  nth_here under =
      sym (slice_get-drop c first k (first + k) refl)
      ∙ sym (slice_get-front (drop first c) (after chunks at) k
      (omega (arith, length-drop first c)))
      ∙ ap (λ l. slice_get l k) (sym from_parts)

  pub nth_later : (n j : ℕ) → first ≤ length c → length c - first ≤ k → n ≡ at + 1
      → j ≡ k - (length c - first)
      → slice_get (joined (drop n chunks)) j ≡ slice_get (elements_from cmp x (joined chunks)) k
  nth_later n j within past n_is j_is =
      ap (λ m. slice_get (joined (drop m chunks)) j) (n_is ∙ add-one at)
      ∙ sym (slice_get-back (drop first c) (after chunks at) k j
      (omega (arith, length-drop first c)))
      ∙ ap (λ l. slice_get l k) (sym from_parts)

-- whether a changed chunk is empty is what is read of it afterwards
pub emptied : {X : Type 0} (chunks : List (List X)) (at : ℕ) (new found : List X) (empty : Bool)
    → at < length chunks → found ≡ get_or (set chunks at new) at found
    → empty ≡ (length found == 0) → (length new == 0) ≡ empty
emptied chunks at new found empty within is test =
    ap (λ l. length l == 0) (sym (is ∙ get_or-set_same chunks at new found within)) ∙ sym test
