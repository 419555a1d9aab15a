-- Where an element stands in a list that ascends.
use Rattle.std.proofs.Common.{◌≡◌, ℕ, zero, suc, ◌+◌, ◌<◌, Bool, true, false, cond, List, [], ◌∷◌}
use Rattle.std.proofs.Common.{◌++◌, length, get_or, take, drop, refl, ap, sym, subst, ◌∙◌, arith}
use Rattle.std.proofs.Common.{add-one, Ok, Err, insert, remove, Ordering, Less, Equal, Greater}
use Rattle.std.proofs.Common.{is_eq, get_or-take, get_or-drop, length-take-le, take-append-drop}
use Rattle.std.proofs.Common.{length-drop}
use Rattle.std.specs.List.{AllByRecursion}
use Rattle.std.specs.List.Sorted.{IsBinarySearchResult, IsNonDecreasingBy, IsSearchInRange}
use Rattle.std.specs.Ordering.{ordering_index, match_ordering, ordering_reverse}
use Rattle.std.specs.Cmp.{IsTotalOrder}
use Rattle.std.specs.BTreeMap.{is_at}
use Rattle.std.specs.BTreeSet.{insert_key}
use Rattle.std.specs.Set.{remove_key}
use Rattle.std.proofs.lemmas.List.{drop_more}
use Rattle.std.proofs.lemmas.List.Elements.{recursion_from_All}
use Rattle.std.proofs.lemmas.List.Sorted.{searchable_from_sorted}
use Rattle.sorted_set.specs.Sorted.{Ascends, elements_from, AreBelow, AreAbove}

module _ {X : Type 0} (cmp : X → X → Ordering) where
  -- what is inserted stands behind all that is below it
  pub insert_key-below : (x : X) (front back : List X) → AreBelow cmp x front
      → insert_key cmp (front ++ back) x ≡ front ++ insert_key cmp back x
  insert_key-below x [] back below = refl
  insert_key-below x (y ∷ front) back below =
      rw below.0 (ap (λ l. y ∷ l) (insert_key-below x front back below.1))

  -- and before all that is above it
  pub insert_key-above : (x : X) (back : List X) → AreAbove cmp x back
      → insert_key cmp back x ≡ x ∷ back
  insert_key-above x [] above = refl
  insert_key-above x (y ∷ back) above = rw above.0 refl

  pub insert_key-equal : (x y : X) (back : List X) → cmp x y ≡ Equal
      → insert_key cmp (y ∷ back) x ≡ y ∷ back
  insert_key-equal x y back same = rw same refl

  -- the same of what is removed
  pub remove_key-below : (x : X) (front back : List X) → AreBelow cmp x front
      → remove_key (is_at (cmp x)) (front ++ back) ≡ front ++ remove_key (is_at (cmp x)) back
  remove_key-below x [] back below = refl
  remove_key-below x (y ∷ front) back below =
      rw below.0 (ap (λ l. y ∷ l) (remove_key-below x front back below.1))

  pub remove_key-above : (x : X) (back : List X) → AreAbove cmp x back
      → remove_key (is_at (cmp x)) back ≡ back
  remove_key-above x [] above = refl
  remove_key-above x (y ∷ back) above =
      rw above.0 (ap (λ l. y ∷ l) (remove_key-above x back above.1))

  pub remove_key-equal : (x y : X) (back : List X) → cmp x y ≡ Equal
      → remove_key (is_at (cmp x)) (y ∷ back) ≡ back
  remove_key-equal x y back same = rw same refl

  -- and of what isn't below
  pub elements_from-below : (x : X) (front back : List X) → AreBelow cmp x front
      → elements_from cmp x (front ++ back) ≡ elements_from cmp x back
  elements_from-below x [] back below = refl
  elements_from-below x (y ∷ front) back below =
      rw below.0 (elements_from-below x front back below.1)

  pub elements_from-above : (x : X) (back : List X) → AreAbove cmp x back
      → elements_from cmp x back ≡ back
  elements_from-above x [] above = refl
  elements_from-above x (y ∷ back) above =
      rw above.0 (ap (λ l. y ∷ l) (elements_from-above x back above.1))

  pub elements_from-equal : (x y : X) (back : List X) → cmp x y ≡ Equal → AreAbove cmp x back
      → elements_from cmp x (y ∷ back) ≡ y ∷ back
  elements_from-equal x y back same above =
      rw same (ap (λ l. y ∷ l) (elements_from-above x back above))

  -- an edit between lower and higher elements stays there
  pub insert_key-middle : (x : X) (ys back : List X) → AreAbove cmp x back
      → insert_key cmp (ys ++ back) x ≡ insert_key cmp ys x ++ back
  insert_key-middle x [] back above = insert_key-above x back above
  insert_key-middle x (y ∷ ys) back above = by (cmp x y) (insert_key-middle x ys back above)
    where
      by : (o : Ordering) → insert_key cmp (ys ++ back) x ≡ insert_key cmp ys x ++ back
          → match_ordering o (x ∷ y ∷ (ys ++ back)) (y ∷ (ys ++ back))
          (y ∷ insert_key cmp (ys ++ back) x)
          ≡ match_ordering o (x ∷ y ∷ ys) (y ∷ ys) (y ∷ insert_key cmp ys x) ++ back
      by Less rest = refl
      by Equal rest = refl
      by Greater rest = ap (λ l. y ∷ l) rest

  pub remove_key-middle : (x : X) (ys back : List X) → AreAbove cmp x back
      → remove_key (is_at (cmp x)) (ys ++ back) ≡ remove_key (is_at (cmp x)) ys ++ back
  remove_key-middle x [] back above = remove_key-above x back above
  remove_key-middle x (y ∷ ys) back above = by (is_eq (cmp x y)) (remove_key-middle x ys back above)
    where
      by : (b : Bool) → remove_key (is_at (cmp x)) (ys ++ back)
          ≡ remove_key (is_at (cmp x)) ys ++ back
          → cond b (ys ++ back) (y ∷ remove_key (is_at (cmp x)) (ys ++ back))
          ≡ cond b ys (y ∷ remove_key (is_at (cmp x)) ys) ++ back
      by true rest = refl
      by false rest = ap (λ l. y ∷ l) rest

  -- what ascends, in parts
  pub all-append : (P : X → Type 0) (xs ys : List X) → AllByRecursion P (xs ++ ys)
      → AllByRecursion P xs × AllByRecursion P ys
  all-append P [] ys all = (tt, all)
  all-append P (x ∷ xs) ys all = let rest = all-append P xs ys all.1 in ((all.0, rest.0), rest.1)

  pub all-both : (P : X → Type 0) (xs ys : List X) → AllByRecursion P xs → AllByRecursion P ys
      → AllByRecursion P (xs ++ ys)
  all-both P [] ys all more = more
  all-both P (x ∷ xs) ys all more = (all.0, all-both P xs ys all.1 more)

  pub all-map : (P Q : X → Type 0) → ((x : X) → P x → Q x) → (xs : List X) → AllByRecursion P xs
      → AllByRecursion Q xs
  all-map P Q f [] all = tt
  all-map P Q f (x ∷ xs) all = (f x all.0, all-map P Q f xs all.1)

  pub ascends-front : (xs ys : List X) → Ascends cmp (xs ++ ys) → Ascends cmp xs
  ascends-front [] ys up = tt
  ascends-front (x ∷ xs) ys up =
      ((all-append (λ y. cmp x y ≡ Less) xs ys up.0).0, ascends-front xs ys up.1)

  pub ascends-back : (xs ys : List X) → Ascends cmp (xs ++ ys) → Ascends cmp ys
  ascends-back [] ys up = up
  ascends-back (x ∷ xs) ys up = ascends-back xs ys up.1

  -- those before an element are below it
  pub ascends-before : (xs : List X) (y : X) (ys : List X) → Ascends cmp (xs ++ y ∷ ys)
      → AllByRecursion (λ x. cmp x y ≡ Less) xs
  ascends-before [] y ys up = tt
  ascends-before (x ∷ xs) y ys up =
      ((all-append (λ z. cmp x z ≡ Less) xs (y ∷ ys) up.0).1.0, ascends-before xs y ys up.1)

  -- an index, in the list that ascends
  pub split_at : (xs : List X) (at : ℕ) (d : X) → at < length xs
      → xs ≡ take at xs ++ get_or xs at d ∷ drop (suc at) xs
  split_at [] at d within = absurd (omega arith)
  split_at (x ∷ xs) zero d within = refl
  split_at (x ∷ xs) (suc at) d within = ap (λ l. x ∷ l) (split_at xs at d (omega arith))

  module _ (total : IsTotalOrder cmp) where
    pub turned_less : (x y : X) → cmp x y ≡ Less → cmp y x ≡ Greater
    turned_less x y less = total.antisymm y x ∙ ap ordering_reverse less

    pub turned_greater : (x y : X) → cmp x y ≡ Greater → cmp y x ≡ Less
    turned_greater x y greater = total.antisymm y x ∙ ap ordering_reverse greater

    pub turned_equal : (x y : X) → cmp x y ≡ Equal → cmp y x ≡ Equal
    turned_equal x y equal = total.antisymm y x ∙ ap ordering_reverse equal

    -- below what equals x is below x, and likewise above
    pub below_equal : (x y z : X) → cmp x y ≡ Equal → cmp z y ≡ Less → cmp x z ≡ Greater
    below_equal x y z equal less = total.congr x y z equal ∙ turned_less z y less

    pub above_equal : (x y z : X) → cmp x y ≡ Equal → cmp y z ≡ Less → cmp x z ≡ Less
    above_equal x y z equal less = total.congr x y z equal ∙ less

    -- edits keep the order
    all_insert_key : (P : X → Type 0) (x : X) (ys : List X) → P x → AllByRecursion P ys
        → AllByRecursion P (insert_key cmp ys x)
    all_insert_key P x [] one all = (one, tt)
    all_insert_key P x (y ∷ ys) one all = by (cmp x y) (all_insert_key P x ys one all.1)
      where
        by : (o : Ordering) → AllByRecursion P (insert_key cmp ys x)
            → AllByRecursion P (match_ordering o (x ∷ y ∷ ys) (y ∷ ys) (y ∷ insert_key cmp ys x))
        by Less rest = (one, all)
        by Equal rest = all
        by Greater rest = (all.0, rest)

    pub ascends-insert_key : (x : X) (ys : List X) → Ascends cmp ys
        → Ascends cmp (insert_key cmp ys x)
    ascends-insert_key x [] up = (tt, tt)
    ascends-insert_key x (y ∷ ys) up = by (cmp x y) refl (ascends-insert_key x ys up.1)
      where
        by : (o : Ordering) → cmp x y ≡ o → Ascends cmp (insert_key cmp ys x)
            → Ascends cmp (match_ordering o (x ∷ y ∷ ys) (y ∷ ys) (y ∷ insert_key cmp ys x))
        by Less is rest = (
          (
            is,
            all-map (λ z. cmp y z ≡ Less) (λ z. cmp x z ≡ Less)
                (λ z above. total.trans x y z is above) ys up.0,
          ),
          up,
        )
        by Equal is rest = up
        by Greater is rest =
            (all_insert_key (λ z. cmp y z ≡ Less) x ys (turned_greater x y is) up.0, rest)

    all_remove_key : (P : X → Type 0) (p : X → Bool) (ys : List X) → AllByRecursion P ys
        → AllByRecursion P (remove_key p ys)
    all_remove_key P p [] all = tt
    all_remove_key P p (y ∷ ys) all = by (p y) (all_remove_key P p ys all.1)
      where
        by : (b : Bool) → AllByRecursion P (remove_key p ys)
            → AllByRecursion P (cond b ys (y ∷ remove_key p ys))
        by true rest = all.1
        by false rest = (all.0, rest)

    pub ascends-remove_key : (p : X → Bool) (ys : List X) → Ascends cmp ys
        → Ascends cmp (remove_key p ys)
    ascends-remove_key p [] up = tt
    ascends-remove_key p (y ∷ ys) up = by (p y) (ascends-remove_key p ys up.1)
      where
        by : (b : Bool) → Ascends cmp (remove_key p ys)
            → Ascends cmp (cond b ys (y ∷ remove_key p ys))
        by true rest = up.1
        by false rest = (all_remove_key (λ z. cmp y z ≡ Less) p ys up.0, rest)

    -- a list that ascends can be searched
    steps_up : (xs : List X) → Ascends cmp xs → (k : ℕ) (d : X) → suc k < length xs
        → cmp (get_or xs k d) (get_or xs (suc k) d) ≡ Less
    steps_up [] up k d within = absurd (omega arith)
    steps_up (x ∷ []) up k d within = absurd (omega arith)
    steps_up (x ∷ y ∷ xs) up zero d within = up.0.0
    steps_up (x ∷ y ∷ xs) up (suc k) d within = steps_up (y ∷ xs) up.1 k d (omega arith)

    pub searchable : (x : X) (xs : List X) → Ascends cmp xs
        → IsNonDecreasingBy (λ y. ordering_index (cmp y x)) xs
    searchable x xs up =
        searchable_from_sorted total (λ y. y) xs x (λ k d low high.
        let after : cmp (get_or xs (suc k) d) (get_or xs k d) ≡ Greater =
        turned_less _ _ (steps_up xs up k d (omega arith)) in
        rw (add-one k) (rw after refl))

    -- where a binary search for x ends
    module _ (x : X) (xs : List X) (up : Ascends cmp xs) where
      -- at an element that equals x
      pub record IsFoundAt (at : ℕ) : Type 0 where
        pub front : List X
        pub here : X
        pub back : List X
        pub is : xs ≡ front ++ here ∷ back
        pub below : AreBelow cmp x front
        pub equal : cmp x here ≡ Equal
        pub above : AreAbove cmp x back
        pub removed : remove xs at ≡ front ++ back
        pub rest : drop at xs ≡ here ∷ back

      -- or where it would go
      pub record IsMissingAt (at : ℕ) : Type 0 where
        pub below : AreBelow cmp x (take at xs)
        pub above : AreAbove cmp x (drop at xs)

      pub found_at : (at : ℕ) → IsSearchInRange (Ok at) (length xs)
          → IsBinarySearchResult (λ y. cmp y x) xs (Ok at) → IsFoundAt at
      found_at at within equal =
          let is : xs ≡ take at xs ++ get_or xs at x ∷ drop (suc at) xs = split_at xs at x within in
          let up' : Ascends cmp (take at xs ++ get_or xs at x ∷ drop (suc at) xs) =
          subst (Ascends cmp) is up in
          let same : cmp x (get_or xs at x) ≡ Equal = turned_equal _ _ (equal x) in
          record {
            front = take at xs;
            here = get_or xs at x;
            back = drop (suc at) xs;
            is = is;
            below = all-map (λ z. cmp z (get_or xs at x) ≡ Less) (λ z. cmp x z ≡ Greater)
                (λ z less. below_equal x (get_or xs at x) z same less) (take at xs)
                (ascends-before (take at xs) (get_or xs at x) (drop (suc at) xs) up');
            equal = same;
            above = all-map (λ z. cmp (get_or xs at x) z ≡ Less) (λ z. cmp x z ≡ Less)
                (λ z less. above_equal x (get_or xs at x) z same less) (drop (suc at) xs)
                (ascends-back (take at xs) (get_or xs at x ∷ drop (suc at) xs) up').0;
            removed = refl;
            rest = rw (← add-one at) (drop_more xs at x within);
          }

      pub missing_at : (at : ℕ) → IsSearchInRange (Err at) (length xs)
          → IsBinarySearchResult (λ y. cmp y x) xs (Err at) → IsMissingAt at
      missing_at at within parted =
          let parts = parted (searchable x xs up) in
          record {
            below = recursion_from_All (λ y. cmp x y ≡ Greater) (take at xs) (λ k d inside.
                let under : k < at = omega (arith, length-take-le at xs within) in
                subst (λ y. cmp x y ≡ Greater) (sym (get_or-take at xs k d under))
                (turned_less _ _ (parts.0 k d (omega arith) under)));
            above = recursion_from_All (λ y. cmp x y ≡ Less) (drop at xs) (λ k d inside.
                let under : at + k < length xs = omega (arith, length-drop at xs) in
                subst (λ y. cmp x y ≡ Less) (sym (get_or-drop at xs k d))
                (turned_greater _ _ (parts.1 (at + k) d (omega arith) under)));
          }

      pub insert_missing : (at : ℕ) → IsSearchInRange (Err at) (length xs)
          → IsBinarySearchResult (λ y. cmp y x) xs (Err at) → insert xs at x ≡ insert_key cmp xs x
      insert_missing at within parted =
          let missing = missing_at at within parted in
          ap (λ l. take at xs ++ l) (sym (insert_key-above x (drop at xs) missing.above))
          ∙ sym (insert_key-below x (take at xs) (drop at xs) missing.below)
          ∙ ap (λ l. insert_key cmp l x) (take-append-drop at xs)

      pub insert_found : (at : ℕ) → IsSearchInRange (Ok at) (length xs)
          → IsBinarySearchResult (λ y. cmp y x) xs (Ok at) → xs ≡ insert_key cmp xs x
      insert_found at within equal =
          let found = found_at at within equal in
          found.is
          ∙ ap (λ l. found.front ++ l) (sym (insert_key-equal x found.here found.back found.equal))
          ∙ sym (insert_key-below x found.front (found.here ∷ found.back) found.below)
          ∙ ap (λ l. insert_key cmp l x) (sym found.is)

      pub remove_missing : (at : ℕ) → IsSearchInRange (Err at) (length xs)
          → IsBinarySearchResult (λ y. cmp y x) xs (Err at) → xs ≡ remove_key (is_at (cmp x)) xs
      remove_missing at within parted =
          let missing = missing_at at within parted in
          sym (take-append-drop at xs)
          ∙ ap (λ l. take at xs ++ l) (sym (remove_key-above x (drop at xs) missing.above))
          ∙ sym (remove_key-below x (take at xs) (drop at xs) missing.below)
          ∙ ap (λ l. remove_key (is_at (cmp x)) l) (take-append-drop at xs)

      pub remove_found : (at : ℕ) → IsSearchInRange (Ok at) (length xs)
          → IsBinarySearchResult (λ y. cmp y x) xs (Ok at)
          → remove xs at ≡ remove_key (is_at (cmp x)) xs
      remove_found at within equal =
          let found = found_at at within equal in
          found.removed
          ∙ ap (λ l. found.front ++ l) (sym (remove_key-equal x found.here found.back found.equal))
          ∙ sym (remove_key-below x found.front (found.here ∷ found.back) found.below)
          ∙ ap (λ l. remove_key (is_at (cmp x)) l) (sym found.is)

      pub from_missing : (at : ℕ) → IsSearchInRange (Err at) (length xs)
          → IsBinarySearchResult (λ y. cmp y x) xs (Err at) → elements_from cmp x xs ≡ drop at xs
      from_missing at within parted =
          let missing = missing_at at within parted in
          ap (λ l. elements_from cmp x l) (sym (take-append-drop at xs))
          ∙ elements_from-below x (take at xs) (drop at xs) missing.below
          ∙ elements_from-above x (drop at xs) missing.above

      pub from_found : (at : ℕ) → IsSearchInRange (Ok at) (length xs)
          → IsBinarySearchResult (λ y. cmp y x) xs (Ok at) → elements_from cmp x xs ≡ drop at xs
      from_found at within equal =
          let found = found_at at within equal in
          ap (λ l. elements_from cmp x l) found.is
          ∙ elements_from-below x found.front (found.here ∷ found.back) found.below
          ∙ elements_from-equal x found.here found.back found.equal found.above
          ∙ sym found.rest
