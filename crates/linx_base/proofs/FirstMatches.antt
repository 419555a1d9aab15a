use Rattle.std.proofs.Common.{◌≡◌, ℕ, zero, suc, ◌<◌, Bool, true, false, cond, List, [], ◌∷◌, ◌++◌}
use Rattle.std.proofs.Common.{length, get_or, refl, ap, sym, arith, nat_lt, Option, Some, None}
use Rattle.std.proofs.Common.{is_some, find, remove, All, position}
use Rattle.std.specs.List.{list_any, position_or_len}
use Rattle.std.specs.Option.{option_or}
use Rattle.std.proofs.lemmas.List.Quantifiers.{position-Some}
use Rattle.std.proofs.lemmas.List.Sums.{fails_before_first, position_or_len_is}
use Rattle.std.proofs.lemmas.Bool.Decides.{nat_tests}
use Rattle.std.proofs.lemmas.List.Elements.{All-cons, All-nil, All-tail}
use Rattle.linx_base.specs.FirstMatch.{TakesEarliest, first_match, without_match, without_beside}

module _ {X : Type 0} (p : X → Bool) where
  -- the first match is what std's `find` gives
  pub first_match-find : (xs : List X) → first_match p xs ≡ find p xs
  first_match-find [] = refl
  first_match-find (x ∷ xs) = ap (λ r. cond (p x) (Some x) r) (first_match-find xs)

  -- there is one where some element passes
  pub is_some-first_match : (xs : List X) → is_some (first_match p xs) ≡ list_any p xs
  is_some-first_match [] = refl
  is_some-first_match (x ∷ xs) =
      let rest : is_some (first_match p xs) ≡ list_any p xs = is_some-first_match xs in
      grind (arith, rest)

  -- the place of the first match, where all before it fail
  pub first_match_at : (xs : List X) (k : ℕ) (d : X) → k < length xs → p (get_or xs k d) ≡ true
      → ((j : ℕ) → j < k → p (get_or xs j d) ≡ false) → first_match p xs ≡ Some (get_or xs k d)
  first_match_at [] k d inside passes earlier = absurd (omega arith)
  first_match_at (x ∷ xs) zero d inside passes earlier = rw passes refl
  first_match_at (x ∷ xs) (suc k) d inside passes earlier =
      let fails : p x ≡ false = earlier 0 (omega arith) in
      rw fails (first_match_at xs k d (omega arith) passes
      (λ j below. earlier (suc j) (omega arith)))

  pub without_match_at : (xs : List X) (k : ℕ) (d : X) → k < length xs → p (get_or xs k d) ≡ true
      → ((j : ℕ) → j < k → p (get_or xs j d) ≡ false) → without_match p xs ≡ remove xs k
  without_match_at [] k d inside passes earlier = absurd (omega arith)
  without_match_at (x ∷ xs) zero d inside passes earlier = rw passes refl
  without_match_at (x ∷ xs) (suc k) d inside passes earlier =
      let fails : p x ≡ false = earlier 0 (omega arith) in
      rw fails (ap (λ l. x ∷ l) (without_match_at xs k d (omega arith) passes
      (λ j below. earlier (suc j) (omega arith))))

  pub without_beside_at : {Y : Type 0} (xs : List X) (ys : List Y) (k : ℕ) (d : X)
      → length ys ≡ length xs → k < length xs → p (get_or xs k d) ≡ true
      → ((j : ℕ) → j < k → p (get_or xs j d) ≡ false) → without_beside p xs ys ≡ remove ys k
  without_beside_at [] ys k d same inside passes earlier = absurd (omega arith)
  without_beside_at (x ∷ xs) [] k d same inside passes earlier = absurd (omega arith)
  without_beside_at (x ∷ xs) (y ∷ ys) zero d same inside passes earlier = rw passes refl
  without_beside_at (x ∷ xs) (y ∷ ys) (suc k) d same inside passes earlier =
      let fails : p x ≡ false = earlier 0 (omega arith) in
      rw fails (ap (λ l. y ∷ l) (without_beside_at xs ys k d (omega arith) (omega arith) passes
      (λ j below. earlier (suc j) (omega arith))))

  -- the first match is the earliest that passes
  pub earliest_first_match : (xs : List X) (x : X) → Some x ≡ first_match p xs
      → TakesEarliest p xs x (without_match p xs)
  earliest_first_match [] x is = cc
  earliest_first_match (y ∷ xs) x is =
      let go : (b : Bool) → p y ≡ b → TakesEarliest p (y ∷ xs) x (without_match p (y ∷ xs)) = λ b.
      elim b as (λ c. p y ≡ c → TakesEarliest p (y ∷ xs) x (without_match p (y ∷ xs))) [
        | true ↦ λ e.
            let found : Some x ≡ Some y = rw e at is in
            let same : x ≡ y = cc in
            record {
              front = [];
              back = xs;
              was = ap (λ z. z ∷ xs) (sym same);
              earlier = All-nil (λ z. p z ≡ false);
              passes = rw same e;
              left = rw e refl;
            }
        | false ↦ λ e.
            let later : Some x ≡ first_match p xs = rw e at is in
            let rest : TakesEarliest p xs x (without_match p xs) =
            earliest_first_match xs x later in
            record {
              front = y ∷ rest.front;
              back = rest.back;
              was = ap (λ l. y ∷ l) rest.was;
              earlier = All-cons (λ z. p z ≡ false) y rest.front e rest.earlier;
              passes = rest.passes;
              left = rw e (ap (λ l. y ∷ l) rest.left);
            }
      ]
      in
      go (p y) refl

  -- and where there is none, all fail
  pub all_fail_first_match : (xs : List X) → None ≡ first_match p xs → All (λ x. p x ≡ false) xs
  all_fail_first_match [] is = All-nil (λ x. p x ≡ false)
  all_fail_first_match (y ∷ xs) is =
      let go : (b : Bool) → p y ≡ b → All (λ x. p x ≡ false) (y ∷ xs) = λ b.
      elim b as (λ c. p y ≡ c → All (λ x. p x ≡ false) (y ∷ xs)) [
        | true ↦ λ e. let found : None ≡ Some y = rw e at is in cc
        | false ↦ λ e. let later : None ≡ first_match p xs = rw e at is in
            All-cons (λ x. p x ≡ false) y xs e (all_fail_first_match xs later)
      ]
      in
      go (p y) refl

  -- where all fail
  pub first_match_none : (xs : List X) → All (λ x. p x ≡ false) xs → first_match p xs ≡ None
  first_match_none [] all = refl
  first_match_none (x ∷ xs) all =
      let fails : p x ≡ false = all 0 x (omega arith) in
      rw fails (first_match_none xs (All-tail (λ y. p y ≡ false) x xs all))

  pub without_match_none : (xs : List X) → All (λ x. p x ≡ false) xs → without_match p xs ≡ xs
  without_match_none [] all = refl
  without_match_none (x ∷ xs) all =
      let fails : p x ≡ false = all 0 x (omega arith) in
      rw fails (ap (λ l. x ∷ l) (without_match_none xs (All-tail (λ y. p y ≡ false) x xs all)))

  pub without_beside_none : {Y : Type 0} (xs : List X) (ys : List Y) → All (λ x. p x ≡ false) xs
      → without_beside p xs ys ≡ ys
  without_beside_none [] ys all = refl
  without_beside_none (x ∷ xs) [] all = refl
  without_beside_none (x ∷ xs) (y ∷ ys) all =
      let fails : p x ≡ false = all 0 x (omega arith) in
      rw fails (ap (λ l. y ∷ l) (without_beside_none xs ys (All-tail (λ z. p z ≡ false) x xs all)))

  -- the same by std's `position`
  pub position_at : (xs : List X) (k : ℕ) (d : X) → k < length xs → p (get_or xs k d) ≡ true
      → ((j : ℕ) → j < k → p (get_or xs j d) ≡ false) → position p xs ≡ Some k
  position_at xs k d inside passes earlier =
      let first : position_or_len p xs ≡ k = position_or_len_is p xs k d (omega arith) earlier
      (λ _. passes) in
      let under : nat_lt k (length xs) ≡ true = grind (arith, nat_tests) in
      rw first (rw under refl)

  pub position_none : (xs : List X) → All (λ x. p x ≡ false) xs → position p xs ≡ None
  position_none [] all = refl
  position_none (x ∷ xs) all =
      let past : position_or_len p (x ∷ xs) ≡ length (x ∷ xs) =
      position_or_len_is p (x ∷ xs) (length (x ∷ xs)) x (omega arith) (λ k below. all k x below)
      (λ within. absurd (omega arith)) in
      let over : nat_lt (length (x ∷ xs)) (length (x ∷ xs)) ≡ false = grind (arith, nat_tests) in
      let is : cond (nat_lt (position_or_len p (x ∷ xs)) (length (x ∷ xs)))
      (Some (position_or_len p (x ∷ xs))) None ≡ None = rw past (rw over refl) in
      is

  pub none_from_position : (xs : List X) → position p xs ≡ None → All (λ x. p x ≡ false) xs
  none_from_position xs is =
      let go : (b : Bool) → nat_lt (position_or_len p xs) (length xs) ≡ b
      → All (λ x. p x ≡ false) xs = λ b.
      elim b as (λ c. nat_lt (position_or_len p xs) (length xs) ≡ c → All (λ x. p x ≡ false) xs) [
        | true ↦ λ e. let some : Some (position_or_len p xs) ≡ None = rw e at is in cc
        | false ↦ λ e k d within. fails_before_first p xs k d (grind (arith, nat_tests))
      ]
      in
      go (nat_lt (position_or_len p xs) (length xs)) refl

  pub first_match-position : (xs : List X) (k : ℕ) (d : X) → position p xs ≡ Some k
      → first_match p xs ≡ Some (get_or xs k d)
  first_match-position xs k d is = let at = position-Some p xs k d is in
      first_match_at xs k d at.0 at.1 at.2

  pub without_match-position : (xs : List X) (k : ℕ) (d : X) → position p xs ≡ Some k
      → without_match p xs ≡ remove xs k
  without_match-position xs k d is = let at = position-Some p xs k d is in
      without_match_at xs k d at.0 at.1 at.2

  pub without_beside-position : {Y : Type 0} (xs : List X) (ys : List Y) (k : ℕ) (d : X)
      → length ys ≡ length xs → position p xs ≡ Some k → without_beside p xs ys ≡ remove ys k
  without_beside-position xs ys k d same is = let at = position-Some p xs k d is in
      without_beside_at xs ys k d same at.0 at.1 at.2

  -- over two lists joined: the match is the first list's where it has one
  pub first_match-append : (xs ys : List X) → first_match p (xs ++ ys)
      ≡ option_or (first_match p xs) (first_match p ys)
  first_match-append [] ys = refl
  first_match-append (x ∷ xs) ys =
      let rest : first_match p (xs ++ ys) ≡ option_or (first_match p xs) (first_match p ys) =
      first_match-append xs ys in
      grind (arith, rest)

  pub without_match-append : (xs ys : List X) → without_match p (xs ++ ys)
      ≡ cond (list_any p xs) (without_match p xs ++ ys) (xs ++ without_match p ys)
  without_match-append [] ys = refl
  without_match-append (x ∷ xs) ys =
      let rest : without_match p (xs ++ ys) ≡ cond (list_any p xs) (without_match p xs ++ ys) (xs
      ++ without_match p ys) = without_match-append xs ys in
      grind (arith, rest)

  -- what has no place doesn't match
  pub first_match-no_place : (xs : List X) → position p xs ≡ None → first_match p xs ≡ None
  first_match-no_place xs is = first_match_none xs (none_from_position xs is)

  pub without_match-no_place : (xs : List X) → position p xs ≡ None → without_match p xs ≡ xs
  without_match-no_place xs is = without_match_none xs (none_from_position xs is)

  -- there is a place exactly where there is a match
  pub is_some-position : (xs : List X) → is_some (position p xs) ≡ is_some (first_match p xs)
  is_some-position xs = by_place xs (position p xs) refl
    where
      by_place : (xs : List X) (r : Option ℕ) → position p xs ≡ r
          → is_some r ≡ is_some (first_match p xs)
      by_place xs None is = ap is_some (sym (first_match-no_place xs is))
      by_place [] (Some k) is = cc
      by_place (x ∷ xs) (Some k) is = ap is_some (sym (first_match-position (x ∷ xs) k x is))
