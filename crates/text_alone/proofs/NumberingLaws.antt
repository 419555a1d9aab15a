-- The names of a text have all that are told and all others.
use Rattle.std.proofs.Common.{◌≡◌, ℕ, zero, suc, ◌+◌, ◌≤◌, ◌<◌, Bool, true, false, not}
use Rattle.std.proofs.Common.{List, [], ◌∷◌, ◌++◌, length, refl, sym, ap, ◌∙◌, Option, Some}
use Rattle.std.proofs.Common.{None, arith, ◌||◌, nat_lt, bytes_eq, position, unwrap_or, lt-ltb, ltb-true}
use Rattle.std.proofs.Common.{length-append, ⊎_elim}
use Rattle.std.specs.List.{list_all, list_any, position_or_len}
use Rattle.std.proofs.lemmas.Bool.{and_from, and_parts, cases_eq, cond-false, cond-true}
use Rattle.std.proofs.lemmas.List.Folds.{list_all-append, list_any-append}
use Rattle.linx_base.specs.NameText.{is_name}
use Rattle.journal_words.specs.Names.{named_in, numbered}
use Rattle.text_names.specs.declared.told_names.Numbered.{Numbered}
use Rattle.text_names.specs.Numbering.{behind_name, highest, name_at, names_up_to, nobody}
use Rattle.text_names.specs.Numbering.{numbered_names, told_name}
use Rattle.text_names.specs.OtherNames.{has_name}
use Rattle.text_words.specs.Gives.{◌>>=◌}
use Rattle.reading_laws.proofs.Tools.{bind_some, if_some_yes}
use Rattle.text_alone.proofs.Differing.{has_front, has_last}
use Rattle.text_alone.proofs.ToldLaws.{AreTold}
use Rattle.text_alone.proofs.OtherLaws.{covered_ways, is_covered}

module _ (told : List Numbered) (others : List (List ℕ)) where
  abbrev up_to : ℕ → List (List ℕ) × List (List ℕ)
  up_to n = names_up_to n told others

  -- ---- what is told

  told_there : (n k : ℕ) (w : List ℕ) → 1 ≤ k → k ≤ n → told_name k told ≡ Some w
      → has_name w (up_to n).0 ≡ true
  told_there zero k w first last at = absurd (omega (arith, first, last))
  told_there (suc n) k w first last at = ⊎_elim
      (λ (here : k ≡ suc n).
      let it : told_name (suc n) told ≡ Some w =
      ap (λ (m : ℕ). told_name m told) (sym here) ∙ at
      in
      ap (λ (o : Option (List ℕ)). has_name w ((up_to n).0 ++ name_at o (up_to n).1 ∷ [])) it
      ∙ has_last w (up_to n).0)
      (λ (other : k ≡ suc n → ⊥).
      has_front w (up_to n).0 (name_at (told_name (suc n) told) (up_to n).1 ∷ [])
      (told_there n k w first (omega (arith, last)) at))
      (cases_eq k (suc n))

  -- ---- the others

  either : (f b r : Bool) → (f || r) ≡ true → ((f || b) || r) ≡ true
  either true b r h = refl
  either false true r h = refl
  either false false r h = h

  moved : (f b r : Bool) → (f || (b || r)) ≡ true → ((f || (b || false)) || r) ≡ true
  moved true b r h = refl
  moved false true r h = refl
  moved false false r h = h

  one_more : (o : Option (List ℕ)) (front rest : List (List ℕ)) (w : List ℕ)
      → (has_name w front || has_name w rest) ≡ true
      → (has_name w (front ++ name_at o rest ∷ []) || has_name w (behind_name o rest)) ≡ true
  one_more (Some v) front rest w h =
      ap (λ (b : Bool). b || has_name w rest)
      (list_any-append (λ name. bytes_eq name w) front (v ∷ []))
      ∙ either (has_name w front) (has_name w (v ∷ [])) (has_name w rest) h
  one_more None front [] w h =
      ap (λ (b : Bool). b || false)
      (list_any-append (λ name. bytes_eq name w) front (nobody ∷ []))
      ∙ either (has_name w front) (has_name w (nobody ∷ [])) false h
  one_more None front (v ∷ rest) w h =
      ap (λ (b : Bool). b || has_name w rest)
      (list_any-append (λ name. bytes_eq name w) front (v ∷ []))
      ∙ moved (has_name w front) (bytes_eq v w) (has_name w rest) h

  others_there : (n : ℕ) (w : List ℕ) → has_name w others ≡ true
      → (has_name w (up_to n).0 || has_name w (up_to n).1) ≡ true
  others_there zero w h = h
  others_there (suc n) w h =
      one_more (told_name (suc n) told) (up_to n).0 (up_to n).1 w (others_there n w h)

  pub covered_there : AreTold told → (w : List ℕ) → is_covered told others w ≡ true
      → has_name w (numbered_names told others) ≡ true
  covered_there are w covered =
      let n = highest told in
      covered_ways told others w covered
      (λ h.
      let at = are.stand w h in
      has_front w (up_to n).0 (up_to n).1
      (told_there n at.number w at.first at.last at.there))
      (λ h.
      list_any-append (λ name. bytes_eq name w) (up_to n).0 (up_to n).1 ∙ others_there n w h)

  -- ---- all of them are names, and not too many

  next_named : (o : Option (List ℕ)) (rest : List (List ℕ))
      → ((name : List ℕ) → o ≡ Some name → is_name name ≡ true) → list_all is_name rest ≡ true
      → (is_name (name_at o rest) ≡ true) × (list_all is_name (behind_name o rest) ≡ true)
  next_named (Some name) rest named all = (named name refl, all)
  next_named None [] named all = (refl, refl)
  next_named None (name ∷ rest) named all =
      and_parts (is_name name) (list_all is_name rest) all

  up_named : AreTold told → list_all is_name others ≡ true → (n : ℕ)
      → (list_all is_name (up_to n).0 ≡ true) × (list_all is_name (up_to n).1 ≡ true)
  up_named are all zero = (refl, all)
  up_named are all (suc n) =
      let before = up_named are all n in
      let next =
      next_named (told_name (suc n) told) (up_to n).1 (are.named (suc n)) before.1
      in (
        list_all-append is_name (up_to n).0 (name_at (told_name (suc n) told) (up_to n).1 ∷ [])
            ∙ and_from _ _ before.0 (and_from _ _ next.0 refl),
        next.1,
      )

  pub are_all_names : AreTold told → list_all is_name others ≡ true
      → list_all is_name (numbered_names told others) ≡ true
  are_all_names are all =
      let both = up_named are all (highest told) in
      list_all-append is_name (up_to (highest told)).0 (up_to (highest told)).1
      ∙ and_from _ _ both.0 both.1

  fewer_behind : (o : Option (List ℕ)) (rest : List (List ℕ))
      → length (behind_name o rest) ≤ length rest
  fewer_behind (Some name) rest = omega arith
  fewer_behind None [] = omega arith
  fewer_behind None (name ∷ rest) = omega arith

  up_count : (n : ℕ) → (length (up_to n).0 ≡ n) × (length (up_to n).1 ≤ length others)
  up_count zero = (refl, omega arith)
  up_count (suc n) =
      let before = up_count n in
      let one = before.0 in
      let rest = before.1 in
      let name = name_at (told_name (suc n) told) (up_to n).1 in (
        omega (arith, one, length-append (up_to n).0 (name ∷ [])),
        omega (arith, rest, fewer_behind (told_name (suc n) told) (up_to n).1),
      )

  pub are_not_many : AreTold told → length others ≤ 64
      → length (numbered_names told others) ≤ 128
  are_not_many are few =
      let n = highest told in
      let both = up_count n in
      let one = both.0 in
      let rest = both.1 in
      let most = are.most in
      omega (arith, one, rest, most, few, length-append (up_to n).0 (up_to n).1)

-- ---- a name among names has a number

-- the number of a name, or 0
abbrev pub number_of : List (List ℕ) → List ℕ → ℕ
number_of names w = unwrap_or (named_in names w) 0

-- the word names one of these
abbrev pub IsNamed : List (List ℕ) → List ℕ → Type 0
IsNamed names w = named_in names w ≡ Some (number_of names w)

found_here : (p : List ℕ → Bool) (x : List ℕ) (xs : List (List ℕ)) (b : Bool) → p x ≡ b
    → (b || list_any p xs) ≡ true → (list_any p xs ≡ true → position_or_len p xs < length xs)
    → position_or_len p (x ∷ xs) < length (x ∷ xs)
found_here p x xs true e h before =
    let at : position_or_len p (x ∷ xs) ≡ 0 =
    cond-false (not (p x)) (1 + position_or_len p xs) 0 (ap not e)
    in
    omega (arith, at)
found_here p x xs false e h before =
    let rest = before h in
    let at : position_or_len p (x ∷ xs) ≡ 1 + position_or_len p xs =
    cond-true (not (p x)) (1 + position_or_len p xs) 0 (ap not e)
    in
    omega (arith, at, rest)

found_before : (p : List ℕ → Bool) (xs : List (List ℕ)) → list_any p xs ≡ true
    → position_or_len p xs < length xs
found_before p [] h = cc
found_before p (x ∷ xs) h = found_here p x xs (p x) refl h (λ k. found_before p xs k)

pub is_named : (names : List (List ℕ)) (w : List ℕ) → has_name w names ≡ true
    → length names ≤ 128 → IsNamed names w
unfolding named_in
is_named names w h few =
    let p : List ℕ → Bool = λ name. bytes_eq name w in
    let k = position_or_len p names in
    let within = found_before p names h in
    let at : position p names ≡ Some k = cond-true _ _ None (lt-ltb k (length names) within) in
    let fits : k < 4294967295 = omega (arith, within, few) in
    let number : numbered k ≡ Some (k + 1) = cond-true _ _ None (lt-ltb k 4294967295 fits) in
    let e : named_in names w ≡ Some (k + 1) =
    ap (λ (o : Option ℕ). o >>= numbered) at ∙ number
    in
    e ∙ sym (ap (λ (o : Option ℕ). Some (unwrap_or o 0)) e)

-- what is named is among the names
named_here : (p : List ℕ → Bool) (x : List ℕ) (xs : List (List ℕ)) (b : Bool) → p x ≡ b
    → position_or_len p (x ∷ xs) < length (x ∷ xs)
    → (position_or_len p xs < length xs → list_any p xs ≡ true) → (b || list_any p xs) ≡ true
named_here p x xs true e h before = refl
named_here p x xs false e h before =
    let at : position_or_len p (x ∷ xs) ≡ 1 + position_or_len p xs =
    cond-true (not (p x)) (1 + position_or_len p xs) 0 (ap not e)
    in
    before (omega (arith, at, h))

named_before : (p : List ℕ → Bool) (xs : List (List ℕ)) → position_or_len p xs < length xs
    → list_any p xs ≡ true
named_before p [] h = absurd (omega (arith, h))
named_before p (x ∷ xs) h = named_here p x xs (p x) refl h (λ k. named_before p xs k)

pub has_named : (names : List (List ℕ)) (w : List ℕ) (n : ℕ) → named_in names w ≡ Some n
    → has_name w names ≡ true
unfolding named_in
has_named names w n h =
    let p : List ℕ → Bool = λ name. bytes_eq name w in
    let at = bind_some (position p names) numbered n h in
    let chosen =
    if_some_yes (nat_lt (position_or_len p names) (length names)) (Some (position_or_len p names))
    at.0 at.1
    in
    named_before p names (ltb-true (position_or_len p names) (length names) chosen.0)
