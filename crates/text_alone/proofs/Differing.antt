-- Names of which no two are the same are no more than those that they are among.
use Rattle.std.proofs.Common.{inl, inr, ◌≡◌, ℕ, suc, ◌≤◌, Bool, true, false, cond, List, [], ◌∷◌}
use Rattle.std.proofs.Common.{◌++◌, length, refl, sym, ap, ◌∙◌, arith, ◌||◌, bytes_eq}
use Rattle.std.specs.List.{list_all}
use Rattle.std.proofs.lemmas.Bool.{and_from, and_parts, cases_Bool, both_ways}
use Rattle.std.proofs.lemmas.Bool.{false_from_ne_true}
use Rattle.std.proofs.lemmas.List.Folds.{list_any-append}
use Rattle.linx_base.specs.NameText.{is_name}
use Rattle.text_names.specs.OtherNames.{has_name}
use Rattle.reading_laws.proofs.Tools.{same_text, text_itself}

-- each of the words is one of these names
abbrev pub AreAmong : List (List ℕ) → List (List ℕ) → Type 0
AreAmong [] names = Unit {0}
AreAmong (x ∷ xs) names = (has_name x names ≡ true) × AreAmong xs names

-- no two words are the same
abbrev pub Differ : List (List ℕ) → Type 0
Differ [] = Unit {0}
Differ (x ∷ xs) = (has_name x xs ≡ false) × Differ xs

or_false : (a b : Bool) → (a || b) ≡ false → (a ≡ false) × (b ≡ false)
or_false true b h = cc
or_false false b h = (refl, h)

other_way : (x y : List ℕ) → bytes_eq x y ≡ false → bytes_eq y x ≡ false
other_way x y fails =
    false_from_ne_true _ (λ holds.
    let same = same_text y x holds in
    both_ways (bytes_eq x y) fails (ap (λ (w : List ℕ). bytes_eq x w) same ∙ text_itself x))

-- names without the first that the word is
abbrev without : List ℕ → List (List ℕ) → List (List ℕ)
without x [] = []
without x (y ∷ ys) = cond (bytes_eq y x) ys (y ∷ without x ys)

length-without : (x : List ℕ) (ys : List (List ℕ)) → has_name x ys ≡ true
    → length ys ≡ suc (length (without x ys))
length-without x [] h = cc
length-without x (y ∷ ys) h =
    elim (cases_Bool (bytes_eq y x)) [
      | inl holds ↦ rw holds refl
      | inr fails ↦
          let rest : has_name x ys ≡ true = rw fails at h in
          rw fails (ap suc (length-without x ys rest))
    ]

stays : (x z : List ℕ) (ys : List (List ℕ)) → bytes_eq x z ≡ false → has_name z ys ≡ true
    → has_name z (without x ys) ≡ true
stays x z [] other h = cc
stays x z (y ∷ ys) other h =
    elim (cases_Bool (bytes_eq y x)) [
      | inl holds ↦
          let unlike : bytes_eq y z ≡ false =
          ap (λ (w : List ℕ). bytes_eq w z) (same_text y x holds) ∙ other
          in
          let rest : has_name z ys ≡ true = rw unlike at h in
          rw holds rest
      | inr fails ↦
          elim (cases_Bool (bytes_eq y z)) [
            | inl it ↦ rw (fails, it) refl
            | inr unlike ↦
                let rest : has_name z ys ≡ true = rw unlike at h in
                rw (fails, unlike) (stays x z ys other rest)
          ]
    ]

among_without : (x : List ℕ) (xs ys : List (List ℕ)) → has_name x xs ≡ false → AreAmong xs ys
    → AreAmong xs (without x ys)
among_without x [] ys none are = tt
among_without x (z ∷ xs) ys none are =
    let parts = or_false (bytes_eq z x) (has_name x xs) none in
    (stays x z ys (other_way z x parts.0) are.0, among_without x xs ys parts.1 are.1)

pub are_fewer : (xs ys : List (List ℕ)) → Differ xs → AreAmong xs ys → length xs ≤ length ys
are_fewer [] ys differ are = omega arith
are_fewer (x ∷ xs) ys differ are =
    let one = length-without x ys are.0 in
    let rest =
    are_fewer xs (without x ys) differ.1 (among_without x xs ys differ.0 are.1)
    in
    omega (arith, one, rest)

-- one more at the end
pub differ_more : (xs : List (List ℕ)) (w : List ℕ) → Differ xs → has_name w xs ≡ false
    → Differ (xs ++ w ∷ [])
differ_more [] w differ none = (refl, tt)
differ_more (x ∷ xs) w differ none =
    let parts = or_false (bytes_eq x w) (has_name w xs) none in
    let unlike = other_way x w parts.0 in
    let apart : has_name x (xs ++ w ∷ []) ≡ false =
    list_any-append (λ name. bytes_eq name x) xs (w ∷ []) ∙ rw (differ.0, unlike) refl
    in
    (apart, differ_more xs w differ.1 parts.1)

pub among_more : (xs names : List (List ℕ)) (w : List ℕ) → AreAmong xs names
    → has_name w names ≡ true → AreAmong (xs ++ w ∷ []) names
among_more [] names w are is = (is, tt)
among_more (x ∷ xs) names w are is = (are.0, among_more xs names w are.1 is)

-- in front, and at the end
pub has_front : (w : List ℕ) (xs ys : List (List ℕ)) → has_name w xs ≡ true
    → has_name w (xs ++ ys) ≡ true
has_front w xs ys h = list_any-append (λ name. bytes_eq name w) xs ys ∙ rw h refl

pub has_last : (w : List ℕ) (xs : List (List ℕ)) → has_name w (xs ++ w ∷ []) ≡ true
has_last w [] = rw (text_itself w) refl
has_last w (x ∷ xs) =
    elim (cases_Bool (bytes_eq x w)) [
      | inl holds ↦ rw holds refl
      | inr fails ↦ rw fails (has_last w xs)
    ]

-- a word among names is a name
pub one_is_name : (w : List ℕ) (names : List (List ℕ)) → has_name w names ≡ true
    → list_all is_name names ≡ true → is_name w ≡ true
one_is_name w [] h all = cc
one_is_name w (x ∷ xs) h all =
    let parts = and_parts (is_name x) (list_all is_name xs) all in
    elim (cases_Bool (bytes_eq x w)) [
      | inl holds ↦ ap is_name (sym (same_text x w holds)) ∙ parts.0
      | inr fails ↦
          let rest : has_name w xs ≡ true = rw fails at h in
          one_is_name w xs rest parts.1
    ]

pub among_are_names : (xs names : List (List ℕ)) → AreAmong xs names
    → list_all is_name names ≡ true → list_all is_name xs ≡ true
among_are_names [] names are all = refl
among_are_names (x ∷ xs) names are all =
    and_from _ _ (one_is_name x names are.0 all) (among_are_names xs names are.1 all)
