-- Each name that lines have is told, or stands among the others.
use Rattle.std.proofs.Common.{◌≡◌, ℕ, ◌≤◌, Bool, true, false, cond, List, [], ◌∷◌, ◌++◌, length}
use Rattle.std.proofs.Common.{refl, ap, ◌∙◌, Option, Some, None, arith, ◌||◌, nat_le, bytes_eq}
use Rattle.std.proofs.Common.{leb-true}
use Rattle.std.proofs.lemmas.List.Folds.{list_any-append}
use Rattle.linx_base.specs.NameText.{is_name}
use Rattle.text_names.specs.declared.told_names.Numbered.{Numbered}
use Rattle.text_names.specs.OtherNames.{has_name, with_if_named, with_other}
use Rattle.text_names.specs.ToldNames.{has_told}
use Rattle.text_alone.proofs.Differing.{AreAmong, Differ, among_more, are_fewer, differ_more}
use Rattle.text_alone.proofs.Differing.{has_last}

-- different words, each among these names
pub record AreOthers (names others : List (List ℕ)) : Type 0 where
  pub differ : Differ others
  pub among : AreAmong others names

-- the word is told, or among the others
abbrev pub is_covered : List Numbered → List (List ℕ) → List ℕ → Bool
is_covered told others w = has_told w told || has_name w others

-- a name of a line, if it has one, is among these names, and is a name
abbrev pub IsAmong : List (List ℕ) → Option (List ℕ) → Type 0
IsAmong names None = Unit {0}
IsAmong names (Some w) = (has_name w names ≡ true) × (is_name w ≡ true)

abbrev pub AllAmong : List (List ℕ) → List (Option (List ℕ)) → Type 0
AllAmong names [] = Unit {0}
AllAmong names (o ∷ os) = IsAmong names o × AllAmong names os

-- and is told, or among the others
abbrev pub IsCovered : List Numbered → List (List ℕ) → Option (List ℕ) → Type 0
IsCovered told others None = Unit {0}
IsCovered told others (Some w) = is_covered told others w ≡ true

abbrev pub AllCovered : List Numbered → List (List ℕ) → List (Option (List ℕ)) → Type 0
AllCovered told others [] = Unit {0}
AllCovered told others (o ∷ os) = IsCovered told others o × AllCovered told others os

-- the others with those of lines
abbrev pub grown : List Numbered → List (List ℕ) → List (Option (List ℕ)) → List (List ℕ)
grown told others [] = others
grown told others (o ∷ os) = grown told (with_if_named told others o) os

module _ (told : List Numbered) (names : List (List ℕ)) where
  others_with : (others : List (List ℕ)) (w : List ℕ) → AreOthers names others
      → has_name w names ≡ true → AreOthers names (with_other told others w)
  unfolding with_other
  others_with others w are is =
      go (nat_le 64 (length others)) (has_told w told) (has_name w others) refl (is_name w)
    where
      go : (a t b : Bool) → has_name w others ≡ b → (c : Bool)
          → AreOthers names (cond ((a || t) || b) others (cond c (others ++ w ∷ []) others))
      go true t b e c = are
      go false true b e c = are
      go false false true e c = are
      go false false false e true = record {
        differ = differ_more others w are.differ e;
        among = among_more others names w are.among is;
      }
      go false false false e false = are

  others_if : (others : List (List ℕ)) (o : Option (List ℕ)) → AreOthers names others
      → IsAmong names o → AreOthers names (with_if_named told others o)
  others_if others None are is = are
  others_if others (Some w) are is = others_with others w are is.0

  pub others_grown : (others : List (List ℕ)) (os : List (Option (List ℕ)))
      → AreOthers names others → AllAmong names os → AreOthers names (grown told others os)
  others_grown others [] are is = are
  others_grown others (o ∷ os) are is =
      others_grown (with_if_named told others o) os (others_if others o are is.0) is.1

  covered_now : (others : List (List ℕ)) (w : List ℕ) → AreOthers names others
      → length names ≤ 64 → has_name w names ≡ true → is_name w ≡ true
      → is_covered told (with_other told others w) w ≡ true
  unfolding with_other
  covered_now others w are few is named =
      go (nat_le 64 (length others)) refl (has_told w told) refl (has_name w others) refl
      (is_name w) named
    where
      go : (a : Bool) → nat_le 64 (length others) ≡ a → (t : Bool) → has_told w told ≡ t
          → (b : Bool) → has_name w others ≡ b → (c : Bool) → c ≡ true
          → (t || has_name w (cond ((a || t) || b) others (cond c (others ++ w ∷ []) others)))
          ≡ true
      go a ea true et b eb c ec = refl
      go true ea false et true eb c ec = eb
      go false ea false et true eb c ec = eb
      go true ea false et false eb c ec =
          let full = leb-true 64 (length others) ea in
          let fewer = are_fewer (w ∷ others) names (eb, are.differ) (is, are.among) in
          absurd (omega (arith, full, fewer, few))
      go false ea false et false eb true ec = has_last w others
      go false ea false et false eb false ec = cc

  or_more : (t a b : Bool) → (t || a) ≡ true → (t || (a || b)) ≡ true
  or_more true a b h = refl
  or_more false true b h = refl
  or_more false false b h = cc

  covered_with : (others : List (List ℕ)) (v w : List ℕ) → is_covered told others w ≡ true
      → is_covered told (with_other told others v) w ≡ true
  unfolding with_other
  covered_with others v w h =
      go (nat_le 64 (length others) || has_told v told || has_name v others) (is_name v)
    where
      go : (a c : Bool)
          → is_covered told (cond a others (cond c (others ++ v ∷ []) others)) w ≡ true
      go true c = h
      go false true =
          ap (λ (b : Bool). has_told w told || b)
          (list_any-append (λ name. bytes_eq name w) others (v ∷ []))
          ∙ or_more (has_told w told) (has_name w others) (has_name w (v ∷ [])) h
      go false false = h

  covered_if : (others : List (List ℕ)) (o : Option (List ℕ)) (w : List ℕ)
      → is_covered told others w ≡ true → is_covered told (with_if_named told others o) w ≡ true
  covered_if others None w h = h
  covered_if others (Some v) w h = covered_with others v w h

  covered_later : (others : List (List ℕ)) (os : List (Option (List ℕ))) (w : List ℕ)
      → is_covered told others w ≡ true → is_covered told (grown told others os) w ≡ true
  covered_later others [] w h = h
  covered_later others (o ∷ os) w h =
      covered_later (with_if_named told others o) os w (covered_if others o w h)

  pub all_covered : (others : List (List ℕ)) (os : List (Option (List ℕ)))
      → AreOthers names others → length names ≤ 64 → AllAmong names os
      → AllCovered told (grown told others os) os
  all_covered others [] are few is = tt
  all_covered others (o ∷ os) are few is = (
    first o is.0,
    all_covered (with_if_named told others o) os (others_if others o are is.0) few is.1,
  )
    where
      first : (o : Option (List ℕ)) → IsAmong names o
          → IsCovered told (grown told (with_if_named told others o) os) o
      first None is = tt
      first (Some w) is =
          covered_later (with_other told others w) os w
          (covered_now others w are few is.0 is.1)

-- told, or among the others
pub covered_ways : {P : Type 0} (told : List Numbered) (others : List (List ℕ)) (w : List ℕ)
    → is_covered told others w ≡ true → (has_told w told ≡ true → P)
    → (has_name w others ≡ true → P) → P
covered_ways {P = P} told others w h first other = go (has_told w told) refl h
  where
    go : (t : Bool) → has_told w told ≡ t → (t || has_name w others) ≡ true → P
    go true e h = first e
    go false e h = other h
