-- Where a word is cut, and what parts a text has.
use Rattle.std.proofs.Common.{inl, inr, ◌≡◌, ℕ, suc, ◌+◌, ◌<◌, ◌≤◌, Bool, true, false, not, cond}
use Rattle.std.proofs.Common.{List, [], ◌∷◌, ◌++◌, length, take, drop, get_or, refl, sym, ap, ◌∙◌}
use Rattle.std.proofs.Common.{Option, Some, None, arith, length-append, add-one, ◌==◌, nat_lt}
use Rattle.std.proofs.Common.{position, option_map, lt-ltb, le-ltb, eq-eqb, eqb-true, append_assoc}
use Rattle.std.proofs.Common.{take-append-drop}
use Rattle.std.specs.List.{position_or_len, list_all, onto_first}
use Rattle.std.proofs.lemmas.Bool.{not-true, and_parts, and_from, both_ways, cases_Bool}
use Rattle.std.proofs.lemmas.Bool.{not_from_false, not_from_true, cond-true, cond-false}
use Rattle.std.proofs.lemmas.List.Quantifiers.{position-Some}
use Rattle.std.proofs.lemmas.List.Splits.{slice_split-cons_no, slice_split-cons_yes}
use Rattle.std.proofs.lemmas.List.Folds.{list_all-append}
use Rattle.std.proofs.Math.Seq.{drop-cons, take-append_seam, drop-append_seam}
use Rattle.text_words.specs.Words.{cut_at, parts_at}

-- no such byte is in the word
abbrev pub lacks : ℕ → List ℕ → Bool
lacks byte word = list_all (λ b. not (b == byte)) word

-- bytes that pass a test which this byte doesn't
byte_lacks : (p : ℕ → Bool) (byte b : ℕ) → p byte ≡ false → p b ≡ true → not (b == byte) ≡ true
byte_lacks p byte b fails holds =
    elim (cases_Bool (b == byte)) [
      | inl e ↦
          let same : b ≡ byte = eqb-true b byte e in
          let t : p byte ≡ true = ap p (sym same) ∙ holds in
          absurd (both_ways (p byte) fails t)
      | inr e ↦ not_from_false _ e
    ]

pub class_lacks : (p : ℕ → Bool) (byte : ℕ) (word : List ℕ) → p byte ≡ false
    → list_all p word ≡ true → lacks byte word ≡ true
class_lacks p byte [] fails all = refl
class_lacks p byte (b ∷ word) fails all =
    let parts = and_parts (p b) (list_all p word) all in
    and_from _ _ (byte_lacks p byte b fails parts.0) (class_lacks p byte word fails parts.1)

pub lacks-append : (byte : ℕ) (xs ys : List ℕ) → lacks byte xs ≡ true → lacks byte ys ≡ true
    → lacks byte (xs ++ ys) ≡ true
lacks-append byte xs ys x y = list_all-append (λ b. not (b == byte)) xs ys ∙ and_from _ _ x y

-- a class within another
pub class_within : (p q : ℕ → Bool) (word : List ℕ) → ((b : ℕ) → p b ≡ true → q b ≡ true)
    → list_all p word ≡ true → list_all q word ≡ true
class_within p q [] each all = refl
class_within p q (b ∷ word) each all =
    let parts = and_parts (p b) (list_all p word) all in
    and_from _ _ (each b parts.0) (class_within p q word each parts.1)

-- a byte between two texts
pub seam : (front back : List ℕ) (byte : ℕ) → (front ++ byte ∷ []) ++ back ≡ front ++ byte ∷ back
seam front back byte = append_assoc front (byte ∷ []) back

-- two of them, between three texts
pub seams : (a b c : List ℕ) (byte : ℕ)
    → (((a ++ byte ∷ []) ++ b) ++ byte ∷ []) ++ c ≡ a ++ byte ∷ (b ++ byte ∷ c)
seams a b c byte =
    seam ((a ++ byte ∷ []) ++ b) c byte ∙ append_assoc (a ++ byte ∷ []) b (byte ∷ c)
    ∙ seam a (b ++ byte ∷ c) byte

pub lacks-seam : (byte : ℕ) (front back : List ℕ) (b : ℕ) → lacks byte front ≡ true
    → not (b == byte) ≡ true → lacks byte back ≡ true → lacks byte (front ++ b ∷ back) ≡ true
lacks-seam byte front back b first other last =
    lacks-append byte front (b ∷ back) first (and_from _ _ other last)

-- the place of the first such byte
place_again : (byte : ℕ) (front back : List ℕ) → lacks byte front ≡ true
    → position_or_len (λ b. b == byte) (front ++ byte ∷ back) ≡ length front
place_again byte [] back none =
    cond-false (not (byte == byte)) _ 0 (not_from_true _ (eq-eqb byte byte refl))
place_again byte (b ∷ front) back none =
    let parts = and_parts (not (b == byte)) (lacks byte front) none in
    let rest = place_again byte front back parts.1 in
    cond-true (not (b == byte)) _ 0 parts.0 ∙ omega (arith, rest)

place_none : (byte : ℕ) (word : List ℕ) → lacks byte word ≡ true
    → position_or_len (λ b. b == byte) word ≡ length word
place_none byte [] none = refl
place_none byte (b ∷ word) none =
    let parts = and_parts (not (b == byte)) (lacks byte word) none in
    let rest = place_none byte word parts.1 in
    cond-true (not (b == byte)) _ 0 parts.0 ∙ omega (arith, rest)

-- a word is cut at the byte that its front lacks
pub cut_again : (byte : ℕ) (front back : List ℕ) → lacks byte front ≡ true
    → cut_at byte (front ++ byte ∷ back) ≡ Some (front, back)
cut_again byte front back none =
    let word = front ++ byte ∷ back in
    let e = place_again byte front back none in
    let within : length front < length word = omega (arith, length-append front (byte ∷ back)) in
    let lt : nat_lt (length front) (length word) ≡ true = lt-ltb _ _ within in
    let at : position (λ b. b == byte) word ≡ Some (length front) =
    cond-true _ _ None (ap (λ (n : ℕ). nat_lt n (length word)) e ∙ lt) ∙ ap Some e
    in
    let before = take-append_seam front (byte ∷ back) in
    let behind = drop-append_seam front (byte ∷ back) in
    let cell = drop-cons word (length front) 0 within in
    let after : drop (suc (length front)) word ≡ back = cc in
    ap (option_map (λ k. (take k word, drop (k + 1) word))) at
    ∙ rw (add-one, before, after) refl

-- and at no byte that it lacks
pub cut_nowhere : (byte : ℕ) (word : List ℕ) → lacks byte word ≡ true → cut_at byte word ≡ None
cut_nowhere byte word none =
    let e = place_none byte word none in
    let ge : nat_lt (length word) (length word) ≡ false = le-ltb _ _ (omega arith) in
    let at : position (λ b. b == byte) word ≡ None =
    cond-false _ _ None (ap (λ (n : ℕ). nat_lt n (length word)) e ∙ ge)
    in
    ap (option_map (λ k. (take k word, drop (k + 1) word))) at

cut_at_place : (byte : ℕ) (word : List ℕ) (place : Option ℕ) (x : List ℕ × List ℕ)
    → position (λ b. b == byte) word ≡ place
    → option_map (λ k. (take k word, drop (k + 1) word)) place ≡ Some x
    → word ≡ x.0 ++ byte ∷ x.1
cut_at_place byte word None x at h = cc
cut_at_place byte word (Some k) x at h =
    let found = position-Some (λ b. b == byte) word k 0 at in
    let is : get_or word k 0 ≡ byte = eqb-true _ _ found.1 in
    let whole = sym (take-append-drop k word) in
    let cell = drop-cons word k 0 found.0 in
    let one : k + 1 ≡ suc k = omega arith in
    let front : x.0 ≡ take k word = cc in
    let back : x.1 ≡ drop (suc k) word = cc in
    rw (front, back, ← is, ← cell) whole

-- the parts of a word that is cut make it
pub cut_found : (byte : ℕ) (word : List ℕ) (x : List ℕ × List ℕ) → cut_at byte word ≡ Some x
    → word ≡ x.0 ++ byte ∷ x.1
cut_found byte word x h = cut_at_place byte word (position (λ b. b == byte) word) x refl h

-- ---- parts between separators

-- a part that lacks the byte between parts
pub split_last : (byte : ℕ) (part : List ℕ) → lacks byte part ≡ true
    → parts_at byte part ≡ part ∷ []
split_last byte [] none = refl
split_last byte (b ∷ part) none =
    let parts = and_parts (not (b == byte)) (lacks byte part) none in
    let fails = not-true (b == byte) parts.0 in
    slice_split-cons_no (λ c. c == byte) b part fails
    ∙ ap (onto_first b) (split_last byte part parts.1)

pub split_part : (byte : ℕ) (part rest : List ℕ) → lacks byte part ≡ true → (byte == byte) ≡ true
    → parts_at byte (part ++ byte ∷ rest)
    ≡ part ∷ parts_at byte rest
split_part byte [] rest none same = slice_split-cons_yes (λ c. c == byte) byte rest same
split_part byte (b ∷ part) rest none same =
    let parts = and_parts (not (b == byte)) (lacks byte part) none in
    let fails = not-true (b == byte) parts.0 in
    slice_split-cons_no (λ c. c == byte) b (part ++ byte ∷ rest) fails
    ∙ ap (onto_first b) (split_part byte part rest parts.1 same)
