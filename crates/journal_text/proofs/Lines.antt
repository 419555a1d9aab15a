-- A TEXT IS READ LINE BY LINE: which of its lines begin with a digit, and what stands before the
-- first space of a line.
use Rattle.std.proofs.Common.{◌≡◌, ℕ, Bool, true, false, not, List, [], ◌∷◌, ◌++◌, refl, sym, ◌∙◌}
use Rattle.std.proofs.Common.{ap, subst, append_assoc, ◌&&◌, ◌==◌, nat_le, codes, flat_map}
use Rattle.std.proofs.Common.{if◌then◌else◌, filter, append-nil}
use Rattle.std.specs.List.{list_all}
use Rattle.std.proofs.lemmas.Bool.{and_from, and_parts}
use Rattle.std.proofs.lemmas.List.Folds.{list_all-append}

-- ---- what ends no line

-- no byte ends a line
abbrev pub is_line : List ℕ → Bool
is_line bytes = list_all (λ b. not (b == 10)) bytes

-- THE BYTES STAND IN ONE LINE
pub record IsClean (bytes : List ℕ) : Type 0 where
  pub is : is_line bytes ≡ true

-- bytes that computing looks at one by one
pub word : (bytes : List ℕ) → is_line bytes ≡ true → IsClean bytes
word bytes is = record { is = is }

-- bytes in one line, and more of it behind them
infixl 10 ◌+>◌
pub ◌+>◌ : {xs ys : List ℕ} → IsClean xs → IsClean ys → IsClean (xs ++ ys)
◌+>◌ {xs} {ys} first second =
    record { is = list_all-append (λ b. not (b == 10)) xs ys ∙ and_from _ _ first.is second.is }

-- ---- the lines that begin with a digit

-- the lines of a text, behind a line so far
abbrev lines_from : List ℕ → List ℕ → List (List ℕ)
lines_from line [] = []
lines_from line (b ∷ bs) =
    if b == 10 then line ∷ lines_from [] bs else lines_from (line ++ b ∷ []) bs

-- the line begins with a digit
abbrev pub begins : List ℕ → Bool
begins [] = false
begins (b ∷ bs) = nat_le 48 b && nat_le b 57

-- and does with more behind it
pub begins-more : (xs ys : List ℕ) → begins xs ≡ true → begins (xs ++ ys) ≡ true
begins-more [] ys is = cc
begins-more (x ∷ xs) ys is = is

-- THE LINES of a text that begin with a digit
abbrev pub digit_lines : List ℕ → List (List ℕ)
digit_lines bytes = filter begins (lines_from [] bytes)

line-read : (so_far line more : List ℕ) → is_line line ≡ true
    → lines_from so_far (line ++ 10 ∷ more) ≡ (so_far ++ line) ∷ lines_from [] more
line-read so_far [] more clean =
    ap (λ (l : List ℕ). l ∷ lines_from [] more) (sym (append-nil so_far))
line-read so_far (b ∷ line) more clean =
    let parts = and_parts (not (b == 10)) (is_line line) clean in
    go (b == 10) refl parts.0 (line-read (so_far ++ b ∷ []) line more parts.1)
  where
    go : (e : Bool) → (b == 10) ≡ e → not (b == 10) ≡ true
        → lines_from (so_far ++ b ∷ []) (line ++ 10 ∷ more)
        ≡ ((so_far ++ b ∷ []) ++ line) ∷ lines_from [] more
        → lines_from so_far (b ∷ (line ++ 10 ∷ more))
        ≡ (so_far ++ b ∷ line) ∷ lines_from [] more
    go true is other rest = let bad : not true ≡ true = sym (ap not is) ∙ other in cc
    go false is other rest =
        rw is (rest
        ∙ ap (λ (l : List ℕ). l ∷ lines_from [] more) (append_assoc so_far (b ∷ []) line))

-- THE TEXT READS AS these lines, whatever follows it
pub record Reads (bytes : List ℕ) (lines : List (List ℕ)) : Type 0 where
  pub is : (more : List ℕ) → digit_lines (bytes ++ more) ≡ lines ++ digit_lines more

pub reads-none : Reads [] []
reads-none = record { is = λ more. refl }

-- a text, and one behind it
pub reads-both : {a b : List ℕ} {xs ys : List (List ℕ)} → Reads a xs → Reads b ys
    → Reads (a ++ b) (xs ++ ys)
reads-both {a} {b} {xs} {ys} first second = record {
  is = λ more. ap digit_lines (append_assoc a b more) ∙ first.is (b ++ more)
      ∙ ap (λ (l : List (List ℕ)). xs ++ l) (second.is more)
      ∙ sym (append_assoc xs ys (digit_lines more));
}

-- a line, whatever follows it
line-then : (line more : List ℕ) → is_line line ≡ true
    → lines_from [] ((line ++ codes "\n") ++ more) ≡ line ∷ lines_from [] more
line-then line more clean =
    ap (lines_from []) (append_assoc line (codes "\n") more) ∙ line-read [] line more clean

-- a line that begins with no digit
pub reads-other : {line : List ℕ} → IsClean line → begins line ≡ false
    → Reads (line ++ codes "\n") []
reads-other {line} clean other = record {
  is = λ more. ap (filter begins) (line-then line more clean.is) ∙ rw other refl;
}

-- one that does
pub reads-digits : {line : List ℕ} → IsClean line → begins line ≡ true
    → Reads (line ++ codes "\n") (line ∷ [])
reads-digits {line} clean one = record {
  is = λ more. ap (filter begins) (line-then line more clean.is) ∙ rw one refl;
}

-- what reads as nothing, as often as it stands
pub reads-flat : {X : Type 0} (text : X → List ℕ) → ((x : X) → Reads (text x) [])
    → (xs : List X) → Reads (flat_map text xs) []
reads-flat text each [] = reads-none
reads-flat text each (x ∷ xs) = reads-both (each x) (reads-flat text each xs)

-- ---- up to a space

-- no byte is a space
abbrev pub is_word : List ℕ → Bool
is_word bytes = list_all (λ b. not (b == 32)) bytes

-- what stands before the first space
pub word-same : (xs ys more other : List ℕ) → is_word xs ≡ true → is_word ys ≡ true
    → xs ++ 32 ∷ more ≡ ys ++ 32 ∷ other → xs ≡ ys
word-same [] [] more other first second is = refl
word-same [] (y ∷ ys) more other first second is =
    let it : 32 ≡ y = cc in
    let apart : not (y == 32) ≡ true = (and_parts (not (y == 32)) (is_word ys) second).0 in
    let bad : not (32 == 32) ≡ true = subst (λ (n : ℕ). not (n == 32) ≡ true) (sym it) apart in cc
word-same (x ∷ xs) [] more other first second is =
    let it : x ≡ 32 = cc in
    let apart : not (x == 32) ≡ true = (and_parts (not (x == 32)) (is_word xs) first).0 in
    let bad : not (32 == 32) ≡ true = subst (λ (n : ℕ). not (n == 32) ≡ true) it apart in cc
word-same (x ∷ xs) (y ∷ ys) more other first second is =
    let head : x ≡ y = cc in
    let tail : xs ++ 32 ∷ more ≡ ys ++ 32 ∷ other = cc in
    rw head (ap (λ (l : List ℕ). y ∷ l)
    (word-same xs ys more other (and_parts (not (x == 32)) (is_word xs) first).1
    (and_parts (not (y == 32)) (is_word ys) second).1 tail))
