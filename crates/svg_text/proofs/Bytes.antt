-- Tests that hold of all bytes of a list.
use Rattle.std.proofs.Common.{◌≡◌, ℕ, zero, suc, ◌+◌, ◌<◌, Bool, true, false, cond, not, List, []}
use Rattle.std.proofs.Common.{◌∷◌, ◌++◌, refl, sym, ap, ◌∙◌, arith, flat_map, ◌==◌, ◌/◌, ◌%◌}
use Rattle.std.proofs.Common.{decimal, eqb-true, lt-ltb}
use Rattle.std.specs.Fmt.{digits, digits_onto, digit_glyph}
use Rattle.std.specs.List.{list_all}
use Rattle.std.proofs.lemmas.Bool.{and_from, and_parts}

-- none of the bytes is c
abbrev pub lacks : ℕ → List ℕ → Bool
lacks c bytes = list_all (λ b. not (b == c)) bytes

apart : (test : ℕ → Bool) (b c : ℕ) → test c ≡ false → test b ≡ true → not (b == c) ≡ true
apart test b c fails passes = go (b == c) refl
  where
    go : (e : Bool) → (b == c) ≡ e → not e ≡ true
    go false is = refl
    go true is = sym fails ∙ sym (ap test (eqb-true b c is)) ∙ passes

-- bytes that all pass a test lack each byte that fails it
pub lacks_failing : (test : ℕ → Bool) (c : ℕ) → test c ≡ false → (bytes : List ℕ)
    → list_all test bytes ≡ true → lacks c bytes ≡ true
lacks_failing test c fails [] all = refl
lacks_failing test c fails (b ∷ bytes) all =
    let parts = and_parts (test b) (list_all test bytes) all in
    and_from _ _ (apart test b c fails parts.0) (lacks_failing test c fails bytes parts.1)

pub all_append : {A : Type 0} (test : A → Bool) (xs ys : List A) → list_all test xs ≡ true
    → list_all test ys ≡ true → list_all test (xs ++ ys) ≡ true
all_append test [] ys first rest = rest
all_append test (x ∷ xs) ys first rest =
    let parts = and_parts (test x) (list_all test xs) first in
    and_from _ _ parts.0 (all_append test xs ys parts.1 rest)

pub lacks_append : (c : ℕ) (xs ys : List ℕ) → lacks c xs ≡ true → lacks c ys ≡ true
    → lacks c (xs ++ ys) ≡ true
lacks_append c xs ys first rest = all_append (λ b. not (b == c)) xs ys first rest

-- what holds of all that each element gives, holds of all
pub all_flat_map : {A : Type 0} (test : ℕ → Bool) (f : A → List ℕ)
    → ((x : A) → list_all test (f x) ≡ true) → (xs : List A)
    → list_all test (flat_map f xs) ≡ true
all_flat_map test f each [] = refl
all_flat_map test f each (x ∷ xs) =
    all_append test (f x) (flat_map f xs) (each x) (all_flat_map test f each xs)

glyph_all : (test : ℕ → Bool) → ((d : ℕ) → d < 10 → test (48 + d) ≡ true) → (d : ℕ) → d < 10
    → test (digit_glyph false d) ≡ true
glyph_all test each d less = rw (lt-ltb d 10 less) (each d less)

digits_all : (test : ℕ → Bool) → ((d : ℕ) → d < 10 → test (48 + d) ≡ true) → (k n : ℕ)
    (acc : List ℕ) → list_all test acc ≡ true
    → list_all test (digits_onto k 10 false n acc) ≡ true
digits_all test each zero n acc all = all
digits_all test each (suc k) n acc all =
    let less : n % 10 < 10 = omega arith in
    let more = and_from (test (digit_glyph false (n % 10))) (list_all test acc)
    (glyph_all test each (n % 10) less) all in
    go (n / 10 == 0) more
    (digits_all test each k (n / 10) (digit_glyph false (n % 10) ∷ acc) more)
  where
    go : (b : Bool) → list_all test (digit_glyph false (n % 10) ∷ acc) ≡ true
        → list_all test (digits_onto k 10 false (n / 10) (digit_glyph false (n % 10) ∷ acc))
        ≡ true
        → list_all test (cond b (digit_glyph false (n % 10) ∷ acc)
        (digits_onto k 10 false (n / 10) (digit_glyph false (n % 10) ∷ acc))) ≡ true
    go true first rest = first
    go false first rest = rest

-- what holds of each digit, holds of all digits of a number
pub decimal_all : (test : ℕ → Bool) → ((d : ℕ) → d < 10 → test (48 + d) ≡ true) → (n : ℕ)
    → list_all test (decimal n) ≡ true
unfolding digits
decimal_all test each n = digits_all test each 64 n [] refl
