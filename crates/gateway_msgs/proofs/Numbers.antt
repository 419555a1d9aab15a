-- The numbers in bytes, and the bytes of numbers.
use Rattle.std.proofs.Common.{◌≡◌, ℕ, zero, suc, ◌+◌, ◌*◌, ◌%◌, ◌^◌, ◌<◌, ◌≤◌, List, [], ◌∷◌, ◌++◌}
use Rattle.std.proofs.Common.{length, take, drop, get_or, refl, ap, sym, ◌∙◌, arith, replicate}
use Rattle.std.proofs.Common.{flat_map, get_or-drop}
use Rattle.std.specs.List.{AllByRecursion}
use Rattle.std.proofs.lemmas.Nat.{be_bytes_4, be_bytes_8}
use Rattle.byteorder.specs.Endian.{big_bytes, big_number}
use Rattle.byteorder.specs.Numbers.{big_from-lt, big_number-reads_back}

-- each is below 256
abbrev pub AreBytes : List ℕ → Type 0
AreBytes bytes = (k : ℕ) → get_or bytes k 0 < 256

pub rest_bytes : (b : ℕ) (bytes : List ℕ) → AreBytes (b ∷ bytes) → AreBytes bytes
rest_bytes b bytes are k = are (suc k)

pub drop_bytes : (n : ℕ) (bytes : List ℕ) → AreBytes bytes → AreBytes (drop n bytes)
drop_bytes n bytes are k = rw (get_or-drop n bytes k 0) (are (n + k))

pub append_bytes : (xs ys : List ℕ) → AreBytes xs → AreBytes ys → AreBytes (xs ++ ys)
append_bytes [] ys one other k = other k
append_bytes (x ∷ xs) ys one other zero = one zero
append_bytes (x ∷ xs) ys one other (suc k) = append_bytes xs ys (rest_bytes x xs one) other k

pub take_bytes : (n : ℕ) (bytes : List ℕ) → AreBytes bytes → AreBytes (take n bytes)
take_bytes zero bytes are k = omega arith
take_bytes (suc n) [] are k = omega arith
take_bytes (suc n) (x ∷ xs) are zero = are zero
take_bytes (suc n) (x ∷ xs) are (suc k) = take_bytes n xs (rest_bytes x xs are) k

pub letters_bytes : (n : ℕ) → AreBytes (replicate n 97)
letters_bytes zero k = omega arith
letters_bytes (suc n) zero = omega arith
letters_bytes (suc n) (suc k) = letters_bytes n k

-- the number that bytes begin with, spelled again
pub spelled_4 : (bytes : List ℕ) → AreBytes bytes → 4 ≤ length bytes
    → bytes ≡ big_bytes 4 (big_number 4 bytes) ++ drop 4 bytes
spelled_4 (a ∷ b ∷ c ∷ d ∷ rest) are long =
    ap (λ l. l ++ rest) (sym (be_bytes_4 (a ∷ b ∷ c ∷ d ∷ []) (big_number 4 (a ∷ b ∷ c ∷ d ∷ rest))
    refl (take_bytes 4 (a ∷ b ∷ c ∷ d ∷ rest) are) (omega arith)))
spelled_4 _ are long = absurd (omega arith)

pub spelled_8 : (bytes : List ℕ) → AreBytes bytes → 8 ≤ length bytes
    → bytes ≡ big_bytes 8 (big_number 8 bytes) ++ drop 8 bytes
spelled_8 (a ∷ b ∷ c ∷ d ∷ e ∷ f ∷ g ∷ h ∷ rest) are long =
    ap (λ l. l ++ rest) (sym (be_bytes_8 (a ∷ b ∷ c ∷ d ∷ e ∷ f ∷ g ∷ h ∷ [])
    (big_number 8 (a ∷ b ∷ c ∷ d ∷ e ∷ f ∷ g ∷ h ∷ rest)) refl
    (take_bytes 8 (a ∷ b ∷ c ∷ d ∷ e ∷ f ∷ g ∷ h ∷ rest) are) (omega arith)))
spelled_8 _ are long = absurd (omega arith)

pub whole_8 : (bytes : List ℕ) → AreBytes bytes → length bytes ≡ 8
    → bytes ≡ big_bytes 8 (big_number 8 bytes)
whole_8 (a ∷ b ∷ c ∷ d ∷ e ∷ f ∷ g ∷ h ∷ []) are long =
    spelled_8 (a ∷ b ∷ c ∷ d ∷ e ∷ f ∷ g ∷ h ∷ []) are (omega arith)
whole_8 _ are long = absurd (omega arith)

pub fits_4 : (bytes : List ℕ) → AreBytes bytes → big_number 4 bytes < 2 ^ 32
fits_4 bytes are = big_from-lt 0 4 bytes are

pub fits_8 : (bytes : List ℕ) → AreBytes bytes → big_number 8 bytes < 2 ^ 64
fits_8 bytes are = big_from-lt 0 8 bytes are

-- ---- numbers of four bytes each

pub words : List ℕ → List ℕ
words (a ∷ b ∷ c ∷ d ∷ rest) = big_number 4 (a ∷ b ∷ c ∷ d ∷ []) ∷ words rest
words _ = []

pub words_again : (numbers : List ℕ) → AllByRecursion (λ n. n < 2 ^ 32) numbers
    → words (flat_map (big_bytes 4) numbers) ≡ numbers
unfolding words
words_again [] fit = refl
words_again (n ∷ ns) fit =
    rw (big_number-reads_back 4 n [] fit.0) (ap (λ l. n ∷ l) (words_again ns fit.1))

pub length_words : (numbers : List ℕ) → length (flat_map (big_bytes 4) numbers) ≡ 4 * length numbers
length_words [] = refl
length_words (n ∷ ns) = omega (arith, length_words ns)

-- one more
pub words_more : (numbers : List ℕ) (n : ℕ) (rest : List ℕ)
    → flat_map (big_bytes 4) (numbers ++ n ∷ []) ++ rest
    ≡ flat_map (big_bytes 4) numbers ++ (big_bytes 4 n ++ rest)
words_more [] n rest = refl
words_more (m ∷ ns) n rest = ap (λ l. big_bytes 4 m ++ l) (words_more ns n rest)

pub fit_more : (numbers : List ℕ) (n : ℕ) → AllByRecursion (λ m. m < 2 ^ 32) numbers → n < 2 ^ 32
    → AllByRecursion (λ m. m < 2 ^ 32) (numbers ++ n ∷ [])
fit_more [] n fit here = (here, tt)
fit_more (m ∷ ns) n fit here = (fit.0, fit_more ns n fit.1 here)

-- bytes that are such numbers
pub record AreWords (bytes : List ℕ) : Type 0 where
  pub numbers : List ℕ
  pub spelled : bytes ≡ flat_map (big_bytes 4) numbers
  pub fit : AllByRecursion (λ n. n < 2 ^ 32) numbers

pub words_of : (bytes : List ℕ) → AreBytes bytes → length bytes % 4 ≡ 0 → AreWords bytes
words_of [] are whole = record { numbers = []; spelled = refl; fit = tt }
words_of (a ∷ []) are whole = absurd (omega arith)
words_of (a ∷ b ∷ []) are whole = absurd (omega arith)
words_of (a ∷ b ∷ c ∷ []) are whole = absurd (omega arith)
words_of (a ∷ b ∷ c ∷ d ∷ rest) are whole =
    let later = words_of rest (drop_bytes 4 (a ∷ b ∷ c ∷ d ∷ rest) are) (omega arith) in
    let first = a ∷ b ∷ c ∷ d ∷ [] in
    record {
      numbers = big_number 4 first ∷ later.numbers;
      spelled = ap (λ l. l ++ rest) (spelled_4 first (take_bytes 4 (a ∷ b ∷ c ∷ d ∷ rest) are)
          (omega arith)) ∙ ap (λ l. big_bytes 4 (big_number 4 first) ++ l) later.spelled;
      fit = (fits_4 first (take_bytes 4 (a ∷ b ∷ c ∷ d ∷ rest) are), later.fit);
    }
