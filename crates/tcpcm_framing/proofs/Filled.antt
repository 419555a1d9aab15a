-- A header as far as it has come, and zeros behind it.
use Rattle.std.proofs.Common.{◌≡◌, ℕ, zero, suc, ◌<◌, ◌≤◌, min, List, [], ◌∷◌, ◌++◌, length, take}
use Rattle.std.proofs.Common.{drop, replicate, slice_index, refl, ap, ◌∙◌, sym, arith, take_all}
use Rattle.std.specs.Bool.{⊤}
use Rattle.tcpcm_framing.specs.Shortest.{filled, header_in}

zeros_left : (n : ℕ) → replicate n 0 ≡ filled n []
unfolding filled
zeros_left zero = refl
zeros_left (suc n) = ap (λ (l : List ℕ). 0 ∷ l) (zeros_left n)

-- the bytes that have come are put over zeros
put_over : (n k : ℕ) (bytes : List ℕ) → k ≡ min (length bytes) n
    → take k bytes ++ drop k (replicate n 0) ≡ filled n bytes
unfolding filled
put_over zero zero bytes e = refl
put_over zero (suc k) bytes e = absurd (omega (arith, e))
put_over (suc n) zero [] e = zeros_left (suc n)
put_over (suc n) zero (b ∷ bytes) e = absurd (omega (arith, e))
put_over (suc n) (suc k) [] e = absurd (omega (arith, e))
put_over (suc n) (suc k) (b ∷ bytes) e =
    ap (λ (l : List ℕ). b ∷ l) (put_over n k bytes (omega (arith, e)))

pub filled_is : (k : ℕ) (bytes : List ℕ) → k ≡ min (length bytes) 16
    → take k bytes ++ drop k (replicate 16 0) ≡ header_in bytes
filled_is k bytes e = put_over 16 k bytes e

pub length-filled : (n : ℕ) (bytes : List ℕ) → length (filled n bytes) ≡ n
unfolding filled
length-filled zero bytes = refl
length-filled (suc n) [] = let e = length-filled n [] in omega (arith, e)
length-filled (suc n) (b ∷ bytes) = let e = length-filled n bytes in omega (arith, e)

-- what has come stands at the front
pub front_filled : (n : ℕ) (bytes : List ℕ) → take (length bytes) (filled n bytes) ≡ take n bytes
unfolding filled
front_filled zero [] = refl
front_filled zero (b ∷ bytes) = refl
front_filled (suc n) [] = refl
front_filled (suc n) (b ∷ bytes) = ap (λ (l : List ℕ). b ∷ l) (front_filled n bytes)

-- where all has come there are no zeros
pub all_filled : (n : ℕ) (bytes : List ℕ) → n ≤ length bytes → filled n bytes ≡ take n bytes
all_filled n bytes h =
    sym (take_all (length bytes) (filled n bytes) (omega (arith, length-filled n bytes)))
    ∙ front_filled n bytes

-- each is a byte
pub bytes_filled : (n : ℕ) (bytes : List ℕ) → ((k : ℕ) → slice_index bytes k < 256) → (k : ℕ)
    → slice_index (filled n bytes) k < 256
unfolding filled
bytes_filled zero bytes h k = omega arith
bytes_filled (suc n) [] h zero = omega arith
bytes_filled (suc n) [] h (suc k) = bytes_filled n [] h k
bytes_filled (suc n) (b ∷ bytes) h zero = h zero
bytes_filled (suc n) (b ∷ bytes) h (suc k) = bytes_filled n bytes (λ j. h (suc j)) k

-- ---- no cell is above that of what the bytes go on to

abbrev pub AllBelow : List ℕ → List ℕ → Type 0
AllBelow [] highs = ⊤
AllBelow (low ∷ lows) [] = ⊥
AllBelow (low ∷ lows) (high ∷ highs) = (low ≤ high) × AllBelow lows highs

zeros_below : (n : ℕ) (highs : List ℕ) → n ≤ length highs → AllBelow (filled n []) highs
unfolding filled
zeros_below zero highs h = tt
zeros_below (suc n) [] h = absurd (omega (arith, h))
zeros_below (suc n) (high ∷ highs) h = (omega arith, zeros_below n highs (omega (arith, h)))

pub filled_below : (n : ℕ) (bytes behind : List ℕ) → n ≤ length (bytes ++ behind)
    → AllBelow (filled n bytes) (bytes ++ behind)
unfolding filled
filled_below zero bytes behind h = tt
filled_below (suc n) [] behind h = zeros_below (suc n) behind h
filled_below (suc n) (b ∷ bytes) behind h =
    (omega arith, filled_below n bytes behind (omega (arith, h)))
