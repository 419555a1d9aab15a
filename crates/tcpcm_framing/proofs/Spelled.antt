-- The cells of a header, and the numbers in them.
use Rattle.std.proofs.Common.{◌≡◌, ℕ, ◌+◌, ◌*◌, ◌/◌, ◌%◌, ◌<◌, ◌≤◌, List, [], ◌∷◌, length}
use Rattle.std.proofs.Common.{refl, ap, ◌∙◌, arith}
use Rattle.byteorder.specs.Endian.{big_bytes, big_number}

-- the first four cells, and what stands behind them
record Four (cells : List ℕ) : Type 0 where
  a : ℕ
  b : ℕ
  c : ℕ
  d : ℕ
  rest : List ℕ
  is : cells ≡ a ∷ b ∷ c ∷ d ∷ rest

four : (cells : List ℕ) → 4 ≤ length cells → Four cells
four (a ∷ b ∷ c ∷ d ∷ rest) h =
    record { a = a; b = b; c = c; d = d; rest = rest; is = refl }
four _ h = absurd (omega (arith, h))

no_cells : (cells : List ℕ) → length cells ≡ 0 → cells ≡ []
no_cells [] h = refl
no_cells (c ∷ cells) h = absurd (omega (arith, h))

-- all sixteen
pub record Cells (cells : List ℕ) : Type 0 where
  pub version : ℕ
  pub type : ℕ
  pub zero_2 : ℕ
  pub zero_3 : ℕ
  pub from_4 : ℕ
  pub from_5 : ℕ
  pub from_6 : ℕ
  pub from_7 : ℕ
  pub to_8 : ℕ
  pub to_9 : ℕ
  pub to_10 : ℕ
  pub to_11 : ℕ
  pub size_12 : ℕ
  pub size_13 : ℕ
  pub size_14 : ℕ
  pub size_15 : ℕ
  pub are : cells ≡ version ∷ type ∷ zero_2 ∷ zero_3 ∷ from_4 ∷ from_5 ∷ from_6 ∷ from_7
      ∷ to_8 ∷ to_9 ∷ to_10 ∷ to_11 ∷ size_12 ∷ size_13 ∷ size_14 ∷ size_15 ∷ []

-- four fours, one behind the other
joined_cells : (cells : List ℕ) (p : Four cells) (q : Four p.rest) (r : Four q.rest) (s : Four r.rest)
    → s.rest ≡ []
    → cells ≡ p.a ∷ p.b ∷ p.c ∷ p.d ∷ q.a ∷ q.b ∷ q.c ∷ q.d ∷ r.a ∷ r.b ∷ r.c ∷ r.d ∷ s.a ∷ s.b ∷ s.c
    ∷ s.d ∷ []
joined_cells cells p q r s none =
    let behind_p = λ (l : List ℕ). p.a ∷ p.b ∷ p.c ∷ p.d ∷ l in
    let behind_q = λ (l : List ℕ). behind_p (q.a ∷ q.b ∷ q.c ∷ q.d ∷ l) in
    let behind_r = λ (l : List ℕ). behind_q (r.a ∷ r.b ∷ r.c ∷ r.d ∷ l) in
    let behind_s = λ (l : List ℕ). behind_r (s.a ∷ s.b ∷ s.c ∷ s.d ∷ l) in
    p.is ∙ ap behind_p q.is ∙ ap behind_q r.is ∙ ap behind_r s.is ∙ ap behind_s none

pub cells_of : (cells : List ℕ) → length cells ≡ 16 → Cells cells
cells_of cells h =
    let p = four cells (omega (arith, h)) in
    let q = four p.rest (omega (arith, h, ap length p.is)) in
    let r = four q.rest (omega (arith, h, ap length p.is, ap length q.is)) in
    let s = four r.rest (omega (arith, h, ap length p.is, ap length q.is, ap length r.is)) in
    let none : s.rest ≡ [] =
    no_cells s.rest
    (omega (arith, h, ap length p.is, ap length q.is, ap length r.is, ap length s.is))
    in
    record {
      version = p.a;
      type = p.b;
      zero_2 = p.c;
      zero_3 = p.d;
      from_4 = q.a;
      from_5 = q.b;
      from_6 = q.c;
      from_7 = q.d;
      to_8 = r.a;
      to_9 = r.b;
      to_10 = r.c;
      to_11 = r.d;
      size_12 = s.a;
      size_13 = s.b;
      size_14 = s.c;
      size_15 = s.d;
      are = joined_cells cells p q r s none;
    }

pub cons_same : {x y : ℕ} {xs ys : List ℕ} → x ≡ y → xs ≡ ys → x ∷ xs ≡ y ∷ ys
cons_same {x} {y} {xs} {ys} p q = ap (λ (z : ℕ). z ∷ xs) p ∙ ap (λ (zs : List ℕ). y ∷ zs) q

-- the bytes of the number in four bytes are those
pub number_again : (a b c d : ℕ) (rest : List ℕ) → a < 256 → b < 256 → c < 256 → d < 256
    → big_bytes 4 (big_number 4 (a ∷ b ∷ c ∷ d ∷ rest)) ≡ a ∷ b ∷ c ∷ d ∷ []
number_again a b c d rest ha hb hc hd =
    let n : ℕ = a * 16777216 + (b * 65536 + (c * 256 + d)) in
    let same : big_number 4 (a ∷ b ∷ c ∷ d ∷ rest) ≡ n = omega arith in
    let first : n / 16777216 % 256 ≡ a = omega arith in
    let second : n / 65536 % 256 ≡ b = omega arith in
    let third : n / 256 % 256 ≡ c = omega arith in
    let fourth : n % 256 ≡ d = omega arith in
    ap (big_bytes 4) same
    ∙ cons_same first (cons_same second (cons_same third (cons_same fourth refl)))
