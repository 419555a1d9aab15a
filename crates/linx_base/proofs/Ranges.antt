-- A part of a part, and a range with what stands right before it.
use Rattle.std.proofs.Common.{◌≡◌, ℕ, ◌+◌, ◌-◌, ◌≤◌, ◌++◌, List, length, take, drop, slice_range}
use Rattle.std.proofs.Common.{ap, sym, take-add, ◌∙◌, arith, take-take, drop-drop, length-take}
use Rattle.std.proofs.lemmas.List.{drop-take}

cut : (n k from : ℕ) (ys : List ℕ) → from + k ≤ n
    → take k (drop from (take n ys)) ≡ take k (drop from ys)
cut n k from ys h =
    let whole : from + (n - from) ≡ n = omega arith in
    let shift : drop from (take n ys) ≡ take (n - from) (drop from ys) =
    ap (λ m. drop from (take m ys)) (sym whole) ∙ drop-take from (n - from) ys in
    rw shift (take-take k (n - from) (drop from ys) (omega arith))

pub part_of_part : (xs : List ℕ) (a b from to : ℕ) → from ≤ to → to ≤ length (slice_range xs a b)
    → slice_range xs (a + from) (a + to) ≡ slice_range (slice_range xs a b) from to
part_of_part xs a b from to order within =
    let n : a + to - (a + from) ≡ to - from = omega arith in
    let fits : from + (to - from) ≤ b - a = omega (arith, length-take (b - a) (drop a xs)) in
    let rest : drop (a + from) xs ≡ drop from (drop a xs) = sym (drop-drop from a xs) in
    rw (n, rest) (sym (cut (b - a) (to - from) from (drop a xs) fits))

pub part_of_shared : (xs ys : List ℕ) (a b from to : ℕ) → ys ≡ xs → from ≤ to
    → to ≤ length (slice_range xs a b) → slice_range ys (a + from) (a + to)
    ≡ slice_range (slice_range xs a b) from to
part_of_shared xs ys a b from to e order within = rw e (part_of_part xs a b from to order within)

pub range_behind : (xs front : List ℕ) (start place to : ℕ) → start + length front ≡ place
    → place ≤ to → slice_range xs start place ≡ front
    → slice_range xs start to ≡ front ++ slice_range xs place to
range_behind xs front start place to sum order e =
    let whole : to - start ≡ place - start + (to - place) = omega (arith, sum) in
    let at : start + (place - start) ≡ place = omega (arith, sum) in
    let rest : drop (place - start) (drop start xs) ≡ drop place xs =
    drop-drop (place - start) start xs ∙ ap (λ m. drop m xs) at in
    ap (λ n. take n (drop start xs)) whole
    ∙ take-add (place - start) (to - place) (drop start xs)
    ∙ rw rest (ap (λ ys. ys ++ slice_range xs place to) e)
