-- Two texts that begin alike, as more is expected of one.
use Rattle.std.proofs.Common.{◌≡◌, ℕ, zero, suc, ◌+◌, ◌≤◌, ◌<◌, Bool, true, false, cond, List, []}
use Rattle.std.proofs.Common.{◌∷◌, ◌++◌, length, drop, refl, sym, ◌∙◌, ap, arith, ◌==◌, eqb-true}
use Rattle.std.proofs.Common.{eq-eqb, ◌-◌, take, length-drop}
use Rattle.std.proofs.lemmas.List.{drop_all, take_all}
use Rattle.text_logs.specs.First.{alike}

-- so many bytes as stand behind a place are all of them
pub whole_rest : (xs : List ℕ) (n : ℕ) → take (length xs - n) (drop n xs) ≡ drop n xs
whole_rest xs n =
    let size = length-drop n xs in
    take_all (length xs - n) (drop n xs) (omega (arith, size))

-- with nothing, nothing is alike
pub alike_none : (xs : List ℕ) → alike xs [] ≡ 0
alike_none [] = refl
alike_none (x ∷ xs) = refl

-- nor is anything behind a text's end
pub alike_past : (xs ys : List ℕ) (i : ℕ) → length xs ≤ i → alike (drop i xs) ys ≡ 0
alike_past [] ys zero past = refl
alike_past [] ys (suc i) past = refl
alike_past (x ∷ xs) ys zero past = absurd (omega (arith, past))
alike_past (x ∷ xs) ys (suc i) past = alike_past xs ys i (omega (arith, past))

-- all bytes of the other were alike
pub alike_all : (text other : List ℕ) (index : ℕ) → index ≡ length other
    → alike text other ≡ index + alike (drop index text) (drop index other)
    → length other ≡ alike text other
alike_all text other index all so_far =
    let none : alike (drop index text) (drop index other) ≡ 0 =
    ap (alike (drop index text)) (drop_all index other (omega (arith, all)))
    ∙ alike_none (drop index text) in
    omega (arith, so_far, none, all)

-- where all that was expected is there, what more is expected is looked for behind it
pub alike_more : (text so_far more : List ℕ) → alike text so_far ≡ length so_far
    → alike text (so_far ++ more) ≡ length so_far + alike (drop (length so_far) text) more
alike_more [] [] more whole = refl
alike_more (b ∷ text) [] more whole =
    let here : 0 + alike (b ∷ text) more ≡ alike (b ∷ text) more = omega arith in
    sym here
alike_more [] (c ∷ so_far) more whole = absurd (omega (arith, whole))
alike_more (b ∷ text) (c ∷ so_far) more whole =
    go (b == c) (λ w. alike_more text so_far more w) whole
  where
    go : (e : Bool)
        → (alike text so_far ≡ length so_far → alike text (so_far ++ more)
        ≡ length so_far + alike (drop (length so_far) text) more)
        → cond e (1 + alike text so_far) 0 ≡ suc (length so_far)
        → cond e (1 + alike text (so_far ++ more)) 0
        ≡ suc (length so_far) + alike (drop (length so_far) text) more
    go true rest whole =
        let here : 1 + alike text so_far ≡ suc (length so_far) = whole in
        let behind = rest (omega (arith, here)) in
        omega (arith, behind)
    go false rest whole = absurd (omega (arith, whole))

-- where a byte is another, what more is expected changes nothing
pub alike_apart : (text so_far more : List ℕ) → alike text so_far < length so_far
    → alike text (so_far ++ more) ≡ alike text so_far
alike_apart [] [] more less = absurd (omega (arith, less))
alike_apart [] (c ∷ so_far) more less = refl
alike_apart (b ∷ text) [] more less = absurd (omega (arith, less))
alike_apart (b ∷ text) (c ∷ so_far) more less =
    go (b == c) (λ l. alike_apart text so_far more l) less
  where
    go : (e : Bool)
        → (alike text so_far < length so_far → alike text (so_far ++ more) ≡ alike text so_far)
        → cond e (1 + alike text so_far) 0 < suc (length so_far)
        → cond e (1 + alike text (so_far ++ more)) 0 ≡ cond e (1 + alike text so_far) 0
    go true rest less =
        let here : 1 + alike text so_far < suc (length so_far) = less in
        ap (λ (n : ℕ). 1 + n) (rest (omega (arith, here)))
    go false rest less = refl

-- a text begins as its front
pub alike_whole : (front more : List ℕ) → alike (front ++ more) front ≡ length front
alike_whole [] more = alike_none more
alike_whole (b ∷ front) more =
    let rest = alike_whole front more in
    let last : 1 + length front ≡ suc (length front) = omega arith in
    ap (λ (e : Bool). cond e (1 + alike (front ++ more) front) 0) (eq-eqb b b refl)
    ∙ ap (λ (n : ℕ). 1 + n) rest ∙ last

-- what a text begins with is its front
pub front_found : (text front : List ℕ) → alike text front ≡ length front
    → text ≡ front ++ drop (length front) text
front_found [] [] whole = refl
front_found (b ∷ text) [] whole = refl
front_found [] (c ∷ front) whole = absurd (omega (arith, whole))
front_found (b ∷ text) (c ∷ front) whole =
    go (b == c) refl (λ w. front_found text front w) whole
  where
    go : (e : Bool) → (b == c) ≡ e
        → (alike text front ≡ length front → text ≡ front ++ drop (length front) text)
        → cond e (1 + alike text front) 0 ≡ suc (length front)
        → b ∷ text ≡ c ∷ (front ++ drop (length front) text)
    go true is rest whole =
        let same : b ≡ c = eqb-true b c is in
        let here : 1 + alike text front ≡ suc (length front) = whole in
        ap (λ (x : ℕ). x ∷ text) same
        ∙ ap (λ (t : List ℕ). c ∷ t) (rest (omega (arith, here)))
    go false is rest whole = absurd (omega (arith, whole))
