-- how a text is cut into lines
use Rattle.std.proofs.Common.{◌≡◌, ℕ, suc, ◌+◌, ◌==◌, ◌<◌, ◌≤◌, Bool, true, false, not, cond, List}
use Rattle.std.proofs.Common.{[], ◌∷◌, length, take, drop, refl, ◌∙◌, ap, arith, Some, None}
use Rattle.std.proofs.Common.{position, sum_by, nat_lt, ltb-true, ltb-false, take_all}
use Rattle.std.specs.List.{position_or_len, onto_first}
use Rattle.std.proofs.lemmas.List.{drop_all}
use Rattle.std.proofs.lemmas.List.Sums.{sum_by-cons}
use Rattle.script_words.specs.Lines.{lines_of}

abbrev is_feed : ℕ → Bool
is_feed b = b == 10

-- the place of the first line feed, or the length
abbrev feed_in : List ℕ → ℕ
feed_in bs = position_or_len is_feed bs

-- the text cut behind this place: the first line, and the lines of the rest
abbrev cut_behind : ℕ → List ℕ → List (List ℕ)
cut_behind k bs = take (suc k) bs ∷ lines_of (drop (suc k) bs)

-- the lines with a byte before them, by whether it is a line feed
abbrev lines_with : Bool → ℕ → List ℕ → List (List ℕ)
lines_with feed b bs = cond feed ((b ∷ []) ∷ lines_of bs) (onto_first b (lines_of bs))

-- the place of the first line feed, with a byte before, by whether that is one
abbrev place_with : Bool → ℕ → ℕ
place_with feed k = cond (not feed) (1 + k) 0

first_cut : (feed : Bool) (k b : ℕ) (bs : List ℕ) → (k < length bs → lines_of bs ≡ cut_behind k bs)
    → place_with feed k < suc (length bs)
    → lines_with feed b bs ≡ cut_behind (place_with feed k) (b ∷ bs)
first_cut true k b bs h small = refl
first_cut false k b bs h small =
    let e : 1 + k ≡ suc k = omega arith in rw e (ap (onto_first b) (h (omega arith)))

-- the first line ends with the first line feed
lines_cut : (bs : List ℕ) → feed_in bs < length bs → lines_of bs ≡ cut_behind (feed_in bs) bs
lines_cut [] h = absurd (omega arith)
lines_cut (b ∷ bs) h = first_cut (b == 10) (feed_in bs) b bs (lines_cut bs) h

last_cut : (feed : Bool) (k b : ℕ) (bs : List ℕ)
    → (length bs ≤ k → 0 < length bs → lines_of bs ≡ bs ∷ [])
    → suc (length bs) ≤ place_with feed k → lines_with feed b bs ≡ (b ∷ bs) ∷ []
last_cut true k b bs h large = absurd (omega arith)
last_cut false k b [] h large = refl
last_cut false k b (c ∷ bs) h large = ap (onto_first b) (h (omega arith) (omega arith))

-- without a line feed all bytes are one line
lines_whole : (bs : List ℕ) → length bs ≤ feed_in bs → 0 < length bs → lines_of bs ≡ bs ∷ []
lines_whole [] h some = absurd (omega arith)
lines_whole (b ∷ bs) h some = last_cut (b == 10) (feed_in bs) b bs (lines_whole bs) h

position_some : (found : Bool) (k place : ℕ)
    → cond found (Some k) None ≡ Some place → (found ≡ true) × (place ≡ k)
position_some true k place h = (refl, cc)
position_some false k place h = cc

position_none : (found : Bool) (k : ℕ) → cond found (Some k) None ≡ None → found ≡ false
position_none true k h = cc
position_none false k h = refl

-- the first line, where there is a line feed
pub lines_at : (bs : List ℕ) (place : ℕ) → position is_feed bs ≡ Some place
    → (lines_of bs ≡ take (place + 1) bs ∷ lines_of (drop (place + 1) bs)) × (place < length bs)
lines_at bs place h =
    let k = feed_in bs in
    let found = position_some (nat_lt k (length bs)) k place h in
    let within : k < length bs = ltb-true k (length bs) found.0 in
    let e : place + 1 ≡ suc k = omega (arith, found.1) in
    (rw e (lines_cut bs within), omega (arith, found.1, within))

-- the first line, where there is none
pub lines_none : (bs : List ℕ) → position is_feed bs ≡ None → 0 < length bs
    → lines_of bs ≡ take (length bs) bs ∷ lines_of (drop (length bs) bs)
lines_none bs h some =
    let k = feed_in bs in
    let none : length bs ≤ k = ltb-false k (length bs) (position_none (nat_lt k (length bs)) k h) in
    rw (take_all (length bs) bs (omega arith), drop_all (length bs) bs (omega arith))
    (lines_whole bs none some)

onto_one : (b : ℕ) (lines : List (List ℕ))
    → sum_by length (onto_first b lines) ≡ 1 + sum_by length lines
onto_one b [] = refl
onto_one b (line ∷ lines) =
    omega (arith, sum_by-cons length (b ∷ line) lines, sum_by-cons length line lines)

feed_or_not : (feed : Bool) (b : ℕ) (bs : List ℕ) → sum_by length (lines_of bs) ≡ length bs
    → sum_by length (lines_with feed b bs) ≡ length (b ∷ bs)
feed_or_not true b bs rest = omega (arith, sum_by-cons length (b ∷ []) (lines_of bs), rest)
feed_or_not false b bs rest = onto_one b (lines_of bs) ∙ omega (arith, rest)

-- all bytes are in the lines
pub sum_by-lines_of : (bs : List ℕ) → sum_by length (lines_of bs) ≡ length bs
sum_by-lines_of [] = refl
sum_by-lines_of (b ∷ bs) = feed_or_not (b == 10) b bs (sum_by-lines_of bs)
