-- The frames that a message is cut into.
use Rattle.std.proofs.Common.{◌≡◌, ℕ, suc, zero, ◌+◌, ◌-◌, ◌*◌, ◌/◌, ◌%◌, ◌<◌, ◌≤◌, min, Bool, ltb}
use Rattle.std.proofs.Common.{List, [], ◌∷◌, ◌++◌, length, take, drop, refl, sym, ap, ◌∙◌, subst}
use Rattle.std.proofs.Common.{arith, All, inl, inr, append_assoc, MatchBool, flat_map, slice_range}
use Rattle.std.proofs.Common.{lt-ltb, le-ltb, take-append-drop, length-drop, length-take}
use Rattle.std.proofs.Common.{append-nil, drop-drop}
use Rattle.std.proofs.Math.Nat.{add-div_right, add-mod_right, zero-div, zero-mod, mod-eq_of_lt}
use Rattle.std.proofs.Math.Nat.{mul-le-mul_right}
use Rattle.std.specs.Int.{div_ceil}
use Rattle.std.proofs.lemmas.Bool.{cases_lt}
use Rattle.std.proofs.lemmas.Grind.{div_ceil_times}
use Rattle.std.proofs.lemmas.Nat.{div_below}
use Rattle.std.proofs.lemmas.List.{take_min, drop_min}
use Rattle.std.proofs.lemmas.List.Elements.{All-nil, All-cons}
use Rattle.linx_base.specs.declared.frame.Message.{Message}
use Rattle.linx_base.specs.declared.frame.Frame.{Frame}
use Rattle.linx_base.specs.declared.frame.Frame.TheVariants.{First, Next}
use Rattle.linx_base.specs.Frames.{IsMessage, IsFrame, IsPayload, payload_of, has_more}
use Rattle.fragmenter.specs.Holding.{joined}
use Rattle.fragmenter.specs.Pieces.{is_more, cut, followers, framed, pieces_of, IsNextFrame}
use Rattle.fragmenter.specs.Pieces.{AllButLast, IsMarked, IsCutInto}

-- what is left of bytes that aren't none is shorter
drop-shorter : (p b : ℕ) (bs : List ℕ) (n : ℕ) → 1 ≤ p → length (b ∷ bs) ≤ suc n
    → length (drop p (b ∷ bs)) ≤ n
drop-shorter p b bs n h k = omega (arith, length-drop p (b ∷ bs))

-- more pieces than there are bytes are never needed
cut_enough : (n k p : ℕ) (xs : List ℕ) → 1 ≤ p → length xs ≤ n → length xs ≤ k
    → cut n p xs ≡ cut k p xs
unfolding cut
cut_enough zero zero p [] h a b = refl
cut_enough zero (suc k) p [] h a b = refl
cut_enough (suc n) zero p [] h a b = refl
cut_enough (suc n) (suc k) p [] h a b = refl
cut_enough zero k p (x ∷ xs) h a b = absurd (omega arith)
cut_enough (suc n) zero p (x ∷ xs) h a b = absurd (omega arith)
cut_enough (suc n) (suc k) p (x ∷ xs) h a b =
    ap (λ rest. take p (x ∷ xs) ∷ rest)
    (cut_enough n k p (drop p (x ∷ xs)) h (drop-shorter p x xs n h a)
    (drop-shorter p x xs k h b))

-- the payloads of all the bytes
abbrev all_cut : ℕ → List ℕ → List (List ℕ)
all_cut p xs = cut (length xs) p xs

-- bytes that aren't none give a first payload, and the payloads of the rest
pub cut_first : (p : ℕ) (xs : List ℕ) → 1 ≤ p → 0 < length xs
    → cut (length xs) p xs ≡ take p xs ∷ cut (length (drop p xs)) p (drop p xs)
unfolding cut
cut_first p [] h k = absurd (omega arith)
cut_first p (x ∷ xs) h k =
    let shorter : length (drop p (x ∷ xs)) ≤ length xs =
    drop-shorter p x xs (length xs) h (omega arith) in
    ap (λ ps. take p (x ∷ xs) ∷ ps)
    (cut_enough (length xs) (length (drop p (x ∷ xs))) p (drop p (x ∷ xs)) h shorter
    (omega arith))

-- payloads are left behind the first one exactly where bytes are
is_more_behind : (p : ℕ) (xs : List ℕ) → is_more (all_cut p (drop p xs)) ≡ ltb p (length xs)
unfolding cut
is_more_behind p xs =
    let go : (rest : List ℕ) → rest ≡ drop p xs → is_more (all_cut p rest) ≡ ltb p (length xs) =
    λ rest.
    elim rest as (λ r. r ≡ drop p xs → is_more (all_cut p r) ≡ ltb p (length xs)) [
      | [] ↦ λ e. sym (le-ltb p (length xs) (omega (arith, ap length e, length-drop p xs)))
      | y ∷ ys ↦ λ e. sym (lt-ltb p (length xs) (omega (arith, ap length e, length-drop p xs)))
    ]
    in
    go (drop p xs) refl

-- one more frame behind the first
followers_first : (p : ℕ) (xs : List ℕ) → 1 ≤ p → 0 < length xs
    → followers (all_cut p xs)
    ≡ Next (ltb p (length xs)) (take p xs) ∷ followers (all_cut p (drop p xs))
unfolding followers
followers_first p xs h k =
    rw (cut_first p xs h k) (ap (λ more. Next more (take p xs) ∷ followers (all_cut p (drop p xs)))
    (is_more_behind p xs))

-- the first frame of a message
pub pieces_of_first : (m : Message) (p : ℕ) → 1 ≤ p → 0 < length m.body
    → pieces_of m p ≡ First (ltb p (length m.body)) m.from m.to (length m.body) (take p m.body)
    ∷ followers (cut (length (drop p m.body)) p (drop p m.body))
unfolding pieces_of framed
pieces_of_first m p h k =
    rw (cut_first p m.body h k)
    (ap (λ more. First more m.from m.to (length m.body) (take p m.body)
    ∷ followers (all_cut p (drop p m.body))) (is_more_behind p m.body))

followers_none : (p : ℕ) (xs : List ℕ) → length xs ≡ 0 → followers (all_cut p xs) ≡ []
unfolding followers cut
followers_none p [] e = refl
followers_none p (x ∷ xs) e = absurd (omega arith)

-- a front of p bytes, or of all where there are fewer
pub record IsFront (p : ℕ) (xs payload rest : List ℕ) (more : Bool) : Type 0 where
  pub payload_is : payload ≡ take p xs
  pub rest_is : rest ≡ drop p xs
  pub more_is : more ≡ ltb p (length xs)

front : (p : ℕ) (xs : List ℕ) (k : ℕ) → k ≡ min p (length xs)
    → IsFront p xs (take k xs) (drop k xs) (ltb k (length xs))
front p xs k e =
    elim (cases_lt p (length xs)) [
      | inl short ↦
          let same : k ≡ p = omega arith in
          rw same (record { payload_is = refl; rest_is = refl; more_is = refl })
      | inr long ↦ record {
        payload_is = ap (λ n. take n xs) e ∙ take_min p xs;
        rest_is = ap (λ n. drop n xs) e ∙ drop_min p xs;
        more_is = le-ltb k (length xs) (omega arith) ∙ sym (le-ltb p (length xs) long);
      }
    ]

-- the piece that is cut out from one place to another
pub record IsPiece (p : ℕ) (body : List ℕ) (from to : ℕ) (more : Bool) (payload : List ℕ) : Type 0
  where
    pub to_is : to ≡ min (from + p) (length body)
    pub more_is : more ≡ ltb to (length body)
    pub payload_is : payload ≡ slice_range body from to

-- is the front of what is left
front_left : (p : ℕ) (body : List ℕ) (from to : ℕ) (more : Bool) (payload : List ℕ)
    → from ≤ length body → IsPiece p body from to more payload
    → IsFront p (drop from body) payload (drop to body) more
front_left p body from to more payload within s =
    let left : length (drop from body) ≡ length body - from = length-drop from body in
    let t = s.to_is in
    let whole : from + (to - from) ≡ to = omega arith in
    let f = front p (drop from body) (to - from) (omega (arith, left)) in
    record {
      payload_is = s.payload_is ∙ f.payload_is;
      rest_is =
          ap (λ j. drop j body) (sym whole) ∙ sym (drop-drop (to - from) from body) ∙ f.rest_is;
      more_is = s.more_is ∙ elim (cases_lt to (length body)) [
        | inl some ↦
            lt-ltb to (length body) some
            ∙ sym (lt-ltb (to - from) (length (drop from body)) (omega (arith, left))) ∙ f.more_is
        | inr none ↦
            le-ltb to (length body) none
            ∙ sym (le-ltb (to - from) (length (drop from body)) (omega (arith, left))) ∙ f.more_is
      ];
    }

-- the first frame, and then the frames of the rest
pub begun_pieces : (m : Message) (p to : ℕ) (made : List Frame) (more : Bool) (payload : List ℕ)
    → IsPiece p m.body 0 to more payload → made ≡ [] → 1 ≤ p → 0 < length m.body
    → (made ++ First more m.from m.to (length m.body) payload ∷ [])
    ++ followers (cut (length (drop to m.body)) p (drop to m.body)) ≡ pieces_of m p
begun_pieces m p to made more payload s none h k =
    let f = front_left p m.body 0 to more payload (omega arith) s in
    rw (none, f.payload_is, f.rest_is, f.more_is) (sym (pieces_of_first m p h k))

-- one more frame, and then the frames of the rest
pub more_pieces : (p from to : ℕ) (body : List ℕ) (made all : List Frame) (more : Bool)
    (payload : List ℕ) → IsPiece p body from to more payload
    → made ++ followers (cut (length (drop from body)) p (drop from body)) ≡ all
    → from < length body → 1 ≤ p
    → (made ++ Next more payload ∷ []) ++ followers (cut (length (drop to body)) p (drop to body))
    ≡ all
more_pieces p from to body made all more payload s e within h =
    let f = front_left p body from to more payload (omega arith) s in
    rw (append_assoc, f.payload_is, f.rest_is, f.more_is)
    (ap (λ frames. made ++ frames)
    (sym (followers_first p (drop from body) h (omega (arith, length-drop from body)))) ∙ e)

-- where nothing is left all frames are made
pub all_pieces : (p from : ℕ) (body : List ℕ) (made all : List Frame)
    → made ++ followers (cut (length (drop from body)) p (drop from body)) ≡ all
    → length body ≤ from → made ≡ all
all_pieces p from body made all e n =
    sym (append-nil made) ∙ ap (λ frames. made ++ frames)
    (sym (followers_none p (drop from body) (omega (arith, length-drop from body)))) ∙ e

-- the payloads of the frames behind the first one
joined-followers : (ps : List (List ℕ)) → flat_map payload_of (followers ps) ≡ joined ps
unfolding followers
joined-followers [] = refl
joined-followers (payload ∷ ps) = ap (λ rest. payload ++ rest) (joined-followers ps)

pub joined-cut : (n p : ℕ) (xs : List ℕ) → 1 ≤ p → length xs ≤ n → joined (cut n p xs) ≡ xs
unfolding cut
joined-cut zero p [] h k = refl
joined-cut (suc n) p [] h k = refl
joined-cut zero p (x ∷ xs) h k = absurd (omega arith)
joined-cut (suc n) p (x ∷ xs) h k =
    ap (λ rest. take p (x ∷ xs) ++ rest)
    (joined-cut n p (drop p (x ∷ xs)) h (drop-shorter p x xs n h k))
    ∙ take-append-drop p (x ∷ xs)

goes_on : (ps : List (List ℕ)) → All IsNextFrame (followers ps)
unfolding followers
goes_on [] = All-nil IsNextFrame
goes_on (payload ∷ ps) =
    All-cons IsNextFrame (Next (is_more ps) payload) (followers ps) tt (goes_on ps)

marked : (f : Frame) (ps : List (List ℕ)) → has_more f ≡ is_more ps → IsMarked (f ∷ followers ps)
unfolding followers
marked f [] e = e
marked f (payload ∷ ps) e = (e, marked (Next (is_more ps) payload) ps refl)

-- a payload behind which bytes are left is as long as it may be
take-full : (p : ℕ) (xs : List ℕ) → 0 < length (drop p xs) → length (take p xs) ≡ p
take-full p xs h = omega (arith, length-take p xs, length-drop p xs)

full : (f : Frame) (n p : ℕ) (xs : List ℕ) → (0 < length xs → length (payload_of f) ≡ p)
    → AllButLast (λ g. length (payload_of g) ≡ p) (f ∷ followers (cut n p xs))
unfolding followers cut
full f zero p xs h = tt
full f (suc n) p [] h = tt
full f (suc n) p (x ∷ xs) h = (
  h (omega arith),
  full (Next (is_more (cut n p (drop p (x ∷ xs)))) (take p (x ∷ xs))) n p
      (drop p (x ∷ xs)) (take-full p (x ∷ xs)),
)

-- the payload of a frame has 1 to p bytes
abbrev IsSized : ℕ → Frame → Type 0
IsSized p f = (1 ≤ length (payload_of f)) × (length (payload_of f) ≤ p)

take-sized : (p : ℕ) (xs : List ℕ) → 1 ≤ p → 0 < length xs
    → (1 ≤ length (take p xs)) × (length (take p xs) ≤ p)
take-sized p xs h k = (omega (arith, length-take p xs), omega (arith, length-take p xs))

-- what holds of each further frame with a payload of 1 to p bytes holds of all of them
each_follower : (P : Frame → Type 0) (n p : ℕ) (xs : List ℕ) → 1 ≤ p
    → ((more : Bool) (payload : List ℕ) → IsSized p (Next more payload) → P (Next more payload))
    → All P (followers (cut n p xs))
unfolding followers cut
each_follower P zero p xs h each = All-nil P
each_follower P (suc n) p [] h each = All-nil P
each_follower P (suc n) p (x ∷ xs) h each =
    let more : Bool = is_more (cut n p (drop p (x ∷ xs))) in
    All-cons P (Next more (take p (x ∷ xs))) (followers (cut n p (drop p (x ∷ xs))))
    (each more (take p (x ∷ xs)) (take-sized p (x ∷ xs) h (omega arith)))
    (each_follower P n p (drop p (x ∷ xs)) h each)

-- one more piece takes p bytes
div_ceil-next : (size p : ℕ) → 1 ≤ p → 0 < size → div_ceil size p ≡ suc (div_ceil (size - p) p)
div_ceil-next size p h k =
    elim (cases_lt size p) [
      | inl short ↦
          let none : size - p ≡ 0 = omega arith in
          let q : size / p ≡ 0 = omega (arith, div_below size p 1 h (omega arith)) in
          let r : size % p ≡ size = mod-eq_of_lt short in
          rw (none, q, r, zero-div p, zero-mod p) (omega arith)
      | inr long ↦
          let whole : size ≡ size - p + p = omega arith in
          let q : size / p ≡ (size - p) / p + 1 =
          ap (λ n. n / p) whole ∙ add-div_right (size - p) h in
          let r : size % p ≡ (size - p) % p = ap (λ n. n % p) whole ∙ add-mod_right (size - p) p in
          rw (q, r) (omega arith)
    ]

length-followers : (n p : ℕ) (xs : List ℕ) → 1 ≤ p → length xs ≤ n
    → length (followers (cut n p xs)) ≡ div_ceil (length xs) p
unfolding followers cut
length-followers zero p [] h k = rw (zero-div p, zero-mod p) refl
length-followers (suc n) p [] h k = rw (zero-div p, zero-mod p) refl
length-followers zero p (x ∷ xs) h k = absurd (omega arith)
length-followers (suc n) p (x ∷ xs) h k =
    ap suc (length-followers n p (drop p (x ∷ xs)) h (drop-shorter p x xs n h k)
    ∙ ap (λ l. div_ceil l p) (length-drop p (x ∷ xs)))
    ∙ sym (div_ceil-next (length (x ∷ xs)) p h (omega arith))

-- the frames of a message are the message cut into pieces
pub is_cut : (m : Message) (p : ℕ) → 1 ≤ p → 0 < length m.body → IsCutInto m p (pieces_of m p)
is_cut m p h k =
    let rest : List ℕ = drop p m.body in
    let ps : List (List ℕ) = cut (length rest) p rest in
    let first : Frame = First (ltb p (length m.body)) m.from m.to (length m.body) (take p m.body) in
    let at_first : IsCutInto m p (first ∷ followers ps) = record {
      joined = ap (λ bytes. take p m.body ++ bytes)
          (joined-followers ps ∙ joined-cut (length rest) p rest h (omega arith))
          ∙ take-append-drop p m.body;
      headed = ((refl, refl, refl), goes_on ps);
      full = full first (length rest) p rest (take-full p m.body);
      sized = All-cons (IsSized p) first (followers ps) (take-sized p m.body h k)
          (each_follower (IsSized p) (length rest) p rest h (λ more payload s. s));
      marked = marked first ps (sym (is_more_behind p m.body));
      counted =
          ap suc (length-followers (length rest) p rest h (omega arith)
          ∙ ap (λ l. div_ceil l p) (length-drop p m.body))
          ∙ sym (div_ceil-next (length m.body) p h k);
    } in
    subst (IsCutInto m p) (sym (pieces_of_first m p h k)) at_first

-- a payload short of the whole body where more follow, and else the whole
first_fits : (size p : ℕ) (body : List ℕ) → size ≡ length body
    → MatchBool (ltb p size) (length (take p body) < size) (length (take p body) ≡ size)
first_fits size p body e =
    elim (cases_lt p size) [
      | inl short ↦ rw (lt-ltb p size short) (omega (arith, length-take p body))
      | inr long ↦ rw (le-ltb p size long) (omega (arith, length-take p body))
    ]

-- each is within the bounds of a packet
pub pieces_fit : (m : Message) (p : ℕ) → 1 ≤ p → p ≤ 8192 → IsMessage m
    → All IsFrame (pieces_of m p)
pieces_fit m p h fits is =
    let payload : IsPayload (take p m.body) =
    (omega (arith, length-take p m.body), omega (arith, length-take p m.body)) in
    let first : IsFrame (First (ltb p (length m.body)) m.from m.to (length m.body)
    (take p m.body)) =
    (payload, is.0, is.1, first_fits (length m.body) p m.body refl)
    in
    rw (pieces_of_first m p h is.0)
    (All-cons IsFrame _ _ first
    (each_follower IsFrame (length (drop p m.body)) p (drop p m.body) h
    (λ more payload s. (s.0, omega arith))))

-- there are at most 1,024
pub few_pieces : (m : Message) (p : ℕ) → 64 ≤ p → IsMessage m → length (pieces_of m p) ≤ 1024
few_pieces m p h is =
    let count : length (pieces_of m p) ≡ div_ceil (length m.body) p =
    (is_cut m p (omega arith) is.0).counted in
    let bound : div_ceil (length m.body) p * p < length m.body + p =
    (div_ceil_times (length m.body) p (omega arith)).1 in
    elim (cases_lt 1024 (length (pieces_of m p))) [
      | inr few ↦ few
      | inl many ↦
          let times : 1025 * p ≤ div_ceil (length m.body) p * p =
          mul-le-mul_right p (rw (← count) many) in absurd (omega arith)
    ]
