-- ARRIVALS AS A COUNT: what arrived is the front of what was sent, and so the law asks only whether
-- the signal behind it is the one that comes.
use Rattle.std.proofs.Common.{◌≡◌, List, [], ◌∷◌, ◌++◌, length, Some, None, refl, slice_get}
use Rattle.linx_base.specs.Fronts.{IsFront}

module _ {X : Type 0} where
  -- the element behind a front is the one at its length
  pub front-next : (xs : List X) (x : X) (ys : List X) → IsFront (xs ++ x ∷ []) ys
      → slice_get ys (length xs) ≡ Some x
  front-next [] x [] front = let e = front.1 in cc
  front-next [] x (y ∷ ys) front = let e = front.1 in cc
  front-next (z ∷ xs) x [] front = let e = front.1 in cc
  front-next (z ∷ xs) x (y ∷ ys) front =
      let e = front.1 in
      let rest : ys ≡ (xs ++ x ∷ []) ++ front.0 = cc in
      front-next xs x ys (front.0, rest)

  -- and with it the front is longer by one
  pub next-front : (xs : List X) (x : X) (ys : List X) → IsFront xs ys
      → slice_get ys (length xs) ≡ Some x → IsFront (xs ++ x ∷ []) ys
  next-front [] x [] front is = cc is
  next-front [] x (y ∷ ys) front is = let same : y ≡ x = cc is in (ys, cc)
  next-front (z ∷ xs) x [] front is = cc is
  next-front (z ∷ xs) x (y ∷ ys) front is =
      let e = front.1 in
      let first : y ≡ z = cc in
      let rest : ys ≡ xs ++ front.0 = cc in
      let more = next-front xs x ys (front.0, rest) is in
      let longer = more.1 in
      (more.0, cc)

  -- behind which nothing stands exactly where it is all
  pub front-all : (xs ys : List X) → IsFront xs ys → slice_get ys (length xs) ≡ None → xs ≡ ys
  front-all [] [] front is = refl
  front-all [] (y ∷ ys) front is = cc is
  front-all (z ∷ xs) [] front is = let e = front.1 in cc
  front-all (z ∷ xs) (y ∷ ys) front is =
      let e = front.1 in
      let first : y ≡ z = cc in
      let rest : ys ≡ xs ++ front.0 = cc in
      let all : xs ≡ ys = front-all xs ys (front.0, rest) is in
      cc

  pub all-behind : (xs : List X) → slice_get xs (length xs) ≡ None
  all-behind [] = refl
  all-behind (x ∷ xs) = all-behind xs
