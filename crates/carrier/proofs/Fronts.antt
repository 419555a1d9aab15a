-- Fronts of lists, and the frames of some messages.
use Rattle.std.proofs.Common.{◌≡◌, ◌+◌, ◌≤◌, ℕ, zero, suc, ◌⊎◌, Bool, true, false, Some, List, []}
use Rattle.std.proofs.Common.{◌∷◌, ◌++◌, length, take, drop, refl, sym, ap, ◌∙◌, subst, arith, inl}
use Rattle.std.proofs.Common.{inr, append_assoc, All, slice_get, append-nil, length-append}
use Rattle.std.proofs.Common.{length-take, take-append-drop}
use Rattle.std.proofs.lemmas.List.{take-append-le}
use Rattle.std.proofs.lemmas.List.Elements.{All-head, All-tail}
use Rattle.std.proofs.lemmas.Option.{same_Some}
use Rattle.std.proofs.Math.Seq.{take-append_seam}
use Rattle.std.proofs.lemmas.List.Concat.{flat_map-append}
use Rattle.linx_base.specs.declared.frame.Message.{Message}
use Rattle.fragmenter.specs.Pieces.{pieces_of}
use Rattle.fragmenter.specs.Streams.{frames_of}
use Rattle.linx_base.specs.Fronts.{IsFront}

-- the truth of a test
pub either : (b : Bool) → (b ≡ true) ⊎ (b ≡ false)
either true = inl refl
either false = inr refl

module _ {X : Type 0} where
  pub front_refl : (xs : List X) → IsFront xs xs
  front_refl xs = ([], sym (append-nil xs))

  pub front_nil : (ys : List X) → IsFront [] ys
  front_nil ys = (ys, refl)

  pub front_push : (xs ys : List X) → IsFront xs (xs ++ ys)
  front_push xs ys = (ys, refl)

  pub front_trans : (xs ys zs : List X) → IsFront xs ys → IsFront ys zs → IsFront xs zs
  front_trans xs ys zs f g =
      (f.0 ++ g.0, g.1 ∙ ap (λ l. l ++ g.0) f.1 ∙ append_assoc xs f.0 g.0)

  -- of nothing, nothing is a front
  pub front_of_nil : (xs rest : List X) → [] ≡ xs ++ rest → xs ≡ []
  front_of_nil [] rest e = refl
  front_of_nil (x ∷ xs) rest e = absurd (grind arith)

  -- what stands in a front stands in the whole
  found_before : (xs ys : List X) (k : ℕ) (x : X) → slice_get xs k ≡ Some x
      → slice_get (xs ++ ys) k ≡ Some x
  found_before [] ys k x e = absurd (grind arith)
  found_before (y ∷ xs) ys zero x e = e
  found_before (y ∷ xs) ys (suc k) x e = found_before xs ys k x e

  pub found_in_front : (xs ys : List X) (k : ℕ) (x : X) → IsFront xs ys
      → slice_get xs k ≡ Some x → slice_get ys k ≡ Some x
  found_in_front xs ys k x f e =
      subst (λ l. slice_get l k ≡ Some x) (sym f.1) (found_before xs f.0 k x e)

  -- what holds of each holds of the one at a place
  pub all_at : (P : X → Type 0) (xs : List X) (k : ℕ) (x : X) → All P xs
      → slice_get xs k ≡ Some x → P x
  all_at P [] k x all e = absurd (grind arith)
  all_at P (y ∷ xs) zero x all e = subst P (same_Some y x e) (All-head P y xs all)
  all_at P (y ∷ xs) (suc k) x all e = all_at P xs k x (All-tail P y xs all) e

  -- the first elements, and those that stand behind them
  pub take_more : (all xs rest : List X) (n : ℕ) → n ≤ length all → drop n all ≡ xs ++ rest
      → take (n + length xs) all ≡ take n all ++ xs
  take_more all xs rest n within behind =
      let whole : all ≡ (take n all ++ xs) ++ rest =
      sym (take-append-drop n all) ∙ ap (λ l. take n all ++ l) behind
      ∙ sym (append_assoc (take n all) xs rest) in
      let count : n + length xs ≡ length (take n all ++ xs) =
      omega (arith, length-append (take n all) xs, length-take n all) in
      ap (λ k. take k all) count ∙ ap (λ l. take (length (take n all ++ xs)) l) whole
      ∙ take-append_seam (take n all ++ xs) rest

  -- the first elements of a list that goes on
  pub take_front : (xs ys : List X) (n : ℕ) → IsFront xs ys → n ≤ length xs
      → take n ys ≡ take n xs
  take_front xs ys n f within = ap (λ l. take n l) f.1 ∙ take-append-le n xs f.0 within

  pub front_length : (xs ys : List X) → IsFront xs ys → length xs ≤ length ys
  front_length xs ys f = omega (arith, ap length f.1, length-append xs f.0)

-- ---- frames

pub frames-append : (piece : ℕ) (xs ys : List Message)
    → frames_of piece (xs ++ ys) ≡ frames_of piece xs ++ frames_of piece ys
frames-append piece xs ys = flat_map-append (λ m. pieces_of m piece) xs ys

pub frames-push : (piece : ℕ) (ms : List Message) (m : Message)
    → frames_of piece (ms ++ m ∷ []) ≡ frames_of piece ms ++ pieces_of m piece
frames-push piece ms m =
    frames-append piece ms (m ∷ [])
    ∙ ap (λ l. frames_of piece ms ++ l) (append-nil (pieces_of m piece))

pub front_frames : (piece : ℕ) (xs ys : List Message) → IsFront xs ys
    → IsFront (frames_of piece xs) (frames_of piece ys)
front_frames piece xs ys f =
    (frames_of piece f.0, ap (frames_of piece) f.1 ∙ frames-append piece xs f.0)
