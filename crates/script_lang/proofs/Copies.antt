-- commands again and again
use Rattle.std.proofs.Common.{◌≡◌, ℕ, suc, zero, ◌+◌, ◌*◌, Bool, true, List, ◌++◌, length, refl}
use Rattle.std.proofs.Common.{sym, ◌∙◌, ap, arith, length-append, append_assoc, append-nil}
use Rattle.std.specs.List.{list_all, repeat}
use Rattle.std.proofs.lemmas.Bool.{and_from}
use Rattle.std.proofs.lemmas.List.Folds.{list_all-append}
use Rattle.script_words.specs.declared.command.Command.{Command}
use Rattle.script_lang.specs.Copies.{copies}

module _ {A : Type 0} where
  length-repeat : (n : ℕ) (xs : List A) → length (repeat n xs) ≡ n * length xs
  length-repeat zero xs = omega arith
  length-repeat (suc n) xs = omega (arith, length-append xs (repeat n xs), length-repeat n xs)

  list_all-repeat : (p : A → Bool) (n : ℕ) (xs : List A)
      → list_all p xs ≡ true → list_all p (repeat n xs) ≡ true
  list_all-repeat p zero xs h = refl
  list_all-repeat p (suc n) xs h =
      list_all-append p xs (repeat n xs) ∙ and_from _ _ h (list_all-repeat p n xs h)

  repeat_suc : (n : ℕ) (xs : List A) → repeat (suc n) xs ≡ repeat n xs ++ xs
  repeat_suc zero xs = append-nil xs
  repeat_suc (suc n) xs =
      ap (λ rest. xs ++ rest) (repeat_suc n xs) ∙ sym (append_assoc xs (repeat n xs) xs)

  -- a copy more of a block, behind the others
  repeat_push : (n : ℕ) (xs : List A) → repeat (n + 1) xs ≡ repeat n xs ++ xs
  repeat_push n xs = let later : n + 1 ≡ suc n = omega arith in rw later (repeat_suc n xs)

pub length-copies : (n : ℕ) (block : List Command) → length (copies n block) ≡ n * length block
unfolding copies
length-copies n block = length-repeat n block

pub list_all-copies : (p : Command → Bool) (n : ℕ) (block : List Command)
    → list_all p block ≡ true → list_all p (copies n block) ≡ true
unfolding copies
list_all-copies p n block h = list_all-repeat p n block h

-- none as yet
pub copies_none : (front block : List Command) → front ≡ front ++ copies 0 block
unfolding copies
copies_none front block = sym (append-nil front)

-- one more, behind what stood before
pub copies_on : (front so_far new : List Command) (n : ℕ) (block : List Command)
    → so_far ≡ front ++ copies n block → new ≡ so_far ++ block
    → new ≡ front ++ copies (n + 1) block
unfolding copies
copies_on front so_far new n block h one =
    one ∙ ap (λ all. all ++ block) h ∙ append_assoc front (repeat n block) block
    ∙ ap (λ rest. front ++ rest) (sym (repeat_push n block))
