-- a letter and a number are a name
use Rattle.std.proofs.Common.{◌≡◌, ℕ, ◌+◌, ◌%◌, ◌^◌, ◌<◌, ◌≤◌, true, List, [], ◌∷◌, ◌++◌, length}
use Rattle.std.proofs.Common.{refl, ◌∙◌, arith, length-append, decimal, le-leb}
use Rattle.std.specs.List.{list_all}
use Rattle.std.proofs.lemmas.Bool.{and_from, agree_below_at}
use Rattle.std.proofs.lemmas.Fmt.{decimal_by_steps, length-decimal-le}
use Rattle.std.proofs.lemmas.List.Folds.{list_all-append}
use Rattle.linx_base.specs.NameText.{is_name, is_name_byte}
use Rattle.work_gen.specs.Generated.{numbered}

digit : (n : ℕ) → n < 10 → list_all is_name_byte ((48 + n) ∷ []) ≡ true
digit n h =
    and_from _ _ (agree_below_at (λ k. is_name_byte (48 + k)) (λ k. true) 10 n refl h) refl

digits_are : (n : ℕ) → n < 2 ^ 64 → list_all is_name_byte (decimal n) ≡ true
digits_are n h =
    decimal_by_steps (λ k ds. list_all is_name_byte ds ≡ true) digit
    (λ k ds large so_far. list_all-append is_name_byte ds ((48 + k % 10) ∷ [])
    ∙ and_from _ _ so_far (digit (k % 10) (omega arith))) n h

pub numbered_is_name : (letter n : ℕ) → n < 2 ^ 32 → is_name_byte letter ≡ true
    → is_name (numbered (letter ∷ []) n) ≡ true
numbered_is_name letter n small is_letter =
    let digits : length (decimal n) ≤ 10 =
    length-decimal-le 10 n (omega arith) (omega arith) (omega arith)
    in
    let text = (letter ∷ []) ++ decimal n in
    let long = length-append (letter ∷ []) (decimal n) in
    and_from _ _
    (and_from _ _
    (le-leb 1 (length text) (omega (arith, long)))
    (le-leb (length text) 32 (omega (arith, long, digits))))
    (and_from _ _ is_letter (digits_are n (omega arith)))
