-- The text in which orders are comments is as long as the text.
use Rattle.std.proofs.Common.{◌≡◌, ◌∙◌, ℕ, ◌+◌, ◌++◌, Bool, true, false, cond, List, [], ◌∷◌}
use Rattle.std.proofs.Common.{length, drop, refl, arith, flat_map, sum_by, codes, length-append}
use Rattle.std.proofs.Common.{◌≤◌, Result, Ok, Err}
use Rattle.std.proofs.lemmas.List.Sums.{sum_by-cons}
use Rattle.script_lang.proofs.Sizes.{script_within}
use Rattle.script_lang.specs.Parts.{ScriptParts}
use Rattle.script_lang.specs.Reading.{script_of}
use Rattle.script_words.specs.Lines.{lines_of}
use Rattle.script_words.specs.declared.fault.Fault.{Fault}
use Rattle.script_words.proofs.Cuts.{sum_by-lines_of}
use Rattle.order_lines.specs.Fronts.{OrderedParts, beside, ordered_of}
use Rattle.order_lines.specs.Lines.{begins_order, behind_blanks, is_order_line, plain_line}
use Rattle.order_lines.specs.Lines.{without_orders}

no-order : is_order_line [] ≡ false
unfolding is_order_line
no-order = refl

by_case : (order : Bool) (b : ℕ) (bs : List ℕ)
    → length (cond order (35 ∷ bs) (b ∷ bs)) ≡ length (b ∷ bs)
by_case true b bs = refl
by_case false b bs = refl

-- a line in which an order is a comment is as long as the line
length-plain : (line : List ℕ) → length (plain_line line) ≡ length line
length-plain [] = rw no-order refl
length-plain (b ∷ bs) = by_case (is_order_line (b ∷ bs)) b bs

length-lines : (lines : List (List ℕ)) → length (flat_map plain_line lines) ≡ sum_by length lines
length-lines [] = refl
length-lines (line ∷ lines) =
    length-append (plain_line line) (flat_map plain_line lines)
    ∙ omega (arith, length-plain line, length-lines lines, sum_by-cons length line lines)

pub length-without_orders : (bytes : List ℕ) → length (without_orders bytes) ≡ length bytes
length-without_orders bytes = length-lines (lines_of bytes) ∙ sum_by-lines_of bytes

-- what a script with its orders has the script of
script-beside : (bytes : List ℕ) (spells : Result ScriptParts (ℕ × Fault)) (ordered : OrderedParts)
    → script_of (without_orders bytes) ≡ spells → beside bytes spells ≡ Ok ordered
    → length bytes ≤ 1048576
script-beside bytes (Ok script) ordered spells is =
    omega (
      arith,
      length-without_orders bytes,
      script_within (without_orders bytes) script spells,
    )
script-beside bytes (Err bad) ordered spells is = cc

-- a text that spells a script with its orders is no longer than one of a script
pub ordered_within : (bytes : List ℕ) (ordered : OrderedParts) → ordered_of bytes ≡ Ok ordered
    → length bytes ≤ 1048576
ordered_within bytes ordered is =
    script-beside bytes (script_of (without_orders bytes)) ordered refl is
