use Rattle.std.proofs.Common.{◌≡◌, ◌++◌, take, flat_map}
use Rattle.svg_text.specs.Texts.{row_text}
use Rattle.svg_text.proofs.picture.write_rows.Given as goal

-- the rows so far were written
abbrev pub invariant-loop-row : goal.invariant-loop-row
invariant-loop-row l =
    l.out.items ≡ l.initial.out.items ++ flat_map row_text (take l.row-index l.rows)
