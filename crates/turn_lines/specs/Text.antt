-- THE LINES `order` THAT LIST TURNS: `order A1*3 P1 A2`.
use Rattle.std.specs.Prelude.{ℕ, ◌+◌, ◌==◌, List, [], ◌∷◌, ◌++◌, codes, decimal, flat_map}
use Rattle.std.specs.Prelude.{if◌then◌else◌}
use Rattle.std.specs.List.{onto_first}
use Rattle.journal.specs.declared.by.By.{By}
use Rattle.journal.specs.declared.by.By.TheVariants.{Actor, Pump}
use Rattle.turn_lines.specs.declared.rows.Row.{Row}
use Rattle.turn_lines.specs.Rows.{rows_of}

-- a maker's name: actors are `A1`, `A2`, .., and links `P1`, `P2`, ..
abbrev pub maker_text : By → List ℕ
maker_text (Actor k) = codes "A" ++ decimal k
maker_text (Pump l) = codes "P" ++ decimal l.0

-- how many turns, where there are more than one
abbrev pub times_text : ℕ → List ℕ
times_text n = if n == 1 then [] else codes "*" ++ decimal n

-- the word of a row
unfoldable pub row_text : Row → List ℕ
row_text row = maker_text row.maker ++ times_text row.times

-- the word of a row behind a space
abbrev pub word_text : Row → List ℕ
word_text row = codes " " ++ row_text row

-- the line of a few rows
unfoldable pub line_text : List Row → List ℕ
line_text rows = codes "order" ++ flat_map word_text rows ++ codes "\n"

-- rows in lines of sixteen, where so many stand before them in the first line
abbrev pub in_lines : ℕ → List Row → List (List Row)
in_lines n [] = []
in_lines n (row ∷ rows) =
    if n + 1 == 16 then (row ∷ []) ∷ in_lines 0 rows else onto_first row (in_lines (n + 1) rows)

-- THE LINES that list the turns of these makers
abbrev pub order_text : List By → List ℕ
order_text makers = flat_map line_text (in_lines 0 (rows_of makers))
