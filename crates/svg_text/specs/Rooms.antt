-- How long the text of a picture can be: so many bytes for each shape, row, stroke and byte of
-- words.
use Rattle.std.specs.Prelude.{ℕ, ◌+◌, ◌*◌, List, [], ◌∷◌, length}
use Rattle.svg_text.specs.declared.picture.Picture.{Picture}
use Rattle.svg_text.specs.declared.picture.Row.{Row}
use Rattle.svg_text.specs.declared.shape.Shape.{Shape}
use Rattle.svg_text.specs.declared.shape.Shape.TheVariants.{Box, Circle, Path, Words}
use Rattle.svg_text.specs.Texts.{style_text}

-- the most bytes of a shape's text
abbrev pub shape_room : Shape → ℕ
shape_room (Box class area) = 330
shape_room (Circle class middle radius) = 250
shape_room (Path class strokes) = 40 + 400 * length strokes
shape_room (Words class anchor point words) = 200 + 6 * length words

-- the most bytes of the text of some shapes
abbrev pub shapes_room : List Shape → ℕ
shapes_room [] = 0
shapes_room (shape ∷ more) = shape_room shape + shapes_room more

-- the most bytes of a row's text
abbrev pub row_room : Row → ℕ
row_room row = 180 + 6 * length row.title + shapes_room row.shapes

-- the most bytes of the text of some rows
abbrev pub rows_room : List Row → ℕ
rows_room [] = 0
rows_room (row ∷ more) = row_room row + rows_room more

-- the most bytes of a picture's text: linear in what it has
unfoldable pub picture_room : Picture → ℕ
picture_room picture =
    500 + length style_text + 6 * length picture.title + shapes_room picture.back
    + rows_room picture.rows + shapes_room picture.front
