-- The text of a picture, as it is written.
use Rattle.std.specs.Prelude.{ℕ, List, ◌++◌, flat_map, codes, decimal}
use Rattle.svg_text.specs.declared.class.Class.{Class}
use Rattle.svg_text.specs.declared.picture.Picture.{Picture}
use Rattle.svg_text.specs.declared.picture.Row.{Row}
use Rattle.svg_text.specs.declared.shape.Anchor.{Anchor}
use Rattle.svg_text.specs.declared.shape.Point.{Point}
use Rattle.svg_text.specs.declared.shape.Shape.{Shape}
use Rattle.svg_text.specs.declared.shape.Shape.TheVariants.{Box, Circle, Path, Words}
use Rattle.svg_text.specs.Classes.{all_classes, class_name, light_look, dark_look}
use Rattle.svg_text.specs.Words.{words_text, anchor_name, strokes_text, place_text}

-- where an element stands
unfoldable pub at_text : Point → List ℕ
at_text p = codes " x=\"" ++ decimal p.x ++ codes "\" y=\"" ++ decimal p.y ++ codes "\""

-- the middle of a circle
unfoldable pub middle_text : Point → List ℕ
middle_text p = codes " cx=\"" ++ decimal p.x ++ codes "\" cy=\"" ++ decimal p.y ++ codes "\""

-- how wide and how high something is
unfoldable pub size_text : ℕ → ℕ → List ℕ
size_text width height =
    codes " width=\"" ++ decimal width ++ codes "\" height=\"" ++ decimal height ++ codes "\""

-- what a shape begins with: its element's name, and its class
unfoldable pub begin_text : List ℕ → Class → List ℕ
begin_text name class =
    codes "<" ++ name ++ codes " class=\"" ++ class_name class ++ codes "\""

-- which part of words stands at their point
unfoldable pub anchor_text : Anchor → List ℕ
anchor_text anchor = codes " text-anchor=\"" ++ anchor_name anchor ++ codes "\""

-- the words of an element, and its end
unfoldable pub within_text : List ℕ → List ℕ
within_text words = codes ">" ++ words_text words ++ codes "</text>\n"

-- a shape, on a line of its own
unfoldable pub shape_text : Shape → List ℕ
shape_text (Box class area) =
    begin_text (codes "rect") class ++ at_text area.corner ++ size_text area.width area.height
    ++ codes "/>\n"
shape_text (Circle class middle radius) =
    begin_text (codes "circle") class ++ middle_text middle ++ codes " r=\"" ++ decimal radius
    ++ codes "\"/>\n"
shape_text (Path class strokes) =
    begin_text (codes "path") class ++ codes " d=\"" ++ strokes_text strokes ++ codes "\"/>\n"
shape_text (Words class anchor point words) =
    begin_text (codes "text") class ++ anchor_text anchor ++ at_text point ++ within_text words

-- some shapes, from the back to the front
abbrev pub shapes_text : List Shape → List ℕ
shapes_text shapes = flat_map shape_text shapes

-- a title, which a viewer shows where the pointer rests
unfoldable pub title_text : List ℕ → List ℕ
title_text words = codes "<title>" ++ words_text words ++ codes "</title>\n"

-- what a row begins with
unfoldable pub begin_row_text : ℕ → ℕ → List ℕ
begin_row_text step effect =
    codes "<g class=\"row\" id=\"" ++ place_text step effect ++ codes "\">\n"

-- a row: the shapes that belong to a line of a journal
unfoldable pub row_text : Row → List ℕ
row_text row =
    begin_row_text row.step row.effect ++ title_text row.title ++ shapes_text row.shapes
    ++ codes "</g>\n"

-- some rows, one after the other
abbrev pub rows_text : List Row → List ℕ
rows_text rows = flat_map row_text rows

-- a layer of shapes, by its name
unfoldable pub layer_text : List ℕ → List Shape → List ℕ
layer_text name shapes =
    codes "<g class=\"" ++ name ++ codes "\">\n" ++ shapes_text shapes ++ codes "</g>\n"

-- the layer of the rows
unfoldable pub rows_layer_text : List Row → List ℕ
rows_layer_text rows = codes "<g class=\"rows\">\n" ++ rows_text rows ++ codes "</g>\n"

-- how the shapes of a class look on a light ground
abbrev pub light_rule : Class → List ℕ
light_rule class = codes "." ++ class_name class ++ codes "{" ++ light_look class ++ codes "}\n"

-- how the shapes of a class look on a dark ground
abbrev pub dark_rule : Class → List ℕ
dark_rule class = codes "." ++ class_name class ++ codes "{" ++ dark_look class ++ codes "}\n"

-- the ground and the words of a light picture; that a row lights under the pointer; that words in
-- front aren't in its way; that labels have a halo, so that they are read over lines, but for those at
-- the back, which no line passes
unfoldable pub light_ground : List ℕ
light_ground =
    codes "svg{background:#fff}\ntext{font:11px ui-monospace,'DejaVu Sans Mono',Menlo,"
    ++ codes "Consolas,monospace;fill:#222;white-space:pre}\n"
    ++ codes ".row:hover .hit,.lit .hit{fill:#e69f00;fill-opacity:.2}\n"
    ++ codes ".front{pointer-events:none}\n"
    ++ codes ".label,.faint,.strong,.wrong-label{paint-order:stroke;stroke:#f6f9fc;"
    ++ codes "stroke-width:11px;stroke-linejoin:round}\n.back text{stroke:none}\n"

-- what is otherwise in a dark one
unfoldable pub dark_ground : List ℕ
dark_ground =
    codes "@media(prefers-color-scheme:dark){\nsvg{background:#14171b}\ntext{fill:#e4e6e8}\n"

-- how these classes look, as the viewer has it: light or dark
abbrev pub sheet_text : List Class → List ℕ
sheet_text classes =
    light_ground ++ flat_map light_rule classes ++ dark_ground ++ flat_map dark_rule classes
    ++ codes "}\n"

-- the style sheet: how all classes look
unfoldable pub style_text : List ℕ
style_text = sheet_text all_classes

-- what a picture begins with: its size
unfoldable pub begin_picture_text : ℕ → ℕ → List ℕ
begin_picture_text width height =
    codes "<svg xmlns=\"http://www.w3.org/2000/svg\"" ++ size_text width height
    ++ codes " viewBox=\"0 0 " ++ decimal width ++ codes " " ++ decimal height
    ++ codes "\" role=\"img\">\n"

-- the style sheet as an element of a picture
unfoldable pub style_element_text : List ℕ
style_element_text = codes "<style>\n" ++ style_text ++ codes "</style>\n"

-- a picture's size and title, and how it looks
unfoldable pub head_text : Picture → List ℕ
head_text picture =
    begin_picture_text picture.width picture.height ++ title_text picture.title
    ++ style_element_text

-- a picture: what lies at the back, the rows, and what lies in front of them
unfoldable pub picture_text : Picture → List ℕ
picture_text picture =
    head_text picture ++ layer_text (codes "back") picture.back ++ rows_layer_text picture.rows
    ++ layer_text (codes "front") picture.front ++ codes "</svg>\n"
