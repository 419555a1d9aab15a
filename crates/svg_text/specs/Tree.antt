-- A picture as a tree of elements.
use Rattle.std.specs.Prelude.{ℕ, List, [], ◌∷◌, ◌++◌, codes, decimal}
use Rattle.svg_text.specs.declared.class.Class.{Class}
use Rattle.svg_text.specs.declared.picture.Picture.{Picture}
use Rattle.svg_text.specs.declared.picture.Row.{Row}
use Rattle.svg_text.specs.declared.shape.Anchor.{Anchor}
use Rattle.svg_text.specs.declared.shape.Area.{Area}
use Rattle.svg_text.specs.declared.shape.Point.{Point}
use Rattle.svg_text.specs.declared.shape.Shape.{Shape}
use Rattle.svg_text.specs.declared.shape.Shape.TheVariants.{Box, Circle, Path, Words}
use Rattle.svg_text.specs.declared.shape.Stroke.{Stroke}
use Rattle.svg_text.specs.Classes.{class_name}
use Rattle.svg_text.specs.Texts.{style_text}
use Rattle.svg_text.specs.Words.{shown, anchor_name, strokes_text, place_text}
use Rattle.svg_text.specs.Xml.{Attribute, Content, done, empty, holding}

-- the end of a line, which stands behind each element
abbrev pub line_end : List ℕ
line_end = codes "\n"

-- an attribute by its name and its value
abbrev pub attribute : List ℕ → List ℕ → Attribute
attribute name value = record { name = name; value = value }

-- an attribute whose value is a number, in decimal digits
abbrev pub number : List ℕ → ℕ → Attribute
number name n = attribute name (decimal n)

-- the attribute that says which class a shape is of
abbrev pub of_class : Class → Attribute
of_class class = attribute (codes "class") (class_name class)

-- an element of words alone, and the elements behind it
abbrev pub words_element : List ℕ → List Attribute → List ℕ → Content → Content
words_element name attributes words rest = holding name attributes words done line_end rest

-- an element with others inside it, each on a line of its own
abbrev pub group : List Attribute → Content → Content → Content
group attributes inside rest = holding (codes "g") attributes line_end inside line_end rest

-- the attributes of a box: its class, its corner, its width and its height
abbrev pub box_attributes : Class → Area → List Attribute
box_attributes class area =
    of_class class ∷ number (codes "x") area.corner.x ∷ number (codes "y") area.corner.y
    ∷ number (codes "width") area.width ∷ number (codes "height") area.height ∷ []

-- the attributes of a circle: its class, its middle and its radius
abbrev pub circle_attributes : Class → Point → ℕ → List Attribute
circle_attributes class middle radius =
    of_class class ∷ number (codes "cx") middle.x ∷ number (codes "cy") middle.y
    ∷ number (codes "r") radius ∷ []

-- the attributes of a path: its class and its strokes
abbrev pub path_attributes : Class → List Stroke → List Attribute
path_attributes class strokes =
    of_class class ∷ attribute (codes "d") (strokes_text strokes) ∷ []

-- the attributes of words: their class, which part of them stands at their point, and the point
abbrev pub text_attributes : Class → Anchor → Point → List Attribute
text_attributes class anchor point =
    of_class class ∷ attribute (codes "text-anchor") (anchor_name anchor)
    ∷ number (codes "x") point.x ∷ number (codes "y") point.y ∷ []

-- a shape, and the elements behind it
abbrev pub shape_before : Shape → Content → Content
shape_before (Box class area) rest =
    empty (codes "rect") (box_attributes class area) line_end rest
shape_before (Circle class middle radius) rest =
    empty (codes "circle") (circle_attributes class middle radius) line_end rest
shape_before (Path class strokes) rest =
    empty (codes "path") (path_attributes class strokes) line_end rest
shape_before (Words class anchor point words) rest =
    words_element (codes "text") (text_attributes class anchor point) (shown words) rest

-- some shapes as elements, from the back to the front
abbrev pub shapes_content : List Shape → Content
shapes_content [] = done
shapes_content (shape ∷ more) = shape_before shape (shapes_content more)

-- the title of a row or of a picture, and the elements behind it
abbrev pub title_before : List ℕ → Content → Content
title_before words rest = words_element (codes "title") [] (shown words) rest

-- the attributes of a row: its class, and its place by step and effect
abbrev pub row_attributes : ℕ → ℕ → List Attribute
row_attributes step effect =
    attribute (codes "class") (codes "row") ∷ attribute (codes "id") (place_text step effect) ∷ []

-- a row, and the elements behind it
abbrev pub row_before : Row → Content → Content
row_before row rest =
    group (row_attributes row.step row.effect)
    (title_before row.title (shapes_content row.shapes)) rest

-- some rows as elements, in order
abbrev pub rows_content : List Row → Content
rows_content [] = done
rows_content (row ∷ more) = row_before row (rows_content more)

-- a layer of a picture by its name, with what is inside it and what stands behind it
abbrev pub layer : List ℕ → Content → Content → Content
layer name inside rest = group (attribute (codes "class") name ∷ []) inside rest

-- the last layer of a picture: the shapes in front of the rows
abbrev pub front_layer : Picture → Content
front_layer picture = layer (codes "front") (shapes_content picture.front) done

-- the layer of a picture's rows, and the front layer behind it
abbrev pub rows_layer : Picture → Content
rows_layer picture = layer (codes "rows") (rows_content picture.rows) (front_layer picture)

-- the three layers of a picture: back, rows and front
abbrev pub layers : Picture → Content
layers picture = layer (codes "back") (shapes_content picture.back) (rows_layer picture)

-- the style sheet, and the elements behind it
abbrev pub style_before : Content → Content
style_before rest = words_element (codes "style") [] (codes "\n" ++ style_text) rest

-- the attributes of a picture: its name space, its width and height, what of it is seen, and that
-- it is an image
abbrev pub picture_attributes : ℕ → ℕ → List Attribute
picture_attributes width height =
    attribute (codes "xmlns") (codes "http://www.w3.org/2000/svg")
    ∷ number (codes "width") width ∷ number (codes "height") height
    ∷ attribute (codes "viewBox") (codes "0 0 " ++ decimal width ++ codes " " ++ decimal height)
    ∷ attribute (codes "role") (codes "img") ∷ []

-- what stands inside a picture: its title, its style sheet and its layers
abbrev pub inside_of : Picture → Content
inside_of picture = title_before picture.title (style_before (layers picture))

-- THE TREE OF A PICTURE: one element with a title, a style sheet and three layers
unfoldable pub tree_of : Picture → Content
tree_of picture =
    holding (codes "svg") (picture_attributes picture.width picture.height) line_end
    (inside_of picture) line_end done
