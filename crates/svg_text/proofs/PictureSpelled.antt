-- THE TREE OF A PICTURE MAY STAND IN A DOCUMENT: its names are names, no element has two attributes
-- of one name, values are plain, and texts are characters.
use Rattle.std.proofs.Common.{◌≡◌, ℕ, Bool, true, List, [], ◌∷◌, ◌++◌, refl, ◌&&◌, codes}
use Rattle.std.specs.List.{list_all}
use Rattle.std.proofs.lemmas.Bool.{and_from, and_parts}
use Rattle.svg_text.specs.declared.picture.Picture.{Picture}
use Rattle.svg_text.specs.declared.picture.Row.{Row}
use Rattle.svg_text.specs.declared.shape.Shape.{Shape}
use Rattle.svg_text.specs.declared.shape.Shape.TheVariants.{Box, Circle, Path, Words}
use Rattle.svg_text.specs.Texts.{style_text}
use Rattle.svg_text.specs.Tree.{line_end, attribute, box_attributes}
use Rattle.svg_text.specs.Tree.{circle_attributes, path_attributes, text_attributes, shape_before}
use Rattle.svg_text.specs.Tree.{shapes_content, title_before, row_attributes, row_before}
use Rattle.svg_text.specs.Tree.{rows_content, layer, front_layer, rows_layer, layers, style_before}
use Rattle.svg_text.specs.Tree.{picture_attributes, inside_of, tree_of}
use Rattle.svg_text.specs.Words.{shown}
use Rattle.svg_text.specs.Xml.{Attribute, Content, Token, done, empty, holding, closes, tokens_of}
use Rattle.svg_text.specs.Xml.{is_character, is_plain, is_tag_name, is_new, are_attributes}
use Rattle.svg_text.specs.Xml.{is_token, is_spelled}
use Rattle.svg_text.proofs.Bytes.{all_append}
use Rattle.svg_text.proofs.Plain.{number_plain, plain_characters, shown_characters, name_plain}
use Rattle.svg_text.proofs.Plain.{style_plain, anchor_plain, strokes_plain, place_plain, view_plain}

-- the tags of these elements may stand in a document
abbrev fits : Content → Bool
fits content = list_all is_token (tokens_of content)

-- the names are names, and no two the same
abbrev are_named : List Attribute → Bool
are_named [] = true
are_named (a ∷ more) = is_tag_name a.name && is_new a.name more && are_named more

abbrev has_plain_value : Attribute → Bool
has_plain_value a = list_all is_plain a.value

attributes_from : (attributes : List Attribute) → are_named attributes ≡ true
    → list_all has_plain_value attributes ≡ true → are_attributes attributes ≡ true
attributes_from [] named plain = refl
attributes_from (a ∷ more) named plain =
    let names = and_parts (is_tag_name a.name && is_new a.name more) (are_named more) named in
    let two = and_parts (is_tag_name a.name) (is_new a.name more) names.0 in
    let values = and_parts (list_all is_plain a.value) (list_all has_plain_value more) plain in
    and_from _ _ (and_from _ _ (and_from _ _ two.0 values.0) two.1)
    (attributes_from more names.1 values.1)

empty_fits : (name : List ℕ) (attributes : List Attribute) (rest : Content)
    → is_tag_name name ≡ true → are_attributes attributes ≡ true → fits rest ≡ true
    → fits (empty name attributes line_end rest) ≡ true
empty_fits name attributes rest named are more =
    and_from _ _ (and_from _ _ (and_from _ _ named are) refl) more

holding_fits : (name : List ℕ) (attributes : List Attribute) (text : List ℕ)
    (inside rest : Content) → is_tag_name name ≡ true → are_attributes attributes ≡ true
    → list_all is_character text ≡ true → fits inside ≡ true → fits rest ≡ true
    → fits (holding name attributes text inside line_end rest) ≡ true
holding_fits name attributes text inside rest named are shows within more =
    let closing : Token = record { tag = closes name; behind = line_end } in
    and_from _ _ (and_from _ _ (and_from _ _ named are) shows)
    (all_append is_token (tokens_of inside) (closing ∷ tokens_of rest) within
    (and_from _ _ (and_from _ _ named refl) more))

shape_fits : (shape : Shape) (rest : Content) → fits rest ≡ true
    → fits (shape_before shape rest) ≡ true
shape_fits (Box class area) rest more =
    empty_fits (codes "rect") (box_attributes class area) rest refl
    (attributes_from (box_attributes class area) refl
    (and_from _ _ (name_plain class) (and_from _ _ (number_plain area.corner.x)
    (and_from _ _ (number_plain area.corner.y) (and_from _ _ (number_plain area.width)
    (and_from _ _ (number_plain area.height) refl)))))) more
shape_fits (Circle class middle radius) rest more =
    empty_fits (codes "circle") (circle_attributes class middle radius) rest refl
    (attributes_from (circle_attributes class middle radius) refl
    (and_from _ _ (name_plain class) (and_from _ _ (number_plain middle.x)
    (and_from _ _ (number_plain middle.y) (and_from _ _ (number_plain radius) refl))))) more
shape_fits (Path class strokes) rest more =
    empty_fits (codes "path") (path_attributes class strokes) rest refl
    (attributes_from (path_attributes class strokes) refl
    (and_from _ _ (name_plain class) (and_from _ _ (strokes_plain strokes) refl))) more
shape_fits (Words class anchor point words) rest more =
    holding_fits (codes "text") (text_attributes class anchor point) (shown words) done rest refl
    (attributes_from (text_attributes class anchor point) refl
    (and_from _ _ (name_plain class) (and_from _ _ (anchor_plain anchor)
    (and_from _ _ (number_plain point.x) (and_from _ _ (number_plain point.y) refl)))))
    (shown_characters words) refl more

shapes_fit : (shapes : List Shape) → fits (shapes_content shapes) ≡ true
shapes_fit [] = refl
shapes_fit (shape ∷ more) = shape_fits shape (shapes_content more) (shapes_fit more)

title_fits : (words : List ℕ) (rest : Content) → fits rest ≡ true
    → fits (title_before words rest) ≡ true
title_fits words rest more =
    holding_fits (codes "title") [] (shown words) done rest refl refl (shown_characters words) refl
    more

row_fits : (row : Row) (rest : Content) → fits rest ≡ true → fits (row_before row rest) ≡ true
row_fits row rest more =
    holding_fits (codes "g") (row_attributes row.step row.effect) line_end
    (title_before row.title (shapes_content row.shapes)) rest refl
    (attributes_from (row_attributes row.step row.effect) refl
    (and_from _ _ (place_plain row.step row.effect) refl)) refl
    (title_fits row.title (shapes_content row.shapes) (shapes_fit row.shapes)) more

rows_fit : (rows : List Row) → fits (rows_content rows) ≡ true
rows_fit [] = refl
rows_fit (row ∷ more) = row_fits row (rows_content more) (rows_fit more)

layer_fits : (name : List ℕ) (inside rest : Content) → list_all is_plain name ≡ true
    → fits inside ≡ true → fits rest ≡ true → fits (layer name inside rest) ≡ true
layer_fits name inside rest plain within more =
    holding_fits (codes "g") (attribute (codes "class") name ∷ []) line_end inside rest refl
    (attributes_from (attribute (codes "class") name ∷ []) refl (and_from _ _ plain refl)) refl
    within more

layers_fit : (picture : Picture) → fits (layers picture) ≡ true
layers_fit picture =
    layer_fits (codes "back") (shapes_content picture.back) (rows_layer picture) refl
    (shapes_fit picture.back)
    (layer_fits (codes "rows") (rows_content picture.rows) (front_layer picture) refl
    (rows_fit picture.rows)
    (layer_fits (codes "front") (shapes_content picture.front) done refl
    (shapes_fit picture.front) refl))

inside_fits : (picture : Picture) → fits (inside_of picture) ≡ true
inside_fits picture =
    title_fits picture.title (style_before (layers picture))
    (holding_fits (codes "style") [] (codes "\n" ++ style_text) done (layers picture) refl refl
    (plain_characters style_text style_plain) refl (layers_fit picture))

pub picture_spelled : (picture : Picture) → is_spelled (tree_of picture) ≡ true
unfolding tree_of
picture_spelled picture =
    and_from _ _
    (holding_fits (codes "svg") (picture_attributes picture.width picture.height) line_end
    (inside_of picture) done refl
    (attributes_from (picture_attributes picture.width picture.height) refl
    (and_from _ _ (number_plain picture.width) (and_from _ _ (number_plain picture.height)
    (and_from _ _ (view_plain picture.width picture.height) refl)))) refl (inside_fits picture)
    refl) refl
