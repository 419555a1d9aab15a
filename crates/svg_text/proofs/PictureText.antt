-- THE TEXT OF A PICTURE IS THE DOCUMENT OF ITS TREE.
use Rattle.std.proofs.Common.{◌≡◌, ℕ, List, [], ◌∷◌, ◌++◌, refl, sym, ap, ◌∙◌, flat_map}
use Rattle.std.proofs.Common.{append_assoc, codes, decimal}
use Rattle.std.proofs.lemmas.Grind.{flat_map-append}
use Rattle.svg_text.specs.declared.class.Class.{Class}
use Rattle.svg_text.specs.declared.picture.Picture.{Picture}
use Rattle.svg_text.specs.declared.picture.Row.{Row}
use Rattle.svg_text.specs.declared.shape.Point.{Point}
use Rattle.svg_text.specs.declared.shape.Shape.{Shape}
use Rattle.svg_text.specs.declared.shape.Shape.TheVariants.{Box, Circle, Path, Words}
use Rattle.svg_text.specs.Classes.{class_name}
use Rattle.svg_text.specs.Texts.{at_text, middle_text, size_text, begin_text, anchor_text}
use Rattle.svg_text.specs.Texts.{within_text, shape_text}
use Rattle.svg_text.specs.Texts.{shapes_text, title_text, begin_row_text, row_text, rows_text}
use Rattle.svg_text.specs.Texts.{layer_text, rows_layer_text, begin_picture_text, style_text}
use Rattle.svg_text.specs.Texts.{style_element_text, head_text, picture_text}
use Rattle.svg_text.specs.Tree.{line_end, attribute, box_attributes, circle_attributes}
use Rattle.svg_text.specs.Tree.{path_attributes, text_attributes, shape_before, shapes_content}
use Rattle.svg_text.specs.Tree.{title_before, row_attributes, row_before, rows_content, layer}
use Rattle.svg_text.specs.Tree.{front_layer, rows_layer, layers, style_before, picture_attributes}
use Rattle.svg_text.specs.Tree.{inside_of, tree_of}
use Rattle.svg_text.specs.Words.{shown, words_text, anchor_name, strokes_text, place_text}
use Rattle.svg_text.specs.Xml.{Attribute, Content, Token, done, holding, opens, closes}
use Rattle.svg_text.specs.Xml.{tokens_of, character_text, attribute_text, token_text, document_text}
use Rattle.svg_text.proofs.Joined.{Joined, one, ◌⊕◌, onto, from_right}
use Rattle.svg_text.proofs.Plain.{written_words, plain_text, style_plain}

-- ---- how the parts of a document are joined

abbrev valued : List ℕ → Joined → Joined
valued name value =
    one (codes " ") ⊕ one name ⊕ one (codes "=\"") ⊕ value ⊕ one (codes "\"")

abbrev attributes : List Attribute → Joined
attributes [] = one []
attributes (a ∷ more) = valued a.name (one a.value) ⊕ attributes more

abbrev opening : List ℕ → List Attribute → List ℕ → Joined
opening name given text =
    one (codes "<") ⊕ (one name ⊕ one (flat_map attribute_text given)) ⊕ one (codes ">")
    ⊕ one (flat_map character_text text)

abbrev closing : List ℕ → Joined
closing name = one (codes "<") ⊕ (one (codes "/") ⊕ one name) ⊕ one (codes ">") ⊕ one (codes "\n")

abbrev standing : List ℕ → List Attribute → Joined
standing name given =
    one (codes "<") ⊕ (one name ⊕ attributes given ⊕ one (codes "/")) ⊕ one (codes ">")
    ⊕ one (codes "\n")

-- ---- and those of a picture's text

abbrev at_joined : Point → Joined
at_joined p =
    one (codes " x=\"") ⊕ one (decimal p.x) ⊕ one (codes "\" y=\"") ⊕ one (decimal p.y)
    ⊕ one (codes "\"")

abbrev middle_joined : Point → Joined
middle_joined p =
    one (codes " cx=\"") ⊕ one (decimal p.x) ⊕ one (codes "\" cy=\"") ⊕ one (decimal p.y)
    ⊕ one (codes "\"")

abbrev size_joined : ℕ → ℕ → Joined
size_joined width height =
    one (codes " width=\"") ⊕ one (decimal width) ⊕ one (codes "\" height=\"")
    ⊕ one (decimal height) ⊕ one (codes "\"")

abbrev begin_joined : List ℕ → Class → Joined
begin_joined name class =
    one (codes "<") ⊕ one name ⊕ one (codes " class=\"") ⊕ one (class_name class)
    ⊕ one (codes "\"")

-- ---- elements

-- the text of an element that holds others
holding_text : (name : List ℕ) (given : List Attribute) (text : List ℕ) (inside rest : Content)
    → document_text (holding name given text inside line_end rest)
    ≡ 60 ∷ (name ++ (flat_map attribute_text given ++ 62 ∷ (flat_map character_text text
    ++ (document_text inside ++ 60 ∷ 47 ∷ (name ++ 62 ∷ 10 ∷ document_text rest)))))
holding_text name given text inside rest =
    let open_token : Token = record { tag = opens name given; behind = text } in
    let close_token : Token = record { tag = closes name; behind = line_end } in
    ap (λ (l : List ℕ). token_text open_token ++ l)
    (flat_map-append token_text (tokens_of inside) (close_token ∷ tokens_of rest))
    ∙ ap (λ (l : List ℕ). token_text open_token ++ (document_text inside ++ l))
    (from_right (closing name) (document_text rest))
    ∙ from_right (opening name given text)
    (document_text inside ++ onto (closing name) (document_text rest))

-- the text of one that holds words alone
words_text_of : (name : List ℕ) (given : List Attribute) (words : List ℕ) (rest : Content)
    → document_text (holding name given (shown words) done line_end rest)
    ≡ 60 ∷ (name ++ (flat_map attribute_text given ++ 62 ∷ (words_text words
    ++ 60 ∷ 47 ∷ (name ++ 62 ∷ 10 ∷ document_text rest))))
words_text_of name given words rest =
    holding_text name given (shown words) done rest
    ∙ ap (λ (l : List ℕ). 60 ∷ (name ++ (flat_map attribute_text given ++ 62 ∷ (l
    ++ 60 ∷ 47 ∷ (name ++ 62 ∷ 10 ∷ document_text rest))))) (written_words words)

shape_document : (shape : Shape) (rest : Content)
    → document_text (shape_before shape rest) ≡ shape_text shape ++ document_text rest
unfolding shape_text begin_text anchor_text at_text middle_text size_text within_text
shape_document (Box class area) rest =
    from_right (standing (codes "rect") (box_attributes class area)) (document_text rest)
    ∙ sym (from_right (begin_joined (codes "rect") class ⊕ at_joined area.corner
    ⊕ size_joined area.width area.height ⊕ one (codes "/>\n")) (document_text rest))
shape_document (Circle class middle radius) rest =
    from_right (standing (codes "circle") (circle_attributes class middle radius))
    (document_text rest)
    ∙ sym (from_right (begin_joined (codes "circle") class ⊕ middle_joined middle
    ⊕ one (codes " r=\"") ⊕ one (decimal radius) ⊕ one (codes "\"/>\n")) (document_text rest))
shape_document (Path class strokes) rest =
    from_right (standing (codes "path") (path_attributes class strokes)) (document_text rest)
    ∙ sym (from_right (begin_joined (codes "path") class ⊕ one (codes " d=\"")
    ⊕ one (strokes_text strokes) ⊕ one (codes "\"/>\n")) (document_text rest))
shape_document (Words class anchor point words) rest =
    words_text_of (codes "text") (text_attributes class anchor point) words rest
    ∙ ap (λ (l : List ℕ). 60 ∷ (codes "text" ++ l))
    (from_right (attributes (text_attributes class anchor point))
    (62 ∷ (words_text words ++ 60 ∷ 47 ∷ (codes "text" ++ 62 ∷ 10 ∷ document_text rest))))
    ∙ sym (from_right (begin_joined (codes "text") class
    ⊕ (one (codes " text-anchor=\"") ⊕ one (anchor_name anchor) ⊕ one (codes "\""))
    ⊕ at_joined point
    ⊕ (one (codes ">") ⊕ one (words_text words) ⊕ one (codes "</text>\n"))) (document_text rest))

shapes_document : (shapes : List Shape)
    → document_text (shapes_content shapes) ≡ shapes_text shapes
shapes_document [] = refl
shapes_document (shape ∷ more) =
    shape_document shape (shapes_content more)
    ∙ ap (λ (l : List ℕ). shape_text shape ++ l) (shapes_document more)

title_document : (words : List ℕ) (rest : Content)
    → document_text (title_before words rest) ≡ title_text words ++ document_text rest
unfolding title_text
title_document words rest =
    words_text_of (codes "title") [] words rest
    ∙ sym (from_right (one (codes "<title>") ⊕ one (words_text words) ⊕ one (codes "</title>\n"))
    (document_text rest))

-- ---- rows and layers

-- a group with this text inside, and this behind it
group_document : (given : List Attribute) (inside rest : Content) (within more : List ℕ)
    → document_text inside ≡ within → document_text rest ≡ more
    → document_text (holding (codes "g") given line_end inside line_end rest)
    ≡ 60 ∷ 103 ∷ (flat_map attribute_text given
    ++ 62 ∷ 10 ∷ (within ++ 60 ∷ 47 ∷ 103 ∷ 62 ∷ 10 ∷ more))
group_document given inside rest within more is behind =
    holding_text (codes "g") given line_end inside rest
    ∙ ap (λ (l : List ℕ). 60 ∷ 103 ∷ (flat_map attribute_text given ++ 62 ∷ 10 ∷ (l
    ++ 60 ∷ 47 ∷ 103 ∷ 62 ∷ 10 ∷ document_text rest))) is
    ∙ ap (λ (l : List ℕ). 60 ∷ 103 ∷ (flat_map attribute_text given ++ 62 ∷ 10 ∷ (within
    ++ 60 ∷ 47 ∷ 103 ∷ 62 ∷ 10 ∷ l))) behind

row_document : (row : Row) (rest : Content)
    → document_text (row_before row rest) ≡ row_text row ++ document_text rest
unfolding row_text begin_row_text
row_document row rest =
    let given : List Attribute = row_attributes row.step row.effect in
    let title : List ℕ = title_text row.title in
    let shapes : List ℕ = shapes_text row.shapes in
    let inside = title_document row.title (shapes_content row.shapes)
    ∙ ap (λ (l : List ℕ). title ++ l) (shapes_document row.shapes) in
    group_document given (title_before row.title (shapes_content row.shapes)) rest
    (title ++ shapes) (document_text rest) inside refl
    ∙ ap (λ (l : List ℕ). 60 ∷ 103 ∷ (flat_map attribute_text given ++ 62 ∷ 10 ∷ l))
    (append_assoc title shapes (60 ∷ 47 ∷ 103 ∷ 62 ∷ 10 ∷ document_text rest))
    ∙ ap (λ (l : List ℕ). 60 ∷ 103 ∷ l)
    (from_right (attributes given)
    (62 ∷ 10 ∷ (title ++ (shapes ++ 60 ∷ 47 ∷ 103 ∷ 62 ∷ 10 ∷ document_text rest))))
    ∙ sym (from_right (one (codes "<g class=\"row\" id=\"")
    ⊕ one (place_text row.step row.effect) ⊕ one (codes "\">\n") ⊕ one title ⊕ one shapes
    ⊕ one (codes "</g>\n")) (document_text rest))

rows_document : (rows : List Row) → document_text (rows_content rows) ≡ rows_text rows
rows_document [] = refl
rows_document (row ∷ more) =
    row_document row (rows_content more)
    ∙ ap (λ (l : List ℕ). row_text row ++ l) (rows_document more)

layer_document : (name : List ℕ) (inside rest : Content) (within more : List ℕ)
    → document_text inside ≡ within → document_text rest ≡ more
    → document_text (layer name inside rest)
    ≡ (codes "<g class=\"" ++ name ++ codes "\">\n" ++ within ++ codes "</g>\n") ++ more
layer_document name inside rest within more is behind =
    let given : List Attribute = attribute (codes "class") name ∷ [] in
    group_document given inside rest within more is behind
    ∙ ap (λ (l : List ℕ). 60 ∷ 103 ∷ l)
    (from_right (attributes given) (62 ∷ 10 ∷ (within ++ 60 ∷ 47 ∷ 103 ∷ 62 ∷ 10 ∷ more)))
    ∙ sym (from_right (one (codes "<g class=\"") ⊕ one name ⊕ one (codes "\">\n") ⊕ one within
    ⊕ one (codes "</g>\n")) more)

-- the layers of a picture, as they are written
abbrev layers_text : Picture → List ℕ
layers_text picture =
    layer_text (codes "back") picture.back
    ++ (rows_layer_text picture.rows ++ (layer_text (codes "front") picture.front ++ []))

layers_document : (picture : Picture) → document_text (layers picture) ≡ layers_text picture
unfolding layer_text rows_layer_text
layers_document picture =
    let front_text : List ℕ = layer_text (codes "front") picture.front ++ [] in
    let front : document_text (front_layer picture) ≡ front_text =
    layer_document (codes "front") (shapes_content picture.front) done
    (shapes_text picture.front) [] (shapes_document picture.front) refl in
    let rows : document_text (rows_layer picture) ≡ rows_layer_text picture.rows ++ front_text =
    layer_document (codes "rows") (rows_content picture.rows) (front_layer picture)
    (rows_text picture.rows) front_text (rows_document picture.rows) front in
    layer_document (codes "back") (shapes_content picture.back) (rows_layer picture)
    (shapes_text picture.back) (rows_layer_text picture.rows ++ front_text)
    (shapes_document picture.back) rows

-- ---- the picture

style_document : (rest : Content)
    → document_text (style_before rest) ≡ style_element_text ++ document_text rest
unfolding style_element_text
style_document rest =
    holding_text (codes "style") [] (codes "\n" ++ style_text) done rest
    ∙ ap (λ (l : List ℕ). codes "<style>\n" ++ (l ++ (codes "</style>\n" ++ document_text rest)))
    (plain_text style_text style_plain)
    ∙ sym (from_right (one (codes "<style>\n") ⊕ one style_text ⊕ one (codes "</style>\n"))
    (document_text rest))

inside_document : (picture : Picture)
    → document_text (inside_of picture)
    ≡ title_text picture.title ++ (style_element_text ++ layers_text picture)
inside_document picture =
    title_document picture.title (style_before (layers picture))
    ∙ ap (λ (l : List ℕ). title_text picture.title ++ l)
    (style_document (layers picture)
    ∙ ap (λ (l : List ℕ). style_element_text ++ l) (layers_document picture))

-- the attributes of a picture, and what it begins with
abbrev picture_valued : ℕ → ℕ → Joined
picture_valued width height =
    valued (codes "xmlns") (one (codes "http://www.w3.org/2000/svg"))
    ⊕ (valued (codes "width") (one (decimal width))
    ⊕ (valued (codes "height") (one (decimal height))
    ⊕ (valued (codes "viewBox")
    (one (codes "0 0 ") ⊕ one (decimal width) ⊕ one (codes " ") ⊕ one (decimal height))
    ⊕ (valued (codes "role") (one (codes "img")) ⊕ one []))))

abbrev begin_picture : ℕ → ℕ → Joined
begin_picture width height =
    one (codes "<svg xmlns=\"http://www.w3.org/2000/svg\"") ⊕ size_joined width height
    ⊕ one (codes " viewBox=\"0 0 ") ⊕ one (decimal width) ⊕ one (codes " ")
    ⊕ one (decimal height) ⊕ one (codes "\" role=\"img\">\n")

pub picture_document : (picture : Picture)
    → document_text (tree_of picture) ≡ picture_text picture
unfolding tree_of begin_picture_text size_text head_text picture_text
picture_document picture =
    let w : ℕ = picture.width in
    let h : ℕ = picture.height in
    let title : List ℕ = title_text picture.title in
    let back : List ℕ = layer_text (codes "back") picture.back in
    let rows : List ℕ = rows_layer_text picture.rows in
    let front : List ℕ = layer_text (codes "front") picture.front in
    let inside : Joined = one title ⊕ (one style_element_text
    ⊕ (one back ⊕ (one rows ⊕ (one front ⊕ one [])))) in
    holding_text (codes "svg") (picture_attributes w h) line_end (inside_of picture) done
    ∙ ap (λ (l : List ℕ). codes "<svg" ++ (flat_map attribute_text (picture_attributes w h)
    ++ 62 ∷ 10 ∷ (l ++ codes "</svg>\n"))) (inside_document picture)
    ∙ ap (λ (l : List ℕ). codes "<svg" ++ (flat_map attribute_text (picture_attributes w h)
    ++ 62 ∷ 10 ∷ l)) (from_right inside (codes "</svg>\n"))
    ∙ ap (λ (l : List ℕ). codes "<svg" ++ l)
    (from_right (picture_valued w h) (62 ∷ 10 ∷ onto inside (codes "</svg>\n")))
    ∙ sym (from_right (begin_picture w h ⊕ one title ⊕ one style_element_text ⊕ one back
    ⊕ one rows ⊕ one front) (codes "</svg>\n"))
