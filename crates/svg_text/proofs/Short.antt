-- THE TEXT OF A PICTURE IS SHORT: linear in its shapes, rows, strokes and words.
use Rattle.std.proofs.Common.{◌≡◌, ℕ, zero, suc, ◌+◌, ◌*◌, ◌≤◌, Bool, true, false, cond, List, []}
use Rattle.std.proofs.Common.{◌∷◌, ◌++◌, length, refl, arith, length-append, ◌==◌, ◌/◌, ◌%◌, nat_le}
use Rattle.std.proofs.Common.{codes, decimal, leb-true}
use Rattle.std.specs.Fmt.{digits, digits_onto, digit_glyph}
use Rattle.svg_text.specs.declared.class.Class.{Class}
use Rattle.svg_text.specs.declared.class.Class.TheVariants.{Node}
use Rattle.svg_text.specs.declared.picture.Picture.{Picture}
use Rattle.svg_text.specs.declared.picture.Row.{Row}
use Rattle.svg_text.specs.declared.shape.Anchor.{Anchor}
use Rattle.svg_text.specs.declared.shape.Anchor.TheVariants.{Start, Middle, End}
use Rattle.svg_text.specs.declared.shape.Point.{Point}
use Rattle.svg_text.specs.declared.shape.Shape.{Shape}
use Rattle.svg_text.specs.declared.shape.Shape.TheVariants.{Box, Circle, Path, Words}
use Rattle.svg_text.specs.declared.shape.Stroke.{Stroke}
use Rattle.svg_text.specs.declared.shape.Stroke.TheVariants.{Move, Line, Curve, Close}
use Rattle.svg_text.specs.Classes.{class_name}
use Rattle.svg_text.specs.Rooms.{shape_room, shapes_room, row_room, rows_room, picture_room}
use Rattle.svg_text.specs.Texts.{at_text, middle_text, size_text, begin_text, anchor_text}
use Rattle.svg_text.specs.Texts.{within_text, shape_text}
use Rattle.svg_text.specs.Texts.{shapes_text, title_text, begin_row_text, row_text, rows_text}
use Rattle.svg_text.specs.Texts.{layer_text, rows_layer_text, begin_picture_text, style_text}
use Rattle.svg_text.specs.Texts.{style_element_text, head_text, picture_text}
use Rattle.svg_text.specs.Words.{has_character, numbered, byte_text, words_text, anchor_name}
use Rattle.svg_text.specs.Words.{point_text, stroke_text, strokes_text, effect_text, place_text}
use Rattle.svg_text.specs.Xml.{character_text}

digits_short : (k n : ℕ) (acc : List ℕ)
    → length (digits_onto k 10 false n acc) ≤ k + length acc
digits_short zero n acc = omega arith
digits_short (suc k) n acc =
    go (n / 10 == 0) (digits_short k (n / 10) (digit_glyph false (n % 10) ∷ acc))
  where
    go : (b : Bool)
        → length (digits_onto k 10 false (n / 10) (digit_glyph false (n % 10) ∷ acc))
        ≤ k + suc (length acc)
        → length (cond b (digit_glyph false (n % 10) ∷ acc)
        (digits_onto k 10 false (n / 10) (digit_glyph false (n % 10) ∷ acc)))
        ≤ suc k + length acc
    go true rest = omega arith
    go false rest = omega arith

number_short : (n : ℕ) → length (decimal n) ≤ 64
unfolding digits
number_short n = digits_short 64 n []

name_tested : (class : Class) → nat_le (length (class_name class)) 12 ≡ true
name_tested Node = refl
name_tested _ = refl

name_short : (class : Class) → length (class_name class) ≤ 12
name_short class = leb-true (length (class_name class)) 12 (name_tested class)

anchor_tested : (anchor : Anchor) → nat_le (length (anchor_name anchor)) 6 ≡ true
unfolding anchor_name
anchor_tested Start = refl
anchor_tested Middle = refl
anchor_tested End = refl

anchor_short : (anchor : Anchor) → length (anchor_name anchor) ≤ 6
anchor_short anchor = leb-true (length (anchor_name anchor)) 6 (anchor_tested anchor)

character_tested : (b : ℕ) → nat_le (length (character_text b)) 6 ≡ true
character_tested b = go (b == 38) (b == 60) (b == 62) (b == 34)
  where
    go : (a l g q : Bool) → nat_le (length (cond a (codes "&amp;") (cond l (codes "&lt;")
        (cond g (codes "&gt;") (cond q (codes "&quot;") (b ∷ [])))))) 6 ≡ true
    go true l g q = refl
    go false true g q = refl
    go false false true q = refl
    go false false false true = refl
    go false false false false = refl

byte_tested : (b : ℕ) → nat_le (length (byte_text b)) 6 ≡ true
byte_tested b = go (has_character b)
  where
    go : (e : Bool) → nat_le (length (cond e (character_text b) (numbered b))) 6 ≡ true
    go true = character_tested b
    go false = refl

words_short : (words : List ℕ) → length (words_text words) ≤ 6 * length words
words_short [] = omega arith
words_short (b ∷ bs) =
    let one : length (byte_text b) ≤ 6 = leb-true (length (byte_text b)) 6 (byte_tested b) in
    let more : length (words_text bs) ≤ 6 * length bs = words_short bs in
    simp length-append (omega arith)

point_short : (p : Point) → length (point_text p) ≤ 129
point_short p =
    let x : length (decimal p.x) ≤ 64 = number_short p.x in
    let y : length (decimal p.y) ≤ 64 = number_short p.y in
    simp length-append (omega arith)

stroke_short : (s : Stroke) → length (stroke_text s) ≤ 400
stroke_short (Move p) = let one = point_short p in omega arith
stroke_short (Line p) = let one = point_short p in omega arith
stroke_short (Curve p q r) =
    let one : length (point_text p) ≤ 129 = point_short p in
    let two : length (point_text q) ≤ 129 = point_short q in
    let three : length (point_text r) ≤ 129 = point_short r in
    curve_short (point_text p) (point_text q) (point_text r) one two three
  where
    curve_short : (a b c : List ℕ) → length a ≤ 129 → length b ≤ 129 → length c ≤ 129
        → length (codes "C" ++ a ++ codes " " ++ b ++ codes " " ++ c) ≤ 400
    curve_short a b c one two three = simp length-append (omega arith)
stroke_short Close = omega arith

strokes_short : (strokes : List Stroke) → length (strokes_text strokes) ≤ 400 * length strokes
strokes_short [] = omega arith
strokes_short (s ∷ more) =
    let one : length (stroke_text s) ≤ 400 = stroke_short s in
    let rest : length (strokes_text more) ≤ 400 * length more = strokes_short more in
    simp length-append (omega arith)

effect_short : (effect : ℕ) → length (effect_text effect) ≤ 65
effect_short effect = go (effect == 0) (number_short effect)
  where
    go : (b : Bool) → length (decimal effect) ≤ 64
        → length (cond b [] (codes "." ++ decimal effect)) ≤ 65
    go true short = omega arith
    go false short = omega arith

place_short : (step effect : ℕ) → length (place_text step effect) ≤ 130
unfolding place_text
place_short step effect =
    let one : length (decimal step) ≤ 64 = number_short step in
    let two : length (effect_text effect) ≤ 65 = effect_short effect in
    sum_short (decimal step) (effect_text effect) one two
  where
    sum_short : (a b : List ℕ) → length a ≤ 64 → length b ≤ 65
        → length (codes "s" ++ a ++ b) ≤ 130
    sum_short a b one two = simp length-append (omega arith)

-- ---- shapes

at_short : (p : Point) → length (at_text p) ≤ 140
unfolding at_text
at_short p = go (decimal p.x) (decimal p.y) (number_short p.x) (number_short p.y)
  where
    go : (a b : List ℕ) → length a ≤ 64 → length b ≤ 64
        → length (codes " x=\"" ++ a ++ codes "\" y=\"" ++ b ++ codes "\"") ≤ 140
    go a b na nb = simp length-append (omega arith)

middle_short : (p : Point) → length (middle_text p) ≤ 142
unfolding middle_text
middle_short p = go (decimal p.x) (decimal p.y) (number_short p.x) (number_short p.y)
  where
    go : (a b : List ℕ) → length a ≤ 64 → length b ≤ 64
        → length (codes " cx=\"" ++ a ++ codes "\" cy=\"" ++ b ++ codes "\"") ≤ 142
    go a b na nb = simp length-append (omega arith)

size_short : (width height : ℕ) → length (size_text width height) ≤ 150
unfolding size_text
size_short width height =
    go (decimal width) (decimal height) (number_short width) (number_short height)
  where
    go : (a b : List ℕ) → length a ≤ 64 → length b ≤ 64
        → length (codes " width=\"" ++ a ++ codes "\" height=\"" ++ b ++ codes "\"") ≤ 150
    go a b na nb = simp length-append (omega arith)

begin_short : (name : List ℕ) (class : Class) → length name ≤ 6
    → length (begin_text name class) ≤ 28
unfolding begin_text
begin_short name class short = go (class_name class) (name_short class)
  where
    go : (a : List ℕ) → length a ≤ 12
        → length (codes "<" ++ name ++ codes " class=\"" ++ a ++ codes "\"") ≤ 28
    go a na = simp length-append (omega arith)

within_short : (words : List ℕ) → length (within_text words) ≤ 9 + 6 * length words
unfolding within_text
within_short words = go (words_text words) (words_short words)
  where
    go : (a : List ℕ) → length a ≤ 6 * length words
        → length (codes ">" ++ a ++ codes "</text>\n") ≤ 9 + 6 * length words
    go a na = simp length-append (omega arith)

box_short : (a b c : List ℕ) → length a ≤ 28 → length b ≤ 140 → length c ≤ 150
    → length (a ++ b ++ c ++ codes "/>\n") ≤ 330
box_short a b c na nb nc = simp length-append (omega arith)

circle_short : (a b c : List ℕ) → length a ≤ 28 → length b ≤ 142 → length c ≤ 64
    → length (a ++ b ++ codes " r=\"" ++ c ++ codes "\"/>\n") ≤ 250
circle_short a b c na nb nc = simp length-append (omega arith)

path_short : (a b : List ℕ) (k : ℕ) → length a ≤ 28 → length b ≤ 400 * k
    → length (a ++ codes " d=\"" ++ b ++ codes "\"/>\n") ≤ 40 + 400 * k
path_short a b k na nb = simp length-append (omega arith)

text_short : (a b c d : List ℕ) (k : ℕ) → length a ≤ 28 → length b ≤ 22 → length c ≤ 140
    → length d ≤ 9 + 6 * k → length (a ++ b ++ c ++ d) ≤ 200 + 6 * k
text_short a b c d k na nb nc nd = simp length-append (omega arith)

anchor_text_short : (anchor : Anchor) → length (anchor_text anchor) ≤ 22
unfolding anchor_text
anchor_text_short anchor = go (anchor_name anchor) (anchor_short anchor)
  where
    go : (a : List ℕ) → length a ≤ 6
        → length (codes " text-anchor=\"" ++ a ++ codes "\"") ≤ 22
    go a na = simp length-append (omega arith)

four_short : 4 ≤ 6
four_short = omega arith

five_short : 5 ≤ 6
five_short = omega arith

six_short : 6 ≤ 6
six_short = omega arith

shape_short : (shape : Shape) → length (shape_text shape) ≤ shape_room shape
unfolding shape_text
shape_short (Box class area) =
    box_short (begin_text (codes "rect") class) (at_text area.corner)
    (size_text area.width area.height) (begin_short (codes "rect") class four_short)
    (at_short area.corner) (size_short area.width area.height)
shape_short (Circle class middle radius) =
    circle_short (begin_text (codes "circle") class) (middle_text middle) (decimal radius)
    (begin_short (codes "circle") class six_short) (middle_short middle) (number_short radius)
shape_short (Path class strokes) =
    path_short (begin_text (codes "path") class) (strokes_text strokes) (length strokes)
    (begin_short (codes "path") class four_short) (strokes_short strokes)
shape_short (Words class anchor point words) =
    text_short (begin_text (codes "text") class) (anchor_text anchor) (at_text point)
    (within_text words) (length words) (begin_short (codes "text") class four_short)
    (anchor_text_short anchor) (at_short point) (within_short words)

shapes_short : (shapes : List Shape) → length (shapes_text shapes) ≤ shapes_room shapes
shapes_short [] = omega arith
shapes_short (shape ∷ more) =
    let one : length (shape_text shape) ≤ shape_room shape = shape_short shape in
    let rest : length (shapes_text more) ≤ shapes_room more = shapes_short more in
    simp length-append (omega arith)

-- ---- rows and layers

title_short : (words : List ℕ) → length (title_text words) ≤ 16 + 6 * length words
unfolding title_text
title_short words = go (words_text words) (words_short words)
  where
    go : (a : List ℕ) → length a ≤ 6 * length words
        → length (codes "<title>" ++ a ++ codes "</title>\n") ≤ 16 + 6 * length words
    go a short = simp length-append (omega arith)

begin_row_short : (step effect : ℕ) → length (begin_row_text step effect) ≤ 153
unfolding begin_row_text
begin_row_short step effect = go (place_text step effect) (place_short step effect)
  where
    go : (a : List ℕ) → length a ≤ 130
        → length (codes "<g class=\"row\" id=\"" ++ a ++ codes "\">\n") ≤ 153
    go a na = simp length-append (omega arith)

row_parts_short : (a b c : List ℕ) (k room : ℕ) → length a ≤ 153 → length b ≤ 16 + 6 * k
    → length c ≤ room → length (a ++ b ++ c ++ codes "</g>\n") ≤ 180 + 6 * k + room
row_parts_short a b c k room na nb nc = simp length-append (omega arith)

row_short : (row : Row) → length (row_text row) ≤ row_room row
unfolding row_text
row_short row =
    row_parts_short (begin_row_text row.step row.effect) (title_text row.title)
    (shapes_text row.shapes) (length row.title) (shapes_room row.shapes)
    (begin_row_short row.step row.effect) (title_short row.title) (shapes_short row.shapes)

rows_short : (rows : List Row) → length (rows_text rows) ≤ rows_room rows
rows_short [] = omega arith
rows_short (row ∷ more) =
    let one : length (row_text row) ≤ row_room row = row_short row in
    let rest : length (rows_text more) ≤ rows_room more = rows_short more in
    simp length-append (omega arith)

layer_short : (name : List ℕ) (shapes : List Shape) → length name ≤ 6
    → length (layer_text name shapes) ≤ 30 + shapes_room shapes
unfolding layer_text
layer_short name shapes short =
    go (shapes_text shapes) (shapes_room shapes) (shapes_short shapes)
  where
    go : (a : List ℕ) (room : ℕ) → length a ≤ room
        → length (codes "<g class=\"" ++ name ++ codes "\">\n" ++ a ++ codes "</g>\n")
        ≤ 30 + room
    go a room na = simp length-append (omega arith)

rows_layer_short : (rows : List Row) → length (rows_layer_text rows) ≤ 30 + rows_room rows
unfolding rows_layer_text
rows_layer_short rows = go (rows_text rows) (rows_room rows) (rows_short rows)
  where
    go : (a : List ℕ) (room : ℕ) → length a ≤ room
        → length (codes "<g class=\"rows\">\n" ++ a ++ codes "</g>\n") ≤ 30 + room
    go a room na = simp length-append (omega arith)

-- ---- the picture

begin_picture_short : (width height : ℕ) → length (begin_picture_text width height) ≤ 360
unfolding begin_picture_text
begin_picture_short width height =
    go (size_text width height) (decimal width) (decimal height) (size_short width height)
    (number_short width) (number_short height)
  where
    go : (s a b : List ℕ) → length s ≤ 150 → length a ≤ 64 → length b ≤ 64
        → length (codes "<svg xmlns=\"http://www.w3.org/2000/svg\"" ++ s
        ++ codes " viewBox=\"0 0 " ++ a ++ codes " " ++ b ++ codes "\" role=\"img\">\n") ≤ 360
    go s a b ns na nb = simp length-append (omega arith)

style_short : length style_element_text ≤ 20 + length style_text
unfolding style_element_text
style_short = go style_text
  where
    go : (a : List ℕ) → length (codes "<style>\n" ++ a ++ codes "</style>\n") ≤ 20 + length a
    go a = simp length-append (omega arith)

parts_short : (a b s c d e : List ℕ) (k style back rows front : ℕ) → length a ≤ 360
    → length b ≤ 16 + 6 * k → length s ≤ 20 + style → length c ≤ 30 + back
    → length d ≤ 30 + rows → length e ≤ 30 + front
    → length ((a ++ b ++ s) ++ c ++ d ++ e ++ codes "</svg>\n")
    ≤ 500 + style + 6 * k + back + rows + front
parts_short a b s c d e k style back rows front na nb ns nc nd ne =
    simp length-append (omega arith)

-- THE LAW: a picture's text has at most so many bytes
pub picture_short : (picture : Picture) → length (picture_text picture) ≤ picture_room picture
unfolding head_text picture_text picture_room
picture_short picture =
    parts_short (begin_picture_text picture.width picture.height) (title_text picture.title)
    style_element_text (layer_text (codes "back") picture.back) (rows_layer_text picture.rows)
    (layer_text (codes "front") picture.front) (length picture.title) (length style_text)
    (shapes_room picture.back) (rows_room picture.rows) (shapes_room picture.front)
    (begin_picture_short picture.width picture.height) (title_short picture.title) style_short
    (layer_short (codes "back") picture.back four_short) (rows_layer_short picture.rows)
    (layer_short (codes "front") picture.front five_short)
