-- WHAT A PICTURE WRITES IS PLAIN: its numbers, classes, paths and style sheet have no character
-- with a meaning of its own; and what words show is characters.
use Rattle.std.proofs.Common.{◌≡◌, ℕ, ◌+◌, ◌<◌, ◌≤◌, Bool, true, false, cond, not, List, [], ◌∷◌}
use Rattle.std.proofs.Common.{◌++◌, refl, ap, ◌∙◌, arith, flat_map, append-nil, ◌&&◌, ◌==◌, ◌/◌}
use Rattle.std.proofs.Common.{◌%◌, nat_le, nat_lt, codes, decimal, ne_eqb, le-leb, ltb-true}
use Rattle.std.proofs.Common.{true≢false}
use Rattle.std.specs.Fmt.{digit_glyph}
use Rattle.std.specs.List.{list_all}
use Rattle.std.proofs.lemmas.Bool.{and_from, and_parts, or_right}
use Rattle.std.proofs.lemmas.Grind.{flat_map-append}
use Rattle.svg_text.specs.declared.class.Class.{Class}
use Rattle.svg_text.specs.declared.class.Class.TheVariants.{Node}
use Rattle.svg_text.specs.declared.shape.Anchor.{Anchor}
use Rattle.svg_text.specs.declared.shape.Anchor.TheVariants.{Start, Middle, End}
use Rattle.svg_text.specs.declared.shape.Point.{Point}
use Rattle.svg_text.specs.declared.shape.Stroke.{Stroke}
use Rattle.svg_text.specs.declared.shape.Stroke.TheVariants.{Move, Line, Curve, Close}
use Rattle.svg_text.specs.Classes.{all_classes, class_name}
use Rattle.svg_text.specs.Texts.{light_rule, dark_rule, light_ground, dark_ground, sheet_text}
use Rattle.svg_text.specs.Texts.{style_text}
use Rattle.svg_text.specs.Words.{has_character, numbered, shown_byte, shown, byte_text, words_text}
use Rattle.svg_text.specs.Words.{anchor_name, point_text, stroke_text, strokes_text, effect_text}
use Rattle.svg_text.specs.Words.{place_text}
use Rattle.svg_text.specs.Xml.{is_character, is_plain, character_text}
use Rattle.svg_text.proofs.Bytes.{all_append, all_flat_map, decimal_all}
use Rattle.svg_text.proofs.TextsAgain.{five}

-- ---- characters

character_from : (b : ℕ) → 32 ≤ b → b ≤ 126 → is_character b ≡ true
character_from b low high =
    or_right (b == 10) (nat_le 32 b && nat_le b 126)
    (and_from _ _ (le-leb 32 b low) (le-leb b 126 high))

digit_plain : (d : ℕ) → d < 10 → is_plain (48 + d) ≡ true
digit_plain d less =
    five (is_character (48 + d)) (48 + d == 34) (48 + d == 38) (48 + d == 60) (48 + d == 62)
    (character_from (48 + d) (omega arith) (omega arith))
    (ne_eqb (48 + d) 34 (λ e. omega arith)) (ne_eqb (48 + d) 38 (λ e. omega arith))
    (ne_eqb (48 + d) 60 (λ e. omega arith)) (ne_eqb (48 + d) 62 (λ e. omega arith))

pub number_plain : (n : ℕ) → list_all is_plain (decimal n) ≡ true
number_plain n = decimal_all is_plain digit_plain n

-- a character that has no meaning of its own is written as it is
unnamed : (b : ℕ) → (b == 38) ≡ false → (b == 60) ≡ false → (b == 62) ≡ false
    → (b == 34) ≡ false → character_text b ≡ b ∷ []
unnamed b n38 n60 n62 n34 = go (b == 38) (b == 60) (b == 62) (b == 34) n38 n60 n62 n34
  where
    go : (a l g q : Bool) → a ≡ false → l ≡ false → g ≡ false → q ≡ false
        → cond a (codes "&amp;") (cond l (codes "&lt;")
        (cond g (codes "&gt;") (cond q (codes "&quot;") (b ∷ [])))) ≡ b ∷ []
    go false false false false _ _ _ _ = refl
    go true l g q e _ _ _ = absurd (true≢false e)
    go false true g q _ e _ _ = absurd (true≢false e)
    go false false true q _ _ e _ = absurd (true≢false e)
    go false false false true _ _ _ e = absurd (true≢false e)

not_false : (b : Bool) → not b ≡ true → b ≡ false
not_false false e = refl
not_false true e = absurd (true≢false (ap not e))

plain_itself : (b : ℕ) → is_plain b ≡ true → character_text b ≡ b ∷ []
plain_itself b is =
    let one = and_parts (is_character b && not (b == 34) && not (b == 38) && not (b == 60))
    (not (b == 62)) is in
    let two = and_parts (is_character b && not (b == 34) && not (b == 38)) (not (b == 60)) one.0 in
    let three = and_parts (is_character b && not (b == 34)) (not (b == 38)) two.0 in
    let four = and_parts (is_character b) (not (b == 34)) three.0 in
    unnamed b (not_false (b == 38) three.1) (not_false (b == 60) two.1)
    (not_false (b == 62) one.1) (not_false (b == 34) four.1)

-- plain text is written as it is
pub plain_text : (text : List ℕ) → list_all is_plain text ≡ true
    → flat_map character_text text ≡ text
plain_text [] all = refl
plain_text (b ∷ bs) all =
    let parts = and_parts (is_plain b) (list_all is_plain bs) all in
    ap (λ (l : List ℕ). l ++ flat_map character_text bs) (plain_itself b parts.0)
    ∙ ap (λ (l : List ℕ). b ∷ l) (plain_text bs parts.1)

pub plain_characters : (text : List ℕ) → list_all is_plain text ≡ true
    → list_all is_character text ≡ true
plain_characters [] all = refl
plain_characters (b ∷ bs) all =
    let parts = and_parts (is_plain b) (list_all is_plain bs) all in
    let one = and_parts (is_character b && not (b == 34) && not (b == 38) && not (b == 60))
    (not (b == 62)) parts.0 in
    let two = and_parts (is_character b && not (b == 34) && not (b == 38)) (not (b == 60)) one.0 in
    let three = and_parts (is_character b && not (b == 34)) (not (b == 38)) two.0 in
    let four = and_parts (is_character b) (not (b == 34)) three.0 in
    and_from _ _ four.0 (plain_characters bs parts.1)

-- ---- words

letter_plain : (d : ℕ) → d < 16 → is_plain (87 + d) ≡ true
letter_plain d less =
    five (is_character (87 + d)) (87 + d == 34) (87 + d == 38) (87 + d == 60) (87 + d == 62)
    (character_from (87 + d) (omega arith) (omega arith))
    (ne_eqb (87 + d) 34 (λ e. omega arith)) (ne_eqb (87 + d) 38 (λ e. omega arith))
    (ne_eqb (87 + d) 60 (λ e. omega arith)) (ne_eqb (87 + d) 62 (λ e. omega arith))

glyph_plain : (d : ℕ) → d < 16 → is_plain (digit_glyph false d) ≡ true
glyph_plain d less = go (nat_lt d 10) refl
  where
    go : (b : Bool) → nat_lt d 10 ≡ b → is_plain (cond b (48 + d) (87 + d)) ≡ true
    go true e = digit_plain d (ltb-true d 10 e)
    go false e = letter_plain d less

numbered_plain : (b : ℕ) → list_all is_plain (numbered b) ≡ true
numbered_plain b =
    let high : b / 16 % 16 < 16 = omega arith in
    let low : b % 16 < 16 = omega arith in
    and_from _ _ (glyph_plain (b / 16 % 16) high) (and_from _ _ (glyph_plain (b % 16) low) refl)

shown_character : (b : ℕ) → list_all is_character (shown_byte b) ≡ true
shown_character b = go (has_character b) refl
  where
    go : (e : Bool) → has_character b ≡ e
        → list_all is_character (cond e (b ∷ []) (numbered b)) ≡ true
    go true is = and_from _ _ (and_parts (is_character b) (not (b == 92)) is).0 refl
    go false is = plain_characters (numbered b) (numbered_plain b)

pub shown_characters : (words : List ℕ) → list_all is_character (shown words) ≡ true
shown_characters words = all_flat_map is_character shown_byte shown_character words

written_byte : (b : ℕ) → flat_map character_text (shown_byte b) ≡ byte_text b
written_byte b = go (has_character b)
  where
    go : (e : Bool) → flat_map character_text (cond e (b ∷ []) (numbered b))
        ≡ cond e (character_text b) (numbered b)
    go true = append-nil (character_text b)
    go false = plain_text (numbered b) (numbered_plain b)

-- words are written as the characters that show them
pub written_words : (words : List ℕ) → flat_map character_text (shown words) ≡ words_text words
written_words [] = refl
written_words (b ∷ bs) =
    flat_map-append character_text (shown_byte b) (shown bs)
    ∙ ap (λ (l : List ℕ). l ++ flat_map character_text (shown bs)) (written_byte b)
    ∙ ap (λ (l : List ℕ). byte_text b ++ l) (written_words bs)

-- ---- classes and the style sheet

pub name_plain : (class : Class) → list_all is_plain (class_name class) ≡ true
name_plain Node = refl
name_plain _ = refl

light_plain : (class : Class) → list_all is_plain (light_rule class) ≡ true
light_plain Node = refl
light_plain _ = refl

dark_plain : (class : Class) → list_all is_plain (dark_rule class) ≡ true
dark_plain Node = refl
dark_plain _ = refl

light_ground_plain : list_all is_plain light_ground ≡ true
unfolding light_ground
light_ground_plain = refl

dark_ground_plain : list_all is_plain dark_ground ≡ true
unfolding dark_ground
dark_ground_plain = refl

sheet_plain : (classes : List Class) → list_all is_plain (sheet_text classes) ≡ true
sheet_plain classes =
    all_append is_plain (light_ground ++ flat_map light_rule classes ++ dark_ground
    ++ flat_map dark_rule classes) (codes "}\n")
    (all_append is_plain (light_ground ++ flat_map light_rule classes ++ dark_ground)
    (flat_map dark_rule classes)
    (all_append is_plain (light_ground ++ flat_map light_rule classes) dark_ground
    (all_append is_plain light_ground (flat_map light_rule classes) light_ground_plain
    (all_flat_map is_plain light_rule light_plain classes)) dark_ground_plain)
    (all_flat_map is_plain dark_rule dark_plain classes)) refl

pub style_plain : list_all is_plain style_text ≡ true
unfolding style_text
style_plain = sheet_plain all_classes

-- ---- other values

pub anchor_plain : (anchor : Anchor) → list_all is_plain (anchor_name anchor) ≡ true
unfolding anchor_name
anchor_plain Start = refl
anchor_plain Middle = refl
anchor_plain End = refl

point_plain : (p : Point) → list_all is_plain (point_text p) ≡ true
point_plain p =
    all_append is_plain (decimal p.x ++ codes " ") (decimal p.y)
    (all_append is_plain (decimal p.x) (codes " ") (number_plain p.x) refl) (number_plain p.y)

stroke_plain : (s : Stroke) → list_all is_plain (stroke_text s) ≡ true
stroke_plain (Move p) = point_plain p
stroke_plain (Line p) = point_plain p
stroke_plain (Curve p q r) =
    all_append is_plain (codes "C" ++ point_text p ++ codes " " ++ point_text q ++ codes " ")
    (point_text r)
    (all_append is_plain (codes "C" ++ point_text p ++ codes " " ++ point_text q) (codes " ")
    (all_append is_plain (codes "C" ++ point_text p ++ codes " ") (point_text q)
    (all_append is_plain (codes "C" ++ point_text p) (codes " ") (point_plain p) refl)
    (point_plain q)) refl) (point_plain r)
stroke_plain Close = refl

pub strokes_plain : (strokes : List Stroke) → list_all is_plain (strokes_text strokes) ≡ true
strokes_plain strokes = all_flat_map is_plain stroke_text stroke_plain strokes

effect_plain : (effect : ℕ) → list_all is_plain (effect_text effect) ≡ true
effect_plain effect = go (effect == 0)
  where
    go : (b : Bool) → list_all is_plain (cond b [] (codes "." ++ decimal effect)) ≡ true
    go true = refl
    go false = number_plain effect

pub place_plain : (place effect : ℕ) → list_all is_plain (place_text place effect) ≡ true
unfolding place_text
place_plain place effect =
    all_append is_plain (codes "s" ++ decimal place) (effect_text effect) (number_plain place)
    (effect_plain effect)

pub view_plain : (width height : ℕ)
    → list_all is_plain (codes "0 0 " ++ decimal width ++ codes " " ++ decimal height) ≡ true
view_plain width height =
    all_append is_plain (codes "0 0 " ++ decimal width ++ codes " ") (decimal height)
    (all_append is_plain (codes "0 0 " ++ decimal width) (codes " ") (number_plain width) refl)
    (number_plain height)
