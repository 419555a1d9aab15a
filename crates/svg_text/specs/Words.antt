-- How bytes, points and other values are written.
use Rattle.std.specs.Prelude.{ℕ, ◌==◌, ◌/◌, ◌%◌, ◌&&◌, Bool, false, not, if◌then◌else◌}
use Rattle.std.specs.Prelude.{List, [], ◌∷◌, ◌++◌, flat_map, codes, decimal}
use Rattle.std.specs.Fmt.{digit_glyph}
use Rattle.svg_text.specs.Xml.{is_character, character_text}
use Rattle.svg_text.specs.declared.shape.Anchor.{Anchor}
use Rattle.svg_text.specs.declared.shape.Anchor.TheVariants.{Start, Middle, End}
use Rattle.svg_text.specs.declared.shape.Point.{Point}
use Rattle.svg_text.specs.declared.shape.Stroke.{Stroke}
use Rattle.svg_text.specs.declared.shape.Stroke.TheVariants.{Move, Line, Curve, Close}

-- a byte that is shown as a character of its own: each but the backslash
abbrev pub has_character : ℕ → Bool
has_character b = is_character b && not (b == 92)

-- `\x` and the two digits of a byte
abbrev pub numbered : ℕ → List ℕ
numbered b = 92 ∷ 120 ∷ digit_glyph false (b / 16 % 16) ∷ digit_glyph false (b % 16) ∷ []

-- the characters that show a byte: itself, or its number
abbrev pub shown_byte : ℕ → List ℕ
shown_byte b = if has_character b then b ∷ [] else numbered b

-- the characters that show some bytes
abbrev pub shown : List ℕ → List ℕ
shown bytes = flat_map shown_byte bytes

-- how a byte is written
abbrev pub byte_text : ℕ → List ℕ
byte_text b = if has_character b then character_text b else numbered b

-- how words are written
abbrev pub words_text : List ℕ → List ℕ
words_text bytes = flat_map byte_text bytes

-- where words stand at their point, by the attribute's value
unfoldable pub anchor_name : Anchor → List ℕ
anchor_name Start = codes "start"
anchor_name Middle = codes "middle"
anchor_name End = codes "end"

-- a point, its two numbers with a space between
abbrev pub point_text : Point → List ℕ
point_text p = decimal p.x ++ codes " " ++ decimal p.y

-- a part of a path, by its letter and its points
abbrev pub stroke_text : Stroke → List ℕ
stroke_text (Move p) = codes "M" ++ point_text p
stroke_text (Line p) = codes "L" ++ point_text p
stroke_text (Curve p q r) =
    codes "C" ++ point_text p ++ codes " " ++ point_text q ++ codes " " ++ point_text r
stroke_text Close = codes "Z"

-- the parts of a path, one behind the other
abbrev pub strokes_text : List Stroke → List ℕ
strokes_text strokes = flat_map stroke_text strokes

-- which effect of its step a line is, if it is one
abbrev pub effect_text : ℕ → List ℕ
effect_text effect = if effect == 0 then [] else codes "." ++ decimal effect

-- the place of a line in a journal: the number of its step, and which effect it is
unfoldable pub place_text : ℕ → ℕ → List ℕ
place_text step effect = codes "s" ++ decimal step ++ effect_text effect
