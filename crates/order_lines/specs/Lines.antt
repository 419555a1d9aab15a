-- WHICH LINES SAY AN ORDER, and the text in which they are comments.
use Rattle.std.specs.Prelude.{ℕ, Bool, true, false, ◌&&◌, ◌||◌, ◌==◌, List, [], ◌∷◌, codes, drop}
use Rattle.std.specs.Prelude.{nat_eq, flat_map, if◌then◌else◌}
use Rattle.std.specs.List.{starts_with}
use Rattle.script_words.specs.Lines.{is_space, lines_of}

-- a text behind the blanks at its beginning
abbrev pub behind_blanks : List ℕ → List ℕ
behind_blanks [] = []
behind_blanks (b ∷ bs) = if is_space b then behind_blanks bs else b ∷ bs

-- a word is over before this text: a blank, a line feed (10) or a carriage return (13) follows, or
-- nothing
abbrev pub ends_word : List ℕ → Bool
ends_word [] = true
ends_word (b ∷ bs) = is_space b || (b == 10) || (b == 13)

-- a text begins with the word `order`
abbrev pub begins_order : List ℕ → Bool
begins_order text = starts_with nat_eq text (codes "order") && ends_word (drop 5 text)

-- THE LINE SAYS AN ORDER: its first word is `order`
unfoldable pub is_order_line : List ℕ → Bool
is_order_line line = begins_order (behind_blanks line)

-- a line, where one that says an order is a comment: it begins with `#` (35)
abbrev pub plain_line : List ℕ → List ℕ
plain_line line = if is_order_line line then 35 ∷ drop 1 line else line

-- THE TEXT IN WHICH ORDERS ARE COMMENTS. It has the same lines
abbrev pub without_orders : List ℕ → List ℕ
without_orders bytes = flat_map plain_line (lines_of bytes)
