-- WHICH LINES OF A PRINTED TEXT HAVE THESE WORDS.
use Rattle.std.specs.Prelude.{ℕ, Bool, true, false, not, ◌&&◌, ◌||◌, ◌==◌, List, [], ◌∷◌, codes}
use Rattle.std.specs.Prelude.{drop, filter, length, Option, Some, None, if◌then◌else◌}
use Rattle.std.specs.Char.{is_ascii_digit}
use Rattle.std.specs.List.{list_all, slice_split}
use Rattle.std.specs.Str.{bytes_eq}
use Rattle.script_words.specs.Lines.{lines_of}
use Rattle.line_search.specs.declared.sought.Sought.{Sought}
use Rattle.line_search.specs.declared.sought.Sought.TheVariants.{Line, NoLine}

-- what stands between the words of a line: a space (32), or its line feed (10)
abbrev pub is_gap : ℕ → Bool
is_gap b = (b == 32) || (b == 10)

-- the words of a line
unfoldable pub words_of : List ℕ → List (List ℕ)
words_of line = filter (λ word. not (length word == 0)) (slice_split is_gap line)

-- WHAT A LINE SAYS, by its words: what stands behind the `+` of an effect, or behind the number and
-- the maker of a step
abbrev pub said : List (List ℕ) → List (List ℕ)
said [] = []
said (first ∷ rest) =
    if bytes_eq first (codes "+") then rest
    else if list_all is_ascii_digit first then drop 1 rest
    else first ∷ rest

-- a wanted word stands for this one: `_` for any
abbrev pub stands_for : List ℕ → List ℕ → Bool
stands_for wanted word = bytes_eq wanted (codes "_") || bytes_eq wanted word

-- words begin with those wanted
abbrev pub begins_with : List (List ℕ) → List (List ℕ) → Bool
begins_with [] words = true
begins_with (want ∷ wanted) [] = false
begins_with (want ∷ wanted) (word ∷ words) = stands_for want word && begins_with wanted words

-- what a line says begins with these words
unfoldable pub has : List (List ℕ) → List ℕ → Bool
has wanted line = begins_with wanted (said (words_of line))

-- the first of these lines that says them
abbrev pub first_with : List (List ℕ) → List (List ℕ) → Option (List ℕ)
first_with wanted [] = None
first_with wanted (line ∷ lines) =
    if has wanted line then Some line else first_with wanted lines

-- THE FIRST LINE OF A TEXT THAT SAYS THESE WORDS, with its line feed
abbrev pub find_in : List (List ℕ) → List ℕ → Option (List ℕ)
find_in wanted text = first_with wanted (lines_of text)

-- what a text shows of what is sought, by the first line of it that says the words: that line; or,
-- where no such line is sought and there is none, an empty one
abbrev pub shown_by : Sought → Option (List ℕ) → Option (List ℕ)
shown_by Line found = found
shown_by NoLine None = Some []
shown_by NoLine (Some line) = None

-- WHAT A TEXT SHOWS OF WHAT IS SOUGHT; nothing where it doesn't show it
abbrev pub shown_in : Sought → List (List ℕ) → List ℕ → Option (List ℕ)
shown_in sought wanted text = shown_by sought (find_in wanted text)
