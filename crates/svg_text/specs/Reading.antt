-- A reader of documents of XML: it tells the elements, or that there is no document.
use Rattle.std.specs.Prelude.{ℕ, ◌==◌, Bool, true, false, ◌&&◌, if◌then◌else◌}
use Rattle.std.specs.Prelude.{List, [], ◌∷◌, ◌++◌, codes, Option, Some, None}
use Rattle.std.specs.List.{list_all, slice_split}
use Rattle.std.specs.Str.{bytes_eq}
use Rattle.svg_text.specs.Xml.{Attribute, Content, done, empty, holding, Tag, opens, closes, stands}
use Rattle.svg_text.specs.Xml.{Token, is_plain, is_tag_name, is_new, is_document}

-- what a function makes of two values, where both are there
abbrev pub of_both : {A B C : Type 0} → (A → B → Option C) → Option A → Option B → Option C
of_both f (Some a) (Some b) = f a b
of_both f (Some a) None = None
of_both f None b = None

-- an element in front of a list, as a result that is there
abbrev pub put_first : {A : Type 0} → A → List A → Option (List A)
put_first x xs = Some (x ∷ xs)

-- the pieces of some bytes, cut at each byte c
abbrev pub cut_at : ℕ → List ℕ → List (List ℕ)
cut_at c bytes = slice_split (λ b. b == c) bytes

-- ---- texts

-- the character that a name stands for
abbrev pub named_character : List ℕ → Option ℕ
named_character name =
    if bytes_eq name (codes "amp") then Some 38
    else (if bytes_eq name (codes "lt") then Some 60
    else (if bytes_eq name (codes "gt") then Some 62
    else (if bytes_eq name (codes "quot") then Some 34 else None)))

-- a text: a character is itself, or is named between `&` and `;`. The name that was begun, if one
-- was, is given along
abbrev pub text_in : List ℕ → Option (List ℕ) → Option (List ℕ)
text_in [] None = Some []
text_in [] (Some name) = None
text_in (b ∷ bs) None =
    if b == 38 then text_in bs (Some [])
    else (if is_plain b then of_both put_first (Some b) (text_in bs None) else None)
text_in (b ∷ bs) (Some name) =
    if b == 59 then of_both put_first (named_character name) (text_in bs None)
    else text_in bs (Some (name ++ b ∷ []))

-- ---- tags

-- what a tag says that closes no element: its name, its attributes, and whether a `/` ends it
pub record Parts : Type 0 where
  pub name : List ℕ
  pub attributes : List Attribute
  pub is_ended : Bool

-- what stands behind the last value of a tag, cut at `/`
abbrev pub last_parts : List (List ℕ) → Option Parts
last_parts (name ∷ []) = Some (record { name = name; attributes = []; is_ended = false })
last_parts (name ∷ [] ∷ []) = Some (record { name = name; attributes = []; is_ended = true })
last_parts _ = None

-- a name and an attribute, put before the other attributes: nothing stands between two of them,
-- and no two have one name
abbrev pub put_attribute : List ℕ → List ℕ → List ℕ → Parts → Option Parts
put_attribute name key value parts =
    if is_tag_name key && list_all is_plain value && is_new key parts.attributes
    && bytes_eq parts.name []
    then Some (record {
      name = name;
      attributes = record { name = key; value = value } ∷ parts.attributes;
      is_ended = parts.is_ended;
    })
    else None

-- the name of an attribute, cut at the `=` that ends it
abbrev pub with_key : List ℕ → List (List ℕ) → List ℕ → Option Parts → Option Parts
with_key name (key ∷ [] ∷ []) value (Some parts) = put_attribute name key value parts
with_key name _ value _ = None

-- what stands before a value, cut at the space
abbrev pub with_value : List (List ℕ) → List ℕ → Option Parts → Option Parts
with_value (name ∷ key ∷ []) value parts = with_key name (cut_at 61 key) value parts
with_value _ value parts = None

-- the inside of a tag, cut at its quotes
abbrev pub parts_in : List (List ℕ) → Option Parts
parts_in [] = None
parts_in (last ∷ []) = last_parts (cut_at 47 last)
parts_in (before ∷ value ∷ more) = with_value (cut_at 32 before) value (parts_in more)

-- the tag of these parts
abbrev pub tag_of : Option Parts → Option Tag
tag_of None = None
tag_of (Some parts) =
    if is_tag_name parts.name
    then Some (if parts.is_ended then stands parts.name parts.attributes
    else opens parts.name parts.attributes)
    else None

-- the tag that closes an element of this name, where it is a name
abbrev pub closing_tag : List ℕ → Option Tag
closing_tag name = if is_tag_name name then Some (closes name) else None

-- the tag with this inside
abbrev pub tag_in : List ℕ → Option Tag
tag_in [] = None
tag_in (b ∷ bs) = if b == 47 then closing_tag bs else tag_of (parts_in (cut_at 34 (b ∷ bs)))

-- a tag and the text behind it
abbrev pub token_with : Tag → List ℕ → Option Token
token_with tag text = Some (record { tag = tag; behind = text })

-- a tag without its `<`, and the text behind it, cut at `>`
abbrev pub token_in : List (List ℕ) → Option Token
token_in (tag ∷ text ∷ []) = of_both token_with (tag_in tag) (text_in text None)
token_in _ = None

-- the tags of some bytes that were cut at `<`
abbrev pub tokens_in : List (List ℕ) → Option (List Token)
tokens_in [] = Some []
tokens_in (piece ∷ more) = of_both put_first (token_in (cut_at 62 piece)) (tokens_in more)

-- ---- elements. They are told from the last tag on, so that what is inside an element and behind
-- it is known when the tag comes that opens it

-- an element that was closed and not yet opened: its name, and what is behind it
pub record Closed : Type 0 where
  pub name : List ℕ
  pub behind : List ℕ
  pub rest : Content

-- the elements here, and the elements that they are inside of
pub record Nested : Type 0 where
  pub here : Content
  pub around : List Closed

-- the element that is opened by a tag is the one that was closed next
abbrev pub opened : List ℕ → List Attribute → List ℕ → Content → List Closed → Option Nested
opened name attributes text inside [] = None
opened name attributes text inside (c ∷ around) =
    if bytes_eq name c.name
    then Some (record {
      here = holding name attributes text inside c.behind c.rest;
      around = around;
    })
    else None

-- a tag in front of elements that were nested so far: an empty element is put before those here, a
-- closing tag begins to nest, an opening one ends it
abbrev pub put_tag : Tag → List ℕ → Nested → Option Nested
put_tag (stands name attributes) text nested =
    Some (record { here = empty name attributes text nested.here; around = nested.around })
put_tag (closes name) text nested =
    Some (record {
      here = done;
      around = record { name = name; behind = text; rest = nested.here } ∷ nested.around;
    })
put_tag (opens name attributes) text nested =
    opened name attributes text nested.here nested.around

-- a tag and its text in front of elements that were nested, where they were
abbrev pub with_token : Token → Option Nested → Option Nested
with_token token None = None
with_token token (Some nested) = put_tag token.tag token.behind nested

-- how the elements of these tags are nested
abbrev pub nested_in : List Token → Option Nested
nested_in [] = Some (record { here = done; around = [] })
nested_in (token ∷ more) = with_token token (nested_in more)

-- the one element that all tags are of
abbrev pub whole : List Closed → Content → Option Content
whole [] content = if is_document content then Some content else None
whole _ content = None

-- the one element of a nesting, if it came to an end
abbrev pub whole_in : Option Nested → Option Content
whole_in None = None
whole_in (Some nested) = whole nested.around nested.here

-- the one element of these tags, if they were read
abbrev pub content_of : Option (List Token) → Option Content
content_of None = None
content_of (Some tokens) = whole_in (nested_in tokens)

-- the document that was cut at `<`: nothing stands before its first tag
abbrev pub content_in : List (List ℕ) → Option Content
content_in ([] ∷ pieces) = content_of (tokens_in pieces)
content_in _ = None

-- the element that a document of XML spells, if it is one
unfoldable pub read : List ℕ → Option Content
read bytes = content_in (cut_at 60 bytes)
