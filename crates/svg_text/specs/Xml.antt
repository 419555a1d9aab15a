-- Documents of XML, as far as pictures need them, and how they are spelled.
use Rattle.std.specs.Prelude.{ℕ, ◌==◌, nat_le, Bool, true, false, ◌&&◌, ◌||◌, not, if◌then◌else◌}
use Rattle.std.specs.Prelude.{List, [], ◌∷◌, ◌++◌, flat_map, codes}
use Rattle.std.specs.List.{list_all}
use Rattle.std.specs.Str.{bytes_eq}

-- an attribute: its name and its value
pub record Attribute : Type 0 where
  pub name : List ℕ
  pub value : List ℕ

-- elements in a row, each with its name, its attributes and the text behind it: an empty one, or
-- one that holds a text and further elements
pub data Content : Type 0 where
  done : Content
  empty : List ℕ → List Attribute → List ℕ → Content → Content
  holding : List ℕ → List Attribute → List ℕ → Content → List ℕ → Content → Content

-- a tag: one that opens an element, one that closes it, or that of an empty element
pub data Tag : Type 0 where
  opens : List ℕ → List Attribute → Tag
  closes : List ℕ → Tag
  stands : List ℕ → List Attribute → Tag

-- a tag and the text behind it
pub record Token : Type 0 where
  pub tag : Tag
  pub behind : List ℕ

-- the tags of elements in a row
abbrev pub tokens_of : Content → List Token
tokens_of done = []
tokens_of (empty name attributes behind rest) =
    record { tag = stands name attributes; behind = behind } ∷ tokens_of rest
tokens_of (holding name attributes text inside behind rest) =
    record { tag = opens name attributes; behind = text } ∷ (tokens_of inside
    ++ record { tag = closes name; behind = behind } ∷ tokens_of rest)

-- ---- how a document is spelled

-- a character of a text: the four with a meaning of their own by their names
abbrev pub character_text : ℕ → List ℕ
character_text b =
    if b == 38 then codes "&amp;"
    else (if b == 60 then codes "&lt;"
    else (if b == 62 then codes "&gt;" else (if b == 34 then codes "&quot;" else b ∷ [])))

-- an attribute as it is spelled: a space, its name, and its value in quotes
abbrev pub attribute_text : Attribute → List ℕ
attribute_text a = codes " " ++ a.name ++ codes "=\"" ++ a.value ++ codes "\""

-- what stands between the angles of a tag
abbrev pub tag_text : Tag → List ℕ
tag_text (opens name attributes) = name ++ flat_map attribute_text attributes
tag_text (closes name) = codes "/" ++ name
tag_text (stands name attributes) = name ++ flat_map attribute_text attributes ++ codes "/"

-- a tag in its angles, and the text behind it
abbrev pub token_text : Token → List ℕ
token_text token =
    codes "<" ++ tag_text token.tag ++ codes ">" ++ flat_map character_text token.behind

-- the document of some elements
abbrev pub document_text : Content → List ℕ
document_text content = flat_map token_text (tokens_of content)

-- ---- what may stand where

-- the end of a line, or a printing character of ASCII
abbrev pub is_character : ℕ → Bool
is_character b = b == 10 || (nat_le 32 b && nat_le b 126)

-- a character that has no meaning of its own
abbrev pub is_plain : ℕ → Bool
is_plain b = is_character b && not (b == 34) && not (b == 38) && not (b == 60) && not (b == 62)

-- a letter or a dash
abbrev pub is_letter : ℕ → Bool
is_letter b = b == 45 || (nat_le 65 b && nat_le b 90) || (nat_le 97 b && nat_le b 122)

-- a name of an element or an attribute
abbrev pub is_tag_name : List ℕ → Bool
is_tag_name [] = false
is_tag_name (b ∷ bs) = list_all is_letter (b ∷ bs)

-- none of the attributes has this name
abbrev pub is_new : List ℕ → List Attribute → Bool
is_new name attributes = list_all (λ (a : Attribute). not (bytes_eq name a.name)) attributes

-- the attributes have names, no two the same, and plain values
abbrev pub are_attributes : List Attribute → Bool
are_attributes [] = true
are_attributes (a ∷ more) =
    is_tag_name a.name && list_all is_plain a.value && is_new a.name more && are_attributes more

-- a tag may stand in a document: it has a name, and its attributes have names and plain values
abbrev pub is_tag : Tag → Bool
is_tag (opens name attributes) = is_tag_name name && are_attributes attributes
is_tag (closes name) = is_tag_name name
is_tag (stands name attributes) = is_tag_name name && are_attributes attributes

-- the tag may stand in a document, and so may the text behind it
abbrev pub is_token : Token → Bool
is_token token = is_tag token.tag && list_all is_character token.behind

-- a document is one element, and an end of line may stand behind it
abbrev pub is_document : Content → Bool
is_document (holding name attributes text inside behind done) = list_all (λ b. b == 10) behind
is_document (empty name attributes behind done) = list_all (λ b. b == 10) behind
is_document _ = false

-- the elements are a document of XML: tags and texts are such as may stand there
abbrev pub is_spelled : Content → Bool
is_spelled content = list_all is_token (tokens_of content) && is_document content
