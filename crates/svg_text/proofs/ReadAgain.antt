-- A DOCUMENT READ AGAIN: elements that may stand in a document are read back as they were.
use Rattle.std.proofs.Common.{◌≡◌, ℕ, true, List, [], ◌∷◌, ◌++◌, refl, sym, ap, ◌∙◌, map, flat_map}
use Rattle.std.proofs.Common.{Option, Some, None, append_assoc, append-nil, codes, bytes_eq, eq-eqb}
use Rattle.std.specs.List.{list_all}
use Rattle.std.proofs.lemmas.Bool.{and_from, and_parts, cond-true}
use Rattle.svg_text.specs.Reading.{of_both, put_first, cut_at, text_in, token_with, token_in}
use Rattle.svg_text.specs.Reading.{tokens_in, Closed, Nested, opened, with_token, nested_in}
use Rattle.svg_text.specs.Reading.{whole_in, content_of, content_in, read}
use Rattle.svg_text.specs.Xml.{Attribute, Content, done, empty, holding, Tag, opens, closes, stands}
use Rattle.svg_text.specs.Xml.{Token, tokens_of, character_text, tag_text, token_text}
use Rattle.svg_text.specs.Xml.{document_text, is_character, is_tag, is_token, is_document}
use Rattle.svg_text.specs.Xml.{is_spelled}
use Rattle.svg_text.proofs.Bytes.{lacks, lacks_append}
use Rattle.svg_text.proofs.Cutting.{cut_before, cut_alone}
use Rattle.svg_text.proofs.TextsAgain.{text_again, text_opens_none, text_ends_none}
use Rattle.svg_text.proofs.TagsAgain.{tag_again, tag_opens_none, tag_ends_none}

-- a tag without its first angle, and the text behind it
abbrev piece : Token → List ℕ
piece t = tag_text t.tag ++ 62 ∷ flat_map character_text t.behind

spelled_piece : (t : Token) (rest : List ℕ) → token_text t ++ rest ≡ 60 ∷ (piece t ++ rest)
spelled_piece t rest =
    ap (λ (l : List ℕ). 60 ∷ (l ++ rest))
    (append_assoc (tag_text t.tag) (codes ">") (flat_map character_text t.behind))

piece_lacks : (t : Token) → is_token t ≡ true → lacks 60 (piece t) ≡ true
piece_lacks t is =
    let parts = and_parts (is_tag t.tag) (list_all is_character t.behind) is in
    lacks_append 60 (tag_text t.tag) (62 ∷ flat_map character_text t.behind)
    (tag_opens_none t.tag parts.0) (text_opens_none t.behind)

pieces : (before : List ℕ) (ts : List Token) → lacks 60 before ≡ true
    → list_all is_token ts ≡ true
    → cut_at 60 (before ++ flat_map token_text ts) ≡ before ∷ map piece ts
pieces before [] none all =
    ap (cut_at 60) (append-nil before) ∙ cut_alone 60 before none
pieces before (t ∷ ts) none all =
    let parts = and_parts (is_token t) (list_all is_token ts) all in
    ap (λ (l : List ℕ). cut_at 60 (before ++ l)) (spelled_piece t (flat_map token_text ts))
    ∙ cut_before 60 before (piece t ++ flat_map token_text ts) none
    ∙ ap (λ (l : List (List ℕ)). before ∷ l)
    (pieces (piece t) ts (piece_lacks t parts.0) parts.1)

token_again : (t : Token) → is_token t ≡ true → token_in (cut_at 62 (piece t)) ≡ Some t
token_again t is =
    let parts = and_parts (is_tag t.tag) (list_all is_character t.behind) is in
    let text : List ℕ = flat_map character_text t.behind in
    let cut : cut_at 62 (piece t) ≡ tag_text t.tag ∷ text ∷ [] =
    cut_before 62 (tag_text t.tag) text (tag_ends_none t.tag parts.0)
    ∙ ap (λ (l : List (List ℕ)). tag_text t.tag ∷ l)
    (cut_alone 62 text (text_ends_none t.behind)) in
    ap token_in cut
    ∙ ap (λ (tag : Option Tag). of_both token_with tag (text_in text None)) (tag_again t.tag parts.0)
    ∙ ap (λ (behind : Option (List ℕ)). of_both token_with (Some t.tag) behind)
    (text_again t.behind parts.1)

tokens_again : (ts : List Token) → list_all is_token ts ≡ true
    → tokens_in (map piece ts) ≡ Some ts
tokens_again [] all = refl
tokens_again (t ∷ ts) all =
    let parts = and_parts (is_token t) (list_all is_token ts) all in
    ap (λ (one : Option Token). of_both put_first one (tokens_in (map piece ts)))
    (token_again t parts.0)
    ∙ ap (λ (more : Option (List Token)). of_both put_first (Some t) more)
    (tokens_again ts parts.1)

same_name : (name : List ℕ) → bytes_eq name name ≡ true
same_name [] = refl
same_name (b ∷ bs) = and_from _ _ (eq-eqb b b refl) (same_name bs)

open_again : (name : List ℕ) (attributes : List Attribute) (text : List ℕ) (inside : Content)
    (behind : List ℕ) (rest : Content) (around : List Closed)
    → opened name attributes text inside
    (record { name = name; behind = behind; rest = rest } ∷ around)
    ≡ Some (record { here = holding name attributes text inside behind rest; around = around })
open_again name attributes text inside behind rest around = cond-true (bytes_eq name name) (Some (record {
  here = holding name attributes text inside behind rest;
  around = around;
})) None (same_name name)

-- elements that stand before what closes those around them
elements_again : (c : Content) (more : List Token) (around : List Closed)
    → nested_in more ≡ Some (record { here = done; around = around })
    → nested_in (tokens_of c ++ more) ≡ Some (record { here = c; around = around })
elements_again done more around is = is
elements_again (empty name attributes behind rest) more around is =
    ap (λ (n : Option Nested).
    with_token (record { tag = stands name attributes; behind = behind }) n)
    (elements_again rest more around is)
elements_again (holding name attributes text inside behind rest) more around is =
    let closing : Token = record { tag = closes name; behind = behind } in
    let later : List Token = closing ∷ (tokens_of rest ++ more) in
    let outer : nested_in later ≡ Some (record {
      here = done;
      around = record { name = name; behind = behind; rest = rest } ∷ around;
    }) = ap (λ (n : Option Nested). with_token closing n) (elements_again rest more around is) in
    let joined : (tokens_of inside ++ closing ∷ tokens_of rest) ++ more
    ≡ tokens_of inside ++ later =
    append_assoc (tokens_of inside) (closing ∷ tokens_of rest) more in
    let opening : Token = record { tag = opens name attributes; behind = text } in
    ap (λ (l : List Token). with_token opening (nested_in l)) joined
    ∙ ap (λ (n : Option Nested). with_token opening n)
    (elements_again inside later
    (record { name = name; behind = behind; rest = rest } ∷ around) outer)
    ∙ open_again name attributes text inside behind rest around

-- THE LAW: what may stand in a document of XML is read back from its text, to the very elements
pub read_again : (c : Content) → is_spelled c ≡ true → read (document_text c) ≡ Some c
unfolding read
read_again c is =
    let parts = and_parts (list_all is_token (tokens_of c)) (is_document c) is in
    ap content_in (pieces [] (tokens_of c) refl parts.0)
    ∙ ap content_of (tokens_again (tokens_of c) parts.0)
    ∙ ap (λ (ts : List Token). whole_in (nested_in ts)) (sym (append-nil (tokens_of c)))
    ∙ ap whole_in (elements_again c [] [] refl)
    ∙ cond-true (is_document c) (Some c) None parts.1
