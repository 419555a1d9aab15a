-- TAGS READ AGAIN: a tag is read back as it was, and has no angle in it.
use Rattle.std.proofs.Common.{◌≡◌, ℕ, Bool, true, false, cond, not, List, [], ◌∷◌, ◌++◌, refl, sym}
use Rattle.std.proofs.Common.{ap, ◌∙◌, flat_map, Option, Some, None, append_assoc, append-nil, ◌&&◌}
use Rattle.std.proofs.Common.{◌==◌, codes}
use Rattle.std.specs.List.{list_all}
use Rattle.std.proofs.lemmas.Bool.{and_from, and_parts, false≢true, cond-true}
use Rattle.svg_text.specs.Reading.{Parts, cut_at, last_parts, put_attribute, with_key, with_value}
use Rattle.svg_text.specs.Reading.{parts_in, tag_of, closing_tag, tag_in}
use Rattle.svg_text.specs.Xml.{Attribute, Tag, opens, closes, stands, attribute_text, tag_text}
use Rattle.svg_text.specs.Xml.{is_letter, is_plain, is_tag_name, is_new, are_attributes, is_tag}
use Rattle.svg_text.proofs.Bytes.{lacks, lacks_failing, lacks_append}
use Rattle.svg_text.proofs.Cutting.{cut_before, cut_alone}

-- the bytes of a name are letters
letters : (name : List ℕ) → is_tag_name name ≡ true → list_all is_letter name ≡ true
letters [] is = absurd (false≢true is)
letters (b ∷ bs) is = is

pub name_lacks : (c : ℕ) → is_letter c ≡ false → (name : List ℕ) → is_tag_name name ≡ true
    → lacks c name ≡ true
name_lacks c fails name is = lacks_failing is_letter c fails name (letters name is)

-- what ends a tag
ending : Bool → List ℕ
ending true = 47 ∷ []
ending false = []

ending_lacks : (c : ℕ) → not (47 == c) ≡ true → (ended : Bool) → lacks c (ending ended) ≡ true
unfolding ending
ending_lacks c other true = and_from _ _ other refl
ending_lacks c other false = refl

-- the parts of a tag with this name, and these attributes
abbrev parts : List ℕ → List Attribute → Bool → Parts
parts name attributes ended =
    record { name = name; attributes = attributes; is_ended = ended }

-- without attributes there are no quotes
last_again : (name : List ℕ) (ended : Bool) → lacks 47 name ≡ true → lacks 34 name ≡ true
    → parts_in (cut_at 34 (name ++ ending ended)) ≡ Some (parts name [] ended)
unfolding ending
last_again name true n47 n34 =
    let whole = cut_alone 34 (name ++ 47 ∷ []) (lacks_append 34 name (47 ∷ []) n34 refl) in
    let cut = cut_before 47 name [] n47 in
    ap parts_in whole ∙ ap last_parts cut
last_again name false n47 n34 =
    let whole = cut_alone 34 (name ++ []) (rw append-nil n34) in
    let cut = cut_alone 47 (name ++ []) (rw append-nil n47) in
    ap parts_in whole ∙ ap last_parts cut
    ∙ ap (λ (n : List ℕ). Some (parts n [] false)) (append-nil name)

-- an attribute that may stand before others
put_again : (name : List ℕ) (a : Attribute) (attributes : List Attribute) (ended : Bool)
    → (is_tag_name a.name && list_all is_plain a.value && is_new a.name attributes) ≡ true
    → put_attribute name a.name a.value (parts [] attributes ended)
    ≡ Some (parts name (a ∷ attributes) ended)
put_again name a attributes ended is =
    cond-true (is_tag_name a.name && list_all is_plain a.value && is_new a.name attributes && true)
    (Some (parts name (a ∷ attributes) ended)) None (and_from _ _ is refl)

-- what stands before a value
abbrev before_value : List ℕ → List ℕ → List ℕ
before_value name key = name ++ 32 ∷ (key ++ 61 ∷ [])

value_again : (name : List ℕ) (a : Attribute) (attributes : List Attribute) (ended : Bool)
    → lacks 32 name ≡ true
    → (is_tag_name a.name && list_all is_plain a.value && is_new a.name attributes) ≡ true
    → is_tag_name a.name ≡ true
    → with_value (cut_at 32 (before_value name a.name)) a.value
    (Some (parts [] attributes ended)) ≡ Some (parts name (a ∷ attributes) ended)
value_again name a attributes ended n32 is key =
    let spaced = cut_before 32 name (a.name ++ 61 ∷ []) n32
    ∙ ap (λ (pieces : List (List ℕ)). name ∷ pieces)
    (cut_alone 32 (a.name ++ 61 ∷ [])
    (lacks_append 32 a.name (61 ∷ []) (name_lacks 32 refl a.name key) refl)) in
    let equalled = cut_before 61 a.name [] (name_lacks 61 refl a.name key) in
    ap (λ (pieces : List (List ℕ)). with_value pieces a.value (Some (parts [] attributes ended)))
    spaced
    ∙ ap (λ (pieces : List (List ℕ)). with_key name pieces a.value
    (Some (parts [] attributes ended))) equalled
    ∙ put_again name a attributes ended is

-- where the quotes of the first attribute stand
first_quotes : (name : List ℕ) (a : Attribute) (rest : List ℕ)
    → name ++ (attribute_text a ++ rest)
    ≡ before_value name a.name ++ 34 ∷ (a.value ++ 34 ∷ rest)
first_quotes name a rest = simp append_assoc

attributes_again : (name : List ℕ) (attributes : List Attribute) (ended : Bool)
    → lacks 32 name ≡ true → lacks 34 name ≡ true → lacks 47 name ≡ true
    → are_attributes attributes ≡ true
    → parts_in (cut_at 34 (name ++ (flat_map attribute_text attributes ++ ending ended)))
    ≡ Some (parts name attributes ended)
attributes_again name [] ended n32 n34 n47 are = last_again name ended n47 n34
attributes_again name (a ∷ more) ended n32 n34 n47 are =
    let tests = and_parts (is_tag_name a.name && list_all is_plain a.value && is_new a.name more)
    (are_attributes more) are in
    let two = and_parts (is_tag_name a.name && list_all is_plain a.value) (is_new a.name more)
    tests.0 in
    let key = and_parts (is_tag_name a.name) (list_all is_plain a.value) two.0 in
    let rest : List ℕ = flat_map attribute_text more ++ ending ended in
    let n34 : lacks 34 (before_value name a.name) ≡ true =
    lacks_append 34 name (32 ∷ (a.name ++ 61 ∷ [])) n34
    (lacks_append 34 a.name (61 ∷ []) (name_lacks 34 refl a.name key.0) refl) in
    let spelled : name ++ (flat_map attribute_text (a ∷ more) ++ ending ended)
    ≡ before_value name a.name ++ 34 ∷ (a.value ++ 34 ∷ rest) =
    ap (λ (l : List ℕ). name ++ l)
    (append_assoc (attribute_text a) (flat_map attribute_text more) (ending ended))
    ∙ first_quotes name a rest in
    let cut : cut_at 34 (name ++ (flat_map attribute_text (a ∷ more) ++ ending ended))
    ≡ before_value name a.name ∷ a.value ∷ cut_at 34 rest =
    ap (cut_at 34) spelled
    ∙ cut_before 34 (before_value name a.name) (a.value ++ 34 ∷ rest) n34
    ∙ ap (λ (pieces : List (List ℕ)). before_value name a.name ∷ pieces)
    (cut_before 34 a.value rest (lacks_failing is_plain 34 refl a.value key.1)) in
    ap parts_in cut
    ∙ ap (λ (p : Option Parts). with_value (cut_at 32 (before_value name a.name)) a.value p)
    (attributes_again [] more ended refl refl refl tests.1)
    ∙ value_again name a more ended n32 tests.0 key.0

-- ---- tags

-- a name isn't empty, and begins with no `/`
open_again : (name : List ℕ) (rest : List ℕ) (tag : Tag) → is_tag_name name ≡ true
    → tag_of (parts_in (cut_at 34 (name ++ rest))) ≡ Some tag → tag_in (name ++ rest) ≡ Some tag
open_again [] rest tag is again = absurd (false≢true is)
open_again (b ∷ bs) rest tag is again =
    let parts = and_parts (not (b == 47)) (lacks 47 bs) (name_lacks 47 refl (b ∷ bs) is) in
    go (b == 47) parts.0
  where
    go : (e : Bool) → not e ≡ true
        → cond e (closing_tag (bs ++ rest)) (tag_of (parts_in (cut_at 34 (b ∷ (bs ++ rest)))))
        ≡ Some tag
    go false other = again
    go true other = absurd (false≢true other)

abbrev tag_with : Bool → List ℕ → List Attribute → Tag
tag_with ended name attributes = cond ended (stands name attributes) (opens name attributes)

parts_again : (name : List ℕ) (attributes : List Attribute) (ended : Bool)
    → is_tag_name name ≡ true → are_attributes attributes ≡ true
    → tag_in (name ++ (flat_map attribute_text attributes ++ ending ended))
    ≡ Some (tag_with ended name attributes)
parts_again name attributes ended is are =
    open_again name (flat_map attribute_text attributes ++ ending ended)
    (tag_with ended name attributes) is
    (ap tag_of (attributes_again name attributes ended (name_lacks 32 refl name is)
    (name_lacks 34 refl name is) (name_lacks 47 refl name is) are)
    ∙ cond-true (is_tag_name name) (Some (tag_with ended name attributes)) None is)

pub tag_again : (tag : Tag) → is_tag tag ≡ true → tag_in (tag_text tag) ≡ Some tag
unfolding ending
tag_again (opens name attributes) is =
    let parts = and_parts (is_tag_name name) (are_attributes attributes) is in
    ap (λ (l : List ℕ). tag_in (name ++ l)) (sym (append-nil (flat_map attribute_text attributes)))
    ∙ parts_again name attributes false parts.0 parts.1
tag_again (closes name) is = cond-true (is_tag_name name) (Some (closes name)) None is
tag_again (stands name attributes) is =
    let parts = and_parts (is_tag_name name) (are_attributes attributes) is in
    ap tag_in (append_assoc name (flat_map attribute_text attributes) (47 ∷ []))
    ∙ parts_again name attributes true parts.0 parts.1

-- ---- no angle in a tag

attribute_lacks : (c : ℕ) → is_letter c ≡ false → is_plain c ≡ false → not (32 == c) ≡ true
    → not (61 == c) ≡ true → not (34 == c) ≡ true → (a : Attribute)
    → (is_tag_name a.name && list_all is_plain a.value) ≡ true
    → lacks c (attribute_text a) ≡ true
attribute_lacks c letter plain n32 n61 n34 a is =
    let parts = and_parts (is_tag_name a.name) (list_all is_plain a.value) is in
    lacks_append c (codes " " ++ a.name ++ codes "=\"" ++ a.value) (codes "\"")
    (lacks_append c (codes " " ++ a.name ++ codes "=\"") a.value
    (lacks_append c (codes " " ++ a.name) (codes "=\"")
    (and_from _ _ n32 (name_lacks c letter a.name parts.0))
    (and_from _ _ n61 (and_from _ _ n34 refl)))
    (lacks_failing is_plain c plain a.value parts.1))
    (and_from _ _ n34 refl)

attributes_lack : (c : ℕ) → is_letter c ≡ false → is_plain c ≡ false → not (32 == c) ≡ true
    → not (61 == c) ≡ true → not (34 == c) ≡ true → (attributes : List Attribute)
    → are_attributes attributes ≡ true → lacks c (flat_map attribute_text attributes) ≡ true
attributes_lack c letter plain n32 n61 n34 [] are = refl
attributes_lack c letter plain n32 n61 n34 (a ∷ more) are =
    let tests = and_parts (is_tag_name a.name && list_all is_plain a.value && is_new a.name more)
    (are_attributes more) are in
    let two = and_parts (is_tag_name a.name && list_all is_plain a.value) (is_new a.name more)
    tests.0 in
    lacks_append c (attribute_text a) (flat_map attribute_text more)
    (attribute_lacks c letter plain n32 n61 n34 a two.0)
    (attributes_lack c letter plain n32 n61 n34 more tests.1)

tag_lacks : (c : ℕ) → is_letter c ≡ false → is_plain c ≡ false → not (32 == c) ≡ true
    → not (61 == c) ≡ true → not (34 == c) ≡ true → not (47 == c) ≡ true → (tag : Tag)
    → is_tag tag ≡ true → lacks c (tag_text tag) ≡ true
tag_lacks c letter plain n32 n61 n34 n47 (opens name attributes) is =
    let parts = and_parts (is_tag_name name) (are_attributes attributes) is in
    lacks_append c name (flat_map attribute_text attributes) (name_lacks c letter name parts.0)
    (attributes_lack c letter plain n32 n61 n34 attributes parts.1)
tag_lacks c letter plain n32 n61 n34 n47 (closes name) is =
    and_from _ _ n47 (name_lacks c letter name is)
tag_lacks c letter plain n32 n61 n34 n47 (stands name attributes) is =
    let parts = and_parts (is_tag_name name) (are_attributes attributes) is in
    lacks_append c (name ++ flat_map attribute_text attributes) (codes "/")
    (lacks_append c name (flat_map attribute_text attributes) (name_lacks c letter name parts.0)
    (attributes_lack c letter plain n32 n61 n34 attributes parts.1))
    (and_from _ _ n47 refl)

pub tag_opens_none : (tag : Tag) → is_tag tag ≡ true → lacks 60 (tag_text tag) ≡ true
tag_opens_none tag is = tag_lacks 60 refl refl refl refl refl refl tag is

pub tag_ends_none : (tag : Tag) → is_tag tag ≡ true → lacks 62 (tag_text tag) ≡ true
tag_ends_none tag is = tag_lacks 62 refl refl refl refl refl refl tag is
