-- A name is read as itself, and as the number of what it names.
use Rattle.std.proofs.Common.{◌≡◌, ℕ, zero, suc, ◌+◌, ◌<◌, ◌≤◌, Bool, true, false, List, [], ◌∷◌}
use Rattle.std.proofs.Common.{◌++◌, length, get_or, refl, sym, ap, ◌∙◌, Option, Some, None, arith}
use Rattle.std.proofs.Common.{add-one, ◌&&◌, slice_get, position, nat_le, nat_lt, not, ◌==◌}
use Rattle.std.proofs.Common.{decimal, bytes_eq}
use Rattle.std.specs.Char.{is_ascii_digit}
use Rattle.std.specs.List.{list_all}
use Rattle.std.proofs.lemmas.Bool.{and_parts, true_from_ne_false, both_ways}
use Rattle.std.proofs.lemmas.Bool.Decides.{nat_tests}
use Rattle.std.proofs.lemmas.List.Folds.{list_all_at}
use Rattle.std.proofs.lemmas.List.Sums.{list_all-from_AllPass}
use Rattle.std.proofs.lemmas.List.Quantifiers.{position-Some}
use Rattle.std.proofs.lemmas.Option.{slice_get-get_or}
use Rattle.hex.specs.Hex.{IsBytes, encode_lower, decode_of, is_hex_digit}
use Rattle.hex.proofs.HexLemmas.{decode_of-encode_lower, decode_of-ok}
use Rattle.linx_base.specs.NameText.{is_name, is_name_byte}
use Rattle.linx_base.specs.declared.name.Names.{Names}
use Rattle.journal_text.specs.Values.{halves_text, nth_name, name_or_mark, node_text, link_text}
use Rattle.linx_base.specs.Numbers.{high_half, low_half}
use Rattle.journal_words.specs.Names.{name_in, named_in, numbered}
use Rattle.text_words.specs.Numbers.{half_limit, whole_limit}
use Rattle.reading_laws.specs.Forms.{AreNames, IsNode, IsLink}
use Rattle.reading_laws.proofs.Tools.{bind_some, if_some_yes, same_text}
use Rattle.reading_laws.proofs.Cuts.{lacks, class_lacks, class_within, lacks-seam}
use Rattle.reading_laws.proofs.NumberLaws.{digits_all, halves_spelled}

-- the word names something: the bytes at a place of the list
record IsAt (names : List (List ℕ)) (word : List ℕ) (n : ℕ) : Type 0 where
  place : ℕ
  within : place < length names
  same : get_or names place [] ≡ word
  number : n ≡ place + 1

named_at : (names : List (List ℕ)) (word : List ℕ) (n : ℕ) → named_in names word ≡ Some n
    → IsAt names word n
unfolding named_in
named_at names word n h =
    let at = bind_some (position (λ name. bytes_eq name word) names) numbered n h in
    let found = position-Some (λ name. bytes_eq name word) names at.0 [] at.1 in
    let chosen = if_some_yes (nat_lt at.0 half_limit) (Some (at.0 + 1)) n at.2 in
    record {
      place = at.0;
      within = found.0;
      same = same_text _ word found.1;
      number = cc;
    }

named_found : (names : List (List ℕ)) (word : List ℕ) (n : ℕ) → named_in names word ≡ Some n
    → name_or_mark (nth_name names n) ≡ word
named_found names word n h =
    let at = named_at names word n h in
    let e : n ≡ suc at.place = omega (arith, at.number) in
    rw (e, slice_get-get_or names at.place [] at.within) at.same

pub node_found : (names : Names) (word : List ℕ) (n : ℕ) → named_in names.nodes word ≡ Some n
    → (word ≡ node_text names n) × IsNode names n
unfolding node_text
node_found names word n h =
    let is = named_found names.nodes word n h in
    (sym is, ap (named_in names.nodes) is ∙ h)

pub link_found : (names : Names) (word : List ℕ) (n : ℕ) → named_in names.links word ≡ Some n
    → (word ≡ link_text names n) × IsLink names n
unfolding link_text
link_found names word n h =
    let is = named_found names.links word n h in
    (sym is, ap (named_in names.links) is ∙ h)

-- what is named is a name
one_of : (names : List (List ℕ)) (k : ℕ) → list_all is_name names ≡ true → k < length names
    → is_name (get_or names k []) ≡ true
one_of names k all within =
    true_from_ne_false _ (λ fails. both_ways _ (list_all_at is_name names k [] within fails) all)

named_is_name : (names : List (List ℕ)) (word : List ℕ) (n : ℕ) → list_all is_name names ≡ true
    → named_in names word ≡ Some n → is_name word ≡ true
named_is_name names word n all h =
    let at = named_at names word n h in
    ap is_name (sym at.same) ∙ one_of names at.place all at.within

pub node_is_name : (names : Names) (n : ℕ) → AreNames names → IsNode names n
    → is_name (node_text names n) ≡ true
node_is_name names n are is = named_is_name names.nodes _ n are.0 is

pub link_is_name : (names : Names) (n : ℕ) → AreNames names → IsLink names n
    → is_name (link_text names n) ≡ true
link_is_name names n are is = named_is_name names.links _ n are.1 is

pub name_again : (word : List ℕ) → is_name word ≡ true → name_in word ≡ Some word
name_again word is = rw is refl

pub name_found : (word name : List ℕ) → name_in word ≡ Some name
    → (word ≡ name) × (is_name name ≡ true)
name_found word name h =
    let chosen = if_some_yes (is_name word) (Some word) name h in
    let same : word ≡ name = cc in
    (same, ap is_name (sym same) ∙ chosen.0)

-- ---- the bytes of words

-- letters, digits and marks
abbrev pub are_name_bytes : List ℕ → Bool
are_name_bytes word = list_all is_name_byte word

pub bytes_of_name : (word : List ℕ) → is_name word ≡ true → are_name_bytes word ≡ true
bytes_of_name word is =
    let size = nat_le 1 (length word) && nat_le (length word) 32 in
    (and_parts size (list_all is_name_byte word) is).1

digit_is_name_byte : (b : ℕ) → is_ascii_digit b ≡ true → is_name_byte b ≡ true
digit_is_name_byte b h = grind (arith, nat_tests)

hex_is_name_byte : (b : ℕ) → is_hex_digit b ≡ true → is_name_byte b ≡ true
hex_is_name_byte b h = grind (arith, nat_tests)

pub bytes_of_decimal : (n : ℕ) → n ≤ whole_limit → are_name_bytes (decimal n) ≡ true
bytes_of_decimal n limit =
    class_within is_ascii_digit is_name_byte (decimal n) digit_is_name_byte (digits_all n limit)

pub bytes_of_hexadecimal : (bytes : List ℕ) → IsBytes bytes
    → are_name_bytes (encode_lower bytes) ≡ true
bytes_of_hexadecimal bytes are =
    let ok = decode_of-ok (encode_lower bytes) bytes (decode_of-encode_lower bytes are) in
    class_within is_hex_digit is_name_byte (encode_lower bytes) hex_is_name_byte
    (list_all-from_AllPass is_hex_digit (encode_lower bytes) ok.1)

-- a byte that no name has is in none of these
pub bytes_lack : (byte : ℕ) (word : List ℕ) → is_name_byte byte ≡ false
    → are_name_bytes word ≡ true → lacks byte word ≡ true
bytes_lack byte word none are = class_lacks is_name_byte byte word none are

pub halves_lack : (byte n : ℕ) → is_name_byte byte ≡ false → n ≤ whole_limit
    → lacks byte (halves_text n) ≡ true
halves_lack byte n none limit =
    let high = decimal (high_half n) in
    let low = decimal (low_half n) in
    let first = bytes_lack byte high none (bytes_of_decimal (high_half n) (omega arith)) in
    let last = bytes_lack byte low none (bytes_of_decimal (low_half n) (omega arith)) in
    let dot = (and_parts _ true (bytes_lack byte (46 ∷ []) none refl)).0 in
    ap (lacks byte) (halves_spelled n) ∙ lacks-seam byte high low 46 first dot last
