-- Data are read from their spelling alone.
use Rattle.std.proofs.Common.{subst, inl, inr, ◌≡◌, ℕ, zero, suc, ◌+◌, ◌*◌, ◌<◌, ◌≤◌, Bool, true}
use Rattle.std.proofs.Common.{false, cond, List, [], ◌∷◌, ◌++◌, length, take, drop, get_or}
use Rattle.std.proofs.Common.{replicate, refl, sym, ap, ◌∙◌, Option, Some, None, arith}
use Rattle.std.proofs.Common.{length-append, ◌&&◌, ◌-◌, ◌==◌, nat_le, nat_lt, decimal, codes}
use Rattle.std.proofs.Common.{Result, Ok, Err, bytes_eq, le-leb, leb-true, lt-ltb, ltb-true}
use Rattle.std.proofs.Common.{eqb-true, eq-eqb, ne_eqb, take-append-drop, length-take-le}
use Rattle.std.proofs.Common.{get_or-take, take_all}
use Rattle.std.proofs.lemmas.Bool.{and_parts, and_from, lt-leb, cond-true, cond-false, cases_lt}
use Rattle.std.proofs.lemmas.Bool.{false_from_ne_true, cases_Bool}
use Rattle.std.proofs.lemmas.List.{get_or_past, drop_all, length-replicate, get_or_append_left}
use Rattle.std.proofs.lemmas.List.{get_or-append_right}
use Rattle.std.proofs.Math.Seq.{take-append_seam, drop-append_seam}
use Rattle.hex.specs.Hex.{IsBytes, encode_lower, decode_of, lower_digits}
use Rattle.hex.specs.declared.error.FromHexError.{FromHexError}
use Rattle.hex.proofs.HexLemmas.{decode_of-encode_lower, decode_of-ok, length-encode_with}
use Rattle.linx_base.specs.Content.{data_limit}
use Rattle.linx_base.specs.SigNotes.{SigNote}
use Rattle.text_words.specs.Numbers.{number_in, half_limit, whole_limit, u32_in}
use Rattle.journal_words.specs.Data.{stand_in, if_spelled, hexadecimal_in, if_some, if_long}
use Rattle.journal_words.specs.Data.{data_by, data_in, note_in}
use Rattle.text_words.specs.Words.{cut_at}
use Rattle.text_words.specs.Gives.{◌>>=◌}
use Rattle.journal_text.specs.Values.{data_text, digest_text}
use Rattle.reading_laws.specs.Forms.{printed, IsShown, IsNote}
use Rattle.reading_laws.proofs.Tools.{bind_some, if_some_yes, same_text, text_itself}
use Rattle.reading_laws.proofs.Cuts.{seam, lacks, cut_again, cut_found, cut_nowhere, class_lacks}
use Rattle.reading_laws.proofs.NumberLaws.{number_again, number_found}
use Rattle.reading_laws.proofs.NameLaws.{bytes_lack, bytes_of_decimal, bytes_of_hexadecimal}

-- ---- hexadecimal

pub hexadecimal_again : (bytes : List ℕ) → IsBytes bytes → length bytes ≤ 32
    → hexadecimal_in (encode_lower bytes) ≡ Some bytes
unfolding hexadecimal_in
hexadecimal_again bytes are few =
    let size = length-encode_with lower_digits bytes in
    let short : nat_le (length (encode_lower bytes)) 64 ≡ true = le-leb _ _ (omega (arith, size)) in
    cond-true _ _ None short ∙ ap (if_spelled (encode_lower bytes)) (decode_of-encode_lower bytes are)
    ∙ cond-true _ _ None (text_itself (encode_lower bytes))

-- hexadecimal in lower case, of at most 32 bytes
pub record IsHexadecimal (word bytes : List ℕ) : Type 0 where
  pub spelled : word ≡ encode_lower bytes
  pub are_bytes : IsBytes bytes
  pub few : length bytes ≤ 32

decoded : (word bytes : List ℕ) (r : Result (List ℕ) FromHexError) → length word ≤ 64
    → decode_of word ≡ r → if_spelled word r ≡ Some bytes → IsHexadecimal word bytes
decoded word bytes (Err e) short is h = cc
decoded word bytes (Ok found) short is h =
    let chosen = if_some_yes (bytes_eq (encode_lower found) word) (Some found) bytes h in
    let same : found ≡ bytes = cc in
    let ok = decode_of-ok word found is in
    record {
      spelled = rw (← same) (sym (same_text _ word chosen.0));
      are_bytes = rw (← same) ok.3;
      few = rw (← same) (omega (arith, ok.2));
    }

pub hexadecimal_found : (word bytes : List ℕ) → hexadecimal_in word ≡ Some bytes
    → IsHexadecimal word bytes
unfolding hexadecimal_in
hexadecimal_found word bytes h =
    let read = if_spelled word (decode_of word) in
    let chosen = if_some_yes (nat_le (length word) 64) read bytes h in
    decoded word bytes (decode_of word) (leb-true (length word) 64 chosen.0) refl chosen.1

-- ---- data

-- a word of another length isn't the mark for no data
no_mark : (word : List ℕ) → 1 < length word → bytes_eq word (codes "-") ≡ false
no_mark word long =
    false_from_ne_true _
    (λ holds. let e = ap length (same_text word (codes "-") holds) in absurd (omega arith))

no_bytes : (bytes : List ℕ) → length bytes ≡ 0 → bytes ≡ []
no_bytes [] e = refl
no_bytes (b ∷ bytes) e = absurd (omega arith)

spelled_again : (bytes : List ℕ) → IsBytes bytes → 0 < length bytes → length bytes ≤ 32
    → data_in (encode_lower bytes) ≡ Some bytes
unfolding data_in
spelled_again bytes are some few =
    let size = length-encode_with lower_digits bytes in
    let long : 1 < length (encode_lower bytes) = omega (arith, size) in
    let text = encode_lower bytes in
    let whole = cut_nowhere 58 text (bytes_lack 58 text refl (bytes_of_hexadecimal bytes are)) in
    let lt : nat_lt 0 (length bytes) ≡ true = lt-ltb _ _ some in
    cond-false _ _ _ (no_mark _ long) ∙ ap (data_by (encode_lower bytes)) whole
    ∙ ap (λ (o : Option (List ℕ)). o >>= if_some) (hexadecimal_again bytes are few)
    ∙ cond-true _ _ None lt

digested_again : (digest : List ℕ) (size : ℕ) → IsBytes digest → length digest ≡ 32 → 32 < size
    → size ≤ data_limit
    → data_in (decimal size ++ codes ":" ++ encode_lower digest) ≡ Some (stand_in digest size)
unfolding data_in
digested_again digest size are whole long short =
    let word = decimal size ++ 58 ∷ encode_lower digest in
    let spelled = seam (decimal size) (encode_lower digest) 58 in
    let hex_size = length-encode_with lower_digits digest in
    let all = length-append (decimal size) (58 ∷ encode_lower digest) in
    let some : 1 < length word = omega (arith, hex_size, all) in
    let none = bytes_lack 58 (decimal size) refl (bytes_of_decimal size (omega arith)) in
    let parts = cut_again 58 (decimal size) (encode_lower digest) none in
    let number = number_again data_limit size short (omega arith) in
    let hex = hexadecimal_again digest are (omega arith) in
    let fits = and_from _ _ (lt-ltb 32 size long) (eq-eqb _ _ whole) in
    ap data_in spelled ∙ cond-false _ _ _ (no_mark word some) ∙ ap (data_by word) parts
    ∙ rw (number, hex) (cond-true _ _ None fits)

filled_whole : (bytes : List ℕ) → 32 < length bytes
    → drop 32 bytes ≡ replicate (length bytes - 32) 255
    → stand_in (take 32 bytes) (length bytes) ≡ bytes
filled_whole bytes long filled =
    let size : length (take 32 bytes) ≡ 32 = length-take-le 32 bytes (omega arith) in
    rw (size, ← filled) (take-append-drop 32 bytes)

mark_again : data_in (codes "-") ≡ Some []
unfolding data_in
mark_again = refl

pub bytes_of_front : (bytes : List ℕ) → IsBytes bytes → length (take 32 bytes) ≡ 32
    → IsBytes (take 32 bytes)
bytes_of_front bytes are size i =
    elim (cases_lt i 32) [
      | inl front ↦ rw (get_or-take 32 bytes i 0 front) (are i)
      | inr behind ↦ rw (get_or_past (take 32 bytes) i 0 (omega (arith, size))) (omega arith)
    ]

pub data_again : (bytes : List ℕ) → IsShown bytes → data_in (data_text printed bytes) ≡ Some bytes
unfolding data_text digest_text
data_again bytes shown =
    elim (cases_lt 0 (length bytes)) [
      | inr none ↦
          let is : bytes ≡ [] = no_bytes bytes (omega arith) in
          subst (λ (xs : List ℕ). data_in (cond (length xs == 0) (codes "-") (cond (nat_le (length xs) 32) (encode_lower xs) (decimal (length xs) ++ codes ":" ++ encode_lower (take 32 xs)))) ≡ Some xs) (sym is) mark_again
      | inl some ↦
          let no_zero : (length bytes == 0) ≡ false = ne_eqb _ 0 (λ e. absurd (omega arith)) in
          elim (cases_lt 32 (length bytes)) [
            | inr few ↦
                ap data_in (cond-false _ _ _ no_zero ∙ cond-true _ _ _ (le-leb _ _ few))
                ∙ spelled_again bytes shown.are_bytes some few
            | inl long ↦
                let size : length (take 32 bytes) ≡ 32 =
                length-take-le 32 bytes (omega arith)
                in
                let front = bytes_of_front bytes shown.are_bytes size in
                ap data_in (cond-false _ _ _ no_zero ∙ cond-false _ _ _ (lt-leb _ _ long))
                ∙ digested_again (take 32 bytes) (length bytes) front size long shown.short
                ∙ ap Some (filled_whole bytes long shown.filled)
          ]
    ]

-- data that a word spells
pub record IsData (word bytes : List ℕ) : Type 0 where
  pub spelled : word ≡ data_text printed bytes
  pub shown : IsShown bytes

-- data that are spelled one by one are printed whole
short_shown : (bytes : List ℕ) → IsBytes bytes → length bytes ≤ 32 → IsShown bytes
short_shown bytes are few =
    let none : length bytes - 32 ≡ 0 = omega arith in
    record {
      are_bytes = are;
      short = omega arith;
      filled = rw (drop_all 32 bytes few, none) refl;
    }

pub short_text : (bytes : List ℕ) → 0 < length bytes → length bytes ≤ 32
    → data_text printed bytes ≡ encode_lower bytes
unfolding data_text digest_text
short_text bytes some few =
    let no_zero : (length bytes == 0) ≡ false = ne_eqb _ 0 (λ e. absurd (omega arith)) in
    cond-false _ _ _ no_zero ∙ cond-true _ _ _ (le-leb _ _ few)

pub no_data_text : (bytes : List ℕ) → length bytes ≡ 0
    → data_text printed bytes ≡ codes "-"
unfolding data_text digest_text
no_data_text bytes none = cond-true _ _ _ (eq-eqb _ 0 none)

pub long_text : (bytes : List ℕ) → 32 < length bytes
    → data_text printed bytes
    ≡ decimal (length bytes) ++ codes ":" ++ encode_lower (take 32 bytes)
unfolding data_text digest_text
long_text bytes long =
    let no_zero : (length bytes == 0) ≡ false = ne_eqb _ 0 (λ e. absurd (omega arith)) in
    cond-false _ _ _ no_zero ∙ cond-false _ _ _ (lt-leb _ _ long)

spelled_found : (word bytes : List ℕ) → (hexadecimal_in word >>= if_some) ≡ Some bytes
    → IsData word bytes
spelled_found word bytes h =
    let hex = bind_some (hexadecimal_in word) if_some bytes h in
    let chosen = if_some_yes (nat_lt 0 (length hex.0)) (Some hex.0) bytes hex.2 in
    let same : hex.0 ≡ bytes = cc in
    let found = hexadecimal_found word bytes (hex.1 ∙ ap Some same) in
    let some : 0 < length bytes = rw (← same) (ltb-true 0 (length hex.0) chosen.0) in
    record {
      spelled = found.spelled ∙ sym (short_text bytes some found.few);
      shown = short_shown bytes found.are_bytes found.few;
    }

-- what stands for data
record StandsFor (digest : List ℕ) (size : ℕ) (bytes : List ℕ) : Type 0 where
  long : length bytes ≡ size
  front : take 32 bytes ≡ digest
  shown : IsShown bytes

filler_byte : (n i : ℕ) → get_or (replicate n 255) i 0 < 256
filler_byte zero i = omega arith
filler_byte (suc n) zero = omega arith
filler_byte (suc n) (suc i) = filler_byte n i

stands : (digest : List ℕ) (size : ℕ) → IsBytes digest → length digest ≡ 32 → 32 < size
    → size ≤ data_limit → StandsFor digest size (stand_in digest size)
stands digest size are whole long short =
    let filler : List ℕ = replicate (size - length digest) 255 in
    let total : length (stand_in digest size) ≡ size =
    omega (arith, length-append digest filler, length-replicate {A = ℕ} (size - length digest) 255, whole)
    in
    record {
      long = total;
      front = ap (λ (n : ℕ). take n (digest ++ filler)) (sym whole) ∙ take-append_seam digest filler;
      shown =
          record {
            are_bytes =
                λ i. elim (cases_lt i (length digest)) [
                  | inl front ↦ rw (get_or_append_left digest filler 0 i front) (are i)
                  | inr behind ↦
                      rw (get_or-append_right digest filler (length digest) i 0 refl behind)
                      (filler_byte (size - length digest) (i - length digest))
                ];
            short = omega (arith, total);
            filled =
                ap (λ (n : ℕ). drop n (digest ++ filler)) (sym whole)
                ∙ drop-append_seam digest filler
                ∙ ap (λ (n : ℕ). replicate n 255) (omega (arith, total, whole));
          };
    }

spelled_digest : (word digest : List ℕ) (size : ℕ) (parts : List ℕ × List ℕ) (bytes : List ℕ)
    → word ≡ parts.0 ++ 58 ∷ parts.1 → parts.0 ≡ decimal size → parts.1 ≡ encode_lower digest
    → data_text printed bytes
    ≡ decimal (length bytes) ++ codes ":" ++ encode_lower (take 32 bytes)
    → length bytes ≡ size → take 32 bytes ≡ digest → word ≡ data_text printed bytes
spelled_digest word digest size parts bytes cut number hex text long front =
    cut ∙ rw (number, hex, text, long, front) (sym (seam (decimal size) (encode_lower digest) 58))

digested_found : (word bytes : List ℕ) (parts : List ℕ × List ℕ) → cut_at 58 word ≡ Some parts
    → data_by word (Some parts) ≡ Some bytes → IsData word bytes
digested_found word bytes parts at h =
    let cut = cut_found 58 word parts at in
    let size = bind_some (number_in data_limit parts.0) _ bytes h in
    let digest = bind_some (hexadecimal_in parts.1) _ bytes size.2 in
    let tested = nat_lt 32 size.0 && (length digest.0 == 32) in
    let chosen = if_some_yes tested (Some (stand_in digest.0 size.0)) bytes digest.2 in
    let tests = and_parts (nat_lt 32 size.0) (length digest.0 == 32) chosen.0 in
    let number = number_found data_limit size.0 parts.0 (omega arith) size.1 in
    let hex = hexadecimal_found parts.1 digest.0 digest.1 in
    let long : 32 < size.0 = ltb-true 32 size.0 tests.0 in
    let whole : length digest.0 ≡ 32 = eqb-true (length digest.0) 32 tests.1 in
    let is = stands digest.0 size.0 hex.are_bytes whole long number.1 in
    let same : stand_in digest.0 size.0 ≡ bytes = cc in
    let text = long_text (stand_in digest.0 size.0) (omega (arith, is.long)) in
    subst (λ (xs : List ℕ). IsData word xs) same (record {
      spelled = spelled_digest word digest.0 size.0 parts (stand_in digest.0 size.0) cut number.0 hex.spelled text is.long is.front;
      shown = is.shown;
    })

data_cut : (word bytes : List ℕ) (parts : Option (List ℕ × List ℕ)) → cut_at 58 word ≡ parts
    → data_by word parts ≡ Some bytes → IsData word bytes
data_cut word bytes None at h = spelled_found word bytes h
data_cut word bytes (Some parts) at h = digested_found word bytes parts at h

mark_found : IsData (codes "-") []
unfolding data_text digest_text
mark_found = record { spelled = refl; shown = short_shown [] (λ i. omega arith) (omega arith) }

pub data_found : (word bytes : List ℕ) → data_in word ≡ Some bytes → IsData word bytes
unfolding data_in
data_found word bytes h =
    elim (cases_Bool (bytes_eq word (codes "-"))) [
      | inl holds ↦
          let is = same_text word (codes "-") holds in
          let e = sym (cond-true _ (Some []) (data_by word (cut_at 58 word)) holds) ∙ h in
          let none : [] ≡ bytes = cc in
          subst (λ (xs : List ℕ). IsData word xs) none
          (subst (λ (w : List ℕ). IsData w []) (sym is) mark_found)
      | inr fails ↦
          data_cut word bytes (cut_at 58 word) refl
          (sym (cond-false _ (Some []) (data_by word (cut_at 58 word)) fails) ∙ h)
    ]

-- ---- signals

pub note_again : (note : SigNote) → IsNote note
    → note_in (decimal note.number) (data_text printed note.bytes) ≡ Some note
unfolding note_in
note_again note is =
    let number = number_again half_limit note.number is.number (omega arith) in
    rw (number, data_again note.bytes is.bytes) refl

-- the words of a signal
pub record AreOfNote (digits spelled : List ℕ) (note : SigNote) : Type 0 where
  pub number : digits ≡ decimal note.number
  pub word : spelled ≡ data_text printed note.bytes
  pub is : IsNote note

pub note_found : (number word : List ℕ) (note : SigNote) → note_in number word ≡ Some note
    → AreOfNote number word note
unfolding note_in
note_found number word note h =
    let n = bind_some (u32_in number) _ note h in
    let bytes = bind_some (data_in word) _ note n.2 in
    let spelled = number_found half_limit n.0 number (omega arith) n.1 in
    let shown = data_found word bytes.0 bytes.1 in
    let same : record { number = n.0; bytes = bytes.0 } ≡ note = cc in
    subst (λ (x : SigNote). AreOfNote number word x) same (record {
      number = spelled.0;
      word = shown.spelled;
      is = record { number = spelled.1; bytes = shown.shown };
    })
