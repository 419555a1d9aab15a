-- The image of a line of a run is one that its words show whole.
use Rattle.std.proofs.Common.{◌≡◌, ℕ, zero, suc, ◌-◌, ◌<◌, ◌≤◌, List, [], ◌∷◌, ◌++◌, length, inl}
use Rattle.std.proofs.Common.{inr, refl, sym, ap, ◌∙◌, replicate, subst, arith, drop, get_or}
use Rattle.std.proofs.Common.{slice_index}
use Rattle.std.specs.List.{AllByRecursion}
use Rattle.std.specs.Int.{byte_at, bytes_high_first, to_be_bytes}
use Rattle.std.specs.Int.Width.{w32}
use Rattle.std.proofs.lemmas.Bool.{cases_lt}
use Rattle.std.proofs.Math.ListN.{drop_of_length-le}
use Rattle.std.proofs.Math.Seq.{drop-append_seam}
use Rattle.sha2.specs.Sha256.{digest_bytes, final_hash, initial_hash_256, sha256}
use Rattle.sha2.proofs.Facts256.{length-sha256}
use Rattle.linx_base.specs.Content.{data_limit}
use Rattle.linx_base.specs.declared.name.Names.{Names}
use Rattle.linx_base.specs.SigNotes.{SigNote}
use Rattle.journal.specs.declared.head.Head.{Head}
use Rattle.journal.specs.declared.head.Head.TheVariants.{Send, Hunt, Attach, Refused}
use Rattle.journal.specs.declared.head.Refusal.TheVariants.{IsOpen, NoPeer, NoRef, NoSignal}
use Rattle.journal.specs.declared.head.Refusal.TheVariants.{NotOpen}
use Rattle.journal.specs.declared.effect.Effect.{Effect}
use Rattle.journal.specs.declared.effect.Effect.TheVariants.{Arrived, Found, Notified}
use Rattle.journal.proofs.Lists.{all-append}
use Rattle.journal_words.specs.Data.{stand_in}
use Rattle.journal_words.specs.declared.lines.Line.{Line}
use Rattle.journal_words.specs.declared.lines.Line.TheVariants.{Made, Happened}
use Rattle.reading_laws.specs.Forms.{IsEffect, IsHead, IsLine, IsNote, IsShown}
use Rattle.reading_laws.specs.Images.{image_of_effect, image_of_head, image_of_line, image_of_note}
use Rattle.reading_laws.specs.Printed.{shown_of}
use Rattle.reading_laws.specs.Fits.{FitsEffect, FitsHead, FitsLine, FitsNote}
use Rattle.reading_laws.proofs.ImageLaws.{shown_long, shown_short, shown_size}

abbrev AllBytes : List ℕ → Type 0
AllBytes xs = AllByRecursion (λ b. b < 256) xs

bytes-get_or : (xs : List ℕ) (i : ℕ) → AllBytes xs → get_or xs i 0 < 256
bytes-get_or [] i all = omega arith
bytes-get_or (x ∷ xs) zero all = all.0
bytes-get_or (x ∷ xs) (suc i) all = bytes-get_or xs i all.1

byte_small : (k n : ℕ) → byte_at k n < 256
byte_small zero n = omega arith
byte_small (suc k) n = omega arith

high_small : (k n : ℕ) → AllBytes (bytes_high_first k n)
high_small zero n = tt
high_small (suc k) n = (byte_small k n, high_small k n)

digest_small : (h : List ℕ) (n : ℕ) → AllBytes (digest_bytes h n)
unfolding digest_bytes
digest_small h zero = tt
digest_small h (suc n) =
    all-append (λ b. b < 256) (digest_bytes h n) (to_be_bytes w32 (slice_index h n))
    (digest_small h n) (high_small 4 (slice_index h n))

sha256_small : (m : List ℕ) → AllBytes (sha256 m)
unfolding sha256
sha256_small m = digest_small (final_hash initial_hash_256 m) 8

filler_small : (n : ℕ) → AllBytes (replicate {A = ℕ} n 255)
filler_small zero = tt
filler_small (suc n) = (omega arith, filler_small n)

stand_in_small : (digest : List ℕ) (size : ℕ) → AllBytes digest → AllBytes (stand_in digest size)
stand_in_small digest size all =
    all-append (λ b. b < 256) digest (replicate {A = ℕ} (size - length digest) 255) all
    (filler_small (size - length digest))

stand_in_filled : (digest : List ℕ) (size : ℕ) → length digest ≡ 32
    → drop 32 (stand_in digest size) ≡ replicate {A = ℕ} (size - 32) 255
stand_in_filled digest size whole =
    let filler : List ℕ = replicate (size - length digest) 255 in
    ap (λ (n : ℕ). drop n (digest ++ filler)) (sym whole) ∙ drop-append_seam digest filler
    ∙ ap (λ (n : ℕ). replicate {A = ℕ} (size - n) 255) whole

short_filled : (bytes : List ℕ) → length bytes ≤ 32
    → drop 32 bytes ≡ replicate {A = ℕ} (length bytes - 32) 255
short_filled bytes few =
    drop_of_length-le bytes few
    ∙ ap (λ (n : ℕ). replicate {A = ℕ} n 255)
    (let none : 0 ≡ length bytes - 32 = omega (arith, few) in none)

pub shown-is_shown : (bytes : List ℕ) → ((i : ℕ) → get_or bytes i 0 < 256)
    → length bytes ≤ data_limit → IsShown (shown_of bytes)
shown-is_shown bytes are_bytes short =
    elim (cases_lt 32 (length bytes)) [
      | inl long ↦
          let standing : List ℕ = stand_in (sha256 bytes) (length bytes) in
          let e : standing ≡ shown_of bytes = sym (shown_long bytes long) in
          record {
            are_bytes = λ i. subst (λ (xs : List ℕ). get_or xs i 0 < 256) e
                (bytes-get_or standing i
                (stand_in_small (sha256 bytes) (length bytes) (sha256_small bytes)));
            short = omega (arith, shown_size bytes, short);
            filled = ap (drop 32) (sym e)
                ∙ stand_in_filled (sha256 bytes) (length bytes) (length-sha256 bytes)
                ∙ ap (λ (n : ℕ). replicate {A = ℕ} (n - 32) 255) (sym (shown_size bytes));
          }
      | inr few ↦
          let e : bytes ≡ shown_of bytes = sym (shown_short bytes few) in
          record {
            are_bytes = λ i. subst (λ (xs : List ℕ). get_or xs i 0 < 256) e (are_bytes i);
            short = omega (arith, shown_size bytes, short);
            filled = subst (λ (xs : List ℕ). drop 32 xs ≡ replicate (length xs - 32) 255) e
                (short_filled bytes few);
          }
    ]

note-is : (note : SigNote) → FitsNote note → IsNote (image_of_note note)
note-is note fits = record {
  number = fits.number;
  bytes = shown-is_shown note.bytes fits.are_bytes fits.short;
}

head-is : (names : Names) (head : Head) → FitsHead names head → IsHead names (image_of_head head)
head-is names (Send peer note answer) fits = (fits.0, note-is note fits.1)
head-is names (Hunt path note) fits = (fits.0, note-is note fits.1)
head-is names (Attach peer note) fits = (fits.0, note-is note fits.1)
head-is names (Refused (NotOpen at)) fits = refl
head-is names (Refused (IsOpen inc)) fits = refl
head-is names (Refused NoPeer) fits = tt
head-is names (Refused NoSignal) fits = tt
head-is names (Refused NoRef) fits = tt
head-is names _ fits = fits

effect-is : (names : Names) (e : Effect) → FitsEffect names e
    → IsEffect names (image_of_effect e)
effect-is names (Arrived inc peer note) fits = (fits.0, fits.1, note-is note fits.2)
effect-is names (Found inc peer note hunt) fits = (fits.0, fits.1, note-is note fits.2, fits.3)
effect-is names (Notified inc peer note reference reason) fits =
    (fits.0, fits.1, note-is note fits.2, fits.3)
effect-is names _ fits = fits

pub line-is : (names : Names) (line : Line) → FitsLine names line
    → IsLine names (image_of_line line)
line-is names (Made position by head) fits = (fits.0, fits.1, head-is names head fits.2)
line-is names (Happened effect) fits = effect-is names effect fits
