-- The image of a line is printed as the line is.
use Rattle.std.proofs.Common.{inl, inr, ◌≡◌, ℕ, ◌-◌, ◌<◌, ◌≤◌, Bool, true, false, cond, List, []}
use Rattle.std.proofs.Common.{◌∷◌, ◌++◌, length, take, replicate, refl, sym, ap, ◌∙◌, arith, ◌==◌}
use Rattle.std.proofs.Common.{nat_le, codes, decimal, le-leb, ne_eqb, length-append}
use Rattle.std.proofs.lemmas.Bool.{cases_lt, cond-true, cond-false, lt-leb}
use Rattle.std.proofs.lemmas.List.{length-replicate}
use Rattle.std.proofs.Math.Seq.{take-append_seam}
use Rattle.hex.specs.Hex.{encode_lower}
use Rattle.sha2.specs.Sha256.{sha256}
use Rattle.sha2.proofs.Facts256.{length-sha256}
use Rattle.linx_base.specs.declared.name.Names.{Names}
use Rattle.linx_base.specs.SigNotes.{SigNote}
use Rattle.journal.specs.declared.head.Refusal.{Refusal}
use Rattle.journal.specs.declared.head.Refusal.TheVariants.{NoRef}
use Rattle.journal.specs.declared.head.Head.{Head}
use Rattle.journal.specs.declared.head.Head.TheVariants.{Send}
use Rattle.journal.specs.declared.head.Head.TheVariants.{Hunt, Attach, Refused}
use Rattle.journal.specs.declared.effect.Effect.{Effect}
use Rattle.journal.specs.declared.effect.Effect.TheVariants.{Arrived, Found}
use Rattle.journal.specs.declared.effect.Effect.TheVariants.{Notified}
use Rattle.journal_text.specs.Values.{halves_text, peer_text, path_text, sent_text, reference_text}
use Rattle.journal_text.specs.Values.{Digest, data_text, digest_text, reason_text, maker_text}
use Rattle.journal_words.specs.declared.lines.Line.{Line}
use Rattle.journal_words.specs.declared.lines.Line.TheVariants.{Made, Happened}
use Rattle.journal_words.specs.Data.{stand_in}
use Rattle.reading_laws.specs.Forms.{printed}
use Rattle.reading_laws.specs.Images.{image_of_head, image_of_effect, image_of_line}
use Rattle.reading_laws.specs.Printed.{shown_of}
use Rattle.reading_laws.specs.Spelled.{head_words, effect_words, line_words}

-- data that are printed whole are printed so whatever the digest is
short_alike : (bytes : List ℕ) → length bytes ≤ 32
    → data_text printed bytes ≡ data_text sha256 bytes
unfolding data_text digest_text
short_alike bytes few =
    let e = le-leb (length bytes) 32 few in
    let whole = cond-true (nat_le (length bytes) 32) (encode_lower bytes) in
    ap (cond (length bytes == 0) (codes "-")) (whole _ e ∙ sym (whole _ e))

-- long data are printed by their digest
long_by : (digest : Digest) (bytes : List ℕ) → 32 < length bytes
    → data_text digest bytes
    ≡ decimal (length bytes) ++ codes ":" ++ encode_lower (digest bytes)
unfolding data_text digest_text
long_by digest bytes long =
    let some : (length bytes == 0) ≡ false = ne_eqb _ 0 (λ e. absurd (omega arith)) in
    cond-false _ _ _ some ∙ cond-false _ _ _ (lt-leb (length bytes) 32 long)

length-stand_in : (digest : List ℕ) (size : ℕ) → length digest ≡ 32 → 32 < size
    → length (stand_in digest size) ≡ size
length-stand_in digest size whole long =
    let filler : List ℕ = replicate (size - length digest) 255 in
    omega (
      arith,
      length-append digest filler,
      length-replicate {A = ℕ} (size - length digest) 255,
      whole,
    )

front_of_stand_in : (digest : List ℕ) (size : ℕ) → length digest ≡ 32
    → take 32 (stand_in digest size) ≡ digest
front_of_stand_in digest size whole =
    let filler : List ℕ = replicate (size - length digest) 255 in
    ap (λ (n : ℕ). take n (digest ++ filler)) (sym whole) ∙ take-append_seam digest filler

long_alike : (bytes : List ℕ) → 32 < length bytes
    → data_text printed (stand_in (sha256 bytes) (length bytes)) ≡ data_text sha256 bytes
long_alike bytes long =
    let whole = length-sha256 bytes in
    let standing = stand_in (sha256 bytes) (length bytes) in
    let size = length-stand_in (sha256 bytes) (length bytes) whole long in
    let front = front_of_stand_in (sha256 bytes) (length bytes) whole in
    long_by printed standing (omega (arith, size))
    ∙ ap (λ (n : ℕ). decimal n ++ codes ":" ++ encode_lower (take 32 standing)) size
    ∙ ap (λ (d : List ℕ). decimal (length bytes) ++ codes ":" ++ encode_lower d) front
    ∙ sym (long_by sha256 bytes long)

-- short data are read as they are
pub shown_short : (bytes : List ℕ) → length bytes ≤ 32 → shown_of bytes ≡ bytes
shown_short bytes few =
    cond-true (nat_le (length bytes) 32) bytes (stand_in (sha256 bytes) (length bytes))
    (le-leb (length bytes) 32 few)

-- and long ones as what stands for them
pub shown_long : (bytes : List ℕ) → 32 < length bytes
    → shown_of bytes ≡ stand_in (sha256 bytes) (length bytes)
shown_long bytes long =
    cond-false (nat_le (length bytes) 32) bytes (stand_in (sha256 bytes) (length bytes))
    (lt-leb (length bytes) 32 long)

-- as many as there are
pub shown_size : (bytes : List ℕ) → length (shown_of bytes) ≡ length bytes
shown_size bytes =
    elim (cases_lt 32 (length bytes)) [
      | inl long ↦
          ap length (shown_long bytes long)
          ∙ length-stand_in (sha256 bytes) (length bytes) (length-sha256 bytes) long
      | inr few ↦ ap length (shown_short bytes few)
    ]

pub shown_alike : (bytes : List ℕ) → data_text printed (shown_of bytes) ≡ data_text sha256 bytes
shown_alike bytes =
    elim (cases_lt 32 (length bytes)) [
      | inl long ↦ ap (data_text printed) (shown_long bytes long) ∙ long_alike bytes long
      | inr few ↦ ap (data_text printed) (shown_short bytes few) ∙ short_alike bytes few
    ]

head_alike : (names : Names) (head : Head)
    → head_words printed names (image_of_head head) ≡ head_words sha256 names head
unfolding head_words
head_alike names (Send peer note answer) = simp shown_alike
head_alike names (Hunt path note) = simp shown_alike
head_alike names (Attach peer note) = simp shown_alike
head_alike names (Refused NoRef) = refl
head_alike names _ = refl

effect_alike : (names : Names) (effect : Effect)
    → effect_words printed names (image_of_effect effect) ≡ effect_words sha256 names effect
unfolding effect_words
effect_alike names (Arrived inc peer note) = simp shown_alike
effect_alike names (Found inc peer note hunt) = simp shown_alike
effect_alike names (Notified inc peer note reference reason) = simp shown_alike
effect_alike names _ = refl

pub line_alike : (names : Names) (line : Line)
    → line_words printed names (image_of_line line) ≡ line_words sha256 names line
line_alike names (Made position by head) =
    ap (λ (ws : List (List ℕ)). decimal position ∷ maker_text by ∷ ws) (head_alike names head)
line_alike names (Happened effect) =
    ap (λ (ws : List (List ℕ)). codes "+" ∷ ws) (effect_alike names effect)
