-- What is read where data are printed keeps their number, and short data themselves.
use Rattle.std.proofs.Common.{◌≡◌, ◌≢◌, ℕ, ◌-◌, ◌<◌, List, [], ◌∷◌, ◌++◌, length, map}
use Rattle.std.proofs.Common.{refl, sym, ap, ◌∙◌, replicate, subst, arith, append_assoc}
use Rattle.std.proofs.lemmas.List.{replicate-append-replicate}
use Rattle.sha2.specs.Sha256.{sha256}
use Rattle.sha2.proofs.Facts256.{length-sha256}
use Rattle.linx_base.specs.Content.{reason_byte}
use Rattle.linx_base.specs.declared.signal.Reason.{Reason}
use Rattle.linx_base.specs.declared.signal.Reason.TheVariants.{Closed, Dead, Lost}
use Rattle.journal.specs.Shapes.{Shape}
use Rattle.journal.specs.declared.head.Head.{Head}
use Rattle.journal.specs.declared.head.Head.TheVariants.{Send, Refused}
use Rattle.journal.specs.declared.head.Refusal.TheVariants.{IsOpen, NoPeer, NoRef, NoSignal}
use Rattle.journal.specs.declared.head.Refusal.TheVariants.{NotOpen}
use Rattle.journal.specs.declared.effect.Effect.{Effect}
use Rattle.journal.specs.declared.effect.Effect.TheVariants.{Arrived}
use Rattle.journal.specs.declared.effect.Step.{Step}
use Rattle.link_laws.specs.Laws.{IsLegal}
use Rattle.journal_words.specs.Data.{stand_in}
use Rattle.reading_laws.proofs.ImageLaws.{shown_long, shown_short, shown_size}
use Rattle.reading_laws.specs.Images.{image_of_effect as read_effect, image_of_head}
use Rattle.reading_laws.specs.Printed.{shown_of}
use Rattle.image_laws.specs.Images.{head_by}
use Rattle.image_laws.specs.Told.{IsImage, image_of, image_of_effect, image_of_step, told_of}
use Rattle.image_laws.proofs.Reading.{legal-image}
use Rattle.journal_read.specs.Printed.{read_step}

pub shown_image : IsImage shown_of
shown_image = record { sizes = shown_size; short = shown_short }

-- a line is read as the image of its head or of its effect
read_head : (head : Head) → image_of_head head ≡ head_by shown_of head
read_head (Send q note answer) = refl
read_head (Refused (NotOpen at)) = refl
read_head (Refused (IsOpen inc)) = refl
read_head (Refused NoPeer) = refl
read_head (Refused NoSignal) = refl
read_head (Refused NoRef) = refl
read_head _ = refl

read_one : (e : Effect) → read_effect e ≡ image_of_effect shown_of e
read_one (Arrived i q note) = refl
read_one _ = refl

read_effects : (es : List Effect) → map read_effect es ≡ map (image_of_effect shown_of) es
read_effects [] = refl
read_effects (e ∷ es) = rw (read_one e, read_effects es) refl

read_one_step : (s : Step) → read_step s ≡ image_of_step shown_of s
read_one_step s = rw (read_head s.head, read_effects s.effects) refl

read_steps : (P : List Step) → map read_step P ≡ image_of shown_of P
read_steps [] = refl
read_steps (s ∷ P) = rw (read_one_step s, read_steps P) refl

pub printed_legal : (shape : Shape) (P : List Step) → IsLegal shape P
    → IsLegal shape (told_of shown_of (map read_step P))
printed_legal shape P legal =
    subst (λ (R : List Step). IsLegal shape (told_of shown_of R)) (sym (read_steps P))
    (legal-image shown_of shown_image shape P legal)

-- the last of a list
last_of : List ℕ → ℕ
last_of [] = 0
last_of (x ∷ []) = x
last_of (x ∷ y ∷ ys) = last_of (y ∷ ys)

last_behind : (xs : List ℕ) (y : ℕ) → last_of (xs ++ y ∷ []) ≡ y
unfolding last_of
last_behind [] y = refl
last_behind (x ∷ []) y = refl
last_behind (x ∷ z ∷ zs) y = last_behind (z ∷ zs) y

filler_ends : (n : ℕ) → 0 < n
    → replicate {A = ℕ} n 255 ≡ replicate {A = ℕ} (n - 1) 255 ++ 255 ∷ []
filler_ends n some =
    ap (λ (k : ℕ). replicate {A = ℕ} k 255) (omega (arith, some))
    ∙ sym (replicate-append-replicate (n - 1) 1 255)

stand_in_ends : (digest : List ℕ) (size : ℕ) → length digest < size
    → last_of (stand_in digest size) ≡ 255
stand_in_ends digest size long =
    let before : List ℕ = replicate (size - length digest - 1) 255 in
    ap (λ (filler : List ℕ). last_of (digest ++ filler))
    (filler_ends (size - length digest) (omega (arith, long)))
    ∙ ap last_of (sym (append_assoc digest before (255 ∷ [])))
    ∙ last_behind (digest ++ before) 255

no_reason : (reason : Reason) → 255 ≢ reason_byte reason
no_reason Closed e = absurd (omega (arith, e))
no_reason Lost e = absurd (omega (arith, e))
no_reason Dead e = absurd (omega (arith, e))

pub stand_in_tells_none : (bytes attached : List ℕ) (reason : Reason) → 32 < length bytes
    → shown_of bytes ≢ attached ++ reason_byte reason ∷ []
stand_in_tells_none bytes attached reason long same =
    no_reason reason
    (sym (stand_in_ends (sha256 bytes) (length bytes) (omega (arith, length-sha256 bytes, long)))
    ∙ ap last_of (sym (shown_long bytes long) ∙ same)
    ∙ last_behind attached (reason_byte reason))
