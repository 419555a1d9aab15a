-- Digests that are known before they are printed.
use Rattle.std.specs.Prelude.{◌≡◌, ℕ, zero, suc, List, Option, Some, None, slice_get, IsSomeAnd, ⊤}
use Rattle.linx_base.specs.SigNotes.{SigNote}
use Rattle.journal.specs.declared.head.Head.{Head}
use Rattle.journal.specs.declared.head.Head.TheVariants.{Send, Hunt, Attach}
use Rattle.journal.specs.declared.effect.Effect.{Effect}
use Rattle.journal.specs.declared.effect.Effect.TheVariants.{Arrived, Found, Notified}
use Rattle.journal.specs.declared.effect.Step.{Step}
use Rattle.journal.specs.Logs.{step_at}
use Rattle.sha2.specs.Sha256.{sha256}
use Rattle.journal_text.specs.Values.{Digest, first_bytes}
use Rattle.journal_text.specs.declared.digests.DigestBy.{DigestBy}
use Rattle.journal_text.specs.declared.digests.DigestBy.TheVariants.{Sha256, FirstBytes}
use Rattle.journal_text.specs.declared.digests.Known.{Known}
use Rattle.journal_text.specs.declared.digests.Known.TheVariants.{Made, By}
use Rattle.journal_text.specs.declared.digests.Placed.{Placed}
use Rattle.journal_text.specs.declared.digests.Digests.{Digests}

-- the signal in a head
abbrev pub signal_in : Head → Option SigNote
signal_in (Send peer note answer) = Some note
signal_in (Hunt path note) = Some note
signal_in (Attach peer note) = Some note
signal_in _ = None

-- the signal that an effect brings
abbrev pub signal_brought : Effect → Option SigNote
signal_brought (Arrived i peer note) = Some note
signal_brought (Found i peer note hunt) = Some note
signal_brought (Notified i peer note reference reason) = Some note
signal_brought _ = None

-- the signal that the effect of an item brings
abbrev pub signal_of : Option Effect → Option SigNote
signal_of None = None
signal_of (Some e) = signal_brought e

-- the signal at a place of a step: that of the head at 0, and from 1 on those of the effects
abbrev pub signal_at : Option Step → ℕ → Option SigNote
signal_at None place = None
signal_at (Some s) zero = signal_in s.head
signal_at (Some s) (suc k) = signal_of (slice_get s.effects k)

-- what is printed of long data: their SHA-256, or their first bytes
abbrev pub digest_by : DigestBy → Digest
digest_by Sha256 = sha256
digest_by FirstBytes = first_bytes

-- what is printed of long data whose digest may be known already: one that was made is their
-- SHA-256
abbrev pub digest_in : Known → Digest
digest_in (Made digested) = sha256
digest_in (By by) = digest_by by

-- a digest that is known is that of these bytes
abbrev pub IsOf : Known → List ℕ → Type 0
IsOf (Made digested) bytes = digested.now ≡ bytes
IsOf (By by) bytes = ⊤

-- a digest that is known is that of the data of a signal, if there is one
abbrev pub IsKnown : Known → Option SigNote → Type 0
IsKnown known None = ⊤
IsKnown known (Some note) = IsOf known note.bytes

-- the bytes are those of a signal, if there is one
abbrev pub AreOf : Option SigNote → List ℕ → Type 0
AreOf None bytes = ⊤
AreOf (Some note) bytes = bytes ≡ note.bytes

-- what is in the first list is at the same place in the second
abbrev pub Keeps : List (List ℕ) → List (List ℕ) → Type 0
Keeps before after =
    (at : ℕ) (bytes : List ℕ) → slice_get before at ≡ Some bytes → slice_get after at ≡ Some bytes

-- the digests that are placed at a place of a step were made, and of bytes of this signal
abbrev pub FitsPlace : List (List ℕ) → List Placed → ℕ → ℕ → Option SigNote → Type 0
FitsPlace made placed position place note =
    (k : ℕ) (p : Placed) → slice_get placed k ≡ Some p → p.step ≡ position → p.place ≡ place
    → IsSomeAnd (slice_get made p.digest) (AreOf note)

-- the digests at the places of a step are of the signals there
abbrev pub FitsStep : Digests → ℕ → Option Step → Type 0
FitsStep digests position s = (place : ℕ)
    → FitsPlace digests.made.items digests.placed.items position place (signal_at s place)

-- all digests are of the signals at their places
abbrev pub Fits : Digests → List Step → Type 0
Fits digests steps = (position : ℕ) → FitsStep digests position (step_at steps position)
