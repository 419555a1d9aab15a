-- A journal read from a text that shows long data by a digest. There f gives what is read of data.
-- A notification has its attach's data with a byte behind them: where these are long, what is read
-- of them tells nothing of what is read of the attach's. So what the attach tells is put there.
use Rattle.std.specs.Prelude.{ℕ, ◌+◌, ◌==◌, ◌≡◌, ◌<◌, ◌≤◌, Bool, ◌&&◌, ◌||◌, nat_lt, List, [], ◌∷◌}
use Rattle.std.specs.Prelude.{map, length, Option, Some, None, if◌then◌else◌}
use Rattle.std.specs.List.{AllByRecursion}
use Rattle.std.specs.Str.{bytes_eq}
use Rattle.linx_base.specs.Content.{with_reason}
use Rattle.linx_base.specs.declared.signal.Reason.{Reason}
use Rattle.linx_base.specs.SigNotes.{SigNote}
use Rattle.journal.specs.Logs.{step_at}
use Rattle.journal.specs.declared.head.Head.{Head}
use Rattle.journal.specs.declared.head.Head.TheVariants.{Attach}
use Rattle.journal.specs.declared.effect.Effect.{Effect}
use Rattle.journal.specs.declared.effect.Effect.TheVariants.{Arrived, Found, Notified}
use Rattle.journal.specs.declared.effect.Step.{Step}
use Rattle.image_laws.specs.Images.{KeepsSize, head_by, note_by}

-- the data that are shown whole
abbrev pub shown_most : ℕ
shown_most = 32

-- f gives WHAT IS READ of data: as many, and of short data themselves
pub record IsImage (f : List ℕ → List ℕ) : Type 0 where
  pub sizes : KeepsSize f
  pub short : (bytes : List ℕ) → length bytes ≤ shown_most → f bytes ≡ bytes

-- what is read of an effect: its data as any others, those of a notification too
abbrev pub image_of_effect : (List ℕ → List ℕ) → Effect → Effect
image_of_effect f (Arrived inc peer note) = Arrived inc peer (note_by f note)
image_of_effect f (Found inc peer note hunt) = Found inc peer (note_by f note) hunt
image_of_effect f (Notified inc peer note reference reason) =
    Notified inc peer (note_by f note) reference reason
image_of_effect f effect = effect

-- what is read of a step
abbrev pub image_of_step : (List ℕ → List ℕ) → Step → Step
image_of_step f s = record {
  by = s.by;
  head = head_by f s.head;
  effects = map (image_of_effect f) s.effects;
}

-- what is read of a journal
abbrev pub image_of : (List ℕ → List ℕ) → List Step → List Step
image_of f P = map (image_of_step f) P

-- the signal of the attach that a head makes
abbrev pub attach_in_head : Head → Option SigNote
attach_in_head (Attach peer note) = Some note
attach_in_head _ = None

-- the signal of the attach that a step makes, where there is one
abbrev pub attach_in_step : Option Step → Option SigNote
attach_in_step None = None
attach_in_step (Some s) = attach_in_head s.head

-- the signal of the attach that the step at this position makes
abbrev pub attached_at : List Step → ℕ → Option SigNote
attached_at R k = attach_in_step (step_at R k)

-- the data can be those of a notification of the attach, for this reason: they are one more, and
-- where the attach's are known whole, they are what is read of those with the byte of the reason
abbrev pub can_tell : (List ℕ → List ℕ) → Reason → SigNote → List ℕ → Bool
can_tell f reason attach bytes =
    length bytes == length attach.bytes + 1
    && (nat_lt shown_most (length attach.bytes)
    || bytes_eq bytes (f (with_reason reason attach).bytes))

-- WHAT THE ATTACH TELLS of a notification: its own data, with the byte of the reason behind
abbrev pub told_note : (List ℕ → List ℕ) → Reason → Option SigNote → SigNote → SigNote
told_note f reason None note = note
told_note f reason (Some attach) note =
    if can_tell f reason attach note.bytes
    then record note { bytes = (with_reason reason attach).bytes }
    else note

-- an effect with what its attach tells of it, in a history whose newest step has the effect
abbrev pub told_effect : (List ℕ → List ℕ) → List Step → Effect → Effect
told_effect f R (Notified inc peer note reference reason) =
    Notified inc peer (told_note f reason (attached_at R reference.0) note) reference reason
told_effect f R effect = effect

-- a journal with WHAT ITS ATTACHES TELL of its notifications
abbrev pub told_of : (List ℕ → List ℕ) → List Step → List Step
told_of f [] = []
told_of f (s ∷ R) =
    (record { by = s.by; head = s.head; effects = map (told_effect f (s ∷ R)) s.effects })
    ∷ told_of f R

-- A NOTIFICATION is that of an attach, for a reason: it has the attach's signal with the byte of the
-- reason; or it has the attach's number and one byte more, and what is read of the attach's data
-- with the byte, or the attach's data aren't known whole
pub data IsNotice (f : List ℕ → List ℕ) (reason : Reason) (attach note : SigNote) : Type 0 where
  whole : note ≡ with_reason reason attach → IsNotice f reason attach note
  read : note.number ≡ attach.number → length note.bytes ≡ length attach.bytes + 1
      → note.bytes ≡ f (with_reason reason attach).bytes → IsNotice f reason attach note
  hidden : note.number ≡ attach.number → length note.bytes ≡ length attach.bytes + 1
      → shown_most < length attach.bytes → IsNotice f reason attach note

-- an effect of a history of which the newest step is its own: where it notifies, its signal is that
-- of an attach
abbrev pub IsNoticed : (List ℕ → List ℕ) → List Step → Effect → Type 0
IsNoticed f R (Notified inc peer note reference reason) =
    (attach : SigNote)
    × ((attached_at R reference.0 ≡ Some attach) × IsNotice f reason attach note)
IsNoticed f R _ = Unit {0}

-- each notification of a journal has the signal of its attach, as far as what is read can tell
abbrev pub AllNoticed : (List ℕ → List ℕ) → List Step → Type 0
AllNoticed f [] = Unit {0}
AllNoticed f (s ∷ R) = AllNoticed f R × AllByRecursion (IsNoticed f (s ∷ R)) s.effects
