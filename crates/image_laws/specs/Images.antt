-- A journal whose data are mapped by a function f.
use Rattle.std.specs.Prelude.{ℕ, ◌≡◌, ◌-◌, ◌++◌, List, map, length, take, drop}
use Rattle.linx_base.specs.declared.item.Item.{Item}
use Rattle.linx_base.specs.declared.item.Kind.{Kind}
use Rattle.linx_base.specs.declared.item.Kind.TheVariants.{Plain, Found as FoundBy, Notice}
use Rattle.linx_base.specs.declared.pending.PendingAttach.{PendingAttach}
use Rattle.linx_base.specs.declared.pending.PendingHunt.{PendingHunt}
use Rattle.linx_base.specs.SigNotes.{SigNote}
use Rattle.journal.specs.declared.head.Refusal.{Refusal}
use Rattle.journal.specs.declared.head.Refusal.TheVariants.{NotOpen, IsOpen, NoPeer, NoSignal}
use Rattle.journal.specs.declared.head.Refusal.TheVariants.{NoRef}
use Rattle.journal.specs.declared.head.Head.{Head}
use Rattle.journal.specs.declared.head.Head.TheVariants.{Send, Hunt, Attach, Refused}
use Rattle.journal.specs.declared.effect.Effect.{Effect}
use Rattle.journal.specs.declared.effect.Effect.TheVariants.{Arrived, Found, Notified}
use Rattle.journal.specs.declared.effect.Step.{Step}

-- the function keeps the number of data
abbrev pub KeepsSize : (List ℕ → List ℕ) → Type 0
KeepsSize f = (bytes : List ℕ) → length (f bytes) ≡ length bytes

-- a signal with its data mapped
abbrev pub note_by : (List ℕ → List ℕ) → SigNote → SigNote
note_by f note = record note { bytes = f note.bytes }

-- the data of a notification, mapped: those of its attach, which stand before the last byte, are
abbrev pub told_data : (List ℕ → List ℕ) → List ℕ → List ℕ
told_data f bytes = f (take (length bytes - 1) bytes) ++ drop (length bytes - 1) bytes

-- a refusal with 0 for its step and its endpoint, which no text shows
abbrev pub bare : Refusal → Refusal
bare (NotOpen at) = NotOpen 0
bare (IsOpen inc) = IsOpen (record { 0 = 0 })
bare NoPeer = NoPeer
bare NoSignal = NoSignal
bare NoRef = NoRef

-- a head with its data mapped
abbrev pub head_by : (List ℕ → List ℕ) → Head → Head
head_by f (Send peer note answer) = Send peer (note_by f note) answer
head_by f (Hunt path note) = Hunt path (note_by f note)
head_by f (Attach peer note) = Attach peer (note_by f note)
head_by f (Refused reason) = Refused (bare reason)
head_by f head = head

-- an effect with its data mapped: those of a notification with its attach's
abbrev pub effect_by : (List ℕ → List ℕ) → Effect → Effect
effect_by f (Arrived inc peer note) = Arrived inc peer (note_by f note)
effect_by f (Found inc peer note hunt) = Found inc peer (note_by f note) hunt
effect_by f (Notified inc peer note reference reason) =
    Notified inc peer (note_by (told_data f) note) reference reason
effect_by f effect = effect

-- a step with the data of its head and of its effects mapped
abbrev pub step_by : (List ℕ → List ℕ) → Step → Step
step_by f s = record { by = s.by; head = head_by f s.head; effects = map (effect_by f) s.effects }

-- THE IMAGE OF A JOURNAL: all data that it notes mapped
abbrev pub journal_by : (List ℕ → List ℕ) → List Step → List Step
journal_by f P = map (step_by f) P

-- a pending hunt with its data mapped
abbrev pub hunt_by : (List ℕ → List ℕ) → PendingHunt → PendingHunt
hunt_by f h = record h { signal = note_by f h.signal }

-- an owed attach with its data mapped
abbrev pub attach_by : (List ℕ → List ℕ) → PendingAttach → PendingAttach
attach_by f a = record a { signal = note_by f a.signal }

-- the data of an item mapped, by its kind: those of a notice of an attach as a notification's
abbrev pub data_by : (List ℕ → List ℕ) → Kind → List ℕ → List ℕ
data_by f Plain bytes = f bytes
data_by f (FoundBy hunt) bytes = f bytes
data_by f (Notice reference) bytes = told_data f bytes

-- an item of a queue with its data mapped
abbrev pub item_by : (List ℕ → List ℕ) → Item → Item
item_by f item = record item { signal = note_by (data_by f item.kind) item.signal }
