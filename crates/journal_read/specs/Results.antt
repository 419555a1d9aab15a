-- What a reading gives, unless memory ran out.
use Rattle.std.specs.Prelude.{◌≡◌, ℕ, List, Option, Some, None, Result, Ok, Err}
use Rattle.journal.specs.declared.effect.Step.{Step}
use Rattle.journal_read.specs.declared.unread.Unread.{Unread}
use Rattle.journal_read.specs.declared.unread.Unread.TheVariants.{Bad, Full, NoMemory}

-- the reading has this bad line, unless memory ran out
abbrev pub IsUnread : Unread → Result (List Step) ℕ → Type 0
IsUnread (Bad line) reading = reading ≡ Err line
IsUnread (Full line) reading = Unit {0}
IsUnread NoMemory reading = Unit {0}

-- what a function returned, seen by view, is what the reading gives, unless memory ran out
abbrev pub Reads : {X : Type 0} → (X → List Step) → Result X Unread → Result (List Step) ℕ → Type 0
Reads view (Ok x) reading = reading ≡ Ok (view x)
Reads view (Err unread) reading = IsUnread unread reading

-- this is the line with which the steps note more than they may, and without one they don't, unless
-- memory ran out
abbrev pub EndsBy : Unread → Option ℕ → Type 0
EndsBy (Bad line) full = full ≡ None
EndsBy (Full line) full = full ≡ Some line
EndsBy NoMemory full = Unit {0}

-- a journal was read only where its steps note no more than they may
abbrev pub IsWithin : {X : Type 0} → Result X Unread → Option ℕ → Type 0
IsWithin (Ok x) full = full ≡ None
IsWithin (Err unread) full = EndsBy unread full

-- it isn't said that the text has a bad line
abbrev pub IsNotBad : {X : Type 0} → Result X Unread → Type 0
IsNotBad (Err (Bad line)) = ⊥
IsNotBad _ = Unit {0}
