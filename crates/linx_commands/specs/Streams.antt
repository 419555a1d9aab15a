-- What a run takes from its source and gives to its sink, by the status that it ends with.
use Rattle.std.specs.Prelude.{ℕ, ◌≡◌, ◌≢◌, ◌≤◌, ◌⊎◌, true, List, length, Option}
use Rattle.std.specs.Io.KnownBytes.{Appends, Consumes, IsAtEnd}
use Rattle.linx_outside.specs.Counts.{HasFaulted, NeverFalls}
use Rattle.linx_outside.specs.Told.{AppendsFront}
use Rattle.linx_commands.specs.Statuses.{is_no_input, is_of_whole, is_silent}
use Rattle.linx_commands.specs.declared.outcome.Status.{Status}
use Rattle.linx_commands.specs.declared.outcome.Status.TheVariants.{Done, ReadFault, WriteFault}

-- the most bytes that a run reads: one more than a script may have
abbrev pub read_most : ℕ
read_most = 1048577

-- at most so many first bytes were taken of those told
pub record TakesAtMost (most : ℕ) (left rest : Option (List ℕ)) : Type 0 where
  pub bytes : List ℕ
  pub within : length bytes ≤ most
  pub lost : Consumes left rest bytes

-- just so many first bytes were taken of those told
pub record TakesJust (count : ℕ) (left rest : Option (List ℕ)) : Type 0 where
  pub bytes : List ℕ
  pub counted : length bytes ≡ count
  pub lost : Consumes left rest bytes

-- a source was read to its end, or just so many bytes of it
abbrev pub IsScanned : ℕ → Option (List ℕ) → Option (List ℕ) → Type 0
IsScanned most left rest = IsAtEnd rest ⊎ TakesJust most left rest

-- What was read, of so many bytes at most. What needs the whole input reads it to its end. What is
-- called no input was read to its end, or as far as it shows that it is too long. ReadFault comes
-- only where the source's count of faults rose, or stands at its last value, and never from a source
-- without faults
pub record ReadsUpTo {S : Type 0} (most : ℕ) (left : S → Option (List ℕ)) (faults : S → ℕ)
    (last : Option ℕ) (is_faultless : S → Type 0) (old new : S) (status : Status) : Type 0 where
  pub whole : is_of_whole status ≡ true → IsAtEnd (left new)
  pub scanned : is_no_input status ≡ true → IsScanned most (left old) (left new)
  pub taken : TakesAtMost most (left old) (left new)
  pub faulted : status ≡ ReadFault → HasFaulted last (faults old) (faults new)
  pub unfaulted : status ≢ ReadFault → faults new ≡ faults old
  pub never_falls : NeverFalls last (faults old) (faults new)
  pub faultless : is_faultless old → is_faultless new × (status ≢ ReadFault)

-- what was read of a script
abbrev pub Reads : {S : Type 0} → (S → Option (List ℕ)) → (S → ℕ) → Option ℕ → (S → Type 0) → S → S
    → Status → Type 0
Reads left faults last is_faultless old new status =
    ReadsUpTo read_most left faults last is_faultless old new status

-- What was written of a text: all of it at Done, a front of it at WriteFault, else nothing.
-- WriteFault comes only where the sink's count of faults rose, or stands at its last value, and
-- never where the sink has room for the text
pub record Writes {K : Type 0} (held : K → Option (List ℕ)) (faults : K → ℕ) (last : Option ℕ)
    (can_take : K → ℕ → Type 0) (old new : K) (status : Status) (text : List ℕ) : Type 0 where
  pub written : status ≡ Done → Appends (held old) (held new) text
  pub front : status ≡ WriteFault → AppendsFront (held old) (held new) text
  pub silent : is_silent status ≡ true → new ≡ old
  pub faulted : status ≡ WriteFault → HasFaulted last (faults old) (faults new)
  pub unfaulted : status ≢ WriteFault → faults new ≡ faults old
  pub never_falls : NeverFalls last (faults old) (faults new)
  pub takes : can_take old (length text) → status ≢ WriteFault

-- What was written of a line: all of it where the sink's count of faults neither rose nor stands at
-- its last value, or where the sink has room for it; else at least a front of it
pub record WritesLine {K : Type 0} (held : K → Option (List ℕ)) (faults : K → ℕ) (last : Option ℕ)
    (can_take : K → ℕ → Type 0) (old new : K) (line : List ℕ) : Type 0 where
  pub written : ¬ (HasFaulted last (faults old) (faults new)) → Appends (held old) (held new) line
  pub takes : can_take old (length line) → Appends (held old) (held new) line
  pub front : Appends (held old) (held new) line ⊎ AppendsFront (held old) (held new) line
  pub never_falls : NeverFalls last (faults old) (faults new)
