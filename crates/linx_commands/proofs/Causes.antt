-- From what each part of a run says to the cause of the status.
use Rattle.std.proofs.Common.{◌≡◌, ℕ, ◌≤◌, inl, inr, true, false, List, length, refl, sym, ◌∙◌}
use Rattle.std.proofs.Common.{subst, arith, ◌≢◌, Option, Some, None, Result, Ok, Err, IfSome, IsOk}
use Rattle.std.proofs.Common.{take_all}
use Rattle.journal.specs.Logs.{Log, is_full}
use Rattle.script_words.specs.declared.fault.Fault.{Fault}
use Rattle.order_lines.specs.Fronts.{OrderedParts, ordered_of}
use Rattle.order_lines.proofs.Lengths.{ordered_within}
use Rattle.linx_commands.specs.Streams.{read_most}
use Rattle.linx_commands.specs.Runs.{IsCaused, IsEmptyLog, IsOutcomeOf, Completes, read_of}
use Rattle.linx_commands.specs.Causes.{IsUnread}
use Rattle.linx_commands.specs.Statuses.{IsDoneOrRefused}
use Rattle.command_words.specs.declared.request.Asked.{Asked}
use Rattle.command_words.specs.declared.request.Asked.TheVariants.{Run}
use Rattle.linx_commands.specs.declared.outcome.Status.{Status}
use Rattle.linx_commands.specs.declared.outcome.Status.TheVariants.{Done, Script, ReadFault}
use Rattle.linx_commands.specs.declared.outcome.Status.TheVariants.{WriteFault, JournalFull}
use Rattle.linx_commands.specs.declared.outcome.Status.TheVariants.{NoMemory}

-- the cause of a status that no script gave
pub caused_unread : (asked : Asked) (status : Status) (told : Option (List ℕ)) (log : Log)
    → IsUnread status told → IsEmptyLog log → IsCaused asked status told log
caused_unread asked (Script line fault) told log unread empty = (unread, empty)
caused_unread asked ReadFault told log unread empty = empty
caused_unread asked NoMemory told log unread empty = inl empty
caused_unread asked _ told log unread empty = absurd unread

-- the cause of a status of a script that was read
pub caused_read : (asked : Asked) (status : Status) (told : Option (List ℕ)) (ordered : OrderedParts)
    (log : Log) → IfSome told (λ bytes. ordered_of bytes ≡ Ok ordered)
    → IsOutcomeOf asked status ordered log → IsCaused asked status told log
caused_read asked Done told ordered log spelled (inr answer) =
    record { ordered = ordered; spelled = spelled; answer = answer }
caused_read asked WriteFault told ordered log spelled (inr answer) =
    record { ordered = ordered; spelled = spelled; answer = answer }
caused_read asked JournalFull told ordered log spelled (inr answer) =
    record { ordered = ordered; spelled = spelled; answer = answer }
caused_read asked NoMemory told ordered log spelled (inr answer) =
    inr (record { ordered = ordered; spelled = spelled; answer = answer })
caused_read asked NoMemory told ordered log spelled (inl refused) = inl refused.1
caused_read asked _ told ordered log spelled (inl refused) = cc
caused_read asked _ told ordered log spelled (inr answer) = absurd answer

spelled_not_bad : (spells : Result OrderedParts (ℕ × Fault)) (line : ℕ) (fault : Fault)
    → IsOk spells → spells ≡ Err (line, fault) → ⊥
spelled_not_bad (Ok s) line fault spelled bad = cc
spelled_not_bad (Err told) line fault spelled bad = cc

read_whole : (bytes : List ℕ) (spells : Result OrderedParts (ℕ × Fault)) → ordered_of bytes ≡ spells
    → IsOk spells → read_of bytes ≡ bytes
read_whole bytes (Ok s) is spelled =
    take_all read_most bytes (let short : length bytes ≤ 1048576 = ordered_within bytes s is in omega
    (arith, short))
read_whole bytes (Err fault) is spelled = cc

-- what the cause of a status says of a script
pub completes : (asked : Asked) (status : Status) (bytes : List ℕ) (log : Log)
    → IsCaused asked status (Some bytes) log → Completes bytes status log
completes asked Done bytes log cause spelled room read write = tt
completes asked NoMemory bytes log cause spelled room read write = tt
completes asked ReadFault bytes log cause spelled room read write = absurd (read refl)
completes asked WriteFault bytes log cause spelled room read write = absurd (write refl)
completes asked JournalFull bytes log cause spelled room read write =
    absurd (let no : true ≡ false = sym cause.answer.full ∙ room in cc)
completes asked (Script line fault) bytes log cause spelled room read write =
    let whole : read_of bytes ≡ bytes = read_whole bytes (ordered_of bytes) refl spelled in
    absurd (spelled_not_bad (ordered_of bytes) line fault spelled
    (subst (λ (read : List ℕ). ordered_of read ≡ Err (line, fault)) whole cause.0))
completes asked _ bytes log cause spelled room read write = absurd cause

-- the same where the bytes may be untold
pub completes_told : (asked : Asked) (status : Status) (told : Option (List ℕ)) (log : Log)
    → IsCaused asked status told log → IfSome told (λ bytes. Completes bytes status log)
completes_told asked status None log cause = tt
completes_told asked status (Some bytes) log cause = completes asked status bytes log cause

-- and where no script was read of them
pub completes_unread : (ended status : Status) (told : Option (List ℕ)) (log : Log)
    → ended ≡ status → IsUnread status told → IsEmptyLog log
    → IfSome told (λ bytes. Completes bytes ended log)
completes_unread ended status told log is unread empty =
    completes_told Run ended told log (caused_unread Run ended told log
    (subst (λ (s : Status). IsUnread s told) (sym is) unread) empty)

-- what the outcome of a script that is at hand says of its status
pub completes_outcome : (asked : Asked) (status : Status) (ordered : OrderedParts) (log : Log)
    → IsOutcomeOf asked status ordered log
    → is_full log.steps ≡ false → status ≢ WriteFault → IsDoneOrRefused status
completes_outcome asked Done ordered log outcome room write = tt
completes_outcome asked NoMemory ordered log outcome room write = tt
completes_outcome asked WriteFault ordered log outcome room write = absurd (write refl)
completes_outcome asked JournalFull ordered log (inl refused) room write = cc
completes_outcome asked JournalFull ordered log (inr answer) room write =
    absurd (let no_room : true ≡ false = sym answer.full ∙ room in cc)
completes_outcome asked _ ordered log (inl refused) room write = cc
completes_outcome asked _ ordered log (inr answer) room write = absurd answer
