-- How the program ends.
use Rattle.std.specs.Prelude.{ℕ, ◌≡◌, Bool, true, false, List}
use Rattle.command_words.specs.Misuses.{misuse_by}
use Rattle.linx_commands.specs.declared.outcome.Status.{Status}
use Rattle.linx_commands.specs.declared.outcome.Status.TheVariants.{Done, Usage, Script, Unopened}
use Rattle.linx_commands.specs.declared.outcome.Status.TheVariants.{ReadFault, WriteFault}
use Rattle.linx_commands.specs.declared.outcome.Status.TheVariants.{JournalFull, NoMemory, Torn}
use Rattle.linx_commands.specs.declared.outcome.Status.TheVariants.{BadStream, FoundNone, Text}
use Rattle.linx_commands.specs.declared.outcome.Status.TheVariants.{Unlike, Illegal, Unmade, Unkept}

-- the exit status of the program
abbrev pub exit_of : Status → ℕ
exit_of Done = 0
exit_of (Usage wrong) = 1
exit_of (Script line fault) = 2
exit_of (Unopened why) = 3
exit_of (Unmade why) = 4
exit_of Unkept = 4
exit_of ReadFault = 3
exit_of WriteFault = 4
exit_of JournalFull = 5
exit_of NoMemory = 6
exit_of FoundNone = 7
exit_of (Unlike how) = 7
exit_of (Illegal fault) = 7
exit_of (Text fault) = 8
exit_of (Torn at) = 9
exit_of (BadStream at) = 11

-- the whole text was written, or memory was refused
abbrev pub IsDoneOrRefused : Status → Type 0
IsDoneOrRefused Done = Unit {0}
IsDoneOrRefused NoMemory = Unit {0}
IsDoneOrRefused _ = ⊥

-- what these texts ask for is nothing, and this is wrong with them; or memory was refused
abbrev pub IsUsageOrRefused : List (List ℕ) → Status → Type 0
IsUsageOrRefused texts (Usage wrong) = wrong ≡ misuse_by texts
IsUsageOrRefused texts NoMemory = Unit {0}
IsUsageOrRefused texts _ = ⊥

-- the status comes only where the source was read to its end
abbrev pub is_of_whole : Status → Bool
is_of_whole Done = true
is_of_whole WriteFault = true
is_of_whole JournalFull = true
is_of_whole FoundNone = true
is_of_whole (Unlike how) = true
is_of_whole (Illegal fault) = true
is_of_whole _ = false

-- the bytes that were read are no script, or no printed text
abbrev pub is_no_input : Status → Bool
is_no_input (Script line fault) = true
is_no_input (Text fault) = true
is_no_input _ = false

-- nothing is written at this status
abbrev pub is_silent : Status → Bool
is_silent Done = false
is_silent WriteFault = false
is_silent (Torn at) = false
is_silent (BadStream at) = false
is_silent _ = true
