-- The program's line on standard error.
use Rattle.std.specs.Prelude.{ℕ, List, [], ◌++◌, codes, decimal, length, map, nat_le, nat_lt}
use Rattle.std.specs.Prelude.{Option, Some, None, String, string_bytes, slice_index_or}
use Rattle.std.specs.Prelude.{if◌then◌else◌}
use Rattle.command_words.specs.Lines.{named_list, shown}
use Rattle.command_words.specs.Requests.{file_by, journal_by}
use Rattle.command_words.specs.Words.{all_words, said_of}
use Rattle.command_words.specs.declared.misuse.Misuse.{Misuse}
use Rattle.command_words.specs.declared.misuse.Misuse.TheVariants.{Wordless, Unknown, Arguments}
use Rattle.command_words.specs.declared.word.Word.{Word}
use Rattle.journal.specs.declared.effect.Step.{Step}
use Rattle.journal.specs.Logs.{Log, step_limit}
use Rattle.journal_check.specs.Words.{rule_of, word_of}
use Rattle.journal_check.specs.declared.law.Fault.{Fault as LawFault}
use Rattle.journal_text.specs.Values.{position_text}
use Rattle.linx_base.specs.declared.identity.ItemAt.{ItemAt}
use Rattle.linx_files.specs.declared.make_fault.MakeFault.{MakeFault}
use Rattle.linx_files.specs.declared.make_fault.MakeFault.TheVariants as makes
use Rattle.linx_outside.specs.declared.files.OpenFault.{OpenFault}
use Rattle.linx_outside.specs.declared.files.OpenFault.TheVariants as why
use Rattle.script_words.specs.Failures.{reason_of}
use Rattle.script_words.specs.declared.fault.Fault.{Fault}
use Rattle.linx_commands.specs.declared.outcome.Status.{Status}
use Rattle.linx_commands.specs.declared.outcome.Status.TheVariants.{Done, Usage, Script, Unopened}
use Rattle.linx_commands.specs.declared.outcome.Status.TheVariants.{ReadFault, WriteFault}
use Rattle.linx_commands.specs.declared.outcome.Status.TheVariants.{JournalFull, NoMemory, Torn}
use Rattle.linx_commands.specs.declared.outcome.Status.TheVariants.{BadStream, FoundNone, Text}
use Rattle.linx_commands.specs.declared.outcome.Status.TheVariants.{Unlike, Illegal, Unmade, Unkept}
use Rattle.linx_commands.specs.declared.outcome.TextFault.{TextFault}
use Rattle.linx_commands.specs.declared.outcome.TextFault.TheVariants.{Bad, Full, Long, Rows, Lanes}
use Rattle.linx_commands.specs.declared.outcome.TextFault.TheVariants.{Missing, Log as LogAt}
use Rattle.linx_commands.specs.declared.outcome.Unlike.{Unlike as UnlikeBy}
use Rattle.linx_commands.specs.declared.outcome.Unlike.TheVariants.{Line, Filled}
use Rattle.linx_commands.specs.declared.phrase.Phrase.{Phrase}
use Rattle.linx_commands.specs.declared.phrase.Phrase.TheVariants as says

-- THE PHRASES of which the program's lines are made
unfoldable pub phrase_of : Phrase → List ℕ
phrase_of says.Program = codes "linx_sim: "
phrase_of says.LineEnd = codes "\n"
phrase_of says.Colon = codes ": "
phrase_of says.NoWord = codes "no word '"
phrase_of says.BehindWord = codes "'"
phrase_of says.DidYouMean = codes ": did you mean '"
phrase_of says.BehindNear = codes "'?"
phrase_of says.TheWordsAre = codes "; the words are:"
phrase_of says.UsageOfAll = codes "usage: linx_sim WORD ..; the words are:"
phrase_of says.Usage = codes "usage: linx_sim "
phrase_of says.ScriptLine = codes "script line "
phrase_of says.NoSuchFile = codes "no such file"
phrase_of says.IsFolder = codes "is a folder"
phrase_of says.NotAllowed = codes "not allowed"
phrase_of says.NotOpened = codes "can't be opened"
phrase_of says.NoSuchFolder = codes "no such folder"
phrase_of says.NotMade = codes "can't be made"
phrase_of says.ReadFault = codes "read fault"
phrase_of says.WriteFault = codes "write fault"
phrase_of says.JournalFull = codes "journal full after step "
phrase_of says.ByTheLimit = codes ", by the limit of "
phrase_of says.StepLimit = codes "200000 steps"
phrase_of says.ByteLimit = codes "67108864 bytes of signals"
phrase_of says.OutOfMemory = codes "out of memory"
phrase_of says.AfterStep = codes " after step "
phrase_of says.TornAt = codes "torn at "
phrase_of says.BadStreamAt = codes "bad stream at "
phrase_of says.FoundNone = codes "found in none"
phrase_of says.TextLine = codes "text line "
phrase_of says.NoTextLine = codes ": no line of a printed text"
phrase_of says.TooMuchNoted = codes ": more signals than a journal holds"
phrase_of says.TextTooLong = codes "text longer than 268435456 bytes"
phrase_of says.TooManyRows = codes "more than 6000 rows: map, fold or steps"
phrase_of says.TooManyLanes = codes "more than 64 nodes, links or actors"
phrase_of says.NoTextBehind = codes "no line `text` behind the script"
phrase_of says.AnotherLine = codes ": the run has another line here"
phrase_of says.TurnsFill = codes "the turns of the text fill the journal"
phrase_of says.AnotherLog = codes ": the steps tell another log"
phrase_of says.StepAt = codes "step "
phrase_of says.BreaksLaw = codes " breaks the law "
phrase_of says.EarliestIs = codes "; here the earliest is "

-- the text at a place, from 0; none where there are fewer
abbrev pub text_at : List (List ℕ) → ℕ → List ℕ
text_at texts place = slice_index_or texts place []

-- a word that is near, or all words
unfoldable pub hint_of : Option Word → List ℕ
hint_of (Some near) = phrase_of says.DidYouMean ++ (said_of near).name ++ phrase_of says.BehindNear
hint_of None = phrase_of says.TheWordsAre ++ named_list all_words

-- what is said of words that ask for nothing
unfoldable pub misuse_text : List (List ℕ) → Misuse → List ℕ
misuse_text texts Wordless = phrase_of says.UsageOfAll ++ named_list all_words
misuse_text texts (Unknown place near) =
    phrase_of says.NoWord ++ shown (text_at texts place) ++ phrase_of says.BehindWord ++ hint_of near
misuse_text texts (Arguments word) = phrase_of says.Usage ++ (said_of word).usage

-- why a file can't be opened
abbrev pub phrase_of_fault : OpenFault → Phrase
phrase_of_fault why.Missing = says.NoSuchFile
phrase_of_fault why.Folder = says.IsFolder
phrase_of_fault why.NotAllowed = says.NotAllowed
phrase_of_fault why.Other = says.NotOpened

-- why a file can't be made
abbrev pub phrase_of_unmade : MakeFault → Phrase
phrase_of_unmade makes.NoFolder = says.NoSuchFolder
phrase_of_unmade makes.Folder = says.IsFolder
phrase_of_unmade makes.NotAllowed = says.NotAllowed
phrase_of_unmade makes.Other = says.NotMade

-- what is said before a fault of this file: its name; nothing of a stream
abbrev pub file_prefix : Option (List ℕ) → List ℕ
file_prefix (Some name) = shown name ++ phrase_of says.Colon
file_prefix None = []

-- the limit of a journal that is full
abbrev pub limit_of : List Step → Phrase
limit_of P = if nat_le step_limit (length P) then says.StepLimit else says.ByteLimit

-- after which step a journal was full, and by which limit
unfoldable pub full_text : List Step → List ℕ
full_text P =
    phrase_of says.JournalFull ++ decimal (length P) ++ phrase_of says.ByTheLimit
    ++ phrase_of (limit_of P)

-- which line of a script is bad, and what is wrong with it
unfoldable pub bad_text : ℕ → Fault → List ℕ
bad_text line fault =
    phrase_of says.ScriptLine ++ decimal line ++ phrase_of says.Colon ++ reason_of fault

-- what is wrong with a printed text
unfoldable pub text_fault_text : TextFault → List ℕ
text_fault_text (Bad line) = phrase_of says.TextLine ++ decimal line ++ phrase_of says.NoTextLine
text_fault_text (Full line) = phrase_of says.TextLine ++ decimal line ++ phrase_of says.TooMuchNoted
text_fault_text Long = phrase_of says.TextTooLong
text_fault_text Rows = phrase_of says.TooManyRows
text_fault_text Lanes = phrase_of says.TooManyLanes
text_fault_text Missing = phrase_of says.NoTextBehind
text_fault_text (LogAt line) = phrase_of says.TextLine ++ decimal line ++ phrase_of says.AnotherLog

-- how a printed text shows that no run has it
unfoldable pub unlike_text : UnlikeBy → List ℕ
unlike_text (Line line) = phrase_of says.TextLine ++ decimal line ++ phrase_of says.AnotherLine
unlike_text Filled = phrase_of says.TurnsFill

-- which step isn't legal, and what the law asks that it breaks
unfoldable pub law_text : LawFault → List ℕ
law_text fault =
    phrase_of says.StepAt ++ decimal fault.step ++ phrase_of says.BreaksLaw ++ word_of fault.law
    ++ phrase_of says.Colon ++ rule_of fault.law

-- the position of the item that a receive was to take; nothing where there is none
unfoldable pub earliest_text : Option ItemAt → List ℕ
earliest_text (Some at) = phrase_of says.EarliestIs ++ position_text at
earliest_text None = []

-- the law that a step breaks, and the item that it was to take
unfoldable pub illegal_text : LawFault → List ℕ
illegal_text fault = law_text fault ++ earliest_text fault.earliest

-- where a run without memory stopped; nothing where it made no step
unfoldable pub stop_text : List Step → List ℕ
stop_text P =
    if nat_lt 0 (length P) then phrase_of says.AfterStep ++ decimal (length P) else []

-- what is said of a status, by the words and the journal
unfoldable pub text_by : List (List ℕ) → Status → Log → List ℕ
text_by texts Done log = []
text_by texts (Usage wrong) log = misuse_text texts wrong
text_by texts (Script line fault) log = bad_text line fault
text_by texts (Unopened why) log = file_prefix (file_by texts) ++ phrase_of (phrase_of_fault why)
text_by texts (Unmade why) log = file_prefix (journal_by texts) ++ phrase_of (phrase_of_unmade why)
text_by texts Unkept log = file_prefix (journal_by texts) ++ phrase_of says.WriteFault
text_by texts ReadFault log = file_prefix (file_by texts) ++ phrase_of says.ReadFault
text_by texts WriteFault log = phrase_of says.WriteFault
text_by texts JournalFull log = full_text log.steps
text_by texts NoMemory log = phrase_of says.OutOfMemory ++ stop_text log.steps
text_by texts (Torn at) log = phrase_of says.TornAt ++ decimal at
text_by texts (BadStream at) log = phrase_of says.BadStreamAt ++ decimal at
text_by texts FoundNone log = phrase_of says.FoundNone
text_by texts (Text fault) log = text_fault_text fault
text_by texts (Unlike unlike) log = unlike_text unlike
text_by texts (Illegal fault) log = illegal_text fault

-- THE PROGRAM'S LINE on standard error, by its words, its status and the journal; none at Done
unfoldable pub line_by : List (List ℕ) → Status → Log → List ℕ
line_by texts Done log = []
line_by texts status log =
    phrase_of says.Program ++ text_by texts status log ++ phrase_of says.LineEnd

-- the program's line on standard error, by its words as strings
abbrev pub line_of : {Z : Type 0} → List (String Z) → Status → Log → List ℕ
line_of words status log = line_by (map string_bytes words) status log
