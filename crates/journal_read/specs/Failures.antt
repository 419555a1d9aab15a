-- The text of what went wrong.
use Rattle.std.specs.Prelude.{List, ℕ, ◌++◌, codes}
use Rattle.std.specs.Fmt.{decimal}
use Rattle.linx_base.specs.Failures.{no_memory_text}
use Rattle.journal_read.specs.declared.unread.Unread.{Unread}
use Rattle.journal_read.specs.declared.unread.Unread.TheVariants.{Bad, Full, NoMemory}

-- why a text gave no journal
abbrev pub unread_text : Unread → List ℕ
unread_text (Bad line) =
    codes "line " ++ decimal line ++ codes ": not the line of a journal's text"
unread_text (Full line) = codes "line " ++ decimal line ++ codes ": more than a journal holds"
unread_text NoMemory = no_memory_text
