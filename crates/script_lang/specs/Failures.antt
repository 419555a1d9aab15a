-- The text of what went wrong.
use Rattle.std.specs.Prelude.{List, ℕ, ◌++◌, codes}
use Rattle.std.specs.Fmt.{decimal}
use Rattle.linx_base.specs.Failures.{no_memory_text}
use Rattle.script_words.specs.Failures.{reason_of}
use Rattle.script_lang.specs.declared.script_error.ScriptError.{ScriptError}
use Rattle.script_lang.specs.declared.script_error.ScriptError.TheVariants.{Bad, NoMemory}

-- why bytes are no script
abbrev pub script_error_text : ScriptError → List ℕ
script_error_text (Bad line fault) = codes "line " ++ decimal line ++ codes ": " ++ reason_of fault
script_error_text NoMemory = no_memory_text
