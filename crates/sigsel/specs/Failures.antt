-- The texts of what went wrong.
use Rattle.std.specs.Prelude.{List, ℕ, codes}
use Rattle.linx_base.specs.Failures.{no_memory_text}
use Rattle.sigsel.specs.declared.spelling.SelError.{SelError}
use Rattle.sigsel.specs.declared.spelling.SelError.TheVariants.{BadCount, BadNumber, NoMemory}

-- why a list spells no filter
abbrev pub sel_error_text : SelError → List ℕ
sel_error_text BadCount = codes "the count isn't that of the numbers"
sel_error_text BadNumber = codes "not a signal number"
sel_error_text NoMemory = no_memory_text
