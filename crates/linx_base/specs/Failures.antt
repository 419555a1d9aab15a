-- The texts of what went wrong.
use Rattle.std.specs.Prelude.{List, ℕ, codes}
use Rattle.linx_base.specs.declared.name.NameError.{NameError}
use Rattle.linx_base.specs.declared.name.NameError.TheVariants as names
use Rattle.linx_base.specs.declared.signal.BufferError.{BufferError}
use Rattle.linx_base.specs.declared.signal.BufferError.TheVariants as buffers

-- memory was refused
abbrev pub no_memory_text : List ℕ
no_memory_text = codes "out of memory"

-- why bytes were no name
abbrev pub name_error_text : NameError → List ℕ
name_error_text names.BadName = codes "not a name"
name_error_text names.NoMemory = no_memory_text

-- why a buffer was refused
abbrev pub buffer_error_text : BufferError → List ℕ
buffer_error_text buffers.TooLarge = codes "too large for a signal"
buffer_error_text buffers.NoMemory = no_memory_text
