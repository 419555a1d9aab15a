-- The texts of what went wrong.
use Rattle.std.specs.Prelude.{List, ℕ, codes}
use Rattle.linx_base.specs.Failures.{no_memory_text}
use Rattle.rlnh_messages.specs.declared.reading.RlnhError.{RlnhError}
use Rattle.rlnh_messages.specs.declared.reading.RlnhError.TheVariants.{Bad, NoMemory}

-- why bytes gave no message
abbrev pub error_text : RlnhError → List ℕ
error_text Bad = codes "not a message"
error_text NoMemory = no_memory_text
