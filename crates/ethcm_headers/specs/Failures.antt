-- The texts of what went wrong.
use Rattle.std.specs.Prelude.{List, ℕ, codes}
use Rattle.linx_base.specs.Failures.{no_memory_text}
use Rattle.ethcm_headers.specs.declared.reading.ReadError.{ReadError}
use Rattle.ethcm_headers.specs.declared.reading.ReadError.TheVariants.{Bad, NoMemory}

-- why bytes gave no packet
abbrev pub error_text : ReadError → List ℕ
error_text Bad = codes "not a packet"
error_text NoMemory = no_memory_text
