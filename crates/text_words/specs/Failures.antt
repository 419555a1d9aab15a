-- The texts of what went wrong.
use Rattle.std.specs.Prelude.{List, ℕ, codes}
use Rattle.linx_base.specs.Failures.{no_memory_text}
use Rattle.text_words.specs.declared.read_error.ReadError.{ReadError}
use Rattle.text_words.specs.declared.read_error.ReadError.TheVariants.{Bad, NoMemory}

-- why words gave no value
abbrev pub error_text : ReadError → List ℕ
error_text Bad = codes "the words spell no value"
error_text NoMemory = no_memory_text
