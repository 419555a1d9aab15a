-- The texts of what went wrong.
use Rattle.std.specs.Prelude.{List, ℕ, codes}
use Rattle.linx_base.specs.Failures.{no_memory_text}
use Rattle.linx_outside.specs.declared.whole_reads.ReadStop.{ReadStop}
use Rattle.linx_outside.specs.declared.whole_reads.ReadStop.TheVariants.{ReadFault, NoMemory}

-- why a read up to a limit stopped short
abbrev pub read_stop_text : ReadStop → List ℕ
read_stop_text ReadFault = codes "read fault"
read_stop_text NoMemory = no_memory_text

-- a write failed
abbrev pub write_fault_text : List ℕ
write_fault_text = codes "write fault"
