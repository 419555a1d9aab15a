-- The texts of what went wrong.
use Rattle.std.specs.Prelude.{List, ℕ}
use Rattle.linx_base.specs.Failures.{no_memory_text}
use Rattle.linx_outside.specs.Failures.{write_fault_text}
use Rattle.report.specs.declared.reports.ReportError.{ReportError}
use Rattle.report.specs.declared.reports.ReportError.TheVariants.{WriteFault, NoMemory}

-- why a report wasn't written to its end
abbrev pub report_error_text : ReportError → List ℕ
report_error_text WriteFault = write_fault_text
report_error_text NoMemory = no_memory_text
