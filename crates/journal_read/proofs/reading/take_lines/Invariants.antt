use Rattle.std.proofs.Common.{◌≡◌, suc, drop, map}
use Rattle.journal_read.specs.Bounds.{full_lines}
use Rattle.journal_read.specs.Reading.{read_lines}
use Rattle.journal_read.proofs.reading.take_lines.Given as goal

-- what is read of the lines that are left is what is read of all
abbrev pub invariant-loop-bytes : goal.invariant-loop-bytes
invariant-loop-bytes l = record {
  names : l.reading.names ≡ l.fn.reading.names;
  number : l.number ≡ suc l.bytes-index;
  full :
      full_lines l.reading l.number (map (λ w. w.now) (drop l.bytes-index l.lines))
      ≡ full_lines l.fn.reading 1 (map (λ w. w.now) l.lines);
  steps :
      read_lines l.reading l.number (map (λ w. w.now) (drop l.bytes-index l.lines)) l.rest
      ≡ read_lines l.fn.reading 1 (map (λ w. w.now) l.lines) l.rest;
}
