use Rattle.std.proofs.Common.{◌≡◌, ◌+◌, ◌-◌, ◌≤◌, length}
use Rattle.script_lang.specs.Block.{CanGoOn}
use Rattle.script_lang.specs.Limits.{script_limit}
use Rattle.script_words.specs.Lines.{lines_of}
use Rattle.script_lang.specs.Reading.{read_from, script_of}
use Rattle.script_lang.proofs.parsing.parse.Given as goal

-- what the lines so far say and the rest of the lines make the script
abbrev pub invariant-loop-rest : goal.invariant-loop-rest
invariant-loop-rest l = record {
  reads :
      read_from l.reading (length l.bytes - length l.rest) l.line (lines_of l.rest)
      ≡ script_of l.bytes;
  fits : CanGoOn l.reading;
  shorter : length l.rest ≤ length l.bytes;
  lines : l.line + length l.rest ≤ length l.bytes;
  small : length l.bytes - length l.rest ≤ script_limit;
}

abbrev pub decreases-loop-rest : goal.decreases-loop-rest
decreases-loop-rest l = length l.rest
