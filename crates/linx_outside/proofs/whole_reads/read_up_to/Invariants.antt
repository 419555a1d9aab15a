use Rattle.std.proofs.Common.{◌≡◌, ◌+◌, ◌≤◌, length, vec_len, vec_capacity}
use Rattle.linx_outside.specs.Told.{MovesBytes}
use Rattle.linx_outside.proofs.whole_reads.read_up_to.Given as goal

-- what was read so far, and room for what is missing
abbrev pub invariant-chunks : goal.invariant-chunks
invariant-chunks g l = record {
  moved : MovesBytes l.initial.buffer.items l.buffer.items
      (g.S.Source.left l.initial.source) (g.S.Source.left l.source);
  total : vec_len l.buffer + l.missing ≡ vec_len l.initial.buffer + l.most;
  within : l.missing ≤ l.most;
  room : vec_len l.buffer + l.missing ≤ vec_capacity l.buffer;
  chunk : length l.chunk ≡ 4096;
  counts : g.S.Source.faults l.source ≡ g.S.Source.faults l.initial.source;
  faultless : g.S.Source.is_faultless l.initial.source → g.S.Source.is_faultless l.source;
}

abbrev pub decreases-chunks : goal.decreases-chunks
decreases-chunks g l = l.missing
