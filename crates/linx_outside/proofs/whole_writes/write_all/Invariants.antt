use Rattle.std.proofs.Common.{◌≡◌, ℕ, ◌-◌, ◌≤◌, length, take}
use Rattle.std.specs.Io.KnownBytes.{Appends}
use Rattle.linx_outside.proofs.whole_writes.write_all.Given as goal

-- what was taken so far
abbrev pub invariant-pieces : goal.invariant-pieces
invariant-pieces g l = record {
  within : l.done ≤ length l.bytes;
  taken : Appends (g.K.Sink.held l.initial.out) (g.K.Sink.held l.out) (take l.done l.bytes);
  untouched : length l.bytes ≡ 0 → l.out ≡ l.initial.out;
  counts : g.K.Sink.faults l.out ≡ g.K.Sink.faults l.initial.out;
  takes : (room : ℕ) → g.K.Sink.can_take l.initial.out room → length l.bytes ≤ room
      → g.K.Sink.can_take l.out (room - l.done);
}

abbrev pub decreases-pieces : goal.decreases-pieces
decreases-pieces g l = length l.bytes - l.done
