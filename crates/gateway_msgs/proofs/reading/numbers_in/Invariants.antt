use Rattle.std.proofs.Common.{◌≡◌, ◌<◌, ◌^◌, ◌%◌, ◌++◌, length, flat_map}
use Rattle.std.specs.List.{AllByRecursion}
use Rattle.byteorder.specs.Endian.{big_bytes}
use Rattle.gateway_msgs.proofs.reading.numbers_in.Given as goal

-- the numbers so far, and what is still to be read
abbrev pub invariant-loop-rest : goal.invariant-loop-rest
invariant-loop-rest l = record {
  spelled : flat_map (big_bytes 4) l.numbers.items ++ l.rest ≡ l.fn.bytes;
  fit : AllByRecursion (λ n. n < 2 ^ 32) l.numbers.items;
  whole : length l.rest % 4 ≡ 0;
}

abbrev pub decreases-loop-rest : goal.decreases-loop-rest
decreases-loop-rest l = length l.rest
