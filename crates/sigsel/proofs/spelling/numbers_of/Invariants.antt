use Rattle.std.proofs.Common.{◌≡◌, map, pos, take}
use Rattle.sigsel.proofs.spelling.numbers_of.Given as goal

-- the numbers so far are the values so far
abbrev pub invariant-loop-value : goal.invariant-loop-value
invariant-loop-value l = map pos l.numbers.items ≡ take l.value-index l.values
