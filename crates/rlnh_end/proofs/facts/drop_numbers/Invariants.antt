use Rattle.std.proofs.Common.{◌≡◌, take, filter}
use Rattle.rlnh_end.specs.Facts.{has_none}
use Rattle.rlnh_end.proofs.facts.drop_numbers.Given as goal

-- the entries of the numbers so far are gone
abbrev pub invariant-loop-number : goal.invariant-loop-number
invariant-loop-number l =
    l.entries ≡ filter (has_none (take l.number-index l.numbers)) l.fn.entries
