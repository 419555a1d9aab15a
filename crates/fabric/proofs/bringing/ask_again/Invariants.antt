use Rattle.std.proofs.Common.{◌≡◌, length}
use Rattle.linx_base.specs.Pending.{names_over}
use Rattle.run_trunks.specs.Changes.{at_link}
use Rattle.trunk_moves.specs.Packets.{asks_for}
use Rattle.fabric.specs.Bringings.{HasNumbersOver, asks_over}
use Rattle.fabric.proofs.bringing.ask_again.Given as goal

-- the names that are left to ask for make all of what is now, and there are numbers for them
abbrev pub invariant-loop-hunt : goal.invariant-loop-hunt
invariant-loop-hunt l = record {
  is : at_link l.link (asks_for l.side (names_over l.link l.hunts)) l.trunks.is
      ≡ asks_over l.kernel l.link l.side l.fn.trunks.is;
  numbers : HasNumbersOver l.link l.side (names_over l.link l.hunts) l.trunks.is;
  was : l.trunks.was ≡ l.fn.trunks.was;
  links : l.trunks.links ≡ l.fn.trunks.links;
}

abbrev pub decreases-loop-hunt : goal.decreases-loop-hunt
decreases-loop-hunt l = length l.hunts
