use Rattle.std.proofs.Common.{arith}
use Rattle.rlnh_end.proofs.Entries.{all_stay, dropped_next}
use Rattle.rlnh_end.proofs.facts.drop_numbers.Goals as goal

pub loop-number-init : goal.loop-number-init
loop-number-init c = all_stay c.args.entries.now

pub loop-number-preserved : goal.loop-number-preserved
loop-number-preserved c =
    dropped_next c.args.entries.now c.args.numbers.now c.loop-number.number-index _
    (omega arith) c.drop_all.ensures c.number_key.ensures c.loop-number.invariant
