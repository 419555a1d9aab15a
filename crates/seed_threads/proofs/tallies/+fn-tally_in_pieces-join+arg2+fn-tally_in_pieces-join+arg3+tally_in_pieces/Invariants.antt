use Rattle.std.proofs.Common.{◌+◌, ◌*◌}
use Rattle.seed_threads.proofs.tallies.+fn-tally_in_pieces-join+arg2+fn-tally_in_pieces-join+arg3+tally_in_pieces.Given as goal

-- each of the two parts has fewer pieces
abbrev pub decreases-tally_in_pieces : goal.decreases-tally_in_pieces
decreases-tally_in_pieces g l = 2 * l.pieces

abbrev pub decreases-join+arg2 : goal.decreases-join+arg2
decreases-join+arg2 g l = 2 * l.few + 1

abbrev pub decreases-join+arg3 : goal.decreases-join+arg3
decreases-join+arg3 g l = 2 * l.others + 1
