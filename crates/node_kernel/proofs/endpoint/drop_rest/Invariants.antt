use Rattle.std.proofs.Common.{◌≡◌, length}
use Rattle.sigsel.specs.Selection.{is_notice_of}
use Rattle.keyed_list.proofs.Entries.{others}
use Rattle.node_kernel.proofs.endpoint.drop_rest.Given as goal

-- the other items stay
abbrev pub invariant-loop-notice : goal.invariant-loop-notice
invariant-loop-notice l = others (is_notice_of l.attach) l.queue
    ≡ others (is_notice_of l.attach) l.fn.queue

abbrev pub decreases-loop-notice : goal.decreases-loop-notice
decreases-loop-notice l = length l.queue
