use Rattle.std.proofs.Common.{arith}
use Rattle.rlnh_messages.proofs.Types.{behind, has_type}
use Rattle.rlnh_messages.proofs.reading.message_in.Goals as goal

pub returns-in_default : goal.returns-in_default
returns-in_default c = λ message s.
    let found = has_type message c.args.bytes.now s in
    c.in_default.ensures.none found.type found.rest found.spelled

pub returns-in_default-kind : goal.returns-in_default-kind
returns-in_default-kind c = λ message s.
    let one =
    (behind message c.in-Some.kind c.in-Some.rest.now
    (rw c.in-Some.ensures.found at s)).is_type in
    omega arith
