use Rattle.std.proofs.Common.{◌≡◌, arith}
use Rattle.rlnh_messages.proofs.Types.{behind, unpublish_found, unpublish_ack_found}
use Rattle.rlnh_messages.proofs.reading.unpublish_in.Goals as goal

pub returns-in_default : goal.returns-in_default
returns-in_default c = λ message s.
    let found = (behind message c.args.kind c.args.rest.now s).address (omega arith) in
    c.in_default.ensures.none found.addr found.is_address found.spelled

pub returns-then-kind-eq-UNPUBLISH : goal.returns-then-kind-eq-UNPUBLISH
returns-then-kind-eq-UNPUBLISH c =
    let is : c.args.kind ≡ 5 = c.if-kind-eq-UNPUBLISH.true in
    rw is (unpublish_found c.in-Some.addr c.args.rest.now c.in-Some.ensures.found.0
    c.in-Some.ensures.found.1)

pub returns : goal.returns
returns c =
    let is : c.args.kind ≡ 6 = omega arith in
    rw is (unpublish_ack_found c.in-Some.addr c.args.rest.now c.in-Some.ensures.found.0
    c.in-Some.ensures.found.1)
