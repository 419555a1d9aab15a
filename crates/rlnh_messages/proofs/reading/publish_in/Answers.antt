use Rattle.std.proofs.Common.{refl}
use Rattle.rlnh_messages.proofs.Types.{behind, publish_found, publish_refused}
use Rattle.rlnh_messages.proofs.reading.publish_in.Goals as goal

pub returns-in_default : goal.returns-in_default
returns-in_default c = λ message s.
    let found = (behind message 4 c.args.rest.now s).fields refl in
    c.in_default.ensures.none found.addr found.inc found.name found.is_address found.spelled

pub returns-in-Ok : goal.returns-in-Ok
returns-in-Ok c =
    publish_found c.in-Some.addr c.in-Some.inc c.in-Ok.name c.args.rest.now
    c.in-Some.ensures.found.0 c.in-Some.ensures.found.1
    (rw c.in-Ok.ensures.0 c.in-Ok.ensures.1) (rw c.in-Ok.ensures.0 c.in-Some.ensures.found.2)

pub returns-in-Err : goal.returns-in-Err
returns-in-Err c =
    publish_refused c.in-Err.error c.in-Some.addr c.in-Some.inc c.in-Some.name.now c.args.rest.now
    c.in-Some.ensures.found.0 c.in-Some.ensures.found.1
    c.in-Some.ensures.found.2 c.in-Err.ensures
