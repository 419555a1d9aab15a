use Rattle.rlnh_messages.proofs.Types.{query_found, query_refused}
use Rattle.rlnh_messages.proofs.reading.query_in.Goals as goal

pub returns-in-Ok : goal.returns-in-Ok
returns-in-Ok c = query_found c.in-Ok.name c.args.rest.now c.in-Ok.ensures.0 c.in-Ok.ensures.1

pub returns-in-Err : goal.returns-in-Err
returns-in-Err c = query_refused c.in-Err.error c.args.rest.now c.in-Err.ensures
