use Rattle.rlnh_messages.proofs.Types.{read_only}
use Rattle.rlnh_messages.proofs.reading.read.Goals as goal

pub returns-clause-only : goal.returns-clause-only
returns-clause-only c = read_only c.message_in.result c.args.bytes.now c.message_in.ensures
