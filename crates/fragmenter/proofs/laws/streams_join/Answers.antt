use Rattle.std.proofs.Common.{arith}
use Rattle.fragmenter.proofs.Streams.{join_in_order}
use Rattle.fragmenter.proofs.laws.streams_join.Goals as goal

pub returns : goal.returns
returns c = join_in_order c.args.piece c.args.messages.now (omega arith) c.requires.messages
