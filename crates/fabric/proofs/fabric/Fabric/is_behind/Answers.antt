use Rattle.std.proofs.Common.{◌+◌, arith}
use Rattle.fabric.proofs.Standings.Leading.{behind}
use Rattle.fabric.proofs.fabric.Fabric.is_behind.Goals as goal

pub returns-then-self-actor_count : goal.returns-then-self-actor_count
returns-then-self-actor_count c =
    behind c.args.self.now.shape c.args.self.now.log.steps (c.self.inside.front + 1) (omega arith)
    (omega (arith, c.if-self-actor_count.true, c.actor_count.ensures.count))
    c.leaves_at_rest.result c.args.actor c.leaves_at_rest.ensures
