use Rattle.std.proofs.Common.{◌+◌, arith}
use Rattle.fabric.proofs.Standings.Leading.{led}
use Rattle.fabric.proofs.fabric.Fabric.is_led.Goals as goal

pub returns-then-self-actor_count : goal.returns-then-self-actor_count
returns-then-self-actor_count c =
    led c.args.self.now.shape c.args.self.now.log.steps (c.self.inside.front + 1) (omega arith)
    (omega (arith, c.if-self-actor_count.true, c.actor_count.ensures.count)) c.has_ended.result
    c.has_ended.ensures
