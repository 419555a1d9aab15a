use Rattle.std.proofs.Common.{List}
use Rattle.journal.specs.declared.effect.Effect.{Effect}
use Rattle.node_kernel.specs.Kept.{NodeEndpoints}
use Rattle.node_kernel.specs.Nodes.{put_all}
use Rattle.node_kernel.proofs.Calling.{made_is, put_is}
use Rattle.node_kernel.proofs.calls.notify_dead.Goals as goal

pub returns-clause-effects : goal.returns-clause-effects
returns-clause-effects c =
    made_is c.dead_notice-made.result c.brought.result _ c.dead_notice-made.ensures
    c.brought.ensures.effects

pub returns-clause-ok : goal.returns-clause-ok
returns-clause-ok c =
    let after : List Effect → NodeEndpoints = λ effects. record c.args.roster.now
    { endpoints = put_all c.args.r.0 effects c.args.roster.now.endpoints } in
    put_is c.dead_notice-made.result c.brought.result _ after c.brought.new.roster
    c.dead_notice-made.ensures c.brought.ensures.effects c.brought.ensures.ok
