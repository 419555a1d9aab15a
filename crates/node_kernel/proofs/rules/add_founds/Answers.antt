use Rattle.std.proofs.Common.{◌++◌}
use Rattle.journal.specs.Effects.{found, founds}
use Rattle.node_kernel.proofs.Gathering.{falls, gather_more, gathered}
use Rattle.node_kernel.proofs.rules.add_founds.Goals as goal

pub loop-hunt-smaller : goal.loop-hunt-smaller
loop-hunt-smaller c =
    falls c.loop-hunt.left _ c.in-Some.hunt.now c.in-Some.ensures.entry c.next_entry.ensures.rest

pub loop-hunt-preserved : goal.loop-hunt-preserved
loop-hunt-preserved c =
    gather_more (found c.args.peer) _ c.loop-hunt.left _ c.loop-hunt.effects _
    c.in-Some.hunt.now c.in_ok-found.field-0 c.in-Some.ensures.entry c.next_entry.ensures.rest
    c.in_ok-found.ensures c.in_ok-push.ensures.ok c.loop-hunt.invariant

pub returns : goal.returns
returns c =
    gathered (found c.args.peer)
    (c.args.effects.now ++ founds c.args.path.now c.args.peer c.args.hunts.now)
    c.loop-hunt.left c.loop-hunt.effects c.in_default.ensures.entry c.loop-hunt.invariant
