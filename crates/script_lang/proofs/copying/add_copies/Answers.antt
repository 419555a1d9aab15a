use Rattle.script_lang.proofs.Copies.{copies_none, copies_on}
use Rattle.script_lang.proofs.copying.add_copies.Goals as goal

pub loop-init : goal.loop-init
loop-init c = copies_none c.args.commands.now c.args.block.now

pub loop-preserved : goal.loop-preserved
loop-preserved c =
    copies_on c.args.commands.now c.loop.commands c.add_block.new.commands c.loop.counter
    c.args.block.now
    c.loop.invariant c.in_ok-add_block.ensures
