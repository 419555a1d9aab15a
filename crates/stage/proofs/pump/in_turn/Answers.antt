use Rattle.stage.proofs.Plans.PumpsRule.{even-first, odd-second}
use Rattle.stage.proofs.pump.in_turn.Goals as goal

pub returns-then-ticks-eq0 : goal.returns-then-ticks-eq0
returns-then-ticks-eq0 c = even-first c.args.ticks c.if-ticks-eq0.true

pub returns-else-ticks-eq0 : goal.returns-else-ticks-eq0
returns-else-ticks-eq0 c = odd-second c.args.ticks c.if-ticks-eq0.false
