use Rattle.std.proofs.Common.{refl}
use Rattle.ethcm_end.specs.declared.answers.Ticked.TheVariants.{WentDown}
use Rattle.carrier.proofs.Noting.{beaten}
use Rattle.carrier.proofs.half.Half.tick.Goals as goal

pub returns-in-WentDown-clause-half : goal.returns-in-WentDown-clause-half
returns-in-WentDown-clause-half c =
    rw (← c.self.view_is) (beaten c.self.inside.end.is c.tick.new.self.is
    c.send_all.new.end.is WentDown (rw c.in-WentDown.is at c.in_ok-ticked.ensures.reaction)
    c.in_ok-send_all.ensures.end c.self.inside.notes.is c.push.new.self.is
    (rw (
      c.push.ensures.is,
      c.mine-session.ensures.mine,
      c.peer-peer.ensures,
    ) refl))
