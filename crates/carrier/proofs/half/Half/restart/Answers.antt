use Rattle.ethcm_end.specs.Rules.{restart_of}
use Rattle.carrier.proofs.Noting.{noted_ended}
use Rattle.carrier.proofs.half.Half.restart.Goals as goal

pub returns-clause-half : goal.returns-clause-half
returns-clause-half c =
    rw (
      ← c.self.view_is,
      c.restart.ensures.is,
      c.push.ensures.is,
      c.mine-session.ensures.mine,
      c.peer-peer.ensures,
    ) (noted_ended c.self.inside.end.is (restart_of c.self.inside.end.is c.args.boot)
    c.self.inside.notes.is)
