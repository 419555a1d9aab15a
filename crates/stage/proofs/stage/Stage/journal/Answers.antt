use Rattle.std.proofs.Common.{sym}
use Rattle.stage.proofs.Rounds.Seats.{staged-so_far}
use Rattle.stage.proofs.stage.Stage.journal.Goals as goal

pub returns-clause-so_far : goal.returns-clause-so_far
returns-clause-so_far c =
    let s = c.self.inside in
    rw (sym c.self.view_is)
    (staged-so_far s.script s.fabric s.players.items c.self.invariant c.journal.ensures.legal
    c.journal.ensures.reached)
