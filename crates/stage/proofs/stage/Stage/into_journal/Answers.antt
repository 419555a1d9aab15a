use Rattle.std.proofs.Common.{sym}
use Rattle.stage.proofs.Rounds.Seats.{staged-over, staged-rest, staged-so_far, staged-whole}
use Rattle.stage.proofs.stage.Stage.into_journal.Goals as goal

pub returns-clause-so_far : goal.returns-clause-so_far
returns-clause-so_far c =
    let s = c.self.inside in
    rw (sym c.self.view_is)
    (staged-so_far s.script s.fabric s.players.items c.self.invariant c.into_journal.ensures.legal
    c.into_journal.ensures.reached)

pub returns-clause-whole : goal.returns-clause-whole
returns-clause-whole c =
    let s = c.self.inside in
    rw (sym c.self.view_is)
    (staged-whole s.script s.fabric s.players.items c.self.invariant)

pub returns-clause-over : goal.returns-clause-over
returns-clause-over c =
    let s = c.self.inside in
    rw (sym c.self.view_is)
    (staged-over s.script s.fabric s.players.items c.self.invariant c.into_journal.ensures.over)

pub returns-clause-rest : goal.returns-clause-rest
returns-clause-rest c =
    let s = c.self.inside in
    rw (sym c.self.view_is)
    (staged-rest s.script s.fabric s.players.items c.self.invariant
    c.into_journal.ensures.laid_out c.into_journal.ensures.few c.into_journal.ensures.reached)
