use Rattle.std.proofs.Common.{sym, ◌∙◌}
use Rattle.stage.proofs.Rounds.Seats.{staged-moves, staged-some}
use Rattle.stage.proofs.stage.Stage.is_over.Goals as goal

pub returns-clause-moves : goal.returns-clause-moves
returns-clause-moves c running =
    let s = c.self.inside in
    let over = sym c.is_over.ensures.value ∙ running in
    rw (sym c.self.view_is) (staged-moves s.script s.fabric s.players.items c.self.invariant over)

pub returns-clause-few : goal.returns-clause-few
returns-clause-few c = rw (sym c.self.view_is) c.journal.ensures.few

pub returns-clause-ready : goal.returns-clause-ready
returns-clause-ready c running =
    let s = c.self.inside in
    let over = sym c.is_over.ensures.value ∙ running in
    rw (sym c.self.view_is) (staged-some s.script s.fabric s.players.items c.self.invariant over)
