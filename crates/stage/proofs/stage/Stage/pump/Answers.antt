use Rattle.stage.proofs.Rounds.Seats.{staged-pumped}
use Rattle.stage.proofs.stage.Stage.pump.Goals as goal

pub invariant_of-self : goal.invariant_of-self
invariant_of-self c =
    let s = c.self.inside in
    staged-pumped s.script s.fabric c.pump_on.new.fabric s.players.items c.self.invariant
    c.pump_on.ensures.fixed c.pump_on.result c.args.link c.pump_on.ensures.settling
    c.pump_on.ensures.ok c.pump_on.ensures.err
