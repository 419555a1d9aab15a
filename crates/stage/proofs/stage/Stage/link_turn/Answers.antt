use Rattle.std.proofs.Common.{◌≡◌, None, subst, sym}
use Rattle.link_laws.specs.Ends.{IsLinkOf}
use Rattle.stage.specs.Plays.{Play}
use Rattle.stage.specs.Settlings.{settler_in}
use Rattle.stage.specs.Turns.{shape_of}
use Rattle.stage.proofs.Rounds.Seats.{pumped-calm, staged-pumped_calm}
use Rattle.stage.proofs.Rounds.WholeRuns.{pump-not_over}
use Rattle.stage.proofs.stage.Stage.link_turn.Goals as goal

pub invariant_of-self : goal.invariant_of-self
invariant_of-self c =
    let s = c.self.inside in
    let calm : settler_in s.fabric ≡ None =
    subst (λ (p : Play). settler_in p.run ≡ None) (sym c.self.view_is) c.requires.calm in
    staged-pumped_calm s.script s.fabric c.pump_turn.new.fabric s.players.items c.self.invariant
    c.pump_turn.ensures.fixed c.pump_turn.result c.args.link calm c.pump_turn.ensures.ok
    c.pump_turn.ensures.err

pub returns-clause-calm : goal.returns-clause-calm
returns-clause-calm c =
    let s = c.self.inside in
    let calm : settler_in s.fabric ≡ None =
    subst (λ (p : Play). settler_in p.run ≡ None) (sym c.self.view_is) c.requires.calm in
    pumped-calm s.script s.fabric c.pump_turn.new.fabric s.players.items c.self.invariant
    c.pump_turn.ensures.fixed c.pump_turn.result c.args.link calm c.pump_turn.ensures.ok
    c.pump_turn.ensures.err

pub returns-clause-not_over : goal.returns-clause-not_over
returns-clause-not_over c =
    let s = c.self.inside in
    let of_shape : IsLinkOf (shape_of s.script) c.args.link =
    subst (λ (p : Play). IsLinkOf (shape_of p.script) c.args.link) (sym c.self.view_is)
    c.requires.declared in
    pump-not_over s.script s.fabric c.pump_turn.new.fabric c.args.link c.pump_turn.result
    c.self.invariant.shape of_shape c.pump_turn.ensures.due c.pump_turn.ensures.err
