use Rattle.std.proofs.Common.{◌≡◌, ◌<◌, true, false, length, sym, ◌∙◌, subst}
use Rattle.fabric.specs.Run.{Layout}
use Rattle.stage.specs.Plays.{Play}
use Rattle.stage.specs.Ready.{is_ready}
use Rattle.stage.specs.Turns.{IsTurnOf}
use Rattle.stage.proofs.Rounds.Seats.{staged-ready, staged-stays}
use Rattle.stage.proofs.stage.Stage.is_ready.Goals as goal

pub returns-clause-moves : goal.returns-clause-moves
returns-clause-moves c is =
    let s = c.self.inside in
    let ready : is_ready s.script s.fabric c.args.maker ≡ true =
    subst (λ (p : Play). is_ready p.script p.run c.args.maker ≡ true) (sym c.self.view_is)
    (sym c.is_maker_ready.ensures ∙ is) in
    subst (λ (p : Play). (next : Layout) → IsTurnOf p.script c.args.maker p.run next
    → length p.run.log.steps < length next.log.steps) c.self.view_is
    (staged-ready s.script s.fabric s.players.items c.self.invariant c.args.maker c.requires.above
    ready)

pub returns-clause-stays : goal.returns-clause-stays
returns-clause-stays c is =
    let s = c.self.inside in
    let ready : is_ready s.script s.fabric c.args.maker ≡ false =
    subst (λ (p : Play). is_ready p.script p.run c.args.maker ≡ false) (sym c.self.view_is)
    (sym c.is_maker_ready.ensures ∙ is) in
    subst (λ (p : Play). IsTurnOf p.script c.args.maker p.run p.run) c.self.view_is
    (staged-stays s.script s.fabric s.players.items c.self.invariant c.args.maker c.requires.above
    ready)
