use Rattle.std.proofs.Common.{◌≡◌, ◌-◌, ◌≤◌, false, length, None, refl, sym, ◌∙◌, subst, arith}
use Rattle.std.proofs.Common.{true≢false}
use Rattle.std.proofs.lemmas.Option.{slice_get_read}
use Rattle.stage.specs.Plays.{Play}
use Rattle.stage.specs.Settlings.{settler_in}
use Rattle.stage.specs.Turns.{is_over}
use Rattle.stage.proofs.Actors.Asks.{may_ask}
use Rattle.stage.proofs.Rounds.Seats.{none-settles, seat-playing, staged-turned}
use Rattle.stage.proofs.Rounds.WholeRuns.{settling-not_over, turn-due, turn-not_over}
use Rattle.stage.proofs.stage.Stage.turn.Goals as goal

pub turn_of-requires-clause-playing : goal.turn_of-requires-clause-playing
turn_of-requires-clause-playing c =
    let s = c.self.inside in
    let within : c.args.actor ≤ length s.script.actors =
    subst (λ (p : Play). c.args.actor ≤ length p.script.actors) (sym c.self.view_is)
    c.requires.within in
    let count = c.self.invariant.count in
    let above = c.requires.above in
    seat-playing s.script s.fabric.log.steps s.players.items c.self.invariant.seated c.args.actor
    c.requires.above c.index_mut-player.result.now
    (slice_get_read s.players.items (length s.players.items) (c.args.actor - 1)
    c.index_mut-player.result.now refl (omega (arith, within, count, above))
    c.index_mut-player.ensures.value)
    (sym c.has_ended.ensures ∙ c.if-has_ended.false)

pub invariant_of-self : goal.invariant_of-self
invariant_of-self c =
    let s = c.self.inside in
    let within : c.args.actor ≤ length s.script.actors =
    subst (λ (p : Play). c.args.actor ≤ length p.script.actors) (sym c.self.view_is)
    c.requires.within in
    let running = sym c.has_ended.ensures ∙ c.if-has_ended.false in
    let calm : settler_in s.fabric ≡ None =
    none-settles (settler_in s.fabric)
    (λ is. true≢false (sym is ∙ sym c.is_settling.ensures ∙ c.if-is_settling.false)) in
    staged-turned s.script s.fabric c.turn_of.new.fabric s.players.items c.self.invariant
    c.turn_of.ensures.fixed c.args.actor c.turn_of.new.player c.requires.above within
    c.turn_of.result calm running c.turn_of.ensures.ok c.turn_of.ensures.err
    c.turn_of.ensures.seated

pub returns-clause-due : goal.returns-clause-due
returns-clause-due c =
    let s = c.self.inside in
    let within : c.args.actor ≤ length s.script.actors =
    subst (λ (p : Play). c.args.actor ≤ length p.script.actors) (sym c.self.view_is)
    c.requires.within in
    let running = sym c.has_ended.ensures ∙ c.if-has_ended.false in
    turn-due s.script s.fabric c.turn_of.new.fabric c.args.actor c.turn_of.result
    (may_ask s.script c.self.invariant.declared s.fabric c.self.invariant.shape
    c.self.invariant.names c.args.actor c.requires.above within running) running
    c.turn_of.ensures.err

pub returns-clause-not_over : goal.returns-clause-not_over
returns-clause-not_over c =
    let s = c.self.inside in
    let within : c.args.actor ≤ length s.script.actors =
    subst (λ (p : Play). c.args.actor ≤ length p.script.actors) (sym c.self.view_is)
    c.requires.within in
    let running = sym c.has_ended.ensures ∙ c.if-has_ended.false in
    turn-not_over s.script s.fabric c.turn_of.new.fabric c.args.actor c.turn_of.result
    c.self.invariant.shape c.requires.above within
    (turn-due s.script s.fabric c.turn_of.new.fabric c.args.actor c.turn_of.result
    (may_ask s.script c.self.invariant.declared s.fabric c.self.invariant.shape
    c.self.invariant.names c.args.actor c.requires.above within running) running
    c.turn_of.ensures.err) c.turn_of.ensures.err

pub returns-then-is_settling-clause-not_over : goal.returns-then-is_settling-clause-not_over
returns-then-is_settling-clause-not_over c =
    let s = c.self.inside in
    subst (λ (p : Play). is_over p.run ≡ false) c.self.view_is
    (settling-not_over s.script s.fabric c.self.invariant.shape
    (sym c.is_settling.ensures ∙ c.if-is_settling.true))
