use Rattle.std.proofs.Common.{◌<◌, length, ap, ◌∙◌, subst, arith, IsSomeAnd}
use Rattle.turn_lock.specs.Passes.{TellsOfEach}
use Rattle.turn_lock.proofs.Passes.{some_pass}
use Rattle.turn_lock.proofs.Closing.{closes}
use Rattle.turn_lock.proofs.Rule.{setting}
use Rattle.turn_lock.proofs.lock.TurnLock.finish.Goals as goal

pub gather-seat-requires : goal.gather-seat-requires
gather-seat-requires g c =
    let long = c.args.passes.ok.0 in
    let some : 0 < length c.args.passes.items =
    some_pass c.args.passes.items c.args.self.seats c.requires.each.0 c.requires.each.1 in
    record { of = c.requires.of; some = omega arith }

pub returns : goal.returns
returns g c =
    let t = setting g.S.Story.story g.S.Story.fixed c.self.inside.table.shared.key in
    let seats = c.self.invariant.2 ∙ ap (λ l. l.seats) c.self.view_is in
    let each = c.requires.each.1 in
    subst
    (λ n. IsSomeAnd c.take-slot.result
    (TellsOfEach n g.S.Story.story g.S.Story.fixed c.args.passes.items))
    seats
    (closes t _ c.gather-seat.result.me c.args.passes.items _ _ _
    c.close_with-closed.ensures.values.2 c.gather-seat.ensures.1
    (λ n low high. each n low (omega arith)) c.take-slot.ensures.value)
