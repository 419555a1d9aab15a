use Rattle.std.proofs.Common.{sym, ap, ◌∙◌, arith}
use Rattle.turn_lock.specs.Turns.{front_of}
use Rattle.turn_lock.proofs.Places.{fronts_of}
use Rattle.turn_lock.proofs.Rule.{setting}
use Rattle.turn_lock.proofs.Taking.{tries}
use Rattle.turn_lock.proofs.lock.TurnLock.look.Goals as goal

pub compare_exchange-requires : goal.compare_exchange-requires
compare_exchange-requires g c =
    let t = setting g.S.Story.story g.S.Story.fixed c.self.inside.table.shared.key in
    let p = c.args.place.now in
    let words = c.self.invariant.0 in
    let view = c.place.view_is in (
      ap (λ q. q.pass.lock) view ∙ (c.requires.lock ∙ ap (λ l. l.id) (sym c.self.view_is)),
      omega arith,
      tries t _ c.args.held c.place.inside.seat.me (front_of p.pass)
          (let n = ap (λ q. q.pass.number) view in
          let low = c.place.invariant.0 in
          let held = c.requires.held in omega arith)
          (fronts_of g.S.Story.any_fixed _ _ c.place.inside.seat.me p c.place.invariant view)
          (sym c.requires.held) _,
    )
