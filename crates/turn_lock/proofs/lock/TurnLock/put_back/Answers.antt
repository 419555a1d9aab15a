use Rattle.std.proofs.Common.{sym, ap, ◌∙◌, arith}
use Rattle.turn_lock.specs.Turns.{front_of}
use Rattle.turn_lock.proofs.Giving.{gives_back}
use Rattle.turn_lock.proofs.Places.{IsGiven, is_put, is_given}
use Rattle.turn_lock.proofs.Rule.{setting}
use Rattle.turn_lock.proofs.lock.TurnLock.put_back.Given.{Over}
use Rattle.turn_lock.proofs.lock.TurnLock.put_back.Goals as goal

pub swap-requires : goal.swap-requires
swap-requires g c =
    let t = setting g.S.Story.story g.S.Story.fixed c.self.inside.table.shared.key in
    let view = c.place.view_is in
    let put = is_put g.S.Story.any_fixed _ _ c.place.inside.seat.me _ c.place.invariant view
    c.exchange-slot.new.seat.me c.args.state c.requires.out c.exchange-slot.ensures.3 in
    let counts = c.self.invariant in (
      c.exchange-slot.ensures.0
          ∙ (ap (λ q. q.pass.lock) view
          ∙ (c.requires.lock ∙ ap (λ l. l.id) (sym c.self.view_is))),
      omega arith,
      gives_back t _ _ _ c.args.state put c.requires.added c.requires.fixed _ (omega arith),
    )

given : (g : Over) (c : goal.After-swap g) → IsGiven g.S.Story.any_fixed c.swap.new.seat.table_id
    c.place.inside.number c.swap.new.seat.me c.args.place.now.pass (g.S.Story.story c.args.state)
given g c =
    let p = c.args.place.now.pass in
    let view = c.place.view_is in
    let put = is_put g.S.Story.any_fixed _ _ c.place.inside.seat.me _ c.place.invariant view
    c.exchange-slot.new.seat.me c.args.state c.requires.out c.exchange-slot.ensures.3 in
    is_given g.S.Story.any_fixed c.swap.new.seat.table_id c.place.inside.number
    c.swap.new.seat.me p (g.S.Story.story c.args.state) c.place.invariant.0
    (c.swap.ensures.0 ∙ (c.exchange-slot.ensures.0 ∙ ap (λ q. q.pass.lock) view))
    (ap (λ q. q.pass.number) view)
    (c.swap.ensures.2 (front_of p) c.args.state put.fronts put.taken)

pub invariant_of-place : goal.invariant_of-place
invariant_of-place g c = (given g c).front

pub returns : goal.returns
returns g c = (given g c).rests
