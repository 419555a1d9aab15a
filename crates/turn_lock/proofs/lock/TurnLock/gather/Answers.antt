use Rattle.std.proofs.Common.{Some, sym, ap, ◌∙◌, arith}
use Rattle.std.proofs.lemmas.List.Elements.{All-pop}
use Rattle.turn_lock.specs.Passes.{IsPassOf}
use Rattle.turn_lock.proofs.Closing.{gathers}
use Rattle.turn_lock.proofs.Passes.{gathers_more}
use Rattle.turn_lock.proofs.Rule.{setting}
use Rattle.turn_lock.proofs.lock.TurnLock.gather.Goals as goal

pub join_seat-requires : goal.join_seat-requires
join_seat-requires g c =
    let t = setting g.S.Story.story g.S.Story.fixed c.self.inside.table.shared.key in
    let i = c.loop-pass.invariant in
    let p = c.in-Some-pop.pass in
    let h = All-pop (IsPassOf c.args.self.now) _ _ (Some p) c.in-Some-pop.ensures.items i.1 in
    let here = ap (λ l. l.id) (sym c.self.view_is) in
    let words = c.self.invariant.0 in (
      i.0 ∙ here,
      c.into_seat.ensures.0 ∙ (h.1 ∙ here),
      c.into_seat.ensures.1.0,
      omega arith,
      gathers t _ _ _ _ i.2.2.1 c.into_seat.ensures.1.1,
    )

pub loop-pass-preserved : goal.loop-pass-preserved
loop-pass-preserved g c =
    let i = c.loop-pass.invariant in
    let p = c.in-Some-pop.pass in
    let h = All-pop (IsPassOf c.args.self.now) _ _ (Some p) c.in-Some-pop.ensures.items i.1 in (
      c.join_seat.ensures.0 ∙ i.0,
      h.0,
      gathers_more _ _ p _ c.loop-pass.seat.me c.join_seat.new.seat.me c.into_seat.result.me i.2
          c.in-Some-pop.ensures.items c.into_seat.ensures.1 c.join_seat.ensures.2,
    )
