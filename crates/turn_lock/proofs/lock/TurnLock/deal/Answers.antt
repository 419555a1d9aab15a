use Rattle.std.proofs.Common.{◌≡◌, ◌+◌, [], ◌∷◌, sym, ap, ◌∙◌, arith, vec_len}
use Rattle.turn_lock.specs.Turns.{front, dealt_next}
use Rattle.turn_lock.proofs.Passes.{first_push}
use Rattle.turn_lock.proofs.Dealing.{deals}
use Rattle.turn_lock.proofs.Rule.{setting}
use Rattle.turn_lock.proofs.lock.TurnLock.deal.Goals as goal

pub split_seat-next-requires : goal.split_seat-next-requires
split_seat-next-requires g c =
    let t = setting g.S.Story.story g.S.Story.fixed c.self.inside.table.shared.key in
    let i = c.loop-number.invariant in
    let v = c.self.invariant in (
      i.0 ∙ ap (λ l. l.id) (sym c.self.view_is),
      omega arith,
      deals t _ _ (front c.loop-number.number (g.S.Story.fixed c.args.about.now.state.value) [])
          (ap (λ m. m.0) i.1) (omega arith),
    )

pub loop-number-preserved : goal.loop-number-preserved
loop-number-preserved g c =
    let i = c.loop-number.invariant in
    let s = c.split_seat-next.ensures in
    let push = c.push_reserved.ensures in
    let up : vec_len c.push_reserved.new.self ≡ vec_len c.loop-number.passes + 1 = push.len in (
      s.3 ∙ i.0,
      s.4 ∙ ap (λ m. (dealt_next m.0, [])) i.1,
      omega arith,
      push.capacity ∙ i.3,
      first_push _ _ g.S.Story.any_fixed (vec_len c.loop-number.passes) c.loop-number.number _ _ _
          c.of.result c.split_seat-next.new.seat.table_id c.split_seat-next.new.seat.me.0 i.4
          push.items c.of.ensures (s.0 ∙ i.0) (sym i.2)
          (ap (λ m. m.0.fronts) s.2 ∙ ap (λ m. m.0.fronts) i.1) up,
    )

pub returns : goal.returns
returns g c =
    let i = c.loop-number.invariant in
    let seats = ap (λ l. l.seats) c.self.view_is in
    let end = c.loop-number.auto.number-end in
    let some_seat = c.requires.room.1 in
    let x = g.S.Story.fixed c.args.about.now.state.value in
    let last : c.loop-number.number ≡ c.self.inside.seats = omega arith in
    let all : c.self.inside.seats ≡ vec_len c.loop-number.passes + 1 = omega arith in
    first_push _ _ g.S.Story.any_fixed (vec_len c.loop-number.passes) c.self.inside.seats _ _ _
    c.of-2.result c.loop-number.last.table_id c.loop-number.last.me.0 i.4
    c.push_reserved-2.ensures.items c.of-2.ensures i.0 all
    (ap (λ m. m.0.fronts) i.1 ∙ ap (λ n. front n x [] ∷ []) last) (sym seats ∙ all)
