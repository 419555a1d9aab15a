use Rattle.std.proofs.Common.{sym, ap, ◌∙◌, arith}
use Rattle.turn_lock.proofs.Rule.{setting}
use Rattle.turn_lock.proofs.Taking.{marks}
use Rattle.turn_lock.proofs.lock.TurnLock.sleep.Goals as goal

pub compare_exchange-requires : goal.compare_exchange-requires
compare_exchange-requires g c =
    let t = setting g.S.Story.story g.S.Story.fixed c.self.inside.table.shared.key in
    let words = c.self.invariant.0 in (
      ap (λ q. q.pass.lock) c.place.view_is
          ∙ (c.requires ∙ ap (λ l. l.id) (sym c.self.view_is)),
      omega arith,
      marks t _ _ _ _ _ (omega arith) (omega arith),
    )
