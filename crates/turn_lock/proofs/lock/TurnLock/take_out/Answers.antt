use Rattle.std.proofs.Common.{◌∷◌, Some, sym, ap, ◌∙◌}
use Rattle.atomic_table.specs.Table.{rest}
use Rattle.turn_lock.proofs.lock.TurnLock.take_out.Goals as goal

pub exchange-slot-requires : goal.exchange-slot-requires
exchange-slot-requires g c =
    let view = c.place.view_is in
    let x = c.requires.held.0 in
    let taken = ap (λ q. q.taken) (view ∙ c.requires.held.1) in (
      ap (λ q. q.pass.lock) view ∙ (c.requires.lock ∙ ap (λ l. l.id) (sym c.self.view_is)),
      (Some x, taken ∙ ap (λ l. (0, Some x) ∷ l) (sym (ap rest taken))),
    )
