use Rattle.std.proofs.Common.{◌≡◌, List, Option, Some, ◌∷◌, ◌++◌, [], sym, ap, ◌∙◌, subst}
use Rattle.atomic_table.specs.Table.{opening}
use Rattle.turn_lock.specs.Turns.{front, dealing}
use Rattle.turn_lock.proofs.Dealing.{opens}
use Rattle.turn_lock.proofs.Rule.{setting, Rule, base}
use Rattle.turn_lock.proofs.lock.TurnLock.new.Goals as goal

pub new-requires : goal.new-requires
new-requires g c =
    let t = setting g.S.Story.story g.S.Story.fixed
    record { state = c.of.result; seats = c.args.seats } in
    let items : c.push_reserved.new.self.items ≡ Some c.args.state ∷ [] =
    c.push_reserved.ensures.items
    ∙ ap (λ (l : List (Option g.row.S.Denot)). l ++ Some c.args.state ∷ [])
    c.in_ok-slots.ensures.items in
    subst (λ l. Rule t (opening (0 ∷ []) l (dealing (front 1 (base t) [])))) (sym items)
    (opens t c.args.state (sym c.of.ensures) c.requires.fresh c.requires.seats.0)
