use Rattle.std.proofs.Common.{rules, ◌≡◌, List, ℕ, subst}
use Rattle.turn_lock.specs.declared.story.Made.{Made}
use Rattle.turn_lock.specs.Stories.{IsAddedBy}
use Rattle.turn_lock.proofs.Stories.{added_or_refused}
use Rattle.turn_lock.proofs.log.add_step.Goals as goal

pub give-requires-clause-added : goal.give-requires-clause-added
give-requires-clause-added g c =
    let turn = c.take-held.result.turn in
    let before = c.state.result.now.made in
    let after = c.add-added.new.self.made in
    let number : c.number-number.result ≡ turn.number = search rules in
    let found : before ≡ turn.front = search rules in
    subst (λ (n : ℕ). IsAddedBy n after turn.front) number
    (subst (λ (front : List (Made (Unit {0}))). IsAddedBy c.number-number.result after front)
    found
    (added_or_refused c.number-number.result c.add-added.result tt after before
    c.add-added.ensures.added c.add-added.ensures.refused))
