use Rattle.outcome_tally.specs.Outcomes.{with_all}
use Rattle.outcome_tally.proofs.Room.{room_for_next}
use Rattle.outcome_tally.proofs.outcomes.Outcomes.note_all.Goals as goal

pub note_later-requires : goal.note_later-requires
note_later-requires c =
    room_for_next (with_all c.args.self.now c.args.later) c.later.self c.later.text-iterator
    c.next.new.self c.in-Some.text c.in-Some.times c.requires c.later.invariant
    c.in-Some.ensures.steps
