use Rattle.text_replay.proofs.Stops.{other_ended}
use Rattle.text_replay.proofs.replaying.replay_of.Goals as goal

pub returns-clause-stopped : goal.returns-clause-stopped
returns-clause-stopped c =
    other_ended c.others_are_none.ensures c.args.script c.args.text.now c.in_ok-told.told.log.steps
    c.in_ok-journal.journal.log c.in_ok-told.ensures.read c.in_ok-journal.ensures.whole c.compare.result
    c.compare.ensures.other
