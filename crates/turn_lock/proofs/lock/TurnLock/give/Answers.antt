use Rattle.std.proofs.Common.{ap, ◌∙◌}
use Rattle.turn_lock.specs.Passes.{own_steps}
use Rattle.turn_lock.specs.Stories.{made_by}
use Rattle.turn_lock.proofs.Stories.{added_own}
use Rattle.turn_lock.proofs.lock.TurnLock.give.Goals as goal

pub returns-clause-own : goal.returns-clause-own
returns-clause-own g c = λ added is.
    ap (λ q. own_steps q.pass) c.put_back-found.ensures
    ∙ (ap (λ q. made_by q.number (g.S.Story.story c.args.held.state)) c.turn.view_is
    ∙ added_own c.args.held.turn.number _ _ added c.requires.added is)
