use Rattle.ethcm_session.proofs.Rows.{session_rises, session_never_falls, session_numbered}
use Rattle.ethcm_session.proofs.talk.Talk.input.Goals as goal

pub invariant_of-self : goal.invariant_of-self
invariant_of-self c =
    let next = rw (← c.self.view_is) at c.requires in
    let mine = session_numbered c.self.inside.state c.args.src c.args.dst c.args.kind
    c.outcome-change.result.0 c.outcome-change.result.1 c.outcome-change.ensures in
    (mine c.self.invariant.0 next, c.self.invariant.1)

pub returns-clause-down : goal.returns-clause-down
returns-clause-down c =
    rw (← c.self.view_is) (session_rises c.self.inside.state c.args.src c.args.dst c.args.kind
    c.outcome-change.result.0 c.outcome-change.result.1 c.outcome-change.ensures)

pub returns-clause-never_falls : goal.returns-clause-never_falls
returns-clause-never_falls c =
    rw (← c.self.view_is) (session_never_falls c.self.inside.state c.args.src c.args.dst
    c.args.kind c.outcome-change.result.0 c.outcome-change.result.1 c.outcome-change.ensures)
