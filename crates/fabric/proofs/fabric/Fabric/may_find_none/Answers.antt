use Rattle.std.proofs.Common.{sym, ◌∙◌}
use Rattle.fabric.proofs.Standings.KernelAndStanding.{at-value}
use Rattle.fabric.proofs.Trunks.Resting.{at-rest}
use Rattle.fabric.proofs.fabric.Fabric.may_find_none.Goals as goal

pub returns-clause-rest : goal.returns-clause-rest
returns-clause-rest c rest =
    (at-rest _ _ (at-value c.self.invariant.0 c.self.view_is) c.args.actor
    (rw (sym c.all_leave_at_rest.ensures ∙ rest)
    (sym c.no_link_stirs.ensures ∙ c.if-not-no_link_stirs.false))).0

pub returns-clause-still : goal.returns-clause-still
returns-clause-still c rest =
    (at-rest _ _ (at-value c.self.invariant.0 c.self.view_is) c.args.actor
    (rw (sym c.all_leave_at_rest.ensures ∙ rest)
    (sym c.no_link_stirs.ensures ∙ c.if-not-no_link_stirs.false))).1
