use Rattle.std.proofs.Common.{sym, ◌∙◌}
use Rattle.fabric.proofs.Standings.KernelAndStanding.{at-value}
use Rattle.fabric.proofs.Trunks.Resting.{all-over}
use Rattle.fabric.proofs.fabric.Fabric.is_over.Goals as goal

pub returns-clause-over : goal.returns-clause-over
returns-clause-over c still =
    all-over _ _ (at-value c.self.invariant.0 c.self.view_is)
    (rw (sym c.have_ended.ensures ∙ c.if-not-have_ended.false) (sym c.no_link_stirs.ensures ∙ still))
