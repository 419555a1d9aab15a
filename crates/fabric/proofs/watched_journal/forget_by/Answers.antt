use Rattle.std.proofs.Common.{sym, ◌∙◌}
use Rattle.fabric.proofs.Standings.Idling.{forgets_none}
use Rattle.fabric.proofs.watched_journal.forget_by.Goals as goal

pub returns-in_default : goal.returns-in_default
returns-in_default c =
    forgets_none c.args.effect.now (sym c.reached_by.ensures ∙ c.in_default.is) c.args.idle.now
