use Rattle.std.proofs.Common.{◌≡◌, None, replicate, suc}
use Rattle.fabric.proofs.watched_journal.none_idle.Given as goal

-- the number 0, and the actors so far
abbrev pub invariant-loop-actor : goal.invariant-loop-actor
invariant-loop-actor l = l.idle.items ≡ replicate (suc l._actor) None
