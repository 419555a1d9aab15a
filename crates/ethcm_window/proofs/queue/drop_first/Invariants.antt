use Rattle.std.proofs.Common.{◌≡◌, drop}
use Rattle.ethcm_window.proofs.queue.drop_first.Given as goal

-- as many elements went out as there were turns
abbrev pub invariant-loop : goal.invariant-loop
invariant-loop g l = l.queue.items ≡ drop l.counter l.initial.queue.items
