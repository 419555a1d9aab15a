use Rattle.std.proofs.Common.{◌≡◌, ◌++◌, replicate}
use Rattle.order_lines.proofs.front.push_turns.Given as goal

-- so many turns stand behind the others
abbrev pub invariant-turns : goal.invariant-turns
invariant-turns l = l.front.items ≡ l.initial.front.items ++ replicate l.counter l.turns.maker
