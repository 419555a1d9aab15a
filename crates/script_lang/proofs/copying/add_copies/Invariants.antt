use Rattle.std.proofs.Common.{◌≡◌, ◌++◌}
use Rattle.script_lang.specs.Copies.{copies}
use Rattle.script_lang.proofs.copying.add_copies.Given as goal

-- so many copies stand behind the others
abbrev pub invariant-loop : goal.invariant-loop
invariant-loop l = l.commands ≡ l.initial.commands ++ copies l.counter l.block
