use Rattle.std.proofs.Common.{◌≡◌, ◌++◌, take}
use Rattle.script_lang.proofs.copying.add_block.Given as goal

-- the commands so far stand behind the others
abbrev pub invariant-loop-command : goal.invariant-loop-command
invariant-loop-command l = l.commands ≡ l.initial.commands ++ take l.command-index l.block
