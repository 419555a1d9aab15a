use Rattle.std.proofs.Common.{◌≡◌, drop, []}
use Rattle.actor_run.specs.Knowing.{rows_for}
use Rattle.actor_run.proofs.bindings.Bindings.of.Given as goal

-- the rows so far, with those of the commands that are left, are those of all
abbrev pub invariant-loop-command : goal.invariant-loop-command
invariant-loop-command g l = rows_for l.kind l.rows.entries (drop l.command-index l.commands)
    ≡ rows_for l.kind [] l.commands
