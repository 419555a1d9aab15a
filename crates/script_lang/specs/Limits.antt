-- The limits of a script.
use Rattle.std.specs.Prelude.{ℕ}

-- the most bytes of a script
abbrev pub script_limit : ℕ
script_limit = 1048576

-- the most nodes of a script
abbrev pub node_limit : ℕ
node_limit = 16

-- the most links of a script
abbrev pub link_limit : ℕ
link_limit = 32

-- the most actors of a script
abbrev pub actor_limit : ℕ
actor_limit = 64

-- the most verdicts of a direction of a link
abbrev pub verdict_limit : ℕ
verdict_limit = 10000

-- the most commands of an actor, with repeated blocks written out
abbrev pub command_limit : ℕ
command_limit = 20000

-- the most commands of all actors
abbrev pub all_commands_limit : ℕ
all_commands_limit = 400000
