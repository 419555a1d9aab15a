-- a line of an actor's block
use Rattle.std.specs.Prelude.{ℕ, Bool, true, Result, List, codes, if◌then◌else◌}
use Rattle.std.specs.Str.{bytes_eq}
use Rattle.script_words.specs.declared.fault.Fault.{Fault}
use Rattle.script_words.specs.declared.block_line.ActorLine.{ActorLine}
use Rattle.script_words.specs.declared.block_line.ActorLine.TheVariants as actor
use Rattle.script_words.specs.declared.block_line.RepeatLine.{RepeatLine}
use Rattle.script_words.specs.declared.block_line.RepeatLine.TheVariants as repeat
use Rattle.script_words.specs.Gives.{◌>>=◌, made}
use Rattle.script_words.specs.Limits.{repeat_limit}
use Rattle.script_words.specs.Words.{only, alone}
use Rattle.script_words.specs.Numbers.{within}
use Rattle.script_words.specs.NamedCommand.{is_sized, command_of}

-- the command of the line has its data and its filter in range
abbrev pub is_sized_in_actor : ActorLine → Bool
is_sized_in_actor (actor.Command command) = is_sized command
is_sized_in_actor (actor.Repeat times) = true
is_sized_in_actor actor.End = true

-- the command of a line of a repeated block has its data and its filter in range
abbrev pub is_sized_in_repeat : RepeatLine → Bool
is_sized_in_repeat (repeat.Command command) = is_sized command
is_sized_in_repeat repeat.End = true

-- a line of an actor's block outside a repeated one: `repeat N`, `end` or a command
unfoldable pub actor_line_of : List ℕ → List (List ℕ) → Result ActorLine Fault
actor_line_of first words =
    if bytes_eq first (codes "repeat") then made actor.Repeat (only first words >>= within 1 repeat_limit)
    else if bytes_eq first (codes "end") then alone words actor.End
    else made actor.Command (command_of first words)

-- a line of a repeated block: `end` or a command
unfoldable pub repeat_line_of : List ℕ → List (List ℕ) → Result RepeatLine Fault
repeat_line_of first words =
    if bytes_eq first (codes "end") then alone words repeat.End
    else made repeat.Command (command_of first words)
