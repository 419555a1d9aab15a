-- Commands again and again.
use Rattle.std.specs.Prelude.{ℕ, List}
use Rattle.std.specs.List.{repeat}
use Rattle.script_words.specs.declared.command.Command.{Command}

-- so many copies of a block of commands, one behind the other
unfoldable pub copies : ℕ → List Command → List Command
copies times block = repeat times block
