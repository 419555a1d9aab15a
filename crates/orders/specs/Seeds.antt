-- How long a run is taken to be, for the rule of a seed.
use Rattle.std.specs.Prelude.{ℕ, ◌+◌, ◌*◌, length}
use Rattle.script_lang.specs.Fits.{command_count}
use Rattle.script_lang.specs.Parts.{ScriptParts}

-- about so many steps: one for each command and for each end of an actor, and forty for each link
abbrev pub span_of : ScriptParts → ℕ
span_of script =
    1 + command_count script.actors + length script.actors + 40 * length script.links
