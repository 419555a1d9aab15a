-- THE MAKERS OF THE TURNS of a journal.
use Rattle.std.specs.Prelude.{ℕ, ◌+◌, Bool, true, not, List, [], ◌∷◌, ◌++◌, length, if◌then◌else◌}
use Rattle.journal.specs.declared.by.By.{By}
use Rattle.journal.specs.declared.by.By.TheVariants.{Actor, Pump}
use Rattle.journal.specs.declared.effect.Step.{Step}
use Rattle.journal.specs.declared.head.Head.{Head}
use Rattle.node_kernel.specs.Answers.{is_pumped}
use Rattle.script_lang.specs.Parts.{ScriptParts}

-- the number of a maker: those of the links come behind those of the actors
abbrev pub number_of : ScriptParts → By → ℕ
number_of script (Actor k) = k
number_of script (Pump l) = length script.actors + l.0

-- a step begins a turn, and isn't one by which an actor settles a link in a turn that it began
abbrev pub begins_turn : By → Head → Bool
begins_turn (Actor k) head = not (is_pumped head)
begins_turn (Pump l) head = true

-- the makers of the turns, the oldest first
abbrev pub turns_of : ScriptParts → List Step → List ℕ
turns_of script [] = []
turns_of script (s ∷ P) =
    if begins_turn s.by s.head
    then turns_of script P ++ number_of script s.by ∷ []
    else turns_of script P
