-- THE TURNS OF A JOURNAL, told by who began them.
use Rattle.std.specs.Prelude.{Bool, true, not, List, [], ◌∷◌, ◌++◌, if◌then◌else◌}
use Rattle.journal.specs.declared.by.By.{By}
use Rattle.journal.specs.declared.by.By.TheVariants.{Actor, Pump}
use Rattle.journal.specs.declared.effect.Step.{Step}
use Rattle.journal.specs.declared.head.Head.{Head}
use Rattle.node_kernel.specs.Answers.{is_pumped}

-- a step begins a turn, and isn't one by which an actor settles a link in a turn that it began
abbrev pub begins_turn : By → Head → Bool
begins_turn (Actor k) head = not (is_pumped head)
begins_turn (Pump l) head = true

-- THE MAKERS OF THE TURNS, the oldest first
abbrev pub turn_makers : List Step → List By
turn_makers [] = []
turn_makers (s ∷ P) =
    if begins_turn s.by s.head then turn_makers P ++ s.by ∷ [] else turn_makers P
