-- The ties of a journal: which lines belong together.
use Rattle.std.specs.Prelude.{ℕ, suc, ◌+◌, List, [], ◌∷◌, ◌++◌, length}
use Rattle.linx_base.specs.declared.identity.ItemAt.{ItemAt}
use Rattle.journal.specs.declared.head.Detached.{Detached}
use Rattle.journal.specs.declared.head.Detached.TheVariants.{Pending, Queued, None as Neither}
use Rattle.journal.specs.declared.head.Head.{Head}
use Rattle.journal.specs.declared.head.Head.TheVariants.{Send, Take, Detach as Detaches}
use Rattle.journal.specs.declared.effect.Effect.{Effect}
use Rattle.journal.specs.declared.effect.Effect.TheVariants.{Arrived, Found, Notified}
use Rattle.journal.specs.declared.effect.Step.{Step}
use Rattle.chart.specs.declared.tie.Tie.{Tie}
use Rattle.chart.specs.declared.tie.TieKind.{TieKind}
use Rattle.chart.specs.declared.tie.TieKind.TheVariants.{Signal, Taken, Hunt, Attach, Detach}
use Rattle.chart.specs.Marks.{line_at}

-- a tie of this kind from one line to another
abbrev pub tie : TieKind → ItemAt → ItemAt → Tie
tie kind from to = record { kind = kind; from = from; to = to }

-- an attach that this step detached, pending or with its notification queued
abbrev pub detach_ties : ℕ → ℕ → Detached → List Tie
detach_ties position reference Pending =
    tie Detach (line_at reference 0) (line_at position 0) ∷ []
detach_ties position reference Queued =
    tie Detach (line_at reference 0) (line_at position 0) ∷ []
detach_ties position reference Neither = []

-- what ends at a step's own line: the item that it took, or the attach that it detached
abbrev pub head_ties : ℕ → Head → List Tie
head_ties position (Take filter at) = tie Taken at (line_at position 0) ∷ []
head_ties position (Detaches reference answer) = detach_ties position reference.0 answer
head_ties position _ = []

-- the signal that a step sent and that arrived in the same step
abbrev pub signal_ties : ℕ → ℕ → Head → List Tie
signal_ties position place (Send peer note answer) =
    tie Signal (line_at position 0) (line_at position place) ∷ []
signal_ties position place _ = []

-- what ends at the line of an effect: the signal that the step sent, the hunt that was answered,
-- the attach that is notified
abbrev pub effect_tie : ℕ → ℕ → Head → Effect → List Tie
effect_tie position place head (Arrived i peer note) = signal_ties position place head
effect_tie position place head (Found i peer note hunt) =
    tie Hunt (line_at hunt 0) (line_at position place) ∷ []
effect_tie position place head (Notified i peer note reference reason) =
    tie Attach (line_at reference.0 0) (line_at position place) ∷ []
effect_tie position place head _ = []

-- what ends at the lines of a step's effects, from this place on
abbrev pub effect_ties : ℕ → ℕ → Head → List Effect → List Tie
effect_ties position place head [] = []
effect_ties position place head (e ∷ es) =
    effect_tie position place head e ++ effect_ties position (place + 1) head es

-- THE TIES ON NODES, in the order of the lines where they end
abbrev pub ties_of : List Step → List Tie
ties_of [] = []
ties_of (s ∷ P) =
    ties_of P
    ++ (head_ties (suc (length P)) s.head ++ effect_ties (suc (length P)) 1 s.head s.effects)
