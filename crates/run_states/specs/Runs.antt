-- Runs from given trunks on.
use Rattle.std.specs.Prelude.{List, [], ◌∷◌}
use Rattle.journal.specs.Shapes.{Shape}
use Rattle.journal.specs.declared.effect.Step.{Step}
use Rattle.trunk_moves.specs.Steps.{IsTrunkStep}
use Rattle.trunk_moves.specs.Trunks.{Become, RunTrunks}

-- A RUN FROM THESE TRUNKS ON: each step makes of them what its kind makes of them
abbrev pub IsRunFrom : Shape → RunTrunks → List Step → RunTrunks → Type 0
IsRunFrom shape first [] trunks = Become shape trunks first
IsRunFrom shape first (s ∷ P) after =
    (before : RunTrunks)
    × (IsRunFrom shape first P before × IsTrunkStep shape P before s after)
