-- What holds of every run with trunks.
use Rattle.std.specs.Prelude.{List, length}
use Rattle.journal.specs.Shapes.{Shape}
use Rattle.journal.specs.declared.effect.Step.{Step}
use Rattle.link_laws.specs.Runs.{IsBoundedRun, IsSoundRun, KeepsThroughout}
use Rattle.trunk_moves.specs.Steps.{IsBoundedTrunkRun}
use Rattle.trunk_moves.specs.Trunks.{AllKept, AllUseUpTo, RunTrunks, links_of}

-- A RUN OF MOVES: its steps are moves of a run with links, and every trunk is kept
pub record IsRunOfMoves (shape : Shape) (P : List Step) (trunks : RunTrunks) : Type 0 where
  pub run : IsBoundedRun shape P (links_of trunks)
  pub kept : AllKept shape trunks
  -- no side has more addresses in use than the run has steps
  pub used : AllUseUpTo shape (length P) trunks

-- EVERY RUN WITH TRUNKS IS A RUN OF MOVES
abbrev pub TrunkRunsAreRuns : Type 0
TrunkRunsAreRuns = (shape : Shape) (P : List Step) (trunks : RunTrunks)
    → IsBoundedTrunkRun shape P trunks → IsRunOfMoves shape P trunks

-- WHAT A RUN WITH TRUNKS KEEPS: it is legal, its links are what its history tells, and it keeps
-- what is promised of runs after each of its steps
pub record KeepsAll (shape : Shape) (P : List Step) (trunks : RunTrunks) : Type 0 where
  pub sound : IsSoundRun shape P (links_of trunks)
  pub promises : KeepsThroughout shape P (links_of trunks)

-- every run of trunks within its bounds keeps all
abbrev pub TrunkRunsKeepAll : Type 0
TrunkRunsKeepAll = (shape : Shape) (P : List Step) (trunks : RunTrunks)
    → IsBoundedTrunkRun shape P trunks → KeepsAll shape P trunks
