-- THE OUTCOME OF A RUN: what each actor was told, in its order.
use Rattle.std.specs.Prelude.{ℕ, zero, suc, ◌++◌, Bool, ◌&&◌, List, [], ◌∷◌, codes, decimal}
use Rattle.std.specs.Prelude.{if◌then◌else◌}
use Rattle.journal.specs.declared.effect.Step.{Step}
use Rattle.journal.specs.declared.head.Head.{Head}
use Rattle.journal.specs.History.{is_by}
use Rattle.run_outcomes.specs.Answers.{answer_text, is_answer}
use Rattle.run_outcomes.specs.Openers.{openers}
use Rattle.run_outcomes.specs.declared.openers.Opener.{Opener}

-- what stands at the beginning of an actor's lines
unfoldable pub name_of : ℕ → List ℕ
name_of k = codes "A" ++ decimal k ++ codes " "

-- the line of an answer
unfoldable pub answer_line : List Opener → List Step → ℕ → Head → List ℕ
answer_line table steps k head = name_of k ++ answer_text table steps head ++ codes "\n"

-- a step answers an actor
abbrev pub is_told : ℕ → Step → Bool
is_told k s = is_by s.by k && is_answer s.head

-- what a step tells an actor
abbrev pub told_by : List Opener → List Step → ℕ → Step → List ℕ
told_by table steps k s = if is_told k s then answer_line table steps k s.head else []

-- what an actor was told by the steps P of a run of these steps, oldest first
abbrev pub told : List Opener → List Step → ℕ → List Step → List ℕ
told table steps k [] = []
told table steps k (s ∷ P) = told table steps k P ++ told_by table steps k s

-- what each of the first so many actors was told
abbrev pub told_all : List Opener → List Step → ℕ → List ℕ
told_all table steps zero = []
told_all table steps (suc n) = told_all table steps n ++ told table steps (suc n) steps

-- THE OUTCOME of a run with so many actors
unfoldable pub outcome_of : ℕ → List Step → List ℕ
outcome_of actors steps = told_all (openers steps) steps actors
