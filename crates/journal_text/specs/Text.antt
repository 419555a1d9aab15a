-- The whole text of a journal.
use Rattle.std.specs.Prelude.{ℕ, suc, ◌++◌, List, [], ◌∷◌, length, codes, decimal}
use Rattle.linx_base.specs.declared.name.Names.{Names}
use Rattle.journal.specs.declared.effect.Step.{Step}
use Rattle.journal.specs.Logs.{Log}
use Rattle.sha2.specs.Sha256.{sha256}
use Rattle.journal_text.specs.Values.{Digest}
use Rattle.journal_text.specs.Steps.{step_text}
use Rattle.journal_text.specs.Blocks.{logs_text}

-- the line between the logs and the steps: how many steps there are
unfoldable pub count_text : ℕ → List ℕ
count_text count = codes "journal " ++ decimal count ++ codes "\n"

-- the steps in order
unfoldable pub steps_text : Digest → Names → List Step → List ℕ
steps_text digest names [] = []
steps_text digest names (s ∷ P) = steps_text digest names P ++ step_text digest names (suc (length P)) s

-- the text, if there are steps
abbrev pub text_if_steps : Digest → Log → List Step → List ℕ
text_if_steps digest log [] = []
text_if_steps digest log (s ∷ P) =
    logs_text digest log ++ count_text (length log.steps) ++ steps_text digest log.names log.steps

-- the text of a journal with this digest: nothing where it has no steps; else the logs of all
-- opened incarnations in order of opening, the number of steps, and the steps
abbrev pub text_by : Digest → Log → List ℕ
text_by digest log = text_if_steps digest log log.steps

-- the text of a journal
abbrev pub text_of : Log → List ℕ
text_of log = text_by sha256 log
