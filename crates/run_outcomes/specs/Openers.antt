-- WHO OPENED THE ENDPOINTS OF A RUN.
use Rattle.std.specs.Prelude.{ℕ, ◌+◌, ◌==◌, List, [], ◌∷◌, ◌++◌, Option, Some, None}
use Rattle.std.specs.List.{count_by}
use Rattle.linx_base.specs.declared.identity.Inc.{Inc}
use Rattle.journal.specs.declared.by.By.{By}
use Rattle.journal.specs.declared.by.By.TheVariants.{Actor}
use Rattle.journal.specs.declared.effect.Effect.{Effect}
use Rattle.journal.specs.declared.effect.Step.{Step}
use Rattle.journal.specs.History.{opened_in}
use Rattle.run_outcomes.specs.declared.openers.Opener.{Opener}

-- the endpoint that a step opens: its first effect says so
abbrev pub opening_of : List Effect → Option Inc
opening_of [] = None
opening_of (e ∷ es) = opened_in e

-- these endpoints, and one more that an actor opened
abbrev pub with_opened : List Opener → By → Option Inc → List Opener
with_opened table (Actor k) (Some i) =
    table ++ (record { inc = i; actor = k; nth = count_by (λ o. o.actor == k) table + 1 }) ∷ []
with_opened table by opened = table

-- these endpoints, and the one that a step opens
abbrev pub with_opening : List Opener → Step → List Opener
with_opening table s = with_opened table s.by (opening_of s.effects)

-- THE ENDPOINTS THAT STEPS OPENED, in order
abbrev pub openers : List Step → List Opener
openers [] = []
openers (s ∷ P) = with_opening (openers P) s
