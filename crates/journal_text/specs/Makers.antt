-- Whose step is whose, in any journal. In a legal one, where no incarnation is opened twice, it is
-- the endpoint of the step's maker.
use Rattle.std.specs.Prelude.{List, Option, Some, None, if◌then◌else◌}
use Rattle.linx_base.specs.declared.identity.Inc.{Inc}
use Rattle.journal.specs.declared.by.By.{By}
use Rattle.journal.specs.declared.by.By.TheVariants.{Actor, Pump}
use Rattle.journal.specs.declared.effect.Step.{Step}
use Rattle.journal.specs.History.{is_closed, last_endpoint}

-- an incarnation, if it wasn't closed
abbrev pub if_not_closed : List Step → Option Inc → Option Inc
if_not_closed P None = None
if_not_closed P (Some i) = if is_closed P i then None else Some i

-- whose step it is: the incarnation that its maker opened last, unless that was closed
abbrev pub owner_by : List Step → By → Option Inc
owner_by P (Actor k) = if_not_closed P (last_endpoint P k)
owner_by P (Pump link) = None
