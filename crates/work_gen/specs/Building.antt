-- A generated script while it is built.
use Rattle.std.specs.Prelude.{◌≡◌, ℕ, ◌+◌, ◌*◌, ◌-◌, ◌<◌, ◌≤◌, List, [], ◌++◌, length, true}
use Rattle.linx_base.specs.declared.identity.Side.{Side}
use Rattle.script_lang.specs.Limits.{actor_limit, all_commands_limit}
use Rattle.script_lang.specs.declared.actor_script.ActorScript.{ActorScript}
use Rattle.script_lang.specs.Parts.{ScriptParts, planned_verdicts}
use Rattle.script_lang.specs.Fits.{command_count, is_link}

-- the link of this number is declared, and a direction of it has no plan as yet
pub record IsUnplanned (s : ScriptParts) (k : ℕ) (from : Side) : Type 0 where
  pub link : is_link s (record { 0 = k }) ≡ true
  pub place : k - 1 < length s.plans
  pub plan : planned_verdicts s (record { 0 = k }) from ≡ []

-- the script with more actors
abbrev pub with_actors : ScriptParts → List ActorScript → ScriptParts
with_actors s actors = record s { actors = s.actors ++ actors }

-- no actor of the load has more commands
abbrev pub many_commands : ℕ
many_commands = 2000

-- so many actors more stay within the limits
pub record HasRoom (s : ScriptParts) (more : ℕ) : Type 0 where
  pub actors : length s.actors + more ≤ actor_limit
  pub commands : command_count s.actors + many_commands * more ≤ all_commands_limit
