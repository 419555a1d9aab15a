-- WHO IS READY: whose turn makes a step.
use Rattle.std.specs.Prelude.{ℕ, ◌-◌, ◌<◌, ◌≤◌, ◌≡◌, Bool, true, false, not, ◌&&◌, length, nat_le}
use Rattle.journal.specs.History.{has_ended}
use Rattle.journal.specs.Rest.{is_idle}
use Rattle.run_trunks.specs.States.{trunks_of}
use Rattle.script_lang.specs.Parts.{ScriptParts}
use Rattle.fabric.specs.Links.{no_link_stirs}
use Rattle.fabric.specs.Machine.{is_at_rest}
use Rattle.fabric.specs.Run.{Layout}
use Rattle.stage.specs.Settlings.{stirs_in}
use Rattle.stage.specs.Turns.{makers}

-- an actor waits on: it waits in vain, and isn't at rest, or a link stirs, so that a receive of it
-- doesn't find none yet
abbrev pub waits_on : Layout → ℕ → Bool
waits_on f k =
    is_idle f.log.steps k
    && not (is_at_rest f.shape f.log.steps k
    && no_link_stirs f.shape f.log.steps (trunks_of f.trunks))

-- an actor is ready: it hasn't ended, and doesn't wait on
abbrev pub is_actor_ready : Layout → ℕ → Bool
is_actor_ready f k = not (has_ended f.log.steps k) && not (waits_on f k)

-- a maker is ready, by whether it is an actor: a link is while it stirs
abbrev pub is_ready_by : Bool → ScriptParts → Layout → ℕ → Bool
is_ready_by true script f n = is_actor_ready f n
is_ready_by false script f n = stirs_in f (record { 0 = n - length script.actors })

-- THE MAKER of this number IS READY: the numbers of the links come behind those of the actors
abbrev pub is_ready : ScriptParts → Layout → ℕ → Bool
is_ready script f n = is_ready_by (nat_le n (length script.actors)) script f n

-- one of the makers is ready
pub record IsSomeReady (script : ScriptParts) (f : Layout) : Type 0 where
  pub maker : ℕ
  pub above : 0 < maker
  pub within : maker ≤ makers script
  pub ready : is_ready script f maker ≡ true
