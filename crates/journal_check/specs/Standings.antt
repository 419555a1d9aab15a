-- How an actor stands after a history.
use Rattle.std.specs.Prelude.{ℕ, zero, suc, ◌≡◌, ◌<◌, Bool, false, ◌&&◌, ◌||◌, List, length, Option}
use Rattle.std.specs.Prelude.{Some, None, if◌then◌else◌, slice_get}
use Rattle.journal.specs.declared.effect.Effect.{Effect}
use Rattle.journal.specs.declared.effect.Step.{Step}
use Rattle.journal.specs.declared.head.Head.{Head}
use Rattle.journal.specs.History.{endpoint_of, has_ended, is_end, last_opened}
use Rattle.journal.specs.History.{unless_closed}
use Rattle.journal.specs.Rest.{waits_in, waits_with}
use Rattle.journal_check.specs.declared.standing.Standing.{Standing}

-- an actor before its first step
abbrev pub fresh : Standing
fresh = record { endpoint = None; waits = None; ended = false }

-- an actor as the history leaves it
abbrev pub standing_left : List Step → ℕ → Standing
standing_left P k = record {
  endpoint = endpoint_of P k;
  waits = waits_with P k;
  ended = has_ended P k;
}

-- an actor past a step, which it made or another one did
abbrev pub standing_past : Bool → Head → List Effect → Standing → Standing
standing_past mine head es old = record {
  endpoint = unless_closed es (if mine then last_opened old.endpoint es else old.endpoint);
  waits = if mine then waits_in head else old.waits;
  ended = (mine && is_end head) || old.ended;
}

-- the standings are those of the actors from 1 on, as the history leaves them
abbrev pub AreStandingsLeft : List Step → List Standing → Type 0
AreStandingsLeft P standings =
    (k : ℕ) → k < length standings → slice_get standings k ≡ Some (standing_left P (suc k))

-- how actor k stands, from 1; none where there is none
abbrev pub standing_of : List Standing → ℕ → Option Standing
standing_of standings zero = None
standing_of standings (suc k) = slice_get standings k
