-- What becomes of the timers of a gateway, whatever is asked of it.
use Rattle.std.specs.Prelude.{◌≡◌, ◌≢◌, ℕ, ◌<◌, ◌≤◌, Some}
use Rattle.std.specs.List.{AllByRecursion}
use Rattle.linx_base.specs.FirstMatch.{first_match}
use Rattle.linx_timers.specs.declared.timer.Timer.{Timer}
use Rattle.linx_timers.specs.Times.{is_timer}
use Rattle.timer_laws.specs.Laws.{IsGone}
use Rattle.gateway_msgs.specs.declared.reply.Reply.{Reply}
use Rattle.gateway_msgs.specs.declared.request.Request.{Request}
use Rattle.gateway_msgs.specs.declared.request.Request.TheVariants as asks
use Rattle.gateway_core.specs.Handling.{FiresOne, GateState, Handles, IsGateway, Stops, Strikes}
use Rattle.gateway_core.specs.Handling.{timer_state}

-- no timer has this reference any more, and none will: it was given
abbrev pub HasGone : ℕ → GateState → Type 0
HasGone reference g = IsGone reference (timer_state g)

-- EACH TIMER'S SIGNAL IS SENT AT MOST ONCE, by the first clock that reaches it, and never once it was
-- cancelled or its client closed
pub record EachTimerIsSentOnce : Type 0 where
  -- what is sent was there, and is gone then
  pub sent : (moment : ℕ) (old new : GateState) → IsGateway old
      → (one : FiresOne moment old new) → HasGone one.timer.reference new
  pub was_there : (moment : ℕ) (old new : GateState) (one : FiresOne moment old new)
      → HasGone one.timer.reference old → ⊥
  -- what is cancelled is gone
  pub cancelled : (client reference : ℕ) (old new : GateState) (reply : Reply) (timer : Timer)
      → IsGateway old → first_match (is_timer client reference) old.timers ≡ Some timer
      → Handles client (asks.Cancel reference) old new reply → HasGone reference new
  -- a client that closes has no timer
  pub closed : (client : ℕ) (old new : GateState) (reply : Reply)
      → Handles client asks.Close old new reply
      → AllByRecursion (λ t. t.client ≢ client) new.timers
  -- what is gone stays so, whatever is asked, also where it stops
  pub gone : (reference client : ℕ) (request : Request) (old new : GateState) (reply : Reply)
      → Handles client request old new reply → HasGone reference old → HasGone reference new
  pub gone_at_stop : (reference : ℕ) (request : Request) (old new : GateState)
      → Stops request old new → HasGone reference old → HasGone reference new
  -- a clock sends what is due by its moment, and leaves what is due later
  pub reached : (moment : ℕ) (old new : GateState) (one : FiresOne moment old new)
      → one.timer.due ≤ moment
  pub later : (moment : ℕ) (old new : GateState) (reply : Reply) → Strikes moment old new reply
      → AllByRecursion (λ t. moment < t.due) new.timers
