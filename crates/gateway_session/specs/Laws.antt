-- What follows for the journal of a session.
use Rattle.std.specs.Prelude.{◌≡◌, ◌≢◌, ℕ, Bool, true, false, List, ◌++◌, is_some, Some}
use Rattle.linx_base.specs.FirstMatch.{first_match}
use Rattle.linx_timers.specs.Times.{is_next}
use Rattle.linx_timers.specs.declared.timer.Timer.{Timer}
use Rattle.journal.specs.Logs.{is_full}
use Rattle.journal.specs.declared.effect.Step.{Step}
use Rattle.gateway_msgs.specs.Filters.{filter_of}
use Rattle.gateway_msgs.specs.declared.reply.Reply.TheVariants as replies
use Rattle.gateway_msgs.specs.declared.request.Request.{Request}
use Rattle.gateway_msgs.specs.declared.request.Request.TheVariants as asks
use Rattle.gateway_core.specs.Handling.{GateState}
use Rattle.gateway_session.specs.Replying.{Leaves, Replies}

-- a gateway's journal goes on: further steps were made, the newest first, and all that was done stays
pub record GoesOnFrom (old new : GateState) : Type 0 where
  pub made : List Step
  pub is : new.layout.log.steps ≡ made ++ old.layout.log.steps

-- THE STEPS OF EACH REQUEST STAND DIRECTLY ON THOSE OF THE REQUESTS BEFORE IT, also where it is
-- stopped
pub record EachGoesOn : Type 0 where
  pub replied : (old new : GateState) (bytes reply : List ℕ) → Replies old bytes new reply
      → GoesOnFrom old new
  pub stopped : (old new : GateState) (bytes : List ℕ) → Leaves old bytes new → GoesOnFrom old new

-- the request is a call that makes a step, or waits for one: no timer's, not the clock, and no
-- receive whose count is wrong
abbrev pub is_call : Request → Bool
is_call (asks.Open name) = true
is_call asks.Close = true
is_call (asks.Send to signal) = true
is_call (asks.Receive count numbers) = is_some (filter_of count numbers)
is_call (asks.Hunt name) = true
is_call (asks.Attach peer) = true
is_call (asks.Detach attach) = true
is_call (asks.Timer delay signal) = false
is_call (asks.Cancel reference) = false
is_call (asks.Modify reference delay) = false
is_call (asks.Clock moment) = false

-- NO CALL IS REPLIED TO WHILE THE JOURNAL IS FULL
abbrev pub NoCallWhereFull : Type 0
NoCallWhereFull =
    (old new : GateState) (bytes reply : List ℕ) (is : Replies old bytes new reply)
    → is_call is.request ≡ true → is_full old.layout.log.steps ≡ false

-- NO TIMER'S SIGNAL IS SENT WHILE THE JOURNAL IS FULL: a clock that has one to send isn't replied to
abbrev pub NoSignalWhereFull : Type 0
NoSignalWhereFull =
    (old new : GateState) (bytes reply : List ℕ) (is : Replies old bytes new reply) (moment : ℕ)
    (timer : Timer) → is.request ≡ asks.Clock moment → is.answer ≢ replies.BadMoment
    → first_match (is_next moment old.timers) old.timers ≡ Some timer
    → is_full old.layout.log.steps ≡ false
