-- A journal that is full takes no call, and no signal of a timer.
use Rattle.std.proofs.Common.{◌≡◌, ◌≢◌, ℕ, zero, suc, Bool, true, false, List, Option, Some, None}
use Rattle.std.proofs.Common.{is_some, sym, subst, ◌∙◌, ◌||◌, nat_lt}
use Rattle.linx_base.specs.FirstMatch.{first_match}
use Rattle.linx_timers.specs.Times.{is_next}
use Rattle.linx_timers.specs.declared.timer.Timer.{Timer}
use Rattle.sigsel.specs.declared.sigsel.Sigsel.{Sigsel}
use Rattle.journal.specs.Logs.{is_full}
use Rattle.gateway_msgs.specs.declared.reply.Reply.{Reply}
use Rattle.gateway_msgs.specs.declared.reply.Reply.TheVariants as replies
use Rattle.gateway_msgs.specs.declared.request.Request.{Request}
use Rattle.gateway_msgs.specs.declared.request.Request.TheVariants as asks
use Rattle.gateway_msgs.specs.Filters.{filter_of}
use Rattle.gateway_core.specs.Handling.{Clocks, Fires, GateState, Handles, Receives, last_moment}
use Rattle.gateway_session.specs.Laws.{is_call}
use Rattle.gateway_session.specs.Replying.{Replies}

received : (client : ℕ) (selected : Option Sigsel) (old new : GateState) (reply : Reply)
    → Receives client selected old new reply → is_some selected ≡ true
    → is_full old.layout.log.steps ≡ false
received client None old new reply is call = absurd cc
received client (Some selected) old new reply is call = is.made.room

handled : (client : ℕ) (request : Request) (old new : GateState) (reply : Reply)
    → Handles client request old new reply → is_call request ≡ true
    → is_full old.layout.log.steps ≡ false
handled client (asks.Receive count numbers) old new reply is call =
    received client (filter_of count numbers) old new reply is call
handled client (asks.Timer delay signal) old new reply is call = absurd cc
handled client (asks.Cancel reference) old new reply is call = absurd cc
handled client (asks.Modify reference delay) old new reply is call = absurd cc
handled client (asks.Clock moment) old new reply is call = absurd cc
handled client _ old new reply is call = is.made.room

pub no_call : (old new : GateState) (bytes reply : List ℕ) (is : Replies old bytes new reply)
    → is_call is.request ≡ true → is_full old.layout.log.steps ≡ false
no_call old new bytes reply is call =
    handled is.client is.request old new is.answer is.handled call

-- the first signal that a clock sends found room
first_room : (moment n : ℕ) (old new : GateState) → Fires moment (suc n) old new
    → is_full old.layout.log.steps ≡ false
first_room moment zero old new is =
    subst (λ (g : GateState). is_full g.layout.log.steps ≡ false) is.1.0 is.1.1.sent.room
first_room moment (suc n) old new is = first_room moment n old is.0 is.1.0

-- and there was one where a timer is due
some_room : (moment n : ℕ) (old new : GateState) (timer : Timer) → Fires moment n old new
    → first_match (is_next moment old.timers) old.timers ≡ Some timer
    → first_match (is_next moment new.timers) new.timers ≡ None
    → is_full old.layout.log.steps ≡ false
some_room moment zero old new timer is due none =
    let same : first_match (is_next moment old.timers) old.timers ≡ None =
    subst (λ (g : GateState). first_match (is_next moment g.timers) g.timers ≡ None) is none in
    let both : Some timer ≡ None = sym due ∙ same in cc
some_room moment (suc n) old new timer is due none = first_room moment n old new is

clock_room : (refused : Bool) (moment : ℕ) (old new : GateState) (reply : Reply) (timer : Timer)
    → Clocks refused moment old new reply → reply ≢ replies.BadMoment
    → first_match (is_next moment old.timers) old.timers ≡ Some timer
    → is_full old.layout.log.steps ≡ false
clock_room true moment old new reply timer is taken due = absurd (taken is.0)
clock_room false moment old new reply timer is taken due =
    some_room moment is.count old is.struck timer is.fires due is.none_left

pub no_signal : (old new : GateState) (bytes reply : List ℕ) (is : Replies old bytes new reply)
    (moment : ℕ) (timer : Timer) → is.request ≡ asks.Clock moment → is.answer ≢ replies.BadMoment
    → first_match (is_next moment old.timers) old.timers ≡ Some timer
    → is_full old.layout.log.steps ≡ false
no_signal old new bytes reply is moment timer same taken due =
    clock_room (nat_lt moment old.clock || nat_lt last_moment moment) moment old new is.answer timer
    (subst (λ r. Handles is.client r old new is.answer) same is.handled) taken due
