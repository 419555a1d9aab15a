-- What becomes of the timers of a gateway: each request changes them as one of the calls does.
use Rattle.std.proofs.Common.{◌≡◌, ◌≢◌, ℕ, zero, suc, ◌+◌, ◌<◌, Bool, true, false, sym, ap, subst}
use Rattle.std.proofs.Common.{inl, inr, arith, Option, Some, None, IsSome, ◌||◌, ◌==◌, nat_lt}
use Rattle.std.specs.List.{AllByRecursion}
use Rattle.std.proofs.lemmas.Bool.{cases_Bool}
use Rattle.std.proofs.lemmas.Bool.Decides.{nat_tests}
use Rattle.linx_base.specs.FirstMatch.{first_match}
use Rattle.linx_base.specs.declared.identity.Inc.{Inc}
use Rattle.sigsel.specs.declared.sigsel.Sigsel.{Sigsel}
use Rattle.journal.specs.History.{closed_step, endpoint_of}
use Rattle.linx_timers.specs.declared.timer.Timer.{Timer}
use Rattle.linx_timers.specs.Times.{is_timer}
use Rattle.linx_timers.proofs.Taking.{all_first, first_passes}
use Rattle.timer_laws.specs.Laws.{IsGone, Stays, TimerState}
use Rattle.timer_laws.proofs.Sending.{in_time, once}
use Rattle.gateway_msgs.specs.Filters.{filter_of}
use Rattle.gateway_msgs.specs.declared.reply.Reply.{Reply}
use Rattle.gateway_msgs.specs.declared.request.Request.{Request}
use Rattle.gateway_msgs.specs.declared.request.Request.TheVariants as asks
use Rattle.gateway_core.specs.Handling.{Clocks, Fires, FiresOne, GateState, Handles, IfOpen}
use Rattle.gateway_core.specs.Handling.{Receives, IsGateway, IsOwner, Stops, Strikes, last_moment}
use Rattle.gateway_core.specs.Handling.{timer_state}
use Rattle.gateway_core.specs.Timers.{EachTimerIsSentOnce}

-- SOMETHING THAT EACH CALL KEEPS
module _ (P : TimerState → Type 0) (stays : Stays P) where
  -- is kept where the timers and their count are
  same : (old new : GateState) → timer_state new ≡ timer_state old → P (timer_state old)
      → P (timer_state new)
  same old new is here = subst P (sym is) here

  if_open : (e : Option Inc) (at : ℕ) (old new : GateState) (reply : Reply) (done : Type 0)
      → IfOpen e at old new reply done → (done → P (timer_state new)) → P (timer_state old)
      → P (timer_state new)
  if_open None at old new reply done is then here = same old new (ap timer_state is.1) here
  if_open (Some inc) at old new reply done is then here = then is

  receives : (client : ℕ) (filter : Option Sigsel) (old new : GateState) (reply : Reply)
      → Receives client filter old new reply → P (timer_state old) → P (timer_state new)
  receives client None old new reply is here = same old new (ap timer_state is.1) here
  receives client (Some selected) old new reply is here =
      same old new (ap timer_state is.rest) here

  fires_one : (moment : ℕ) (old new : GateState) → FiresOne moment old new → P (timer_state old)
      → P (timer_state new)
  fires_one moment old new one here =
      subst P (sym (ap timer_state one.rest)) (stays.sending moment (timer_state old) here)

  fires : (moment n : ℕ) (old new : GateState) → Fires moment n old new → P (timer_state old)
      → P (timer_state new)
  fires moment zero old new is here = same old new (ap timer_state is) here
  fires moment (suc n) old new is here =
      fires_one moment is.0 new is.1.1 (fires moment n old is.0 is.1.0 here)

  strikes : (moment : ℕ) (old new : GateState) (reply : Reply) → Strikes moment old new reply
      → P (timer_state old) → P (timer_state new)
  strikes moment old new reply is here =
      same is.struck new (ap timer_state is.is) (fires moment is.count old is.struck is.fires here)

  clocks : (b : Bool) (moment : ℕ) (old new : GateState) (reply : Reply)
      → Clocks b moment old new reply → P (timer_state old) → P (timer_state new)
  clocks true moment old new reply is here = same old new (ap timer_state is.1) here
  clocks false moment old new reply is here = strikes moment old new reply is here

  pub handled : (client : ℕ) (request : Request) (old new : GateState) (reply : Reply)
      → Handles client request old new reply → P (timer_state old) → P (timer_state new)
  handled client asks.Close old new reply is here =
      subst P (sym (ap timer_state is.rest)) (stays.close client (timer_state old) here)
  handled client (asks.Receive count numbers) old new reply is here =
      receives client (filter_of count numbers) old new reply is here
  handled client (asks.Timer delay signal) old new reply is here =
      if_open (endpoint_of old.layout.log.steps client) (closed_step old.layout.log.steps client)
      old new reply _ is
      (λ done. subst P (sym (ap timer_state done.1))
      (stays.request client (old.clock + delay) signal (timer_state old) here)) here
  handled client (asks.Cancel reference) old new reply is here =
      if_open (endpoint_of old.layout.log.steps client) (closed_step old.layout.log.steps client)
      old new reply _ is
      (λ done. subst P (sym (ap timer_state done.1))
      (stays.cancel client reference (timer_state old) here)) here
  handled client (asks.Modify reference delay) old new reply is here =
      if_open (endpoint_of old.layout.log.steps client) (closed_step old.layout.log.steps client)
      old new reply _ is
      (λ done. subst P (sym (ap timer_state done.1))
      (stays.modify client reference (old.clock + delay) (timer_state old) here)) here
  handled client (asks.Clock moment) old new reply is here =
      clocks (nat_lt moment old.clock || nat_lt last_moment moment) moment old new reply is here
  handled client _ old new reply is here = same old new (ap timer_state is.rest) here

  pub stopped : (request : Request) (old new : GateState) → Stops request old new
      → P (timer_state old) → P (timer_state new)
  stopped (asks.Clock moment) old new is here =
      subst P (sym (ap timer_state is.rest)) (stays.sending moment (timer_state is.sent)
      (fires moment is.count old is.sent is.fires here))
  stopped _ old new is here = same old new (ap timer_state is) here

-- WHAT IS CANCELLED IS GONE: its client has an endpoint, since each timer's has
client-is : (client reference : ℕ) (t : Timer) → is_timer client reference t ≡ true
    → client ≡ t.client
client-is client reference t is = elim (cases_Bool (client == t.client)) [
  | inl hit ↦ grind (arith, nat_tests)
  | inr miss ↦ let out : false ≡ true = rw miss at is in cc
]

cancelled : (client reference : ℕ) (old new : GateState) (reply : Reply) (timer : Timer)
    → IsGateway old → first_match (is_timer client reference) old.timers ≡ Some timer
    → Handles client (asks.Cancel reference) old new reply → IsGone reference (timer_state new)
cancelled client reference old new reply timer is found handles =
    let own : IsOwner old.layout timer.client =
    all_first (λ (t : Timer). IsOwner old.layout t.client) (is_timer client reference) old.timers
    timer is.owners found in
    let mine : client ≡ timer.client = client-is client reference timer
    (first_passes (is_timer client reference) old.timers timer found) in
    let some : IsSome (endpoint_of old.layout.log.steps client) =
    subst (λ (c : ℕ). IsSome (endpoint_of old.layout.log.steps c)) (sym mine) own.is_open in
    go (endpoint_of old.layout.log.steps client) (closed_step old.layout.log.steps client) _ some
    handles (λ done. subst (IsGone reference) (sym (ap timer_state done.1))
    (once.cancelled client reference (timer_state old) timer is.numbered found))
  where
    go : (e : Option Inc) (at : ℕ) (done : Type 0) → IsSome e → IfOpen e at old new reply done
        → (done → IsGone reference (timer_state new)) → IsGone reference (timer_state new)
    go None at done some does then = cc
    go (Some inc) at done some does then = then does

pub each_timer_once : EachTimerIsSentOnce
each_timer_once = record {
  sent = λ moment old new is one.
      subst (IsGone one.timer.reference) (sym (ap timer_state one.rest))
      (once.sent moment (timer_state old) one.timer is.numbered one.due);
  was_there = λ moment old new one gone.
      once.was_there moment (timer_state old) one.timer one.due gone;
  cancelled = cancelled;
  closed = λ client old new reply is.
      subst (λ (g : GateState). AllByRecursion (λ (t : Timer). t.client ≢ client) g.timers)
      (sym is.rest) (once.closed client (timer_state old));
  gone = λ reference. handled (IsGone reference) (once.gone reference);
  gone_at_stop = λ reference. stopped (IsGone reference) (once.gone reference);
  reached = λ moment old new one. in_time.reached moment (timer_state old) one.timer one.due;
  later = λ moment old new reply is.
      subst (λ (g : GateState). AllByRecursion (λ (t : Timer). moment < t.due) g.timers)
      (sym is.is) (in_time.later moment (timer_state is.struck) is.none_left);
}
