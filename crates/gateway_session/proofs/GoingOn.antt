-- The journal of a gateway goes on.
use Rattle.std.proofs.Common.{◌≡◌, ℕ, zero, suc, Bool, true, false, List, [], ◌∷◌, ◌++◌, refl, sym}
use Rattle.std.proofs.Common.{ap, ◌∙◌, inl, inr, append_assoc, ◌||◌, ◌+◌, nat_lt, Option, Some}
use Rattle.std.proofs.Common.{None}
use Rattle.std.specs.List.{list_any}
use Rattle.linx_base.specs.FirstMatch.{without_match}
use Rattle.linx_base.specs.declared.identity.Inc.{Inc}
use Rattle.sigsel.specs.declared.sigsel.Sigsel.{Sigsel}
use Rattle.linx_base.specs.declared.identity.Peer.TheVariants.{Here}
use Rattle.journal.specs.History.{closed_step, endpoint_of}
use Rattle.journal.specs.declared.by.By.{By}
use Rattle.journal.specs.declared.by.By.TheVariants.{Actor}
use Rattle.journal.specs.declared.event.Event.TheVariants as events
use Rattle.journal.specs.declared.effect.Step.{Step}
use Rattle.journal.specs.declared.head.Head.{Head}
use Rattle.node_kernel.specs.declared.answers.StepAnswer.{StepAnswer}
use Rattle.node_kernel.specs.declared.ask.Ask.{Ask}
use Rattle.fabric.specs.Actings.{asking}
use Rattle.fabric.specs.Run.{Layout, IsStepFor, IsStepped}
use Rattle.linx_timers.specs.declared.timer.Due.{Due}
use Rattle.linx_timers.specs.Times.{is_timer, with_due}
use Rattle.gateway_msgs.specs.declared.reply.Reply.{Reply}
use Rattle.gateway_msgs.specs.declared.reply.Reply.TheVariants as replies
use Rattle.gateway_msgs.specs.declared.request.Request.{Request}
use Rattle.gateway_msgs.specs.declared.request.Request.TheVariants as asks
use Rattle.gateway_msgs.specs.Filters.{filter_of}
use Rattle.gateway_core.specs.Handling.{GateState, Fires, FiresOne, Handles, IfOpen, Stops}
use Rattle.gateway_core.specs.Handling.{IsMadeOf, IsSending, StopsAmid, Strikes, Clocks, Receives}
use Rattle.gateway_core.specs.Handling.{done_or_none, last_moment}
use Rattle.gateway_session.specs.Laws.{GoesOnFrom}
use Rattle.gateway_session.specs.Replying.{Leaves, Replies}

-- ---- one step, or none

-- the steps of a layout stand behind further ones in another
record Grows (old new : Layout) : Type 0 where
  made : List Step
  is : new.log.steps ≡ made ++ old.log.steps

step_for : (old new : Layout) (by : By) (head : Option Head) (answer : StepAnswer)
    → IsStepFor old new by head answer → Grows old new
step_for old new by None answer is =
    record { made = []; is = ap (λ (f : Layout). f.log.steps) is.0 }
step_for old new by (Some head) answer is =
    record { made = record { by = by; head = head; effects = is.effects } ∷ []; is = is.steps }

stepped : (old new : Layout) (by : By) (ask : Ask) (answer : StepAnswer)
    → IsStepped old new by ask answer → Grows old new
stepped old new by ask answer is = step_for old new by _ answer is

made_of : (client : ℕ) (ask : Ask) (old new : Layout) (reply : Reply)
    → IsMadeOf client ask old new reply → Grows old new
made_of client ask old new reply is = stepped old new (Actor client) ask is.answer is.stepped

sending : (t : Due) (old new : Layout) → IsSending t old new → Grows old new
sending t old new is =
    stepped old new (Actor t.client) (asking (events.Send (Here is.inc)) (Some t.signal)) is.answer
    is.stepped

-- ---- states

of_layouts : (old new : GateState) → Grows old.layout new.layout → GoesOnFrom old new
of_layouts old new grows = record { made = grows.made; is = grows.is }

same : (old new : GateState) → new ≡ old → GoesOnFrom old new
same old new is = record { made = []; is = ap (λ (g : GateState). g.layout.log.steps) is }

-- the layout stays
kept : (old new : GateState) → new.layout ≡ old.layout → GoesOnFrom old new
kept old new is = record { made = []; is = ap (λ (f : Layout). f.log.steps) is }

both : (a b c : GateState) → GoesOnFrom a b → GoesOnFrom b c → GoesOnFrom a c
both a b c first second = record {
  made = second.made ++ first.made;
  is = second.is ∙ ap (λ l. second.made ++ l) first.is
      ∙ sym (append_assoc second.made first.made a.layout.log.steps);
}

receives : (client : ℕ) (selected : Option Sigsel) (old new : GateState) (reply : Reply)
    → Receives client selected old new reply → GoesOnFrom old new
receives client None old new reply is = same old new is.1
receives client (Some selected) old new reply is =
    of_layouts old new (made_of client _ old.layout new.layout reply is.made)

-- what needs an open endpoint leaves the layout
where_open : (own : Option Inc) (at : ℕ) (old new made : GateState) (reply answer : Reply)
    → made.layout ≡ old.layout → IfOpen own at old new reply ((reply ≡ answer) × (new ≡ made))
    → GoesOnFrom old new
where_open None at old new made reply answer stays is = same old new is.1
where_open (Some inc) at old new made reply answer stays is =
    kept old new (ap (λ (g : GateState). g.layout) is.1 ∙ stays)

-- ---- the clock

fires_one : (moment : ℕ) (old new : GateState) → FiresOne moment old new → GoesOnFrom old new
fires_one moment old new is =
    of_layouts old new (sending _ old.layout new.layout is.sent)

fires : (moment count : ℕ) (old new : GateState) → Fires moment count old new → GoesOnFrom old new
fires moment zero old new is = same old new is
fires moment (suc n) old new is =
    both old is.0 new (fires moment n old is.0 is.1.0) (fires_one moment is.0 new is.1.1)

strikes : (moment : ℕ) (old new : GateState) (reply : Reply) → Strikes moment old new reply
    → GoesOnFrom old new
strikes moment old new reply is =
    both old is.struck new (fires moment is.count old is.struck is.fires)
    (kept is.struck new (ap (λ (g : GateState). g.layout) is.is))

clocks : (late : Bool) (moment : ℕ) (old new : GateState) (reply : Reply)
    → Clocks late moment old new reply → GoesOnFrom old new
clocks true moment old new reply is = same old new is.1
clocks false moment old new reply is = strikes moment old new reply is

-- ---- every request

handled : (client : ℕ) (request : Request) (old new : GateState) (reply : Reply)
    → Handles client request old new reply → GoesOnFrom old new
handled client (asks.Receive count numbers) old new reply is =
    receives client (filter_of count numbers) old new reply is
handled client (asks.Timer delay signal) old new reply is =
    where_open (endpoint_of old.layout.log.steps client) (closed_step old.layout.log.steps client)
    old new
    (record old {
      timers = old.timers ++ record {
        client = client;
        reference = old.requested + 1;
        due = old.clock + delay;
        signal = signal;
      } ∷ [];
      requested = old.requested + 1;
    })
    reply (replies.Number (old.requested + 1)) refl is
handled client (asks.Cancel reference) old new reply is =
    where_open (endpoint_of old.layout.log.steps client) (closed_step old.layout.log.steps client)
    old new
    (record old { timers = without_match (is_timer client reference) old.timers })
    reply (done_or_none (list_any (is_timer client reference) old.timers)) refl is
handled client (asks.Modify reference delay) old new reply is =
    where_open (endpoint_of old.layout.log.steps client) (closed_step old.layout.log.steps client)
    old new
    (record old { timers = with_due client reference (old.clock + delay) old.timers })
    reply (done_or_none (list_any (is_timer client reference) old.timers)) refl is
handled client (asks.Clock moment) old new reply is =
    clocks (nat_lt moment old.clock || nat_lt last_moment moment) moment old new reply is
handled client _ old new reply is =
    of_layouts old new (made_of client _ old.layout new.layout reply is.made)

amid : (moment : ℕ) (old new : GateState) → StopsAmid moment old new → GoesOnFrom old new
amid moment old new is =
    both old is.sent new (fires moment is.count old is.sent is.fires)
    (kept is.sent new (ap (λ (g : GateState). g.layout) is.rest))

stops : (request : Request) (old new : GateState) → Stops request old new → GoesOnFrom old new
stops (asks.Clock moment) old new is = amid moment old new is
stops _ old new is = same old new is

pub replied : (old new : GateState) (bytes reply : List ℕ) → Replies old bytes new reply
    → GoesOnFrom old new
replied old new bytes reply is = handled is.client is.request old new is.answer is.handled

pub left : (old new : GateState) (bytes : List ℕ) → Leaves old bytes new → GoesOnFrom old new
left old new bytes (inl is) = same old new is
left old new bytes (inr is) = stops is.request old new is.stops
