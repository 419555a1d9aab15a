-- What a whole session makes: the steps of its journal, and the signals that its timers send.
use Rattle.std.specs.Prelude.{◌≡◌, ◌≢◌, ℕ, zero, suc, ◌<◌, ◌≤◌, Bool, true, false, ◌||◌, nat_lt}
use Rattle.std.specs.Prelude.{List, [], ◌∷◌, ◌++◌, ⊤}
use Rattle.std.specs.List.{AllByRecursion}
use Rattle.std.proofs.Common.{inl, inr}
use Rattle.journal.specs.declared.effect.Step.{Step}
use Rattle.linx_timers.specs.declared.timer.Timer.{Timer}
use Rattle.timer_laws.specs.Laws.{AreNumbered}
use Rattle.request_stream.specs.Serving.{Exchange, AreServed, server_after}
use Rattle.gateway_msgs.specs.declared.reply.Reply.{Reply}
use Rattle.gateway_msgs.specs.declared.reply.Reply.TheVariants as replies
use Rattle.gateway_msgs.specs.declared.request.Request.{Request}
use Rattle.gateway_msgs.specs.declared.request.Request.TheVariants as asks
use Rattle.gateway_core.specs.Handling.{Clocks, Fires, GateState, Handles, Stops, last_moment}
use Rattle.gateway_core.specs.Handling.{timer_state}
use Rattle.gateway_core.specs.Timers.{HasGone}
use Rattle.gateway_session.specs.Replying.{Asks, Leaves, Replies}

-- the steps of so many requests, one after the other, the newest first: those of each stand directly
-- on those of the requests before it
abbrev pub AreMade : GateState → List (Exchange GateState) → List Step → Type 0
AreMade s [] made = made ≡ []
AreMade s (e ∷ es) made =
    (own : List Step) × (later : List Step) × (made ≡ later ++ own)
    × (e.server.layout.log.steps ≡ own ++ s.layout.log.steps) × AreMade e.server es later

-- the timers that send where so many are due in turn
abbrev pub fired : (moment n : ℕ) (old new : GateState) → Fires moment n old new → List Timer
fired moment zero old new is = []
fired moment (suc n) old new is = fired moment n old is.0 is.1.0 ++ is.1.1.timer ∷ []

-- the timers that send where a clock is told: none where it is refused, else those that are due
abbrev pub sent_by_clock : (refused : Bool) (moment : ℕ) (old new : GateState) (reply : Reply)
    → Clocks refused moment old new reply → List Timer
sent_by_clock true moment old new reply is = []
sent_by_clock false moment old new reply is = fired moment is.count old is.struck is.fires

-- the timers that send where a request is handled; a clock alone has some send
abbrev pub sent_by : (client : ℕ) (request : Request) (old new : GateState) (reply : Reply)
    → Handles client request old new reply → List Timer
sent_by client (asks.Clock moment) old new reply is =
    sent_by_clock (nat_lt moment old.clock || nat_lt last_moment moment) moment old new reply is
sent_by client _ old new reply is = []

-- the timers that send in so many requests that are replied to, one after the other
abbrev pub sent_in : (s : GateState) (es : List (Exchange GateState))
    → AreServed Asks Replies s es → List Timer
sent_in s [] served = []
sent_in s (e ∷ es) served =
    sent_by served.1.client served.1.request s e.server served.1.answer served.1.handled
    ++ sent_in e.server es served.2

-- the timers that sent in a request before it was stopped; a clock alone has some send
abbrev pub sent_at_stop : (request : Request) (old new : GateState) → Stops request old new
    → List Timer
sent_at_stop (asks.Clock moment) old new is = fired moment is.count old is.sent is.fires
sent_at_stop _ old new is = []

-- the timers that send where the bytes behind the requests are left: none where no request was
-- stopped
abbrev pub sent_last : (old : GateState) (bytes : List ℕ) (new : GateState)
    → Leaves old bytes new → List Timer
sent_last old bytes new (inl is) = []
sent_last old bytes new (inr is) = sent_at_stop is.request old new is.stops

-- none of these timers has this reference
abbrev pub NoneHas : ℕ → List Timer → Type 0
NoneHas reference ts = AllByRecursion (λ t. t.reference ≢ reference) ts

-- no reference comes twice
abbrev pub AreDistinct : List Timer → Type 0
AreDistinct [] = ⊤
AreDistinct (t ∷ ts) = NoneHas t.reference ts × AreDistinct ts

-- A WHOLE SESSION, from one state of a gateway to another
pub record IsWhole (old after : GateState) : Type 0 where
  -- the requests that were handled, one after the other, and what the one behind them leaves that
  -- wasn't
  pub exchanges : List (Exchange GateState)
  pub served : AreServed Asks Replies old exchanges
  pub behind : List ℕ
  pub leaves : Leaves (server_after old exchanges) behind after
  -- THE JOURNAL is the steps of the requests that were handled, and then those of the one that was
  -- stopped
  pub made : List Step
  pub are_made : AreMade old exchanges made
  pub last : List Step
  pub steps : after.layout.log.steps ≡ last ++ (made ++ old.layout.log.steps)
  -- EACH TIMER'S SIGNAL IS SENT AT MOST ONCE
  pub once : AreDistinct (sent_in old exchanges served
      ++ sent_last (server_after old exchanges) behind after leaves)

-- WHEN A TIMER'S SIGNAL IS SENT, in whatever comes behind a request
pub record EachTimerOverASession : Type 0 where
  -- never once it is gone
  pub gone : (reference : ℕ) (s : GateState) (es : List (Exchange GateState))
      (served : AreServed Asks Replies s es) → HasGone reference s
      → NoneHas reference (sent_in s es served)
  -- never after its cancel
  pub cancelled : (old new : GateState) (bytes reply : List ℕ) (is : Replies old bytes new reply)
      (reference : ℕ) → AreNumbered (timer_state old) → is.request ≡ asks.Cancel reference
      → is.answer ≡ replies.Done → (es : List (Exchange GateState))
      (served : AreServed Asks Replies new es) → NoneHas reference (sent_in new es served)
  -- never after its client's close
  pub closed : (old new : GateState) (bytes reply : List ℕ) (is : Replies old bytes new reply)
      → AreNumbered (timer_state old) → is.request ≡ asks.Close → (es : List (Exchange GateState))
      (served : AreServed Asks Replies new es)
      → AllByRecursion (λ t. t.client ≡ is.client → NoneHas t.reference (sent_in new es served))
      old.timers
  -- by the first clock that reaches it: what it sends is due by its moment, and what it leaves is
  -- due later
  pub in_time : (old new : GateState) (bytes reply : List ℕ) (is : Replies old bytes new reply)
      (moment : ℕ) → is.request ≡ asks.Clock moment → is.answer ≢ replies.BadMoment
      → AllByRecursion (λ t. t.due ≤ moment)
      (sent_by is.client is.request old new is.answer is.handled)
      × AllByRecursion (λ t. moment < t.due) new.timers
