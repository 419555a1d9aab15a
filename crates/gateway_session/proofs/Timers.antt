-- The timers that send over a whole session.
use Rattle.std.proofs.Common.{◌≡◌, ◌≢◌, ℕ, zero, suc, ◌<◌, ◌≤◌, Bool, true, false, not, List, []}
use Rattle.std.proofs.Common.{◌∷◌, ◌++◌, append_assoc, filter, refl, ap, sym, subst, ◌∙◌, inl, inr}
use Rattle.std.proofs.Common.{arith, Option, Some, None, ◌||◌, ◌==◌, nat_lt}
use Rattle.std.specs.List.{AllByRecursion, list_any}
use Rattle.std.proofs.lemmas.Bool.{cases_Bool}
use Rattle.std.proofs.lemmas.Bool.Decides.{nat_tests}
use Rattle.linx_base.specs.FirstMatch.{first_match, without_match}
use Rattle.linx_base.specs.declared.identity.Inc.{Inc}
use Rattle.journal.specs.History.{closed_step, endpoint_of}
use Rattle.linx_timers.specs.declared.timer.Timer.{Timer}
use Rattle.linx_timers.specs.Times.{is_timer}
use Rattle.timer_laws.specs.Laws.{AreNumbered, AreRising, IsGone, Stays, TimerState}
use Rattle.timer_laws.proofs.Sending.{in_time, once}
use Rattle.request_stream.specs.Serving.{Exchange, AreServed, server_after}
use Rattle.gateway_msgs.specs.declared.reply.Reply.{Reply}
use Rattle.gateway_msgs.specs.declared.reply.Reply.TheVariants as replies
use Rattle.gateway_msgs.specs.declared.request.Request.{Request}
use Rattle.gateway_msgs.specs.declared.request.Request.TheVariants as asks
use Rattle.gateway_core.specs.Handling.{Clocks, Fires, FiresOne, GateState, Handles, IfOpen, Stops}
use Rattle.gateway_core.specs.Handling.{done_or_none, last_moment, timer_state}
use Rattle.gateway_core.specs.Timers.{HasGone}
use Rattle.gateway_core.proofs.Timing.{handled}
use Rattle.gateway_session.specs.Replying.{Asks, Leaves, Replies}
use Rattle.gateway_session.specs.Whole.{AreDistinct, NoneHas, EachTimerOverASession, fired}
use Rattle.gateway_session.specs.Whole.{sent_at_stop, sent_by, sent_by_clock, sent_in, sent_last}

-- LISTS
all_both : {X : Type 0} (P : X → Type 0) (xs ys : List X) → AllByRecursion P xs
    → AllByRecursion P ys → AllByRecursion P (xs ++ ys)
all_both P [] ys one two = two
all_both P (x ∷ xs) ys one two = (one.0, all_both P xs ys one.1 two)

all_as : {X : Type 0} (P Q : X → Type 0) (xs : List X) → ((x : X) → P x → Q x)
    → AllByRecursion P xs → AllByRecursion Q xs
all_as P Q [] each all = tt
all_as P Q (x ∷ xs) each all = (each x all.0, all_as P Q xs each all.1)

distinct_both : (xs ys : List Timer) → AreDistinct xs → AreDistinct ys
    → AllByRecursion (λ x. NoneHas x.reference ys) xs → AreDistinct (xs ++ ys)
distinct_both [] ys one two apart = two
distinct_both (x ∷ xs) ys one two apart = (
  all_both (λ t. t.reference ≢ x.reference) xs ys one.0 apart.0,
  distinct_both xs ys one.1 two apart.1,
)

-- ONE AFTER THE OTHER
module _ (P : TimerState → Type 0) (stays : Stays P) where
  one_keeps : (moment : ℕ) (old new : GateState) → FiresOne moment old new → P (timer_state old)
      → P (timer_state new)
  one_keeps moment old new one here =
      subst P (sym (ap timer_state one.rest)) (stays.sending moment (timer_state old) here)

  fires_keep : (moment n : ℕ) (old new : GateState) → Fires moment n old new
      → P (timer_state old) → P (timer_state new)
  fires_keep moment zero old new is here = subst P (sym (ap timer_state is)) here
  fires_keep moment (suc n) old new is here =
      one_keeps moment is.0 new is.1.1 (fires_keep moment n old is.0 is.1.0 here)

-- what sends isn't gone before it does
differs : (reference moment : ℕ) (old new : GateState) (one : FiresOne moment old new)
    → HasGone reference old → one.timer.reference ≢ reference
differs reference moment old new one gone same =
    once.was_there moment (timer_state old) one.timer one.due
    (subst (λ r. IsGone r (timer_state old)) (sym same) gone)

module _ (reference : ℕ) where
  none_fired : (moment n : ℕ) (old new : GateState) (is : Fires moment n old new)
      → HasGone reference old → NoneHas reference (fired moment n old new is)
  none_fired moment zero old new is gone = tt
  none_fired moment (suc n) old new is gone =
      all_both (λ t. t.reference ≢ reference) (fired moment n old is.0 is.1.0)
      (is.1.1.timer ∷ []) (none_fired moment n old is.0 is.1.0 gone) (
        differs reference moment is.0 new is.1.1
            (fires_keep (IsGone reference) (once.gone reference) moment n old is.0 is.1.0 gone),
        tt,
      )

  none_by_clock : (b : Bool) (moment : ℕ) (old new : GateState) (reply : Reply)
      (is : Clocks b moment old new reply) → HasGone reference old
      → NoneHas reference (sent_by_clock b moment old new reply is)
  none_by_clock true moment old new reply is gone = tt
  none_by_clock false moment old new reply is gone =
      none_fired moment is.count old is.struck is.fires gone

  none_by : (client : ℕ) (request : Request) (old new : GateState) (reply : Reply)
      (is : Handles client request old new reply) → HasGone reference old
      → NoneHas reference (sent_by client request old new reply is)
  none_by client (asks.Open name) old new reply is gone = tt
  none_by client asks.Close old new reply is gone = tt
  none_by client (asks.Send to signal) old new reply is gone = tt
  none_by client (asks.Receive count numbers) old new reply is gone = tt
  none_by client (asks.Hunt name) old new reply is gone = tt
  none_by client (asks.Attach peer) old new reply is gone = tt
  none_by client (asks.Detach attach) old new reply is gone = tt
  none_by client (asks.Timer delay signal) old new reply is gone = tt
  none_by client (asks.Cancel other) old new reply is gone = tt
  none_by client (asks.Modify other delay) old new reply is gone = tt
  none_by client (asks.Clock moment) old new reply is gone =
      none_by_clock (nat_lt moment old.clock || nat_lt last_moment moment) moment old new reply is
      gone

  pub none_in : (s : GateState) (es : List (Exchange GateState))
      (served : AreServed Asks Replies s es) → HasGone reference s
      → NoneHas reference (sent_in s es served)
  none_in s [] served gone = tt
  none_in s (e ∷ es) served gone =
      let r = served.1 in
      all_both (λ t. t.reference ≢ reference)
      (sent_by r.client r.request s e.server r.answer r.handled) (sent_in e.server es served.2)
      (none_by r.client r.request s e.server r.answer r.handled gone)
      (none_in e.server es served.2
      (handled (IsGone reference) (once.gone reference) r.client r.request s e.server r.answer
      r.handled gone))

  none_at_stop : (request : Request) (old new : GateState) (is : Stops request old new)
      → HasGone reference old → NoneHas reference (sent_at_stop request old new is)
  none_at_stop (asks.Open name) old new is gone = tt
  none_at_stop asks.Close old new is gone = tt
  none_at_stop (asks.Send to signal) old new is gone = tt
  none_at_stop (asks.Receive count numbers) old new is gone = tt
  none_at_stop (asks.Hunt name) old new is gone = tt
  none_at_stop (asks.Attach peer) old new is gone = tt
  none_at_stop (asks.Detach attach) old new is gone = tt
  none_at_stop (asks.Timer delay signal) old new is gone = tt
  none_at_stop (asks.Cancel other) old new is gone = tt
  none_at_stop (asks.Modify other delay) old new is gone = tt
  none_at_stop (asks.Clock moment) old new is gone =
      none_fired moment is.count old is.sent is.fires gone

  none_last : (old : GateState) (bytes : List ℕ) (new : GateState) (is : Leaves old bytes new)
      → HasGone reference old → NoneHas reference (sent_last old bytes new is)
  none_last old bytes new (inl is) gone = tt
  none_last old bytes new (inr is) gone = none_at_stop is.request old new is.stops gone

  -- it stays gone
  gone_after : (s : GateState) (es : List (Exchange GateState))
      → AreServed Asks Replies s es → HasGone reference s → HasGone reference (server_after s es)
  gone_after s [] served gone = gone
  gone_after s (e ∷ es) served gone =
      let r = served.1 in
      gone_after e.server es served.2
      (handled (IsGone reference) (once.gone reference) r.client r.request s e.server r.answer
      r.handled gone)

-- WHAT HAS SENT IS GONE, and nothing sends twice
all_gone : (moment n : ℕ) (old new : GateState) (is : Fires moment n old new)
    → AreNumbered (timer_state old)
    → AllByRecursion (λ t. HasGone t.reference new) (fired moment n old new is)
all_gone moment zero old new is numbered = tt
all_gone moment (suc n) old new is numbered =
    let mid = fires_keep AreNumbered once.numbered moment n old is.0 is.1.0 numbered in
    all_both (λ t. HasGone t.reference new) (fired moment n old is.0 is.1.0) (is.1.1.timer ∷ [])
    (all_as (λ t. HasGone t.reference is.0) (λ t. HasGone t.reference new)
    (fired moment n old is.0 is.1.0)
    (λ t gone. one_keeps (IsGone t.reference) (once.gone t.reference) moment is.0 new is.1.1 gone)
    (all_gone moment n old is.0 is.1.0 numbered)) (
      subst (IsGone is.1.1.timer.reference) (sym (ap timer_state is.1.1.rest))
          (once.sent moment (timer_state is.0) is.1.1.timer mid is.1.1.due),
      tt,
    )

fired_once : (moment n : ℕ) (old new : GateState) (is : Fires moment n old new)
    → AreNumbered (timer_state old) → AreDistinct (fired moment n old new is)
fired_once moment zero old new is numbered = tt
fired_once moment (suc n) old new is numbered =
    distinct_both (fired moment n old is.0 is.1.0) (is.1.1.timer ∷ [])
    (fired_once moment n old is.0 is.1.0 numbered) (tt, tt)
    (all_as (λ t. HasGone t.reference is.0) (λ t. NoneHas t.reference (is.1.1.timer ∷ []))
    (fired moment n old is.0 is.1.0)
    (λ t gone. (differs t.reference moment is.0 new is.1.1 gone, tt))
    (all_gone moment n old is.0 is.1.0 numbered))

-- timers that are distinct, and gone in a state
record AreSent (ts : List Timer) (after : GateState) : Type 0 where
  distinct : AreDistinct ts
  gone : AllByRecursion (λ t. HasGone t.reference after) ts

clock_once : (b : Bool) (moment : ℕ) (old new : GateState) (reply : Reply)
    (is : Clocks b moment old new reply) → AreNumbered (timer_state old)
    → AreSent (sent_by_clock b moment old new reply is) new
clock_once true moment old new reply is numbered = record { distinct = tt; gone = tt }
clock_once false moment old new reply is numbered = record {
  distinct = fired_once moment is.count old is.struck is.fires numbered;
  gone = all_as (λ t. HasGone t.reference is.struck) (λ t. HasGone t.reference new)
      (fired moment is.count old is.struck is.fires)
      (λ t gone. subst (IsGone t.reference) (sym (ap timer_state is.is)) gone)
      (all_gone moment is.count old is.struck is.fires numbered);
}

request_once : (client : ℕ) (request : Request) (old new : GateState) (reply : Reply)
    (is : Handles client request old new reply) → AreNumbered (timer_state old)
    → AreSent (sent_by client request old new reply is) new
request_once client (asks.Open name) old new reply is numbered = record { distinct = tt; gone = tt }
request_once client asks.Close old new reply is numbered = record { distinct = tt; gone = tt }
request_once client (asks.Send to signal) old new reply is numbered =
    record { distinct = tt; gone = tt }
request_once client (asks.Receive count numbers) old new reply is numbered =
    record { distinct = tt; gone = tt }
request_once client (asks.Hunt name) old new reply is numbered = record { distinct = tt; gone = tt }
request_once client (asks.Attach peer) old new reply is numbered =
    record { distinct = tt; gone = tt }
request_once client (asks.Detach attach) old new reply is numbered =
    record { distinct = tt; gone = tt }
request_once client (asks.Timer delay signal) old new reply is numbered =
    record { distinct = tt; gone = tt }
request_once client (asks.Cancel other) old new reply is numbered =
    record { distinct = tt; gone = tt }
request_once client (asks.Modify other delay) old new reply is numbered =
    record { distinct = tt; gone = tt }
request_once client (asks.Clock moment) old new reply is numbered =
    clock_once (nat_lt moment old.clock || nat_lt last_moment moment) moment old new reply is
    numbered

stop_once : (request : Request) (old new : GateState) (is : Stops request old new)
    → AreNumbered (timer_state old) → AreDistinct (sent_at_stop request old new is)
stop_once (asks.Open name) old new is numbered = tt
stop_once asks.Close old new is numbered = tt
stop_once (asks.Send to signal) old new is numbered = tt
stop_once (asks.Receive count numbers) old new is numbered = tt
stop_once (asks.Hunt name) old new is numbered = tt
stop_once (asks.Attach peer) old new is numbered = tt
stop_once (asks.Detach attach) old new is numbered = tt
stop_once (asks.Timer delay signal) old new is numbered = tt
stop_once (asks.Cancel other) old new is numbered = tt
stop_once (asks.Modify other delay) old new is numbered = tt
stop_once (asks.Clock moment) old new is numbered =
    fired_once moment is.count old is.sent is.fires numbered

last_once : (old : GateState) (bytes : List ℕ) (new : GateState) (is : Leaves old bytes new)
    → AreNumbered (timer_state old) → AreDistinct (sent_last old bytes new is)
last_once old bytes new (inl is) numbered = tt
last_once old bytes new (inr is) numbered = stop_once is.request old new is.stops numbered

-- EACH IS SENT AT MOST ONCE over so many requests, and in one that is stopped behind them
pub sent_once : (s : GateState) (es : List (Exchange GateState))
    (served : AreServed Asks Replies s es) → AreNumbered (timer_state s) → (bytes : List ℕ)
    (after : GateState) (leaves : Leaves (server_after s es) bytes after)
    → AreDistinct (sent_in s es served ++ sent_last (server_after s es) bytes after leaves)
sent_once s [] served numbered bytes after leaves = last_once s bytes after leaves numbered
sent_once s (e ∷ es) served numbered bytes after leaves =
    let r = served.1 in
    let now = sent_by r.client r.request s e.server r.answer r.handled in
    let later = sent_in e.server es served.2 in
    let last = sent_last (server_after e.server es) bytes after leaves in
    let mine = request_once r.client r.request s e.server r.answer r.handled numbered in
    let rest = sent_once e.server es served.2 (handled AreNumbered once.numbered r.client r.request
    s e.server r.answer r.handled numbered) bytes after leaves in
    subst AreDistinct (sym (append_assoc now later last))
    (distinct_both now (later ++ last) mine.distinct rest
    (all_as (λ t. HasGone t.reference e.server) (λ t. NoneHas t.reference (later ++ last)) now
    (λ t gone. all_both (λ u. u.reference ≢ t.reference) later last
    (none_in t.reference e.server es served.2 gone)
    (none_last t.reference (server_after e.server es) bytes after leaves
    (gone_after t.reference e.server es served.2 gone))) mine.gone))

-- AFTER A CANCEL that found its timer
found_of : (found : Bool) → done_or_none found ≡ replies.Done → found ≡ true
found_of true is = refl
found_of false is = cc

first_of : {X : Type 0} (p : X → Bool) (xs : List X) → list_any p xs ≡ true
    → (x : X) × (first_match p xs ≡ Some x)
first_of p [] any = cc
first_of p (x ∷ xs) any = elim (cases_Bool (p x)) [
  | inl hit ↦ (x, rw hit refl)
  | inr miss ↦
      let later : list_any p xs ≡ true = rw miss at any in
      let rest = first_of p xs later in
      (rest.0, rw miss rest.1)
]

cancel_gone : (client reference : ℕ) (old new : GateState) (answer : Reply)
    → Handles client (asks.Cancel reference) old new answer → AreNumbered (timer_state old)
    → answer ≡ replies.Done → HasGone reference new
cancel_gone client reference old new answer is numbered done =
    go (endpoint_of old.layout.log.steps client) (closed_step old.layout.log.steps client) is
  where
    go : (e : Option Inc) (at : ℕ) → IfOpen e at old new answer
        ((answer ≡ done_or_none (list_any (is_timer client reference) old.timers))
        × (new ≡ record old { timers = without_match (is_timer client reference) old.timers }))
        → HasGone reference new
    go None at does = let other : replies.Done ≡ replies.NotOpen at = sym done ∙ does.0 in cc
    go (Some inc) at does =
        let found = first_of (is_timer client reference) old.timers
        (found_of (list_any (is_timer client reference) old.timers) (sym does.0 ∙ done)) in
        subst (IsGone reference) (sym (ap timer_state does.1))
        (once.cancelled client reference (timer_state old) found.0 numbered found.1)

-- AFTER A CLOSE
others_kept : (client : ℕ) (P : Timer → Type 0) (ts : List Timer) → AllByRecursion P ts
    → AllByRecursion P (filter (λ t. not (client == t.client)) ts)
others_kept client P [] all = tt
others_kept client P (t ∷ ts) all = elim (cases_Bool (client == t.client)) [
  | inl hit ↦ rw hit (others_kept client P ts all.1)
  | inr miss ↦ rw miss (all.0, others_kept client P ts all.1)
]

-- no timer that is left has the reference of one that isn't
each_gone : (client limit : ℕ) (ts : List Timer) → AreRising ts
    → AllByRecursion (λ t. t.reference ≤ limit) ts
    → AllByRecursion (λ t. t.client ≡ client → IsGone t.reference (record {
      timers = filter (λ u. not (client == u.client)) ts;
      requested = limit;
    })) ts
each_gone client limit [] up within = tt
each_gone client limit (t ∷ ts) up within = (
  λ mine.
      let hit : (client == t.client) ≡ true = grind (arith, nat_tests) in
      record {
        given = within.0;
        nobodys = rw hit (all_as (λ u. t.reference < u.reference) (λ u. u.reference ≢ t.reference)
            (filter (λ u. not (client == u.client)) ts) (λ u less same. omega (arith, less, same))
            (others_kept client (λ u. t.reference < u.reference) ts up.0));
      },
  all_with ts up.0 (each_gone client limit ts up.1 within.1),
)
  where
    all_with : (us : List Timer) → AllByRecursion (λ u. t.reference < u.reference) us
        → AllByRecursion (λ u. u.client ≡ client → IsGone u.reference (record {
          timers = filter (λ v. not (client == v.client)) ts;
          requested = limit;
        })) us → AllByRecursion (λ u. u.client ≡ client → IsGone u.reference (record {
          timers = filter (λ v. not (client == v.client)) (t ∷ ts);
          requested = limit;
        })) us
    all_with [] above all = tt
    all_with (u ∷ us) above all = (
      λ mine.
          let gone = all.0 mine in
          record {
            given = gone.given;
            nobodys = elim (cases_Bool (client == t.client)) [
              | inl hit ↦ rw hit gone.nobodys
              | inr miss ↦ rw miss ((λ same. omega (arith, above.0, same)), gone.nobodys)
            ];
          },
      all_with us above.1 all.1,
    )

close_gone : (client : ℕ) (old new : GateState) (answer : Reply)
    → Handles client asks.Close old new answer → AreNumbered (timer_state old)
    → AllByRecursion (λ t. t.client ≡ client → HasGone t.reference new) old.timers
close_gone client old new answer is numbered =
    subst (λ (k : TimerState). AllByRecursion (λ (t : Timer). t.client ≡ client
    → IsGone t.reference k) old.timers) (sym (ap timer_state is.rest))
    (each_gone client old.requested old.timers numbered.rising numbered.so_far)

-- BY THE FIRST CLOCK
all_due : (moment n : ℕ) (old new : GateState) (is : Fires moment n old new)
    → AllByRecursion (λ t. t.due ≤ moment) (fired moment n old new is)
all_due moment zero old new is = tt
all_due moment (suc n) old new is =
    all_both (λ t. t.due ≤ moment) (fired moment n old is.0 is.1.0) (is.1.1.timer ∷ [])
    (all_due moment n old is.0 is.1.0)
    (in_time.reached moment (timer_state is.0) is.1.1.timer is.1.1.due, tt)

clock_in_time : (b : Bool) (moment : ℕ) (old new : GateState) (reply : Reply)
    (is : Clocks b moment old new reply) → reply ≢ replies.BadMoment
    → AllByRecursion (λ t. t.due ≤ moment) (sent_by_clock b moment old new reply is)
    × AllByRecursion (λ t. moment < t.due) new.timers
clock_in_time true moment old new reply is taken = absurd (taken is.0)
clock_in_time false moment old new reply is taken = (
  all_due moment is.count old is.struck is.fires,
  subst (λ (g : GateState). AllByRecursion (λ (t : Timer). moment < t.due) g.timers)
      (sym is.is) (in_time.later moment (timer_state is.struck) is.none_left),
)

-- what a request is, is what it does
module _ (client : ℕ) (old new : GateState) (answer : Reply) where
  cancel_as : (request : Request) (reference : ℕ) → Handles client request old new answer
      → request ≡ asks.Cancel reference → AreNumbered (timer_state old) → answer ≡ replies.Done
      → HasGone reference new
  cancel_as request reference is same numbered done =
      cancel_gone client reference old new answer
      (subst (λ r. Handles client r old new answer) same is) numbered done

  close_as : (request : Request) → Handles client request old new answer → request ≡ asks.Close
      → AreNumbered (timer_state old)
      → AllByRecursion (λ t. t.client ≡ client → HasGone t.reference new) old.timers
  close_as request is same numbered =
      close_gone client old new answer
      (subst (λ r. Handles client r old new answer) same is) numbered

  clock_as : (request : Request) (moment : ℕ) (is : Handles client request old new answer)
      → request ≡ asks.Clock moment → answer ≢ replies.BadMoment
      → AllByRecursion (λ t. t.due ≤ moment) (sent_by client request old new answer is)
      × AllByRecursion (λ t. moment < t.due) new.timers
  clock_as (asks.Clock other) moment is same taken =
      let equal : other ≡ moment = cc in
      subst (λ m. AllByRecursion (λ (t : Timer). t.due ≤ m)
      (sent_by client (asks.Clock other) old new answer is)
      × AllByRecursion (λ (t : Timer). m < t.due) new.timers) equal
      (clock_in_time (nat_lt other old.clock || nat_lt last_moment other) other old new answer is
      taken)
  clock_as (asks.Open name) moment is same taken = cc
  clock_as asks.Close moment is same taken = cc
  clock_as (asks.Send to signal) moment is same taken = cc
  clock_as (asks.Receive count numbers) moment is same taken = cc
  clock_as (asks.Hunt name) moment is same taken = cc
  clock_as (asks.Attach peer) moment is same taken = cc
  clock_as (asks.Detach attach) moment is same taken = cc
  clock_as (asks.Timer delay signal) moment is same taken = cc
  clock_as (asks.Cancel other) moment is same taken = cc
  clock_as (asks.Modify other delay) moment is same taken = cc

pub over_a_session : EachTimerOverASession
over_a_session = record {
  gone = none_in;
  cancelled = λ old new bytes reply is reference numbered same done es served.
      none_in reference new es served
      (cancel_as is.client old new is.answer is.request reference is.handled same numbered done);
  closed = λ old new bytes reply is numbered same es served.
      all_as (λ (t : Timer). t.client ≡ is.client → HasGone t.reference new)
      (λ (t : Timer). t.client ≡ is.client → NoneHas t.reference (sent_in new es served)) old.timers
      (λ t gone mine. none_in t.reference new es served (gone mine))
      (close_as is.client old new is.answer is.request is.handled same numbered);
  in_time = λ old new bytes reply is moment same taken.
      clock_as is.client old new is.answer is.request moment is.handled same taken;
}
