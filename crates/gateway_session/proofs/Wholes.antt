-- A session is whole, however it ends.
use Rattle.std.proofs.Common.{◌≡◌, ℕ, List, [], ◌∷◌, ◌++◌, refl, ap, sym, subst, ◌∙◌, inl, inr}
use Rattle.std.proofs.Common.{append_assoc, take, Option, Result, Ok, Err}
use Rattle.journal.specs.declared.effect.Step.{Step}
use Rattle.timer_laws.specs.Laws.{AreNumbered}
use Rattle.request_stream.specs.declared.stop.ServeStop.{ServeStop}
use Rattle.request_stream.specs.declared.stop.ServeStop.TheVariants as stops
use Rattle.request_stream.specs.Ending.{IsCut, IsLeft, first}
use Rattle.request_stream.specs.Serving.{Exchange, AreServed, Moment, Serves, server_after}
use Rattle.gateway_core.specs.Handling.{GateState, timer_state}
use Rattle.gateway_session.specs.Replying.{Asks, Leaves, Replies}
use Rattle.gateway_session.specs.Sessions.{IsServed}
use Rattle.gateway_session.specs.Whole.{AreMade, IsWhole}
use Rattle.gateway_session.proofs.GoingOn.{replied, left}
use Rattle.gateway_session.proofs.Timers.{sent_once}

-- THE STEPS of so many requests
record MakesSteps (s : GateState) (es : List (Exchange GateState)) : Type 0 where
  made : List Step
  are : AreMade s es made
  steps : (server_after s es).layout.log.steps ≡ made ++ s.layout.log.steps

makes : (s : GateState) (es : List (Exchange GateState)) → AreServed Asks Replies s es
    → MakesSteps s es
makes s [] served = record { made = []; are = refl; steps = refl }
makes s (e ∷ es) served =
    let own = replied s e.server e.request e.reply served.1 in
    let later = makes e.server es served.2 in
    record {
      made = later.made ++ own.made;
      are = (own.made, later.made, refl, own.is, later.are);
      steps = later.steps ∙ ap (λ l. later.made ++ l) own.is
          ∙ sym (append_assoc later.made own.made s.layout.log.steps);
    }

whole : (old : GateState) (es : List (Exchange GateState)) (served : AreServed Asks Replies old es)
    (bytes : List ℕ) (after : GateState) → Leaves (server_after old es) bytes after
    → AreNumbered (timer_state old) → IsWhole old after
whole old es served bytes after leaves numbered =
    let steps = makes old es served in
    let last = left (server_after old es) after bytes leaves in
    record {
      exchanges = es;
      served = served;
      behind = bytes;
      leaves = leaves;
      made = steps.made;
      are_made = steps.are;
      last = last.made;
      steps = last.is ∙ ap (λ l. last.made ++ l) steps.steps;
      once = sent_once old es served numbered bytes after leaves;
    }

-- one exchange more
more : (s : GateState) (es : List (Exchange GateState)) → AreServed Asks Replies s es
    → (e : Exchange GateState) → Asks (server_after s es) e.request
    → Replies (server_after s es) e.request e.server e.reply
    → AreServed Asks Replies s (es ++ e ∷ [])
more s [] served e asks replies = (asks, replies, tt)
more s (f ∷ es) served e asks replies =
    (served.0, served.1, more f.server es served.2 e asks replies)

after_more : (s : GateState) (es : List (Exchange GateState)) (e : Exchange GateState)
    → server_after s (es ++ e ∷ []) ≡ e.server
after_more s [] e = refl
after_more s (f ∷ es) e = after_more f.server es e

module _ (old : GateState) (begin held : Option (List ℕ)) (numbered : AreNumbered (timer_state old))
  where
    module _ (m : Moment GateState)
        (serves : Serves Asks Replies (first old begin held) m) where
      same : (after : GateState) → after ≡ m.server → IsWhole old after
      same after is =
          whole old serves.exchanges serves.served [] after (inl (is ∙ serves.leaves)) numbered

      is_left : (after : GateState) → IsLeft Asks Leaves m after → IsWhole old after
      is_left after (inl is) = same after is
      is_left after (inr next) =
          whole old serves.exchanges serves.served (take next.size m.rest) after
          (subst (λ (g : GateState). Leaves g (take next.size m.rest) after) serves.leaves
          next.does) numbered

      is_cut : (after : GateState) (new : Option (List ℕ)) → IsCut Asks Replies m after new
          → IsWhole old after
      is_cut after new cut =
          let request = take cut.replied.size m.rest in
          let e : Exchange GateState = record {
            request = request;
            reply = cut.reply;
            server = after;
          } in
          whole old (serves.exchanges ++ e ∷ [])
          (more old serves.exchanges serves.served e
          (subst (λ (g : GateState). Asks g request) serves.leaves cut.replied.begins.is_request)
          (subst (λ (g : GateState). Replies g request after cut.reply) serves.leaves
          cut.replied.does)) [] after (inl (sym (after_more old serves.exchanges e))) numbered

    pub is_whole : (ended : Result (Unit {0}) ServeStop) (after : GateState)
        (rest new : Option (List ℕ)) → IsServed ended old after begin rest held new
        → IsWhole old after
    is_whole (Ok done) after rest new is = same _ is.serves after refl
    is_whole (Err (stops.Torn at)) after rest new is = same is.last is.serves after is.stops.1
    is_whole (Err (stops.BadStream at)) after rest new is =
        is_left is.last is.serves after is.stops.1
    is_whole (Err stops.Full) after rest new is = is_left is.last is.serves after is.stops.1
    is_whole (Err stops.ReadFault) after rest new is = same is.last is.serves after is.stops.1
    is_whole (Err stops.WriteFault) after rest new is =
        is_cut is.last is.serves after new is.stops
    is_whole (Err stops.NoMemory) after rest new is = is_left is.last is.serves after is.stops.0
