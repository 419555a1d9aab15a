-- What a gateway keeps.
use Rattle.std.proofs.Common.{◌≡◌, ◌≢◌, ℕ, ◌+◌, ◌<◌, ◌≤◌, Bool, true, false, List, [], ◌∷◌, ◌++◌}
use Rattle.std.proofs.Common.{refl, sym, ◌∙◌, ap, subst, arith, inl, inr, Option, Some, None}
use Rattle.std.proofs.Common.{IsSome, length, filter, is_some, not, ◌==◌}
use Rattle.std.specs.List.{AllByRecursion}
use Rattle.std.proofs.lemmas.Bool.{cases_Bool}
use Rattle.std.proofs.lemmas.Bool.Decides.{nat_tests}
use Rattle.linx_base.specs.FirstMatch.{first_match, without_match}
use Rattle.linx_base.specs.declared.identity.Inc.{Inc}
use Rattle.linx_base.specs.SigNotes.{SigNote}
use Rattle.journal.specs.declared.by.By.TheVariants.{Actor}
use Rattle.journal.specs.declared.event.Event.TheVariants as events
use Rattle.journal.specs.History.{endpoint_of}
use Rattle.journal.proofs.Openings.{IsShort}
use Rattle.link_laws.specs.Laws.{IsLegal}
use Rattle.node_kernel.specs.declared.answers.StepAnswer.{StepAnswer}
use Rattle.node_kernel.specs.declared.ask.Ask.{Ask}
use Rattle.fabric.specs.Actings.{OnlyRuns, asking}
use Rattle.fabric.specs.Run.{IsStepped, Layout}
use Rattle.linx_timers.specs.declared.timer.Timer.{Timer}
use Rattle.linx_timers.specs.declared.timer.Due.{Due}
use Rattle.linx_timers.specs.Times.{is_next, is_timer, due_of, signal_of, with_due}
use Rattle.linx_timers.proofs.Taking.{all_by, all_first, all_push, all_without}
use Rattle.keyed_list.proofs.Entries.{shorter}
use Rattle.timer_laws.specs.Laws.{AreNumbered}
use Rattle.timer_laws.proofs.Sending.{once}
use Rattle.gateway_core.specs.Handling.{FiresOne, GateState, IsGateway, IsOwner, IsSending}
use Rattle.gateway_core.specs.Handling.{last_moment, leaves_open, timer_state, told}
use Rattle.gateway_core.proofs.Owning.{all-open, others-open}
use Rattle.gateway_core.proofs.Running.{leaving-client, stays_running}

-- an owner where its endpoint is still open, on the same shape
owner_then : (old new : Layout) → OnlyRuns old new → (client : ℕ)
    → IsSome (endpoint_of new.log.steps client) → IsOwner old client → IsOwner new client
owner_then old new only client some own = record {
  is_client = record {
    above = own.is_client.above;
    within = subst (λ n. client ≤ n) (ap (λ (f : Layout). length f.shape.actors) (sym only))
        own.is_client.within;
  };
  is_open = some;
}

-- after a call of a client that leaves endpoints open
pub after_call : (g : GateState) (new : Layout) (k : ℕ) (ask : Ask) (answer : StepAnswer)
    → IsGateway g → IsStepped g.layout new (Actor k) ask answer → OnlyRuns g.layout new
    → leaves_open ask.event ≡ true → IsGateway (record g { layout = new })
after_call g new k ask answer is stepped only leaves = record {
  run = stays_running g.layout new k ask answer stepped (leaving-client ask.event leaves) is.run;
  owners = all_by (λ (t : Timer). IsOwner g.layout t.client)
      (λ (t : Timer). IsOwner new t.client) g.timers
      (λ t own. owner_then g.layout new only t.client
      (all-open g.layout new k ask answer stepped leaves t.client own.is_open) own) is.owners;
  numbered = is.numbered;
  timely = is.timely;
}

-- after a close, which frees the timers of its client
pub after_close : (g : GateState) (new : Layout) (k : ℕ) (answer : StepAnswer) → IsGateway g
    → IsStepped g.layout new (Actor k) (asking events.Close None) answer → OnlyRuns g.layout new
    → 0 < k → IsLegal g.layout.shape g.layout.log.steps → IsShort g.layout.log.steps
    → IsGateway (record g {
      layout = new;
      timers = filter (λ t. not (k == t.client)) g.timers;
    })
after_close g new k answer is stepped only above legal short = record {
  run = stays_running g.layout new k (asking events.Close None) answer stepped refl is.run;
  owners = others g.timers is.owners;
  numbered = once.numbered.close k (timer_state g) is.numbered;
  timely = is.timely;
}
  where
    others : (ts : List Timer) → AllByRecursion (λ (t : Timer). IsOwner g.layout t.client) ts
        → AllByRecursion (λ (t : Timer). IsOwner new t.client)
        (filter (λ t. not (k == t.client)) ts)
    others [] all = all
    others (t ∷ ts) all = elim (cases_Bool (k == t.client)) [
      | inl mine ↦ rw mine (others ts all.1)
      | inr other ↦
          let apart : t.client ≢ k = λ e. grind (arith, nat_tests) in
          let own : IsOwner g.layout t.client = all.0 in
          let some : IsSome (endpoint_of new.log.steps t.client) =
          others-open g.layout new k (asking events.Close None) answer stepped refl above legal
          short t.client apart own.is_open in
          rw other (owner_then g.layout new only t.client some own, others ts all.1)
    ]

pub after_none : (g : GateState) (new : Layout) → IsGateway g → new ≡ g.layout
    → IsGateway (record g { layout = new })
after_none g new is same = subst (λ (f : Layout). IsGateway (record g { layout = f })) (sym same) is

-- what is told of a timer that is due
pub record IsTold (o : Option Timer) (d : Due) : Type 0 where
  pub timer : Timer
  pub is : o ≡ Some timer
  pub tells : told timer ≡ d

pub told_of : (o : Option Timer) (d : Due) → Some d ≡ due_of o → IsTold o d
told_of None d is = cc
told_of (Some t) d is = record { timer = t; is = refl; tells = cc }

pub none_told : (o : Option Timer) → None ≡ due_of o → o ≡ None
none_told None is = refl
none_told (Some t) is = cc

-- other timers, all of owners
pub with_timers : (g : GateState) (ts : List Timer) → IsGateway g
    → AllByRecursion (λ (t : Timer). IsOwner g.layout t.client) ts
    → AreNumbered (record { timers = ts; requested = g.requested })
    → IsGateway (record g { timers = ts })
with_timers g ts is owners numbered = record {
  run = is.run;
  owners = owners;
  numbered = numbered;
  timely = is.timely;
}

-- who has an endpoint, as a look tells
pub some_where : (e found : Option Inc) (none : Bool) → found ≡ e → is_some found ≡ not none
    → none ≡ false → IsSome e
some_where e found none is tests fails = ap is_some (sym is) ∙ tests ∙ ap not fails

-- one more timer, whose reference is the number of its request
pub with_request : (g : GateState) (client due : ℕ) (signal : SigNote) (reference : ℕ)
    → IsGateway g → IsOwner g.layout client → reference ≡ g.requested + 1
    → IsGateway (record g {
      timers = g.timers ++ record {
        client = client;
        reference = reference;
        due = due;
        signal = signal;
      } ∷ [];
      requested = reference;
    })
with_request g client due signal reference is own next =
    subst (λ (n : ℕ). IsGateway (record g {
      timers = g.timers ++ record {
        client = client;
        reference = n;
        due = due;
        signal = signal;
      } ∷ [];
      requested = n;
    })) (sym next) (record {
      run = is.run;
      owners = all_push (λ (t : Timer). IsOwner g.layout t.client) g.timers (record {
        client = client;
        reference = g.requested + 1;
        due = due;
        signal = signal;
      }) is.owners own;
      numbered = once.numbered.request client due signal (timer_state g) is.numbered;
      timely = is.timely;
    })

-- another moment
pub with_clock : (g : GateState) (moment : ℕ) → IsGateway g → moment ≤ last_moment
    → IsGateway (record g { clock = moment })
with_clock g moment is timely = record {
  run = is.run;
  owners = is.owners;
  numbered = is.numbered;
  timely = timely;
}

-- the owners of the timers that a call leaves
module _ (f : Layout) where
  pub owners_without : (p : Timer → Bool) (ts : List Timer)
      → AllByRecursion (λ (t : Timer). IsOwner f t.client) ts
      → AllByRecursion (λ (t : Timer). IsOwner f t.client) (without_match p ts)
  owners_without p ts all = all_without (λ (t : Timer). IsOwner f t.client) p ts all

  pub owners_moved : (client reference due : ℕ) (ts : List Timer)
      → AllByRecursion (λ (t : Timer). IsOwner f t.client) ts
      → AllByRecursion (λ (t : Timer). IsOwner f t.client) (with_due client reference due ts)
  owners_moved client reference due [] all = all
  owners_moved client reference due (t ∷ ts) all =
      elim (cases_Bool (is_timer client reference t)) [
        | inl hit ↦ rw hit (all.0, all.1)
        | inr miss ↦ rw miss (all.0, owners_moved client reference due ts all.1)
      ]

-- THE CLOCK: a timer is due
module _ (g : GateState) (is : IsGateway g) (moment : ℕ) (d : Due)
    (found : Some d ≡ due_of (first_match (is_next moment g.timers) g.timers)) where
  tells : IsTold (first_match (is_next moment g.timers) g.timers) d
  tells = told_of (first_match (is_next moment g.timers) g.timers) d found

  -- it is an owner's
  pub due_is_owners : IsOwner g.layout d.client
  due_is_owners =
      subst (λ (e : Due). IsOwner g.layout e.client) tells.tells
      (all_first (λ (u : Timer). IsOwner g.layout u.client) (is_next moment g.timers) g.timers tells.timer
      is.owners tells.is)

  -- one timer less
  pub fewer_then : length (without_match (is_next moment g.timers) g.timers) < length g.timers
  fewer_then = shorter (is_next moment g.timers) g.timers tells.timer tells.is

  pub fired_one : (new : GateState)
      → IsSending d g.layout new.layout
      → new ≡ record g {
        layout = new.layout;
        timers = without_match (is_next moment g.timers) g.timers;
      }
      → FiresOne moment g new
  fired_one new sent rest = record {
    timer = tells.timer;
    due = tells.is;
    sent = subst (λ (e : Due). IsSending e g.layout new.layout) (sym tells.tells) sent;
    rest = rest;
  }

-- whether one was cancelled
pub is_some-signal : (o : Option Timer) → is_some (signal_of o) ≡ is_some o
is_some-signal None = refl
is_some-signal (Some t) = refl
