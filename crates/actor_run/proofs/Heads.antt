-- What heads and events have in common: an end, a look, a step on a link are told by the event.
use Rattle.std.proofs.Common.{◌≡◌, ℕ, Bool, true, false, cond, List, Option, Some, None, refl, sym}
use Rattle.std.proofs.Common.{◌∙◌, ap, inl, inr, ◌⊎◌, is_some}
use Rattle.linx_base.specs.declared.identity.Inc.{Inc}
use Rattle.sigsel.specs.declared.sigsel.Sigsel.{Sigsel}
use Rattle.journal.specs.declared.event.Event.{Event}
use Rattle.journal.specs.declared.event.Event.TheVariants as asks
use Rattle.journal.specs.declared.head.Head.{Head}
use Rattle.journal.specs.declared.head.Head.TheVariants as heads
use Rattle.journal.specs.declared.head.Refusal.{Refusal}
use Rattle.journal.specs.declared.head.Refusal.TheVariants.{NotOpen, IsOpen}
use Rattle.journal.specs.declared.effect.Effect.{Effect}
use Rattle.journal.specs.declared.effect.Step.{Step}
use Rattle.journal.specs.Rest.{waits_in}
use Rattle.journal.specs.History.{is_end, last_opened}
use Rattle.node_kernel.specs.Answers.{event_of, granted_by, is_pump_event, is_pumped, is_end_event}
use Rattle.node_kernel.specs.Answers.{is_waits, is_not_yet, answer_of, opened_as, needs_endpoint}
use Rattle.node_kernel.specs.Answers.{asks_to_open, refused}
use Rattle.node_kernel.specs.declared.ask.Ask.{Ask}
use Rattle.actor_run.specs.Asking.{is_sending}

-- the event is a look
abbrev pub is_look : Event → Bool
is_look (asks.Look filter) = true
is_look _ = false

-- two tests that no event passes both
never : (a b : Bool) → (b ≡ true → a ≡ false) → a ≡ true → b ≡ false
never a false apart h = refl
never a true apart h = let no = apart refl in cc

-- EVENTS. There is one end
end_only : (e : Event) → is_end_event e ≡ true → e ≡ asks.End
end_only asks.End h = refl
end_only _ h = cc

opening_no_end : (e : Event) → asks_to_open e ≡ true → is_end_event e ≡ false
opening_no_end e = never (asks_to_open e) (is_end_event e) (λ end. ap asks_to_open (end_only e end))

needs_no_end : (e : Event) → needs_endpoint e ≡ true → is_end_event e ≡ false
needs_no_end e =
    never (needs_endpoint e) (is_end_event e) (λ end. ap needs_endpoint (end_only e end))

pump_no_end : (e : Event) → is_pump_event e ≡ true → is_end_event e ≡ false
pump_no_end e = never (is_pump_event e) (is_end_event e) (λ end. ap is_pump_event (end_only e end))

-- a look is of a filter
look_only : (e : Event) → is_look e ≡ true → (filter : Sigsel) × (e ≡ asks.Look filter)
look_only (asks.Look filter) h = (filter, refl)
look_only _ h = cc

look_no_send : (e : Event) → is_look e ≡ true → is_sending e ≡ false
look_no_send e look = ap is_sending (look_only e look).1

-- WHAT IS GRANTED of what is asked: that itself, or a refusal, but never in place of an end
record IsRefusal (ask given : Ask) : Type 0 where
  pub reason : Refusal
  pub is : given ≡ refused reason
  pub no_end : is_end_event ask.event ≡ false

if_refused : (b : Bool) (reason : Refusal) (ask : Ask) → (b ≡ true → is_end_event ask.event ≡ false)
    → (cond b (refused reason) ask ≡ ask) ⊎ IsRefusal ask (cond b (refused reason) ask)
if_refused false reason ask no_end = inl refl
if_refused true reason ask no_end =
    inr (record { reason = reason; is = refl; no_end = no_end refl })

grants : (me : Option Inc) (at : ℕ) (ask : Ask)
    → (granted_by me at ask ≡ ask) ⊎ IsRefusal ask (granted_by me at ask)
grants (Some i) at ask =
    if_refused (asks_to_open ask.event) (IsOpen i) ask (opening_no_end ask.event)
grants None at ask = if_refused (needs_endpoint ask.event) (NotOpen at) ask (needs_no_end ask.event)

-- an end is granted, and nothing else is made an end
pub granted_end : (me : Option Inc) (at : ℕ) (ask : Ask)
    → is_end_event (granted_by me at ask).event ≡ is_end_event ask.event
granted_end me at ask =
    elim (grants me at ask) [
      | inl same ↦ ap (λ (a : Ask). is_end_event a.event) same
      | inr refusal ↦ ap (λ (a : Ask). is_end_event a.event) refusal.is ∙ sym refusal.no_end
    ]

-- nothing is made a step on a link
pub granted_pump : (me : Option Inc) (at : ℕ) (ask : Ask)
    → is_pump_event ask.event ≡ false → is_pump_event (granted_by me at ask).event ≡ false
granted_pump me at ask h =
    elim (grants me at ask) [
      | inl same ↦ ap (λ (a : Ask). is_pump_event a.event) same ∙ h
      | inr refusal ↦ ap (λ (a : Ask). is_pump_event a.event) refusal.is
    ]

-- what is granted as a look was no send
pub granted_look : (me : Option Inc) (at : ℕ) (ask : Ask)
    → is_look (granted_by me at ask).event ≡ true → is_sending ask.event ≡ false
granted_look me at ask h =
    elim (grants me at ask) [
      | inl same ↦ look_no_send ask.event (sym (ap (λ (a : Ask). is_look a.event) same) ∙ h)
      | inr refusal ↦
          let no : is_look (granted_by me at ask).event ≡ false =
          ap (λ (a : Ask). is_look a.event) refusal.is in
          cc
    ]

-- HEADS. A head ends its actor where its event does
pub is_end_by_event : (h : Head) → is_end h ≡ is_end_event (event_of h)
is_end_by_event heads.Close = refl
is_end_by_event _ = refl

pub pumped_end : (h : Head) → is_pumped h ≡ true → is_end h ≡ false
pumped_end h pumped = is_end_by_event h ∙ pump_no_end (event_of h) pumped

-- a head waits where it says a filter that it waits with
pub waits_by_filter : (h : Head) → is_some (waits_in h) ≡ is_waits h
waits_by_filter heads.Close = refl
waits_by_filter _ = refl

-- a head that waits is a look of a filter
waits_only : (h : Head) → is_waits h ≡ true → (filter : Sigsel) × (h ≡ heads.Waits filter)
waits_only (heads.Waits filter) w = (filter, refl)
waits_only _ w = cc

pub waits_look : (h : Head) → is_waits h ≡ true → is_look (event_of h) ≡ true
waits_look h waits = ap (λ h. is_look (event_of h)) (waits_only h waits).1

pub pumped_waits : (h : Head) → is_pumped h ≡ true → is_waits h ≡ false
pumped_waits h = never (is_pumped h) (is_waits h) (λ waits. ap is_pumped (waits_only h waits).1)

opened_as_no_wait : (opened : Option Inc) → false ≡ is_not_yet (opened_as opened)
opened_as_no_wait None = refl
opened_as_no_wait (Some i) = refl

-- and is answered so
pub waits_by_answer : (P : List Step) (h : Head) (es : List Effect)
    → is_waits h ≡ is_not_yet (answer_of P h es)
waits_by_answer P (heads.Open name) es = opened_as_no_wait (last_opened None es)
waits_by_answer P _ es = refl
