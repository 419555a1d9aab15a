-- What the machine makes of what a maker asks is what a call promises.
use Rattle.std.proofs.Common.{◌≡◌, ℕ, Bool, true, false, cond, List, Option, Some, None, refl, sym}
use Rattle.std.proofs.Common.{◌∙◌, ap, subst, inl, inr, ◌&&◌, Result, Ok, Err, IfOk, IfErr, is_some}
use Rattle.linx_base.specs.declared.identity.Inc.{Inc}
use Rattle.linx_base.specs.declared.item.Item.{Item}
use Rattle.linx_base.specs.SigNotes.{SigNote}
use Rattle.sigsel.specs.Selection.{first_selected}
use Rattle.sigsel.specs.declared.sigsel.Sigsel.{Sigsel}
use Rattle.journal.specs.declared.by.By.{By}
use Rattle.journal.specs.declared.by.By.TheVariants.{Actor, Pump}
use Rattle.journal.specs.declared.effect.Step.{Step}
use Rattle.journal.specs.declared.event.Event.{Event}
use Rattle.journal.specs.declared.event.Event.TheVariants as asks
use Rattle.journal.specs.declared.head.Head.{Head}
use Rattle.journal.specs.declared.head.Head.TheVariants as heads
use Rattle.journal.specs.declared.head.Refusal.{Refusal}
use Rattle.journal.specs.History.{closed_step, endpoint_of, is_end}
use Rattle.journal.specs.Logs.{is_full}
use Rattle.journal.specs.Rest.{queue_of, waits_with}
use Rattle.journal.specs.Shapes.{Shape, node_by}
use Rattle.link_laws.specs.Ends.{IsLinkOf}
use Rattle.link_laws.specs.Laws.{IsLegal}
use Rattle.node_kernel.specs.declared.answers.StepAnswer.{StepAnswer}
use Rattle.node_kernel.specs.declared.ask.Ask.{Ask}
use Rattle.node_kernel.specs.Answers.{granted, granted_by, is_end_event, asks_to_open}
use Rattle.node_kernel.specs.Answers.{needs_endpoint, is_pump_event, refused}
use Rattle.run_trunks.specs.States.{trunks_of}
use Rattle.fabric.specs.declared.stop.StepStop.{StepStop}
use Rattle.fabric.specs.declared.stop.StopCause.TheVariants.{JournalFull}
use Rattle.fabric.specs.Asks.{FitsEvent, may_ask}
use Rattle.fabric.specs.Fits.{LeavesBy}
use Rattle.fabric.specs.Links.{no_link_stirs}
use Rattle.fabric.specs.Machine.{head_for, head_of, is_at_rest, look, pumped_head}
use Rattle.fabric.specs.Machine.{signal_in, vain_look}
use Rattle.fabric.specs.Run.{IsStepFor, IsStepOf, IsStepped, Layout}
use Rattle.fabric.proofs.Methods.LooksInVain.{LooksInVain}
use Rattle.linx_api.specs.Asked.{FindsNothing, Gives, IsAnswered, MakesStep}

-- the head, if there is one, is an end
abbrev ends : Option Head → Bool
ends None = false
ends (Some head) = is_end head

module _ (shape : Shape) (P : List Step) (still : Bool) (k : ℕ) (node : ℕ) (me : Option Inc) where
  vain-stirs : (filter : Sigsel) (rest waits : Bool) → vain_look rest waits filter ≡ None
      → (rest ≡ false) × (waits ≡ true)
  vain-stirs filter true waits is = cc
  vain-stirs filter false true is = (refl, refl)
  vain-stirs filter false false is = cc

  look-vain : (filter : Sigsel) (item : Option Item)
      → first_selected filter (queue_of P me) ≡ item → look shape P still k filter item ≡ None
      → LooksInVain shape P still k me (asks.Look filter)
  look-vain filter None none is =
      let vain = vain-stirs filter (is_at_rest shape P k && still) (is_some (waits_with P k)) is in
      record {
        filter = filter;
        looks = refl;
        none = none;
        stirs = vain.0;
        waits = vain.1;
      }
  look-vain filter (Some item) none is = cc

  -- only a look makes no step
  head-vain : (event : Event) (note : SigNote)
      → head_of shape P still k node me event note ≡ None
      → LooksInVain shape P still k me event
  head-vain (asks.Look filter) note is =
      look-vain filter (first_selected filter (queue_of P me)) refl is
  head-vain _ note is = cc

  refusal-steps : (reason : Refusal) (given : Ask) → given ≡ refused reason
      → head_of shape P still k node me given.event (signal_in given.hand) ≡ None → ⊥
  refusal-steps reason given is none =
      let refuses : given.event ≡ asks.Refuse reason = ap (λ (a : Ask). a.event) is in
      let bad : Some (heads.Refused reason) ≡ None =
      sym (ap (λ (e : Event). head_of shape P still k node me e (signal_in given.hand)) refuses)
      ∙ none in
      cc

  -- and it is never one that is refused
  granted-vain : (e : Option Inc) (at : ℕ) (ask : Ask) → (given : Ask) → given ≡ granted_by e at ask
      → head_of shape P still k node me given.event (signal_in given.hand) ≡ None
      → LooksInVain shape P still k me ask.event
  granted-vain (Some i) at ask given is none = go (asks_to_open ask.event) is
    where
      go : (b : Bool) → given ≡ cond b (refused (Refusal.IsOpen i)) ask
          → LooksInVain shape P still k me ask.event
      go true is = absurd (refusal-steps (Refusal.IsOpen i) given is none)
      go false is = subst (λ (a : Ask). LooksInVain shape P still k me a.event) is
          (head-vain given.event (signal_in given.hand) none)
  granted-vain None at ask given is none = go (needs_endpoint ask.event) is
    where
      go : (b : Bool) → given ≡ cond b (refused (Refusal.NotOpen at)) ask
          → LooksInVain shape P still k me ask.event
      go true is = absurd (refusal-steps (Refusal.NotOpen at) given is none)
      go false is = subst (λ (a : Ask). LooksInVain shape P still k me a.event) is
          (head-vain given.event (signal_in given.hand) none)

  look-ends : (filter : Sigsel) (item : Option Item)
      → ends (look shape P still k filter item) ≡ false
  look-ends filter None = vain (is_at_rest shape P k && still) (is_some (waits_with P k))
    where
      vain : (rest waits : Bool) → ends (vain_look rest waits filter) ≡ false
      vain true waits = refl
      vain false true = refl
      vain false false = refl
  look-ends filter (Some item) = refl

  -- the end alone ends
  head-ends : (event : Event) (note : SigNote)
      → ends (head_of shape P still k node me event note) ≡ is_end_event event
  head-ends (asks.Look filter) note = look-ends filter (first_selected filter (queue_of P me))
  head-ends _ note = refl

-- what is granted of an event that is no end is no end
granted-runs : (e : Option Inc) (at : ℕ) (ask : Ask) → is_end_event ask.event ≡ false
    → is_end_event (granted_by e at ask).event ≡ false
granted-runs (Some i) at ask runs = go (asks_to_open ask.event)
  where
    go : (b : Bool) → is_end_event (cond b (refused (Refusal.IsOpen i)) ask).event ≡ false
    go true = refl
    go false = runs
granted-runs None at ask runs = go (needs_endpoint ask.event)
  where
    go : (b : Bool) → is_end_event (cond b (refused (Refusal.NotOpen at)) ask).event ≡ false
    go true = refl
    go false = runs

module _ (shape : Shape) (P : List Step) (still : Bool) (k : ℕ) (ask : Ask) where
  -- the machine makes no end, if what an actor asks is none
  pub head-runs : (head : Head) → head_for shape P still (Actor k) ask ≡ Some head
      → is_end_event ask.event ≡ false → is_end head ≡ false
  head-runs head is runs =
      let given = granted P k ask in
      sym (ap ends is)
      ∙ (head-ends shape P still k (node_by shape (Actor k)) (endpoint_of P k) given.event
      (signal_in given.hand)
      ∙ granted-runs (endpoint_of P k) (closed_step P k) ask runs)

  -- and of a look in vain alone it makes nothing
  actor-vain : head_for shape P still (Actor k) ask ≡ None
      → LooksInVain shape P still k (endpoint_of P k) ask.event
  actor-vain is =
      granted-vain shape P still k (node_by shape (Actor k)) (endpoint_of P k) (endpoint_of P k)
      (closed_step P k) ask (granted P k ask) refl is

-- a pump's event makes a step
pump-steps : (link : ℕ) (event : Event) → may_ask (Pump (record { 0 = link })) event ≡ true
    → pumped_head event ≡ None → ⊥
pump-steps link asks.Close may is = cc
pump-steps link _ may is = cc

module _ (x y : Layout) (ask : Ask) where
  abbrev still : Bool
  still = no_link_stirs x.shape x.log.steps (trunks_of x.trunks)

  -- where there is no step, a look was in vain
  none-gives : (by : By) → may_ask by ask.event ≡ true
      → head_for x.shape x.log.steps still by ask ≡ None → (answer : StepAnswer)
      → IsStepFor x y by None answer → FindsNothing x y by ask answer
  none-gives (Actor k) may is answer made =
      let vain = actor-vain x.shape x.log.steps still k ask is in
      record {
        actor = k;
        is_actor = refl;
        filter = vain.filter;
        looks = vain.looks;
        none = vain.none;
        stirs = vain.stirs;
        waits = vain.waits;
        head = is;
        same = made.0;
        reply = made.1;
      }
  none-gives (Pump link) may is answer made = absurd (pump-steps link.0 ask.event may is)

  module _ (by : By) where
    -- a step with this head was made
    one-gives : (head : Head) → head_for x.shape x.log.steps still by ask ≡ Some head
        → (answer : StepAnswer) → IsStepOf x y by head answer → IsLegal x.shape y.log.steps
        → MakesStep x y by ask answer
    one-gives head is answer made legal = record {
      step = record { by = by; head = head; effects = made.effects };
      made_by = refl;
      head = is;
      added = made.steps;
      legal = (subst (IsLegal x.shape) made.steps legal).1;
      makes = made.makes;
      reply = made.answered;
    }

    -- WHAT THE MACHINE ANSWERS is what a call gives
    step-gives : (answer : StepAnswer) → may_ask by ask.event ≡ true
        → IsStepped x y by ask answer → IsLegal x.shape y.log.steps
        → Gives x y by ask (Ok answer)
    step-gives answer may stepped legal =
        go (head_for x.shape x.log.steps still by ask) refl stepped
      where
        go : (head : Option Head) → head_for x.shape x.log.steps still by ask ≡ head
            → IsStepFor x y by head answer → Gives x y by ask (Ok answer)
        go None is made = inr (none-gives by may is answer made)
        go (Some head) is made = inl (one-gives head is answer made legal)

    -- WHAT THE FABRIC'S STEP PROMISES is what a call does
    pub fabric-answers : (result : Result StepAnswer StepStop) → may_ask by ask.event ≡ true
        → IfOk result (IsStepped x y by ask)
        → (is_full x.log.steps ≡ true
        → result ≡ Err (record { cause = JournalFull; hand = ask.hand }))
        → IfErr result (λ stop. stop.cause ≡ JournalFull → is_full x.log.steps ≡ true)
        → IfErr result (λ stop. (stop.hand ≡ ask.hand) × (y ≡ x))
        → IsLegal x.shape y.log.steps → IsAnswered x y by ask result
    fabric-answers (Ok answer) may ok full full_only back legal = record {
      gives = step-gives answer may ok legal;
      full = full;
    }
    fabric-answers (Err stop) may ok full full_only back legal = record {
      gives = record { same = back.1; hand = back.0; full = full_only };
      full = full;
    }

-- what an event of an actor speaks of is there on any fabric that is laid out so
pub fits-there : (f g : Layout) → f.shape ≡ g.shape → f.log.names ≡ g.log.names → (node : ℕ)
    (event : Event) (note : SigNote) → is_pump_event event ≡ false → FitsEvent f node event note
    → FitsEvent g node event note
fits-there f g shape names node (asks.Hunt path) note own fits =
    subst (λ (s : Shape). LeavesBy s node path) shape fits
fits-there f g shape names node (asks.Cut l) note own fits =
    subst (λ (s : Shape). IsLinkOf s l) shape fits
fits-there f g shape names node (asks.Mend l) note own fits =
    subst (λ (s : Shape). IsLinkOf s l) shape fits
fits-there f g shape names node (asks.Restart n) note own fits = rw (← names) fits
fits-there f g shape names node (asks.Settle l) note own fits =
    subst (λ (s : Shape). IsLinkOf s l) shape fits
fits-there f g shape names node (asks.Wire l from verdict) note own fits = cc
fits-there f g shape names node (asks.Tick l side) note own fits = cc
fits-there f g shape names node _ note own fits = fits
