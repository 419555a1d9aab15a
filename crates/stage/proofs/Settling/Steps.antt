-- The steps that settle a link: those of its pump, which an actor makes itself.
use Rattle.std.proofs.Common.{◌≡◌, ℕ, zero, suc, ◌<◌, ◌⊎◌, Bool, true, false, List, ◌∷◌, length}
use Rattle.std.proofs.Common.{Option, Some, None, refl, sym, ◌∙◌, ap, subst, inl, inr, arith}
use Rattle.std.proofs.Common.{is_some, eq-eqb, le-leb, lt-ltb, true≢false}
use Rattle.linx_base.specs.declared.frame.Verdict.{Verdict}
use Rattle.linx_base.specs.declared.frame.Verdict.TheVariants.{Deliver}
use Rattle.linx_base.specs.declared.identity.Inc.{Inc}
use Rattle.linx_base.specs.declared.identity.LinkNo.{LinkNo}
use Rattle.linx_base.specs.declared.identity.Side.{Side}
use Rattle.journal.specs.declared.by.By.{By}
use Rattle.journal.specs.declared.by.By.TheVariants.{Actor, Pump}
use Rattle.journal.specs.declared.effect.Effect.{Effect}
use Rattle.journal.specs.declared.effect.Step.{Step}
use Rattle.journal.specs.declared.event.Event.{Event}
use Rattle.journal.specs.declared.event.Event.TheVariants as asks
use Rattle.journal.specs.declared.head.Head.{Head}
use Rattle.journal.specs.declared.head.Head.TheVariants as heads
use Rattle.journal.specs.History.{closed_step, endpoint_of, is_end}
use Rattle.journal.specs.Laws.{IsMaker}
use Rattle.journal.specs.Shapes.{Shape}
use Rattle.link_laws.specs.Ends.{IsLinkOf}
use Rattle.link_laws.specs.Sessions.{cut_after, is_cut}
use Rattle.node_kernel.specs.Answers.{answer_of, event_of, granted_by, is_pumped}
use Rattle.node_kernel.specs.declared.answers.StepAnswer.{StepAnswer}
use Rattle.node_kernel.specs.declared.answers.StepAnswer.TheVariants as answers
use Rattle.run_trunks.specs.States.{trunks_of}
use Rattle.script_lang.specs.Parts.{ScriptParts}
use Rattle.trunk_moves.specs.Trunks.{RunTrunks}
use Rattle.fabric.specs.Actings.{OnlyRuns, asking}
use Rattle.fabric.specs.Asks.{MayAsk, may_ask}
use Rattle.fabric.specs.Links.{are_plans_ended, no_link_stirs, stirs}
use Rattle.fabric.specs.Machine.{granted_head, head_for}
use Rattle.fabric.specs.Run.{IsStepFor, IsStepOf, IsStepped, Layout}
use Rattle.stage.specs.Pumps.{event_with, flying_side, pump_event, settling_event, verdict_for}
use Rattle.stage.specs.Settlings.{AreSettlings, IsSettling, MaySettle, if_stirs, settler}
use Rattle.stage.specs.Settlings.{settler_now, settler_of, stirs_on}
use Rattle.stage.proofs.Plans.PumpsRule.{IsTick, IsWire, event-asked, event-stirs}

-- every packet is delivered
abbrev pub delivering : Side → Verdict
delivering from = Deliver

-- OF A SETTLED LINK that isn't cut these are the steps that its pump asks for
module _ (script : ScriptParts) (P : List Step) (trunks : RunTrunks) (l : LinkNo)
    (whole : is_cut P l.0 ≡ false) (settled : are_plans_ended P l.0 ≡ true) where
  same_event : (o : Option Side)
      → event_with (verdict_for script P l) P trunks l o ≡ event_with delivering P trunks l o
  same_event None = refl
  same_event (Some from) = rw (whole, settled) refl

  pub pump-settles : pump_event script P trunks l ≡ settling_event P trunks l
  pump-settles = same_event (flying_side (trunks l.0))

-- there is one exactly where the link stirs
pub settling-stirs : (P : List Step) (trunks : RunTrunks) (l : LinkNo)
    → is_some (settling_event P trunks l) ≡ stirs P trunks l.0
settling-stirs P trunks l = event-stirs delivering P trunks l

pub settling-asked : (P : List Step) (trunks : RunTrunks) (l : LinkNo) (event : Event)
    → settling_event P trunks l ≡ Some event
    → IsWire delivering P trunks l event ⊎ IsTick delivering P trunks l event
settling-asked P trunks l event is = event-asked delivering P trunks l event is

-- a link stirs where a step is due
pub due-stirs : (P : List Step) (trunks : RunTrunks) (l : LinkNo) (event : Event)
    → settling_event P trunks l ≡ Some event → stirs P trunks l.0 ≡ true
due-stirs P trunks l event is = sym (settling-stirs P trunks l) ∙ ap is_some is

-- A HEAD OF A LINK'S PUMP: of a packet that is delivered, or of a tick
pub data IsMoveOf (l : LinkNo) (head : Head) : Type 0 where
  delivers : (from : Side) → head ≡ heads.Wire l from Deliver → IsMoveOf l head
  beats : (side : Side) → head ≡ heads.Tick l side → IsMoveOf l head

-- what holds of both holds of it
pub by-move : (l : LinkNo) (Q : Head → Type 0) → ((from : Side) → Q (heads.Wire l from Deliver))
    → ((side : Side) → Q (heads.Tick l side)) → (head : Head) → IsMoveOf l head → Q head
by-move l Q wire tick head (delivers from is) = subst Q (sym is) (wire from)
by-move l Q wire tick head (beats side is) = subst Q (sym is) (tick side)

-- WHAT IS MADE OF A PUMP'S EVENT, whoever asks for it
wire-granted : (l : LinkNo) (from : Side) (v : Verdict) (e : Option Inc) (at : ℕ)
    → granted_by e at (asking (asks.Wire l from v) None) ≡ asking (asks.Wire l from v) None
wire-granted l from v None at = refl
wire-granted l from v (Some i) at = refl

tick-granted : (l : LinkNo) (side : Side) (e : Option Inc) (at : ℕ)
    → granted_by e at (asking (asks.Tick l side) None) ≡ asking (asks.Tick l side) None
tick-granted l side None at = refl
tick-granted l side (Some i) at = refl

module _ (shape : Shape) (P : List Step) (still : Bool) where
  wire-head : (by : By) (l : LinkNo) (from : Side) (v : Verdict)
      → head_for shape P still by (asking (asks.Wire l from v) None)
      ≡ Some (heads.Wire l from v)
  wire-head (Actor k) l from v =
      ap (granted_head shape P still k)
      (wire-granted l from v (endpoint_of P k) (closed_step P k))
  wire-head (Pump m) l from v = refl

  tick-head : (by : By) (l : LinkNo) (side : Side)
      → head_for shape P still by (asking (asks.Tick l side) None) ≡ Some (heads.Tick l side)
  tick-head (Actor k) l side =
      ap (granted_head shape P still k)
      (tick-granted l side (endpoint_of P k) (closed_step P k))
  tick-head (Pump m) l side = refl

-- the step of such an event
abbrev pub still_in : Layout → Bool
still_in f = no_link_stirs f.shape f.log.steps (trunks_of f.trunks)

pub wire-made : (old new : Layout) (by : By) (l : LinkNo) (from : Side) (event : Event)
    (answer : StepAnswer) → event ≡ asks.Wire l from Deliver
    → IsStepped old new by (asking event None) answer
    → IsStepOf old new by (heads.Wire l from Deliver) answer
wire-made old new by l from event answer is stepped =
    subst (λ (h : Option Head). IsStepFor old new by h answer)
    (ap (λ (e : Event). head_for old.shape old.log.steps (still_in old) by (asking e None)) is
    ∙ wire-head old.shape old.log.steps (still_in old) by l from Deliver) stepped

pub tick-made : (old new : Layout) (by : By) (l : LinkNo) (side : Side) (event : Event)
    (answer : StepAnswer) → event ≡ asks.Tick l side
    → IsStepped old new by (asking event None) answer
    → IsStepOf old new by (heads.Tick l side) answer
tick-made old new by l side event answer is stepped =
    subst (λ (h : Option Head). IsStepFor old new by h answer)
    (ap (λ (e : Event). head_for old.shape old.log.steps (still_in old) by (asking e None)) is
    ∙ tick-head old.shape old.log.steps (still_in old) by l side) stepped

-- A STEP OF SETTLING, by its head
pub record HasMoved (by : By) (l : LinkNo) (old new : Layout) : Type 0 where
  pub head : Head
  pub move : IsMoveOf l head
  pub asked : settling_event old.log.steps (trunks_of old.trunks) l ≡ Some (event_of head)
  pub answer : StepAnswer
  pub step : IsStepOf old new by head answer
  pub fixed : OnlyRuns old new

pub has-moved : (by : By) (l : LinkNo) (old new : Layout) → IsSettling by l old new
    → HasMoved by l old new
has-moved by l old new s =
    elim (settling-asked old.log.steps (trunks_of old.trunks) l s.event s.asked) [
      | inl wire ↦ record {
        head = heads.Wire l wire.from Deliver;
        move = delivers wire.from refl;
        asked = s.asked ∙ ap (λ (e : Event). Some e) wire.is;
        answer = s.answer;
        step = wire-made old new by l wire.from s.event s.answer wire.is s.stepped;
        fixed = s.fixed;
      }
      | inr tick ↦ record {
        head = heads.Tick l tick.side;
        move = beats tick.side refl;
        asked = s.asked ∙ ap (λ (e : Event). Some e) tick.is;
        answer = s.answer;
        step = tick-made old new by l tick.side s.event s.answer tick.is s.stepped;
        fixed = s.fixed;
      }
    ]

-- what such a head is
pub move-pumped : (l : LinkNo) (head : Head) → IsMoveOf l head → is_pumped head ≡ true
move-pumped l = by-move l (λ (h : Head). is_pumped h ≡ true) (λ from. refl) (λ side. refl)

pub move-goes_on : (l : LinkNo) (head : Head) → IsMoveOf l head → is_end head ≡ false
move-goes_on l = by-move l (λ (h : Head). is_end h ≡ false) (λ from. refl) (λ side. refl)

pub move-done : (l : LinkNo) (P : List Step) (es : List Effect) (head : Head) → IsMoveOf l head
    → answer_of P head es ≡ answers.Done
move-done l P es =
    by-move l (λ (h : Head). answer_of P h es ≡ answers.Done) (λ from. refl) (λ side. refl)

-- WHILE A LINK IS BEING SETTLED by actor k
pub record IsUnder (k : ℕ) (l : LinkNo) (P : List Step) : Type 0 where
  pub whole : is_cut P l.0 ≡ false
  pub settled : are_plans_ended P l.0 ≡ true
  pub settler : settler_of P ≡ Some (settler k l)

-- a step of it is added
module _ (by : By) (l : LinkNo) (P : List Step) (head : Head) (es : List Effect)
    (move : IsMoveOf l head) where
  abbrev s : Step
  s = record { by = by; head = head; effects = es }

  pub moved-whole : is_cut P l.0 ≡ false → is_cut (s ∷ P) l.0 ≡ false
  moved-whole whole =
      by-move l (λ (h : Head). cut_after l.0 (is_cut P l.0) h ≡ false) (λ from. whole)
      (λ side. whole) head move

  pub moved-settled : are_plans_ended P l.0 ≡ true → are_plans_ended (s ∷ P) l.0 ≡ true
  moved-settled settled =
      by-move l (λ (h : Head). are_plans_ended ((let x : Step =
      record { by = by; head = h; effects = es } in x) ∷ P) l.0 ≡ true) (λ from. settled)
      (λ side. settled) head move

pub moved-settler : (k : ℕ) (l : LinkNo) (P : List Step) (head : Head) (es : List Effect)
    → IsMoveOf l head
    → settler_of ((let x : Step = record { by = Actor k; head = head; effects = es } in x) ∷ P)
    ≡ Some (settler k l)
moved-settler k l P head es =
    by-move l (λ (h : Head).
    settler_of ((let x : Step = record { by = Actor k; head = h; effects = es } in x) ∷ P)
    ≡ Some (settler k l)) (λ from. refl) (λ side. refl) head

-- one step, and so many
pub under-moved : (k : ℕ) (l : LinkNo) (old new : Layout) → HasMoved (Actor k) l old new
    → IsUnder k l old.log.steps → IsUnder k l new.log.steps
under-moved k l old new moved under =
    subst (IsUnder k l) (sym moved.step.steps) (record {
      whole = moved-whole (Actor k) l old.log.steps moved.head moved.step.effects moved.move
          under.whole;
      settled = moved-settled (Actor k) l old.log.steps moved.head moved.step.effects moved.move
          under.settled;
      settler = moved-settler k l old.log.steps moved.head moved.step.effects moved.move;
    })

pub settlings-under : (k : ℕ) (l : LinkNo) (n : ℕ) (old new : Layout)
    → AreSettlings (Actor k) l n old new → IsUnder k l old.log.steps → IsUnder k l new.log.steps
settlings-under k l zero old new made under =
    subst (λ (f : Layout). IsUnder k l f.log.steps) (sym made) under
settlings-under k l (suc n) old new made under =
    under-moved k l made.0 new (has-moved (Actor k) l made.0 new made.1.1)
    (settlings-under k l n old made.0 made.1.0 under)

-- WHO SETTLES IT NOW
pub settles-now : (shape : Shape) (k : ℕ) (l : LinkNo) (P : List Step) (trunks : RunTrunks)
    → settler_of P ≡ Some (settler k l) → IsLinkOf shape l → stirs P trunks l.0 ≡ true
    → settler_now shape P trunks ≡ Some (settler k l)
settles-now shape k l P trunks is of_shape moves =
    let on : stirs_on shape P trunks l ≡ true =
    rw (lt-ltb 0 l.0 of_shape.0, le-leb l.0 (length shape.links) of_shape.1, moves) refl in
    ap (if_stirs shape P trunks) is ∙ rw on refl

-- IT GROWS by each step
pub moved-grows : (by : By) (l : LinkNo) (old new : Layout) → IsSettling by l old new
    → length new.log.steps ≡ suc (length old.log.steps)
moved-grows by l old new s = ap length (has-moved by l old new s).step.steps

pub settlings-grow : (by : By) (l : LinkNo) (n : ℕ) (old new : Layout)
    → AreSettlings by l n old new → (new ≡ old) ⊎ (length old.log.steps < length new.log.steps)
settlings-grow by l zero old new made = inl made
settlings-grow by l (suc n) old new made =
    let more = moved-grows by l made.0 new made.1.1 in
    elim (settlings-grow by l n old made.0 made.1.0) [
      | inl same ↦
          let long : length made.0.log.steps ≡ length old.log.steps =
          ap (λ (f : Layout). length f.log.steps) same in
          inr (omega arith)
      | inr less ↦ inr (omega arith)
    ]

-- nothing but the run changes
pub runs-more : (a b c : Layout) → OnlyRuns a b → OnlyRuns b c → OnlyRuns a c
runs-more a b c first second = second ∙ rw first refl

pub settlings-fixed : (by : By) (l : LinkNo) (n : ℕ) (old new : Layout)
    → AreSettlings by l n old new → OnlyRuns old new
settlings-fixed by l zero old new made = rw made refl
settlings-fixed by l (suc n) old new made =
    runs-more old made.0 new (settlings-fixed by l n old made.0 made.1.0) made.1.1.fixed

-- WHAT ITS MAKER MAY ASK FOR
module _ (f : Layout) (by : By) (l : LinkNo) (of_shape : IsLinkOf f.shape l)
    (maker : IsMaker f.shape f.log.steps by) (whole : is_cut f.log.steps l.0 ≡ false) where
  may-wire : (m : By) → MaySettle m l → (from : Side) (v : Verdict)
      → may_ask m (asks.Wire l from v) ≡ true
  may-wire (Actor k) may from v = refl
  may-wire (Pump m) may from v = eq-eqb l.0 m.0 (sym may)

  may-tick : (m : By) → MaySettle m l → (side : Side) → may_ask m (asks.Tick l side) ≡ true
  may-tick (Actor k) may side = refl
  may-tick (Pump m) may side = eq-eqb l.0 m.0 (sym may)

  pub settle-asks : MaySettle by l → (event : Event)
      → settling_event f.log.steps (trunks_of f.trunks) l ≡ Some event
      → MayAsk f by (asking event None)
  settle-asks may event is =
      elim (settling-asked f.log.steps (trunks_of f.trunks) l event is) [
        | inl wire ↦
            subst (λ (e : Event). MayAsk f by (asking e None)) (sym wire.is)
            (record {
              maker = maker;
              may = may-wire by may wire.from Deliver;
              handed = refl;
              fits = record {
                of_shape = of_shape;
                flies = wire.flies;
                lost = λ cut. absurd (true≢false (sym cut ∙ whole));
                fits = refl;
              };
            })
        | inr tick ↦
            subst (λ (e : Event). MayAsk f by (asking e None)) (sym tick.is)
            (record {
              maker = maker;
              may = may-tick by may tick.side;
              handed = refl;
              fits = of_shape;
            })
      ]
