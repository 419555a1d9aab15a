-- How far an actor goes in its turn: its step, and after a settle the steps that settle the link.
use Rattle.std.proofs.Common.{◌≡◌, ℕ, suc, ◌<◌, ◌⊎◌, Bool, true, false, List, ◌∷◌, length, Option}
use Rattle.std.proofs.Common.{Some, None, refl, sym, ◌∙◌, ap, subst, inl, inr, arith, ◌&&◌, nat_le}
use Rattle.std.proofs.Common.{eq-eqb, le-leb, true≢false}
use Rattle.std.proofs.lemmas.Bool.{cases_lt, or_left}
use Rattle.std.proofs.lemmas.Option.{same_Some}
use Rattle.linx_base.specs.declared.identity.Inc.{Inc}
use Rattle.linx_base.specs.declared.identity.LinkNo.{LinkNo}
use Rattle.linx_base.specs.SigNotes.{SigNote}
use Rattle.journal.specs.declared.by.By.{By}
use Rattle.journal.specs.declared.by.By.TheVariants.{Actor}
use Rattle.journal.specs.declared.effect.Effect.{Effect}
use Rattle.journal.specs.declared.effect.Step.{Step}
use Rattle.journal.specs.declared.event.Event.{Event}
use Rattle.journal.specs.declared.event.Event.TheVariants as asks
use Rattle.journal.specs.declared.head.Head.{Head}
use Rattle.journal.specs.declared.head.Head.TheVariants as heads
use Rattle.journal.specs.History.{closed_step, endpoint_of, has_ended, is_by}
use Rattle.journal.specs.Laws.{IsMaker}
use Rattle.journal.specs.Logs.{is_full}
use Rattle.journal.specs.Rest.{waits_with}
use Rattle.journal.specs.Shapes.{Shape, node_by}
use Rattle.link_laws.specs.Ends.{IsLinkOf}
use Rattle.link_laws.specs.Sessions.{is_cut}
use Rattle.node_kernel.specs.Answers.{granted_by}
use Rattle.node_kernel.specs.declared.answers.StepAnswer.{StepAnswer}
use Rattle.node_kernel.specs.declared.ask.Ask.{Ask}
use Rattle.fabric.specs.Actings.{OnlyRuns, asking}
use Rattle.fabric.specs.Asks.{FitsEvent, MayAsk}
use Rattle.fabric.specs.Links.{are_plans_ended}
use Rattle.fabric.specs.Machine.{granted_head, head_for, signal_in}
use Rattle.fabric.specs.Run.{IsStepFor, IsStepOf, IsStepped, Layout}
use Rattle.stage.specs.Settlings.{AreSettlings, GoesOnAfter, IsDone, IsHalfDone, IsSettled, MayGoOn}
use Rattle.stage.specs.Settlings.{leaves_cut, settled_by, settles_none, settles_whole}
use Rattle.stage.proofs.Settling.Steps.{IsUnder, settlings-grow, still_in}

-- THE EVENT that settles a link
pub settles_it : (event : Event) (l : LinkNo) → settled_by event ≡ Some l → event ≡ asks.Settle l
settles_it (asks.Settle m) l is = ap asks.Settle (the_link is)
  where
    the_link : {a b : LinkNo} → Some a ≡ Some b → a ≡ b
    the_link same = cc
settles_it _ l is = cc

-- what is made of it
settle-granted : (l : LinkNo) (hand : Option SigNote) (e : Option Inc) (at : ℕ)
    → granted_by e at (asking (asks.Settle l) hand) ≡ asking (asks.Settle l) hand
settle-granted l hand None at = refl
settle-granted l hand (Some i) at = refl

pub settle-made : (old new : Layout) (k : ℕ) (ask : Ask) (answer : StepAnswer) (l : LinkNo)
    → ask.event ≡ asks.Settle l → IsStepped old new (Actor k) ask answer
    → IsStepOf old new (Actor k) (heads.Settle l) answer
settle-made old new k ask answer l is stepped =
    subst (λ (h : Option Head). IsStepFor old new (Actor k) h answer)
    (ap (λ (e : Event). head_for old.shape old.log.steps (still_in old) (Actor k)
    (asking e ask.hand)) is
    ∙ ap (granted_head old.shape old.log.steps (still_in old) k)
    (settle-granted l ask.hand (endpoint_of old.log.steps k) (closed_step old.log.steps k)))
    stepped

and_false : (b : Bool) → (b && false) ≡ false
and_false true = refl
and_false false = refl

-- AFTER THE STEP OF A SETTLE
module _ (k : ℕ) (l : LinkNo) (P : List Step) (es : List Effect) where
  abbrev s : Step
  s = record { by = Actor k; head = heads.Settle l; effects = es }

  settled-marks : are_plans_ended (s ∷ P) l.0 ≡ true
  settled-marks = rw (eq-eqb l.0 l.0 refl) refl

  settled-runs : has_ended P k ≡ false → has_ended (s ∷ P) k ≡ false
  settled-runs running = rw (and_false (is_by (Actor k) k), running) refl

  settled-calm : waits_with (s ∷ P) k ≡ None
  settled-calm = rw (eq-eqb k k refl) refl

  settled-under : is_cut (s ∷ P) l.0 ≡ false → IsUnder k l (s ∷ P)
  settled-under whole =
      let before : is_cut P l.0 ≡ false = whole in
      record { whole = whole; settled = settled-marks; settler = rw before refl }

-- of such a step
module _ (old new : Layout) (k : ℕ) (l : LinkNo) (answer : StepAnswer)
    (step : IsStepOf old new (Actor k) (heads.Settle l) answer) where
  pub begun-settled : are_plans_ended new.log.steps l.0 ≡ true
  begun-settled =
      subst (λ (Q : List Step). are_plans_ended Q l.0 ≡ true) (sym step.steps)
      (settled-marks k l old.log.steps step.effects)

  pub begun-runs : has_ended old.log.steps k ≡ false → has_ended new.log.steps k ≡ false
  begun-runs running =
      subst (λ (Q : List Step). has_ended Q k ≡ false) (sym step.steps)
      (settled-runs k l old.log.steps step.effects running)

  pub begun-calm : waits_with new.log.steps k ≡ None
  begun-calm =
      subst (λ (Q : List Step). waits_with Q k ≡ None) (sym step.steps)
      (settled-calm k l old.log.steps step.effects)

  pub begun-under : is_cut new.log.steps l.0 ≡ false → IsUnder k l new.log.steps
  begun-under whole =
      subst (IsUnder k l) (sym step.steps)
      (settled-under k l old.log.steps step.effects
      (subst (λ (Q : List Step). is_cut Q l.0 ≡ false) step.steps whole))

-- the link of a settle that may be asked for is there
pub settles-there : (f : Layout) (k : ℕ) (ask : Ask) (l : LinkNo) → MayAsk f (Actor k) ask
    → ask.event ≡ asks.Settle l → IsLinkOf f.shape l
settles-there f k ask l may event =
    subst (λ (e : Event). FitsEvent f (node_by f.shape (Actor k)) e (signal_in ask.hand)) event
    may.fits

-- WHAT GOING ON NEEDS is there
pub may-go_on : (old new : Layout) (k : ℕ) (ask : Ask) (answer : StepAnswer)
    → MayAsk old (Actor k) ask → IsStepped old new (Actor k) ask answer → OnlyRuns old new
    → MayGoOn (settled_by ask.event) k new
may-go_on old new k ask answer may stepped fixed = go (settled_by ask.event) refl
  where
    go : (o : Option LinkNo) → settled_by ask.event ≡ o → MayGoOn o k new
    go None is = tt
    go (Some l) is =
        let event : ask.event ≡ asks.Settle l = settles_it ask.event l is in
        let step = settle-made old new k ask answer l event stepped in
        let same : new.shape ≡ old.shape = ap (λ (f : Layout). f.shape) fixed in
        record {
          declared = subst (λ (x : Shape). IsLinkOf x l) (sym same)
              (settles-there old k ask l may event);
          maker = subst (λ (x : Shape). IsMaker x new.log.steps (Actor k)) (sym same)
              (may.maker.0, may.maker.1, begun-runs old new k l answer step may.maker.2);
          settled = begun-settled old new k l answer step;
        }

-- HOW FAR AN ACTOR GOES after its step: it stops there, or it has settled a link so far
pub record SettlesOn (event : Event) (k : ℕ) (between new : Layout) : Type 0 where
  pub link : LinkNo
  pub asked : event ≡ asks.Settle link
  pub whole : is_cut between.log.steps link.0 ≡ false
  pub steps : ℕ
  pub made : AreSettlings (Actor k) link steps between new

pub record GoesFar (old new : Layout) (k : ℕ) (ask : Ask) (answer : StepAnswer) : Type 0 where
  pub between : Layout
  pub stepped : IsStepped old between (Actor k) ask answer
  pub fixed : OnlyRuns old between
  pub rest : (new ≡ between) ⊎ SettlesOn ask.event k between new

after-far : (event : Event) (k : ℕ) (between new : Layout)
    → GoesOnAfter (settled_by event) k between new
    → (new ≡ between) ⊎ SettlesOn event k between new
after-far event k between new (settles_none none same) = inl same
after-far event k between new (leaves_cut l is cut same) = inl same
after-far event k between new (settles_whole l is whole ticks settled) = inr (record {
  link = l;
  asked = settles_it event l is;
  whole = whole;
  steps = settled.steps;
  made = settled.made;
})

pub done-far : (old new : Layout) (k : ℕ) (ask : Ask) (answer : StepAnswer)
    → IsDone old new k ask answer → GoesFar old new k ask answer
done-far old new k ask answer done = record {
  between = done.between;
  stepped = done.stepped;
  fixed = done.fixed;
  rest = after-far ask.event k done.between new done.goes_on;
}

pub half-far : (old new : Layout) (k : ℕ) (ask : Ask) (answer : StepAnswer)
    → IsHalfDone old new k ask answer → GoesFar old new k ask answer
half-far old new k ask answer half = record {
  between = half.between;
  stepped = half.stepped;
  fixed = half.fixed;
  rest = inr (record {
    link = half.stops.link;
    asked = settles_it ask.event half.stops.link half.stops.asked;
    whole = half.stops.whole;
    steps = half.stops.stops.steps;
    made = half.stops.stops.made;
  });
}

-- WHAT FOLLOWS AFTER A STEP, once it is known whether it settles a link: of one that settles no
-- link that isn't cut, nothing
module _ (settled : Option LinkNo) (k : ℕ) (between new : Layout) where
  pub goes-nowhere : ((l : LinkNo) → settled ≡ Some l → is_cut between.log.steps l.0 ≡ true)
      → GoesOnAfter settled k between new → new ≡ between
  goes-nowhere cut (settles_none none same) = same
  goes-nowhere cut (leaves_cut l is so same) = same
  goes-nowhere cut (settles_whole l is whole ticks settling) =
      absurd (true≢false (sym (cut l is) ∙ whole))

  -- of one that settles this link, which isn't cut, that it is settled
  pub goes-settling : (l : LinkNo) → settled ≡ Some l → is_cut between.log.steps l.0 ≡ false
      → GoesOnAfter settled k between new → (ticks : ℕ) × IsSettled (Actor k) l ticks between new
  goes-settling l is whole (settles_none none same) = absurd (none-some none is)
    where
      none-some : settled ≡ None → settled ≡ Some l → ⊥
      none-some none some = cc
  goes-settling l is whole (leaves_cut other so cut same) =
      let its : other ≡ l = same_Some other l (sym so ∙ is) in
      absurd (true≢false (sym cut ∙ ap (λ (m : LinkNo). is_cut between.log.steps m.0) its ∙ whole))
  goes-settling l is whole (settles_whole other so too ticks settling) = (
    ticks,
    subst (λ (m : LinkNo). IsSettled (Actor k) m ticks between new)
        (same_Some other l (sym so ∙ is)) settling,
  )

-- A STEP OR NONE. What a maker asks for adds a step, or changes nothing
pub step-grows : (old new : Layout) (by : By) (head : Option Head) (answer : StepAnswer)
    → IsStepFor old new by head answer
    → (new ≡ old) ⊎ (length old.log.steps < length new.log.steps)
step-grows old new by None answer made = inl made.0
step-grows old new by (Some head) answer made =
    let long : length new.log.steps ≡ suc (length old.log.steps) = ap length made.steps in
    inr (omega arith)

pub grows-more : (a b c : Layout) → (b ≡ a) ⊎ (length a.log.steps < length b.log.steps)
    → (c ≡ b) ⊎ (length b.log.steps < length c.log.steps)
    → (c ≡ a) ⊎ (length a.log.steps < length c.log.steps)
grows-more a b c (inl same) (inl again) = inl (again ∙ same)
grows-more a b c (inl same) (inr more) =
    let long : length b.log.steps ≡ length a.log.steps =
    ap (λ (f : Layout). length f.log.steps) same in
    inr (omega arith)
grows-more a b c (inr more) (inl same) =
    let long : length c.log.steps ≡ length b.log.steps =
    ap (λ (f : Layout). length f.log.steps) same in
    inr (omega arith)
grows-more a b c (inr more) (inr again) = inr (omega arith)

rest-grows : (event : Event) (k : ℕ) (between new : Layout)
    → (new ≡ between) ⊎ SettlesOn event k between new
    → (new ≡ between) ⊎ (length between.log.steps < length new.log.steps)
rest-grows event k between new (inl same) = inl same
rest-grows event k between new (inr on) =
    settlings-grow (Actor k) on.link on.steps between new on.made

pub far-grows : (old new : Layout) (k : ℕ) (ask : Ask) (answer : StepAnswer)
    → GoesFar old new k ask answer → (new ≡ old) ⊎ (length old.log.steps < length new.log.steps)
far-grows old new k ask answer far =
    grows-more old far.between new
    (step-grows old far.between (Actor k)
    (head_for old.shape old.log.steps (still_in old) (Actor k) ask) answer far.stepped)
    (rest-grows ask.event k far.between new far.rest)

-- where nothing is added, no step is made
pub done-still : (f : Layout) (k : ℕ) (ask : Ask) (answer : StepAnswer) → IsDone f f k ask answer
    → IsStepped f f (Actor k) ask answer
done-still f k ask answer done =
    elim (step-grows f done.between (Actor k)
    (head_for f.shape f.log.steps (still_in f) (Actor k) ask) answer done.stepped) [
      | inl same ↦ subst (λ (x : Layout). IsStepped f x (Actor k) ask answer) same done.stepped
      | inr more ↦
          absurd (shrinks more (rest-grows ask.event k done.between f
          (after-far ask.event k done.between f done.goes_on)))
    ]
  where
    shrinks : length f.log.steps < length done.between.log.steps
        → (f ≡ done.between) ⊎ (length done.between.log.steps < length f.log.steps) → ⊥
    shrinks more (inl same) =
        let long : length f.log.steps ≡ length done.between.log.steps =
        ap (λ (x : Layout). length x.log.steps) same in
        omega arith
    shrinks more (inr less) = omega arith

-- A JOURNAL THAT ISN'T FULL takes one step more
pub not_full : (P : List Step) → (is_full P ≡ true → ⊥) → length P < 200000
not_full P room =
    elim (cases_lt (length P) 200000) [
      | inl less ↦ less
      | inr full ↦
          absurd (room (or_left (nat_le 200000 (length P)) _ (le-leb 200000 (length P) full)))
    ]
