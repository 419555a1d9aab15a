-- What an actor is granted, what its step leaves it to settle, and what a link's pump made.
use Rattle.std.proofs.Common.{◌≡◌, ℕ, Bool, true, false, cond, List, ◌==◌, Option, Some, None, refl}
use Rattle.std.proofs.Common.{sym, ap, subst, eqb-true, true≢false}
use Rattle.linx_base.specs.declared.identity.Inc.{Inc}
use Rattle.linx_base.specs.declared.identity.LinkNo.{LinkNo}
use Rattle.journal.specs.Laws.{may_make}
use Rattle.journal.specs.declared.by.By.TheVariants.{Pump}
use Rattle.journal.specs.declared.effect.Step.{Step}
use Rattle.journal.specs.declared.event.Event.{Event}
use Rattle.journal.specs.declared.event.Event.TheVariants as asks
use Rattle.journal.specs.declared.head.Head.{Head}
use Rattle.journal.specs.declared.head.Head.TheVariants as heads
use Rattle.journal.specs.declared.head.Refusal.TheVariants.{IsOpen, NotOpen}
use Rattle.node_kernel.specs.Answers.{asks_to_open, event_of, granted_by, is_pumped, needs_endpoint}
use Rattle.node_kernel.specs.Answers.{refused}
use Rattle.node_kernel.specs.declared.ask.Ask.{Ask}
use Rattle.script_lang.specs.Parts.{ScriptParts}
use Rattle.trunk_moves.specs.Trunks.{RunTrunks}
use Rattle.stage.specs.Plays.{IsPlannedHead}
use Rattle.stage.specs.Pumps.{pump_event}
use Rattle.stage.specs.Settlings.{settler_by}

-- ---- what is granted

-- what is granted is granted again
pub granted_again : (e : Option Inc) (at : ℕ) (ask : Ask)
    → granted_by e at (granted_by e at ask) ≡ granted_by e at ask
granted_again (Some i) at ask = go (asks_to_open ask.event) refl
  where
    go : (b : Bool) → asks_to_open ask.event ≡ b
        → granted_by (Some i) at (cond b (refused (IsOpen i)) ask) ≡ cond b (refused (IsOpen i)) ask
    go true is = refl
    go false is = rw is refl
granted_again None at ask = go (needs_endpoint ask.event) refl
  where
    go : (b : Bool) → needs_endpoint ask.event ≡ b
        → granted_by None at (cond b (refused (NotOpen at)) ask) ≡ cond b (refused (NotOpen at)) ask
    go true is = refl
    go false is = rw is refl

-- what is granted as a settle was asked for as one
pub granted_settle : (e : Option Inc) (at : ℕ) (ask : Ask) (l : LinkNo)
    → (granted_by e at ask).event ≡ asks.Settle l → ask.event ≡ asks.Settle l
granted_settle (Some i) at ask l = go (asks_to_open ask.event)
  where
    go : (b : Bool) → (cond b (refused (IsOpen i)) ask).event ≡ asks.Settle l
        → ask.event ≡ asks.Settle l
    go true is = cc
    go false is = is
granted_settle None at ask l = go (needs_endpoint ask.event)
  where
    go : (b : Bool) → (cond b (refused (NotOpen at)) ask).event ≡ asks.Settle l
        → ask.event ≡ asks.Settle l
    go true is = cc
    go false is = is

-- ---- what a step leaves to its maker

-- an actor's step that is no settle leaves it no link to settle
pub settles_nothing : (P : List Step) (k : ℕ) (head : Head) → is_pumped head ≡ false
    → ((l : LinkNo) → head ≡ heads.Settle l → ⊥) → settler_by P k head ≡ None
settles_nothing P k (heads.Settle l) calm never = absurd (never l refl)
settles_nothing P k (heads.Wire l from verdict) calm never = absurd (true≢false calm)
settles_nothing P k (heads.Tick l side) calm never = absurd (true≢false calm)
settles_nothing P k head calm never = refl

-- a step that a link's pump may make, and that is planned, is the one that this pump asks for
module _ (script : ScriptParts) (P : List Step) (trunks : RunTrunks) (l : LinkNo) where
  its_own : (m : LinkNo) (event : Event) → (m.0 == l.0) ≡ true
      → pump_event script P trunks m ≡ Some event → pump_event script P trunks l ≡ Some event
  its_own m event is due =
      let it : m ≡ l = ap (λ (n : ℕ). record { 0 = n }) (eqb-true m.0 l.0 is) in
      subst (λ (x : LinkNo). pump_event script P trunks x ≡ Some event) it due

  pub asked_of : (head : Head) → may_make (Pump l) head ≡ true → IsPlannedHead script P trunks head
      → pump_event script P trunks l ≡ Some (event_of head)
  asked_of (heads.Wire m from verdict) may planned =
      its_own m (asks.Wire m from verdict) may planned
  asked_of (heads.Tick m side) may planned = its_own m (asks.Tick m side) may planned
  asked_of head may planned = absurd (true≢false (sym may))
