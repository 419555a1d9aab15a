-- What a turn gives back to the lock is its maker's, and what a link's worker knows after it.
use Rattle.std.proofs.Common.{◌≡◌, ℕ, ◌<◌, ◌+◌, ◌-◌, true, false, List, length, map, Option, Some}
use Rattle.std.proofs.Common.{None, refl, sym, ◌∙◌, ap, subst, arith, inl, inr, is_some, Result, Ok}
use Rattle.std.proofs.Common.{Err}
use Rattle.std.proofs.lemmas.List.{length-map}
use Rattle.linx_base.specs.declared.identity.LinkNo.{LinkNo}
use Rattle.journal.specs.declared.by.By.TheVariants.{Pump}
use Rattle.journal.specs.declared.effect.Step.{Step}
use Rattle.journal.specs.Shapes.{Shape}
use Rattle.link_laws.specs.Ends.{IsLinkOf}
use Rattle.node_kernel.specs.declared.ask.Ask.{Ask}
use Rattle.script_lang.specs.declared.actor_script.ActorScript.{ActorScript}
use Rattle.run_trunks.specs.States.{trunks_of}
use Rattle.script_lang.specs.Parts.{ScriptParts}
use Rattle.turn_lock.specs.Passes.{PassView}
use Rattle.turn_lock.specs.Stories.{IsAddedBy}
use Rattle.fabric.specs.declared.stop.StopCause.{StopCause}
use Rattle.fabric.specs.Actings.{OnlyRuns}
use Rattle.fabric.specs.Machine.{all_have_ended}
use Rattle.fabric.specs.Run.{Layout}
use Rattle.linx_api.specs.Telling.{PlanParts, maker_number, story_of}
use Rattle.stage.specs.declared.acting.Acted.{Acted}
use Rattle.stage.specs.declared.stage.Pump as pumps
use Rattle.stage.specs.declared.stage.Pump.TheVariants.{NoWork}
use Rattle.stage.specs.Settlings.{IsActedAs, settler_in, stirs_in}
use Rattle.stage.specs.Turns.{IsPump, asks_nothing, makes_event, shape_of}
use Rattle.stage.proofs.Plans.PumpsRule.{pump-stirs}
use Rattle.workers.specs.Turning.{IsInTurnOf, IsPumpDone, IsPumpTurn, IsPumpedAs}
use Rattle.workers.specs.Working.{IsFinished, IsStillThen, IsWorking, OwnPlanned, seen}
use Rattle.stage.proofs.Plans.SameTrunks.{stirs_alike}
use Rattle.stage.proofs.Plans.OneState.{IsOneState, IsRunOf, reached_run}
use Rattle.workers.proofs.Resting.{found-planned, found-shape, having_seen, seen-all, working-after}
use Rattle.workers.proofs.Turning.{added-acted, added-none, added-pump, found-known, pumped-working}

-- the link of a maker's number
abbrev link_by : ScriptParts → ℕ → LinkNo
link_by script n = record { 0 = n - length script.actors }

-- WHAT AN ACTOR'S TURN GIVES BACK is its own
pub acted-gives : (p turn : PassView Step PlanParts) (found left : Layout)
    → turn ≡ having_seen p found → (ask : Ask) (acted : Acted)
    → IsActedAs found left p.number ask acted → IsAddedBy turn.number (story_of left) turn.front
acted-gives p turn found left taken ask acted came =
    subst (λ (q : PassView Step PlanParts). IsAddedBy q.number (story_of left) q.front) (sym taken)
    (added-acted found left p.number ask acted came)

-- the number of a link behind the actors
number-back : (script : ScriptParts) (shape : Shape) → shape ≡ shape_of script → (n : ℕ)
    → length script.actors < n → maker_number shape (Pump (link_by script n)) ≡ n
number-back script shape is n behind =
    let actors : length (map (λ (a : ActorScript). a.node) script.actors) ≡ length script.actors =
    length-map script.actors (λ (a : ActorScript). a.node) in
    ap (λ (s : Shape). length s.actors + (n - length script.actors)) is ∙ omega arith

-- AND A LINK'S is its pump's
pub pumped-gives : (script : ScriptParts) (p turn : PassView Step PlanParts) (found left : Layout)
    → turn ≡ having_seen p found → found.shape ≡ shape_of script
    → length script.actors < p.number → OnlyRuns found left
    → IsPumpTurn script p.number found left → IsAddedBy turn.number (story_of left) turn.front
pumped-gives script p turn found left taken shape behind fixed pumped =
    subst (λ (q : PassView Step PlanParts). IsAddedBy q.number (story_of left) q.front) (sym taken)
    (go pumped.0 pumped.1)
  where
    go : (r : Result pumps.Pump StopCause)
        → IsPumpedAs script (link_by script p.number) found left r
        → IsAddedBy p.number (story_of left) (story_of found)
    go (Ok pump) is =
        added-pump script found left fixed (link_by script p.number) p.number
        (number-back script found.shape shape p.number behind) pump is
    go (Err cause) is = added-none p.number found left is.0

-- AFTER ITS TURN a link's worker knows what it is to know
pub pumped-knows : (script : ScriptParts) → IsOneState script
    → (before after : PassView Step PlanParts) → IsWorking script before None
    → (found left : Layout) → IsInTurnOf before found left after
    → IsPumpTurn script before.number found left → IsWorking script after None
pumped-knows script one-state before after working found left turn pumped =
    subst (λ (q : PassView Step PlanParts). IsWorking script q None) (sym turn.same)
    (elim turn.calm [
      | inl calm ↦ moved calm pumped.0 pumped.1
      | inr same ↦ still same
    ])
  where
    still : left ≡ found → IsWorking script (having_seen before left) None
    still same =
        working-after script before None working left None working.played
        (subst (λ (f : Layout). OwnPlanned script before.number f.log.steps) (sym same)
        (found-planned script before None working found turn.plan turn.rests))

    moved : settler_in found ≡ None → (r : Result pumps.Pump StopCause)
        → IsPumpedAs script (link_by script before.number) found left r
        → IsWorking script (having_seen before left) None
    moved calm (Ok pump) is =
        pumped-working script one-state before None working found turn.plan turn.rests turn.reached
        left calm turn.fixed (link_by script before.number) pump is None working.played
    moved calm (Err cause) is = still is.0

-- ---- where there is no work

-- A PUMP THAT FINDS NO WORK does nothing, and its link doesn't stir
pub pump-rests : (script : ScriptParts) (l : LinkNo) (old new : Layout)
    → IsPump script l old new NoWork → (new ≡ old) × (stirs_in old l ≡ false)
pump-rests script l old new (asks_nothing none same came) = (
  same,
  sym (pump-stirs script old.log.steps (trunks_of old.trunks) l) ∙ ap is_some none,
)
pump-rests script l old new (makes_event event is made) = let bad = made.came in cc

-- what is told of its last turn
pub pump-done : (script : ScriptParts) (n : ℕ) (old between new : Layout)
    → (pumped : Result pumps.Pump StopCause)
    → IsPumpedAs script (link_by script n) old between pumped → pumped ≡ Ok NoWork
    → new ≡ between → all_have_ended between.shape between.log.steps ≡ true
    → IsPumpDone script n old new
pump-done script n old between new pumped came is same ended =
    let rests = pump-rests script (link_by script n) old between
    (subst (IsPumpedAs script (link_by script n) old between) is came) in
    let all : new ≡ old = same ∙ rests.0 in
    record {
      same = all;
      ended = subst (λ (f : Layout). all_have_ended f.shape f.log.steps ≡ true) (sym same) ended;
      still = subst (λ (f : Layout). stirs_in f (link_by script n) ≡ false) (sym all) rests.1;
    }

-- SO A LINK'S WORKER IS FINISHED then
pub pump-finished : (script : ScriptParts) → IsOneState script
    → (before after : PassView Step PlanParts) → IsWorking script before None
    → (found left : Layout) → IsInTurnOf before found left after
    → IsPumpDone script before.number found left
    → IsFinished script (seen after) after.number None
pump-finished script one-state before after working found left turn done =
    subst (λ (q : PassView Step PlanParts). IsFinished script (seen q) q.number None)
    (sym turn.same)
    (subst (λ (P : List Step). IsFinished script P before.number None)
    (sym (seen-all before left)) (ended, still))
  where
    shape : left.shape ≡ shape_of script
    shape = ap (λ (f : Layout). f.shape) done.same
        ∙ found-shape script before None working found turn.plan turn.rests

    ended : all_have_ended (shape_of script) left.log.steps ≡ true
    ended = subst (λ (s : Shape). all_have_ended s left.log.steps ≡ true) shape done.ended

    run : IsRunOf script left.log.steps (trunks_of left.trunks)
    run = subst (λ (f : Layout). IsRunOf script f.log.steps (trunks_of f.trunks)) (sym done.same)
        (found-known script one-state before None working found turn.plan turn.rests
        turn.reached).run

    there : IsLinkOf (shape_of script) (link_by script before.number)
    there =
        let behind : length script.actors < before.number = working.played in
        let within = working.within in
        (omega arith, omega arith)

    still : IsStillThen script left.log.steps (before.number - length script.actors)
    still trunks reached =
        stirs_alike (shape_of script) left.log.steps trunks (trunks_of left.trunks)
        (one-state left.log.steps trunks (trunks_of left.trunks)
        (reached_run script left.log.steps trunks reached) run)
        (link_by script before.number) there ∙ done.still
