use Rattle.std.proofs.Common.{ℕ, ◌+◌, ◌<◌, length, sym, subst, arith}
use Rattle.fabric.specs.Run.{Layout}
use Rattle.stage.specs.Settlings.{StopsSettling}
use Rattle.stage.proofs.Actors.Going.{not_full}
use Rattle.stage.proofs.Settling.StepsLeft.{steps_left}
use Rattle.stage.proofs.Settling.SixTicks.{IsUnderWay, way-begins, way-ends, way-more, way-stops}
use Rattle.stage.proofs.Settling.Steps.{settle-asks}
use Rattle.stage.proofs.Settling.FewerLeft.{fewer_left, way_at}
use Rattle.stage.proofs.Rounds.WholeRuns.{on_err-said}
use Rattle.stage.proofs.acting.settle.Goals as goal

pub steps-init : goal.steps-init
steps-init c =
    way-begins c.runs_settle.ensures c.args.by c.args.link c.args.fabric.now c.requires.declared
    c.requires.maker c.requires.whole c.requires.settled c.journal.ensures.laid_out
    c.journal.ensures.few c.journal.ensures.reached

pub make_step-requires : goal.make_step-requires
make_step-requires c = record {
  asked = settle-asks c.steps.fabric c.args.by c.args.link c.steps.invariant.of_shape
      c.steps.invariant.maker c.steps.invariant.whole c.requires.may c.in-Some.event
      (sym c.in-Some.ensures);
}

pub returns-in_err-make_step-clause-err : goal.returns-in_err-make_step-clause-err
returns-in_err-make_step-clause-err c =
    on_err-said c.from_residual.result
    (StopsSettling c.args.by c.args.link c.args.fabric.now c.make_step.new.fabric)
    (subst (λ (f : Layout). StopsSettling c.args.by c.args.link c.args.fabric.now f)
    (sym c.in_err-make_step.ensures.err)
    (way-stops c.args.by c.args.link c.args.fabric.now c.steps.fabric c.steps.ticks
    c.steps.invariant c.in-Some.event (sym c.in-Some.ensures)))

pub steps-smaller : goal.steps-smaller
steps-smaller c =
    let room : length c.steps.fabric.log.steps < 200000 =
    not_full c.steps.fabric.log.steps (λ full. let no = c.in_ok-make_step.ensures.full full in cc) in
    subst (λ (n : ℕ). steps_left c.args.by c.args.fabric.now.shape c.args.link
    (way_at c.args.link c.make_step.new.fabric (c.steps.ticks + n))
    < steps_left c.args.by c.args.fabric.now.shape c.args.link
    (way_at c.args.link c.steps.fabric c.steps.ticks)) (sym c.ticks_of-more.ensures)
    (fewer_left c.runs_settle.ensures c.links_come_to_rest.ensures c.args.by c.args.link
    c.args.fabric.now c.steps.fabric c.make_step.new.fabric c.steps.ticks c.steps.invariant
    c.in-Some.event (sym c.in-Some.ensures) c.in_ok-make_step.field-0 c.in_ok-make_step.ensures.ok
    room)

pub steps-preserved : goal.steps-preserved
steps-preserved c =
    let room : length c.steps.fabric.log.steps < 200000 =
    not_full c.steps.fabric.log.steps (λ full. let no = c.in_ok-make_step.ensures.full full in cc) in
    subst (λ (n : ℕ). IsUnderWay c.args.by c.args.link c.args.fabric.now c.make_step.new.fabric
    (c.steps.ticks + n)) (sym c.ticks_of-more.ensures)
    (way-more c.runs_settle.ensures c.args.by c.args.link c.args.fabric.now c.steps.fabric
    c.make_step.new.fabric c.steps.ticks c.steps.invariant c.in-Some.event (sym c.in-Some.ensures)
    c.in_ok-make_step.field-0 c.in_ok-make_step.ensures.ok c.in_ok-make_step.ensures.fixed room)

pub returns-clause-ok : goal.returns-clause-ok
returns-clause-ok c =
    way-ends c.runs_settle.ensures c.args.by c.args.link c.args.fabric.now c.steps.fabric
    c.steps.ticks c.steps.invariant (sym c.in_default.ensures)
