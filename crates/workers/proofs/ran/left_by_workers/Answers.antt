use Rattle.std.proofs.Common.{◌∙◌, ◌<◌, arith}
use Rattle.stage.specs.Turns.{makers}
use Rattle.workers.proofs.Dealing.{came_all, came_of_lock, came_over, came_shares, came_staged}
use Rattle.workers.proofs.Dealing.{jobs_ready}
use Rattle.workers.proofs.ran.left_by_workers.Goals as goal

pub workers-requires-after_bounds : goal.workers-requires-after_bounds
workers-requires-after_bounds g c κs within =
    jobs_ready c.args.script.now c.args.shared.run c.requires.first c.in_ok-lock.lock
    (c.in_ok-lock.ensures.0 ∙ c.requires.seats.0) c.in_ok-lock.passes.items c.in_ok-lock.ensures.1
    c.args.players.items c.requires.players c.in_ok-jobs.jobs.items c.in_ok-jobs.ensures

pub close-requires : goal.close-requires
close-requires g c =
    came_of_lock c.args.script.now c.args.shared.run c.requires.first c.in_ok-lock.lock
    (c.in_ok-lock.ensures.0 ∙ c.requires.seats.0) c.in_ok-lock.passes.items c.in_ok-lock.ensures.1
    c.args.players.items c.requires.players c.in_ok-jobs.jobs.items c.in_ok-jobs.ensures
    c.in_ok-all.all.items c.in_ok-all.ensures c.in_ok-passes.field-0.passes.items
    c.in_ok-passes.ensures.passes

pub unreachable-requires : goal.unreachable-requires
unreachable-requires g c =
    came_all c.args.script.now c.args.shared.run c.requires.first c.in_ok-lock.lock
    (c.in_ok-lock.ensures.0 ∙ c.requires.seats.0) c.in_ok-lock.passes.items c.in_ok-lock.ensures.1
    c.args.players.items c.requires.players c.in_ok-jobs.jobs.items c.in_ok-jobs.ensures
    c.in_ok-all.all.items c.in_ok-all.ensures c.in_ok-passes.field-0.passes.items
    c.in_ok-passes.ensures.passes c.in_default.field-0.missing c.in_default.ensures.missing

pub returns-clause-staged : goal.returns-clause-staged
returns-clause-staged g c =
    let left = c.into_fabric-fabric.result in
    let seats = c.requires.seats in
    let some : 0 < makers c.args.script.now = omega (arith, seats) in
    came_staged c.args.script.now c.args.shared.run c.requires.first c.in_ok-lock.lock
    (c.in_ok-lock.ensures.0 ∙ seats.0) c.in_ok-lock.passes.items c.in_ok-lock.ensures.1
    c.args.players.items c.requires.players c.in_ok-jobs.jobs.items c.in_ok-jobs.ensures
    c.in_ok-all.all.items c.in_ok-all.ensures c.in_ok-passes.field-0.passes.items
    c.in_ok-passes.ensures.passes c.actors.ensures.script some c.in-Ok.shared.run c.in-Ok.ensures.fixed
    c.in-Ok.ensures.rests c.in-Ok.ensures.makers left c.into_fabric-fabric.ensures
    c.journal.ensures.reached c.in_ok-passes.field-0.players.items
    c.in_ok-passes.ensures.players

pub returns-clause-over : goal.returns-clause-over
returns-clause-over g c finished =
    let left = c.into_fabric-fabric.result in
    let seats = c.requires.seats in
    let some : 0 < makers c.args.script.now = omega (arith, seats) in
    came_over c.args.script.now c.args.shared.run c.requires.first c.in_ok-lock.lock
    (c.in_ok-lock.ensures.0 ∙ seats.0) c.in_ok-lock.passes.items c.in_ok-lock.ensures.1
    c.args.players.items c.requires.players c.in_ok-jobs.jobs.items c.in_ok-jobs.ensures
    c.in_ok-all.all.items c.in_ok-all.ensures c.in_ok-passes.field-0.passes.items
    c.in_ok-passes.ensures.passes some c.in-Ok.shared.run c.in-Ok.ensures.fixed c.in-Ok.ensures.rests left
    c.into_fabric-fabric.ensures c.journal.ensures.reached
    (c.in_ok-passes.ensures.end finished)

pub returns-clause-shares : goal.returns-clause-shares
returns-clause-shares g c =
    let left = c.into_fabric-fabric.result in
    let seats = c.requires.seats in
    let some : 0 < makers c.args.script.now = omega (arith, seats) in
    rw c.of-shown.ensures
    (came_shares c.args.script.now c.args.shared.run c.requires.first c.in_ok-lock.lock
    (c.in_ok-lock.ensures.0 ∙ seats.0) c.in_ok-lock.passes.items c.in_ok-lock.ensures.1
    c.args.players.items c.requires.players c.in_ok-jobs.jobs.items c.in_ok-jobs.ensures
    c.in_ok-all.all.items c.in_ok-all.ensures c.in_ok-passes.field-0.passes.items
    c.in_ok-passes.ensures.passes some c.in-Ok.shared.run c.in-Ok.ensures.fixed c.in-Ok.ensures.rests
    c.in-Ok.ensures.own c.in-Ok.ensures.makers left c.into_fabric-fabric.ensures)
