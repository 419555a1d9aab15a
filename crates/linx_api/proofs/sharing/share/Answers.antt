use Rattle.std.proofs.Common.{rules, ◌≡◌}
use Rattle.turn_lock.specs.Passes.{AreDealt}
use Rattle.linx_api.specs.Newcomers.{makers_of}
use Rattle.linx_api.specs.Telling.{PlanParts}
use Rattle.linx_api.proofs.Newcomers.{all_new}
use Rattle.linx_api.proofs.sharing.share.Goals as goal

pub returns-clause-newcomers : goal.returns-clause-newcomers
returns-clause-newcomers c =
    let lock = c.in_ok-lock.lock in
    let passes = c.in_ok-lock.passes.items in
    let plan : PlanParts = record {
      names = c.args.names;
      shape = record { links = c.args.links.now; actors = c.args.actors.now };
    } in
    let seats : lock.seats ≡ makers_of plan.shape = search rules in
    let dealt : AreDealt lock plan passes = search rules in
    all_new lock plan passes seats dealt
