use Rattle.std.proofs.Common.{None, ◌-◌, ◌∙◌, ap, slice_set}
use Rattle.journal.specs.declared.event.Event.TheVariants as asks
use Rattle.node_kernel.specs.declared.answers.StepAnswer.TheVariants as answers
use Rattle.node_kernel.specs.Nodes.{next_of}
use Rattle.fabric.specs.Actings.{asking}
use Rattle.fabric.specs.declared.fabric.Fabric.TheView.{view}
use Rattle.fabric.proofs.Trunks.Grants.{granted-numbers, granted-open}
use Rattle.fabric.proofs.Methods.Openings.{made-opened}
use Rattle.fabric.proofs.Standings.MakerAfterStep.{as_opened}
use Rattle.fabric.proofs.Standings.KernelAndStanding.{acting, endpoint-seen, endpoints_fit, next-at}
use Rattle.fabric.proofs.Standings.KernelAndStanding.{openings_fit, sees}
use Rattle.fabric.proofs.Methods.FieldsOfFabric.{IsMadeSeen, made-told, parts_of}
use Rattle.fabric.proofs.fabric.Fabric.open.Goals as goal
use Rattle.fabric.proofs.fabric.Fabric.open.Goals.{After-open}

pub opened-requires : goal.opened-requires
opened-requires c =
    let seen = sees c.self.invariant.0 c.self.view_is in
    let acts = acting seen c.requires.asked c.kernel_of-place.ensures in
    let next = rw (← c.self.view_is) at c.next_inc-inc.ensures in
    let node = rw (← c.self.view_is) at c.node_of-node.ensures in
    record {
      may = rw node (granted-open _ _ c.self.invariant.0 acts.short _ c.next_inc-inc.result next
          c.args.name c.bytes-bytes.ensures.name);
      numbers = rw node (granted-numbers _ _ c.self.invariant.0 acts.short _);
    }

pub make_open-made-requires-clause-fits : goal.make_open-made-requires-clause-fits
make_open-made-requires-clause-fits c =
    let seen = sees c.self.invariant.0 c.self.view_is in
    let acts = acting seen c.requires.asked c.kernel_of-place.ensures in
    openings_fit acts.at c.index_mut.result.now c.index_mut.ensures.value

pub make_open-made-requires-clause-room : goal.make_open-made-requires-clause-room
make_open-made-requires-clause-room c =
    let seen = sees c.self.invariant.0 c.self.view_is in
    let acts = acting seen c.requires.asked c.kernel_of-place.ensures in
    endpoints_fit acts.at c.index_mut.result.now c.index_mut.ensures.value

-- what it makes
made : (c : After-open) → IsMadeSeen (view c.self.inside) c.args.self.now
    c.make_open-made.new.journal.log c.keep_all.new.self (record (parts_of c.self.inside) {
      kernels = slice_set c.self.inside.kernels.items c.kernel_of-place.result
          c.make_open-made.new.kernel;
      standings = slice_set c.self.inside.standings.items (c.args.actor - 1) c.open.new.self;
    }) c.args.actor (asking (asks.Open c.args.name) None)
    (answers.Opened (next_of c.index_mut.result.now))
made c =
    let seen = sees c.self.invariant.0 c.self.view_is in
    let acts = acting seen c.requires.asked c.kernel_of-place.ensures in
    made-told c.self.view_is c.make_open-made.new.journal.log c.opened.new.self c.keep_all.new.self
    _ c.in-Ok.ensures.links
    (rw (rw (← c.self.view_is) at c.node_of-node.ensures) at c.in-Ok.ensures.is) c.keep_all.ensures
    _ c.args.actor (asking (asks.Open c.args.name) None)
    (answers.Opened (next_of c.index_mut.result.now))
    (made-opened acts c.index_mut.result.now c.index_mut.ensures.value c.args.name
    c.bytes-bytes.ensures.name c.next_inc-inc.result
    (next-at acts.at c.index_mut.result.now c.index_mut.ensures.value
    (rw (← c.self.view_is) at c.next_inc-inc.ensures))
    (endpoint-seen seen c.args.actor _ c.requires.granted) c.make_open-made.new.kernel
    c.in-Ok-made.ensures.kernel c.index_mut-in-Ok-made.result.now c.open.new.self
    c.index_mut-in-Ok-made.ensures.value
    (c.open.ensures ∙ ap (as_opened c.index_mut-in-Ok-made.result.now) c.in-Ok-made.ensures.inc)
    c.make_open-made.new.journal.log c.in-Ok-made.ensures.log)

pub invariant_of-self-in-Ok-made : goal.invariant_of-self-in-Ok-made
invariant_of-self-in-Ok-made c = (made (goal.at.invariant_of-self-in-Ok-made c).After-open).keeps

pub returns-in-Ok-made-clause-ok : goal.returns-in-Ok-made-clause-ok
returns-in-Ok-made-clause-ok c =
    rw (c.in-Ok-made.ensures.inc) (made (goal.at.returns-in-Ok-made-clause-ok c).After-open).makes
