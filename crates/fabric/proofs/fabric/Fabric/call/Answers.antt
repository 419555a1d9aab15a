use Rattle.std.proofs.Common.{◌-◌, sym, ◌∙◌, subst, slice_set}
use Rattle.node_kernel.specs.Nodes.{NodeState}
use Rattle.fabric.specs.Calls.{IsKnown, ask_of_call}
use Rattle.fabric.specs.declared.fabric.Fabric.TheView.{view}
use Rattle.fabric.proofs.Methods.Calls.{made-call}
use Rattle.fabric.proofs.Trunks.Grants.{may-tell}
use Rattle.fabric.proofs.Standings.KernelAndStanding.{acting, endpoint-seen, kernel-is, may-seen}
use Rattle.fabric.proofs.Standings.KernelAndStanding.{node-is, own_open, sees}
use Rattle.fabric.proofs.Methods.FieldsOfFabric.{IsMadeSeen, made-told, parts_of}
use Rattle.fabric.proofs.fabric.Fabric.call.Goals as goal
use Rattle.fabric.proofs.fabric.Fabric.call.Goals.{After-call}

pub tell_call-requires-clause-is_open : goal.tell_call-requires-clause-is_open
tell_call-requires-clause-is_open c =
    let seen = sees c.self.invariant.0 c.self.view_is in
    let acts = acting seen c.requires.asked c.kernel_of-place.ensures in
    let mine = endpoint-seen seen c.args.actor _ (sym c.endpoint_of.ensures ∙ c.in-Some.is) in
    own_open acts.at c.index-kernel.result.now c.index-kernel.ensures c.in-Some.at mine

pub tell_call-requires-clause-node : goal.tell_call-requires-clause-node
tell_call-requires-clause-node c =
    let seen = sees c.self.invariant.0 c.self.view_is in
    let acts = acting seen c.requires.asked c.kernel_of-place.ensures in
    (rw (← c.self.view_is) at c.node_of-node.ensures)
    ∙ sym (node-is acts.at c.index-kernel.result.now c.index-kernel.ensures)

pub tell_call-requires-clause-may : goal.tell_call-requires-clause-may
tell_call-requires-clause-may c =
    let seen = sees c.self.invariant.0 c.self.view_is in
    let acts = acting seen c.requires.asked c.kernel_of-place.ensures in
    let mine = endpoint-seen seen c.args.actor _ (sym c.endpoint_of.ensures ∙ c.in-Some.is) in
    may-tell acts c.in-Some.at mine c.index-kernel.result.now c.index-kernel.ensures c.self.inside.trunks.was
    c.args.call (may-seen seen c.requires.asked).may.fits

pub make_call-made-requires-clause-is_open : goal.make_call-made-requires-clause-is_open
make_call-made-requires-clause-is_open c =
    let seen = sees c.self.invariant.0 c.self.view_is in
    let acts = acting seen c.requires.asked c.kernel_of-place.ensures in
    let mine = endpoint-seen seen c.args.actor _ (sym c.endpoint_of.ensures ∙ c.in-Some.is) in
    own_open acts.at c.index_mut.result.now c.index_mut.ensures.value c.in-Some.at mine

pub make_call-made-requires-clause-known : goal.make_call-made-requires-clause-known
make_call-made-requires-clause-known c =
    let seen = sees c.self.invariant.0 c.self.view_is in
    let acts = acting seen c.requires.asked c.kernel_of-place.ensures in
    let same = kernel-is acts.at c.index-kernel.result.now c.index-kernel.ensures
    ∙ sym (kernel-is acts.at c.index_mut.result.now c.index_mut.ensures.value) in
    subst (λ (k : NodeState). IsKnown k c.args.call c.is_to_living-living.result) same
    c.is_to_living-living.ensures

-- what it makes
made : (c : After-call) → IsMadeSeen (view c.self.inside) c.args.self.now
    c.make_call-made.new.journal.log c.keep_told.new.trunks (record (parts_of c.self.inside) {
      kernels = slice_set c.self.inside.kernels.items c.kernel_of-place.result
          c.make_call-made.new.kernel;
      standings = slice_set c.self.inside.standings.items (c.args.actor - 1) c.call.new.self;
    }) c.args.actor (ask_of_call c.args.call) c.in-Ok-made.answer
made c =
    let seen = sees c.self.invariant.0 c.self.view_is in
    let acts = acting seen c.requires.asked c.kernel_of-place.ensures in
    let mine = endpoint-seen seen c.args.actor _ (sym c.endpoint_of.ensures ∙ c.in-Some.is) in
    let same = kernel-is acts.at c.index-kernel.result.now c.index-kernel.ensures
    ∙ sym (kernel-is acts.at c.index_mut.result.now c.index_mut.ensures.value) in
    made-told c.self.view_is c.make_call-made.new.journal.log c.tell_call.new.trunks
    c.keep_told.new.trunks _ c.in-Ok.ensures.links (rw same at c.in-Ok.ensures.is)
    c.keep_told.ensures _ c.args.actor (ask_of_call c.args.call) c.in-Ok-made.answer
    (made-call acts c.in-Some.at mine c.index_mut.result.now c.make_call-made.new.kernel
    c.index_mut.ensures.value c.index_mut-in-Ok-made.result.now c.call.new.self
    c.index_mut-in-Ok-made.ensures.value c.make_call-made.new.journal.log c.in-Ok-made.answer
    c.args.call (may-seen seen c.requires.asked).may.fits c.requires.typed
    c.in-Ok-made.ensures.bounded c.in-Ok-made.ensures.made c.len-step.result c.len-step.ensures
    c.call.ensures)

pub invariant_of-self-in-Ok-made : goal.invariant_of-self-in-Ok-made
invariant_of-self-in-Ok-made c = (made (goal.at.invariant_of-self-in-Ok-made c).After-call).keeps

pub returns-in-Ok-made-clause-ok : goal.returns-in-Ok-made-clause-ok
returns-in-Ok-made-clause-ok c = (made (goal.at.returns-in-Ok-made-clause-ok c).After-call).makes
