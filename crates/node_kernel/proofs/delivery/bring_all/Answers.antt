use Rattle.std.proofs.Common.{◌∙◌, ◌+◌, sym, ap, map, take}
use Rattle.node_kernel.specs.Nodes.{put_all}
use Rattle.node_kernel.specs.Kept.{bring_into, name_entry}
use Rattle.node_kernel.proofs.Bringing.{put_more, put_none}
use Rattle.node_kernel.proofs.Keeping.{rising_alike, same_put_all}
use Rattle.node_kernel.proofs.delivery.bring_all.Goals as goal

pub loop-k-init : goal.loop-k-init
loop-k-init c = sym (put_none c.args.step c.args.endpoints.now)

pub bring-requires : goal.bring-requires
bring-requires c =
    let es = c.args.endpoints.now in
    rising_alike c.loop-k.endpoints es (ap (map name_entry) c.loop-k.invariant
    ∙ same_put_all c.args.step (take c.loop-k.k c.args.effects.now) es) c.requires

pub take_back_all-requires : goal.take_back_all-requires
take_back_all-requires c =
    let es = c.args.endpoints.now in
    rising_alike c.bring.new.endpoints es (ap (map name_entry) (c.in-Err.ensures.err
    ∙ c.loop-k.invariant) ∙ same_put_all c.args.step (take c.loop-k.k c.args.effects.now) es)
    c.requires

pub loop-k-preserved : goal.loop-k-preserved
loop-k-preserved c =
    let es = c.args.endpoints.now in
    let k = c.loop-k.k in
    let effects = c.args.effects.now in
    let so_far = put_all c.args.step (take k effects) es in
    c.in_default.ensures.ok
    ∙ ap (map (bring_into (record { step = c.args.step; place = k + 1 }) c.index-effects-k.result))
    c.loop-k.invariant
    ∙ ap (λ e. map (bring_into (record { step = c.args.step; place = k + 1 }) e) so_far)
    c.index-effects-k.is
    ∙ put_more c.args.step k effects c.index-effects-k.result c.loop-k-test.true es
