use Rattle.std.proofs.Common.{◌≡◌, ◌∙◌, ◌++◌, ap, arith, drop, length, map, take, take_at}
use Rattle.node_kernel.specs.Kept.{name_entry}
use Rattle.node_kernel.proofs.Keeping.{kept_alike_of, same_delivered}
use Rattle.node_kernel.proofs.roster.Roster.deliver.Goals as goal

pub invariant_of-self : goal.invariant_of-self
invariant_of-self c =
    let new = c.deliver.new.endpoints in
    let old = c.self.inside.endpoints in
    let len : length new ≡ old.len = omega arith in
    let same : map name_entry new ≡ map name_entry c.deref_mut.result.now =
    same_delivered c.args.inc c.args.item c.deref_mut.result.now new c.deliver.result
    c.deliver.ensures.queued c.deliver.ensures.err in
    kept_alike_of c.self.invariant (take old.len (new ++ drop (length new) old.items))
    (ap (map name_entry) (take_at new (drop (length new) old.items) old.len len) ∙ same
    ∙ ap (map name_entry) c.deref_mut.ensures.value)
