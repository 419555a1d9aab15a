use Rattle.std.proofs.Common.{◌≡◌, ◌∙◌, is_eq, nat_cmp}
use Rattle.std.specs.Ordering.{ordering_then}
use Rattle.linx_base.specs.Pending.{is_attach}
use Rattle.linx_base.specs.declared.pending.PendingAttach.{PendingAttach}
use Rattle.keyed_list.proofs.Finding.{alone, flipped, same_number, same_parts}
use Rattle.attach_table.proofs.Finding.{by_peer}
use Rattle.attach_table.proofs.attach_key.reference_key.Goals as goal

pub returns : goal.returns
returns c =
    let j = c.args.at in
    let r = c.args.reference in
    let one : (a : PendingAttach)
    → is_eq (ordering_then (nat_cmp j.0 a.at.0) (nat_cmp r.0 a.reference.0))
    ≡ is_attach j r a = λ a. same_parts _ _ (same_number j.0 a.at.0)
    (same_number r.0 a.reference.0 ∙ flipped r.0 a.reference.0) in
    by_peer _ _ (λ a i. alone (one a)) (λ a m y i. alone (one a))
