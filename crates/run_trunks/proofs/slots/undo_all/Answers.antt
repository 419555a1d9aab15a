use Rattle.std.proofs.Common.{ℕ, List, get_or, set, ap, ◌∙◌, arith}
use Rattle.linx_base.specs.Both.{Both, still}
use Rattle.trunk.specs.Events.{TrunkState}
use Rattle.run_trunks.specs.States.{is_of, was_of}
use Rattle.run_trunks.proofs.Lists.{turned-all, turned-more}
use Rattle.run_trunks.proofs.Placed.{undone-is, undone-was}
use Rattle.run_trunks.proofs.slots.undo_all.Goals as goal

pub loop-trunk-preserved : goal.loop-trunk-preserved
loop-trunk-preserved c =
    let k : ℕ = c.loop-trunk.trunk-index in
    let z : Both TrunkState = c.undo.new.self in
    let item : Both TrunkState = c.trunk-item.result in
    ap (λ (xs : List (Both TrunkState)). set xs k z) c.loop-trunk.invariant
    ∙ turned-more (λ (t : Both TrunkState). still t.was) c.args.trunks.now k item z
    c.loop-trunk-test.true (c.undo.ensures.was
    ∙ ap (λ (xs : List (Both TrunkState)). still (get_or xs k item).was) c.loop-trunk.invariant)

pub returns-clause-is : goal.returns-clause-is
returns-clause-is c =
    ap is_of (c.loop-trunk.invariant
    ∙ turned-all (λ (t : Both TrunkState). still t.was) c.args.trunks.now c.loop-trunk.trunk-index
    (omega arith))
    ∙ undone-is c.args.trunks.now

pub returns-clause-was : goal.returns-clause-was
returns-clause-was c =
    ap was_of (c.loop-trunk.invariant
    ∙ turned-all (λ (t : Both TrunkState). still t.was) c.args.trunks.now c.loop-trunk.trunk-index
    (omega arith))
    ∙ undone-was c.args.trunks.now
