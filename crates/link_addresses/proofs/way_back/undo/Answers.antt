use Rattle.std.proofs.Common.{◌∙◌, nat_eq, arith}
use Rattle.std.specs.HashMap.{get}
use Rattle.link_addresses.proofs.Undoing.{last_returns, undone_before, can_before}
use Rattle.link_addresses.proofs.way_back.undo.Goals as goal

pub undo_one-requires-clause-can : goal.undo_one-requires-clause-can
undo_one-requires-clause-can c =
    last_returns (get nat_eq c.undo.index) c.args.changes.now c.undo.left _ (omega arith)
    c.undo.invariant.0 c.undo.meanings.items c.undo.invariant.2

pub undo-preserved : goal.undo-preserved
undo-preserved c =
    let before = undone_before (get nat_eq c.undo.index) c.args.changes.now c.undo.left _
    (omega arith) c.undo.invariant.0 c.undo.meanings.items c.undo.invariant.2
    c.undo_one.new.meanings.items c.undo_one.ensures.former in
    let can = can_before (get nat_eq c.undo.index) c.args.changes.now c.undo.left _ (omega arith)
    c.undo.invariant.0 c.undo.meanings.items c.undo.invariant.2
    c.undo_one.new.meanings.items c.undo_one.ensures.former (get nat_eq c.undo_one.new.index)
    c.undo_one.ensures.grown in (
      omega (arith, c.undo.invariant.0),
      before ∙ c.undo.invariant.1,
      can,
      c.undo_one.ensures.indexed,
      c.undo_one.ensures.groups,
    )
