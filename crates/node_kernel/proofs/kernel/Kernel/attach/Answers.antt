use Rattle.std.proofs.Common.{◌∙◌, ◌++◌, ◌∷◌, [], ap, sym, List}
use Rattle.linx_base.specs.declared.pending.PendingAttach.{PendingAttach}
use Rattle.node_kernel.specs.Nodes.{NodeState}
use Rattle.node_kernel.proofs.Calling.{attach_owed}
use Rattle.node_kernel.proofs.Keeping.{on_ok}
use Rattle.node_kernel.proofs.kernel.Kernel.attach.Goals as goal

pub returns-then-is_living-clause-ok : goal.returns-then-is_living-clause-ok
returns-then-is_living-clause-ok c =
    let a : PendingAttach = record {
      at = c.args.at;
      peer = c.args.peer;
      signal = c.args.signal;
      reference = c.args.r;
    } in
    let v = c.self.view_is in
    on_ok c.owe.result c.owe.ensures.ok (λ e.
    ap (λ (n : NodeState). record n { attaches = c.owe.new.attaches }) v
    ∙ ap (λ (l : List PendingAttach). record c.args.self.now { attaches = l }) (e
    ∙ ap (λ (n : NodeState). n.attaches ++ a ∷ []) v)
    ∙ attach_owed c.args.self.now a (sym c.if-is_living.ensures))
