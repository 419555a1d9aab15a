use Rattle.std.proofs.Common.{◌∙◌, ap}
use Rattle.linx_base.specs.FirstMatch.{first_match}
use Rattle.journal.specs.Living.{is_named_over, met_peer}
use Rattle.keyed_list.proofs.Finding.{found_first}
use Rattle.node_kernel.proofs.met.MetPeers.first.Goals as goal

pub returns-in_err-met : goal.returns-in_err-met
returns-in_err-met c =
    c.from_residual.ensures ∙ ap met_peer (found_first c.in_err-met.ensures c.self.view_is
    (is_named_over c.args.link c.of.result) c.name_key.ensures)
    ∙ ap (λ name. met_peer (first_match (is_named_over c.args.link name) c.args.self.now))
    c.of.ensures

pub returns : goal.returns
returns c =
    ap met_peer (found_first c.in_ok-met.ensures c.self.view_is
    (is_named_over c.args.link c.of.result) c.name_key.ensures)
    ∙ ap (λ name. met_peer (first_match (is_named_over c.args.link name) c.args.self.now))
    c.of.ensures
