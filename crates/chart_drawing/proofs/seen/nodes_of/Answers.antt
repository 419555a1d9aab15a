use Rattle.std.proofs.Common.{rules, ◌≡◌, ◌∙◌, ap, List, filter}
use Rattle.std.proofs.lemmas.Fn.{filter_same}
use Rattle.chart_drawing.specs.declared.setting.DrawnNode.{DrawnNode}
use Rattle.chart_drawing.specs.Seen.{has_node, nodes_of}
use Rattle.chart_drawing.proofs.seen.nodes_of.Goals as goal

pub returns : goal.returns
returns c =
    let kept : c.retain.new.self.items ≡ filter (λ (x : DrawnNode). has_node c.args.actors.now c.args.links.now x.node.0) c.into_vec-kept.result.items =
    filter_same _ _ _ (λ x b f' k. search rules) _ _ c.retain.ensures.filtered in
    c.of.ensures ∙ kept ∙ ap (λ (l : List DrawnNode). nodes_of c.args.actors.now c.args.links.now l) c.into_vec-kept.ensures
