use Rattle.std.proofs.Common.{rules, ◌≡◌, ◌∙◌, ap, List, filter}
use Rattle.std.proofs.lemmas.Fn.{filter_same}
use Rattle.chart_drawing.specs.declared.setting.DrawnLink.{DrawnLink}
use Rattle.chart_drawing.specs.Seen.{has_link, links_in}
use Rattle.chart_drawing.proofs.seen.links_in.Goals as goal

pub returns : goal.returns
returns c =
    let kept : c.retain.new.self.items ≡ filter (λ (x : DrawnLink). has_link c.args.view.now c.args.marks.now x.link.0) c.into_vec-kept.result.items =
    filter_same _ _ _ (λ x b f' k. search rules) _ _ c.retain.ensures.filtered in
    c.of.ensures ∙ kept ∙ ap (λ (l : List DrawnLink). links_in c.args.view.now c.args.marks.now l) c.into_vec-kept.ensures
