use Rattle.std.proofs.Common.{rules, ◌≡◌, ◌∙◌, ap, List, filter}
use Rattle.std.proofs.lemmas.Fn.{filter_same}
use Rattle.chart.specs.declared.tie.Tie.{Tie}
use Rattle.chart_drawing.specs.Views.{reaches, ties_in}
use Rattle.chart_drawing.proofs.view.ties_in.Goals as goal

pub returns : goal.returns
returns c =
    let kept : c.retain.new.self.items ≡ filter (λ (x : Tie). reaches c.args.steps x) c.in_ok-kept.kept.items =
    filter_same _ _ _ (λ x b f' k. search rules) _ _ c.retain.ensures.filtered in
    kept ∙ ap (λ (l : List Tie). ties_in c.args.steps l) c.in_ok-kept.ensures.items
