use Rattle.std.proofs.Common.{rules, ◌≡◌, ◌∙◌, ap, List, filter, not}
use Rattle.std.proofs.lemmas.Fn.{filter_same}
use Rattle.chart_drawing.specs.declared.spot.Spot.{Spot}
use Rattle.chart_drawing.specs.Spots.{standing_of}
use Rattle.chart_drawing.proofs.spot.standing_of.Goals as goal

pub returns : goal.returns
returns c =
    let kept : c.retain.new.self.items ≡ filter (λ (x : Spot). not x.folded) c.in_ok-standing.standing.items =
    filter_same _ _ _ (λ x b f' k. search rules) _ _ c.retain.ensures.filtered in
    kept ∙ ap (λ (l : List Spot). standing_of l) c.in_ok-standing.ensures.items
