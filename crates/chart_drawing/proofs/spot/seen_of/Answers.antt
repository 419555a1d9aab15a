use Rattle.std.proofs.Common.{rules, ◌≡◌, ◌∙◌, ap, List, filter}
use Rattle.std.proofs.lemmas.Fn.{filter_same}
use Rattle.chart_drawing.specs.declared.spot.Spot.{Spot}
use Rattle.chart_drawing.specs.Spots.{seen_of}
use Rattle.chart_drawing.proofs.spot.seen_of.Goals as goal

pub returns : goal.returns
returns c =
    let kept : c.retain.new.self.items ≡ filter (λ (x : Spot). x.seen) c.in_ok-seen.seen.items =
    filter_same _ _ _ (λ x b f' k. search rules) _ _ c.retain.ensures.filtered in
    kept ∙ ap (λ (l : List Spot). seen_of l) c.in_ok-seen.ensures.items
