use Rattle.std.proofs.Common.{rules, nat_le}
use Rattle.std.proofs.lemmas.List.Sorted.{IsPartitionPoint-from_clause, IsPartitionedBy-leb}
use Rattle.chart_drawing.specs.declared.spot.Spot.{Spot}
use Rattle.chart_drawing.proofs.Found.{to_step}
use Rattle.chart_drawing.proofs.spots.to_step.Goals as goal

pub returns : goal.returns
returns c =
    to_step c.args.line c.args.spots.now c.partition_point-end.result
    (IsPartitionPoint-from_clause
    (λ (s : Spot). nat_le s.mark.line.step c.args.line.step) _ _
    c.partition_point-end.ensures.partitioned
    (IsPartitionedBy-leb (λ (s : Spot). s.mark.line.step) c.args.spots.now c.args.line.step
    c.requires) (λ a r q k. search rules))
