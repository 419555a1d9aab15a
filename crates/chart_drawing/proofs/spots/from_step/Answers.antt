use Rattle.std.proofs.Common.{rules, nat_lt}
use Rattle.std.proofs.lemmas.List.Sorted.{IsPartitionPoint-from_clause, IsPartitionedBy-ltb}
use Rattle.chart_drawing.specs.declared.spot.Spot.{Spot}
use Rattle.chart_drawing.proofs.Found.{from_step}
use Rattle.chart_drawing.proofs.spots.from_step.Goals as goal

pub returns-clause-same : goal.returns-clause-same
returns-clause-same c =
    from_step c.args.line c.args.spots.now c.partition_point-first.result
    (IsPartitionPoint-from_clause
    (λ (s : Spot). nat_lt s.mark.line.step c.args.line.step) _ _
    c.partition_point-first.ensures.partitioned
    (IsPartitionedBy-ltb (λ (s : Spot). s.mark.line.step) c.args.spots.now c.args.line.step
    c.requires) (λ a r q k. search rules))
