use Rattle.std.proofs.Common.{rules, nat_lt}
use Rattle.std.proofs.lemmas.List.Sorted.{IsPartitionPoint-from_clause}
use Rattle.node_kernel.proofs.Rising.{split_by}
use Rattle.node_kernel.proofs.lookup.count_earlier.Goals as goal

pub returns-clause-between : goal.returns-clause-between
returns-clause-between c =
    IsPartitionPoint-from_clause (λ e. nat_lt e.inc.0 c.args.inc.0) _ _
    c.partition_point.ensures.partitioned (split_by c.args.inc _ c.requires)
    (λ a r q k. search rules)
