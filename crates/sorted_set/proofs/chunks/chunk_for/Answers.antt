use Rattle.std.proofs.Common.{rules}
use Rattle.std.proofs.lemmas.List.Sorted.{IsPartitionPoint-from_clause}
use Rattle.sorted_set.specs.Chunks.{begins_by}
use Rattle.sorted_set.proofs.Chunking.{begins_first, place_for}
use Rattle.sorted_set.proofs.chunks.chunk_for.Goals as goal

pub returns : goal.returns
returns g c =
    let x = c.args.element.now in
    let chunks = c.args.chunks.now in
    let first = begins_first g.T.Ord.cmp g.met.T.Ord.total x chunks c.requires.chunks in
    let parts =
    IsPartitionPoint-from_clause (begins_by g.T.Ord.cmp x) chunks c.partition_point.result
    c.partition_point.ensures.partitioned first (λ a r q k. search rules) in
    rw c.saturating_sub.ensures (place_for g.T.Ord.cmp g.met.T.Ord.total x chunks c.requires.chunks
    c.partition_point.result c.requires.some c.partition_point.ensures.bound parts)
