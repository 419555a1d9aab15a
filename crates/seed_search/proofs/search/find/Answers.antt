use Rattle.std.proofs.Common.{map, string_bytes}
use Rattle.seed_search.proofs.Nothing.{nothing_more}
use Rattle.seed_search.proofs.search.find.Goals as goal

pub seeds-preserved : goal.seeds-preserved
seeds-preserved c =
    nothing_more c.args.bytes.now c.args.sought (map string_bytes c.args.wanted.now)
    c.from-from.result c.seeds.seed c.seeds.invariant
    (rw c.in-Ok-None.field-0-is at c.in-Ok-None.ensures.shown)
