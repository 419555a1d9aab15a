use Rattle.std.proofs.Common.{map, string_bytes}
use Rattle.seed_search.specs.Searches.{ShowNothing}
use Rattle.seed_search.proofs.search.find.Given as goal

-- no run so far shows what is sought
abbrev pub invariant-seeds : goal.invariant-seeds
invariant-seeds l = ShowNothing l.bytes l.sought (map string_bytes l.wanted) l.from l.seed
