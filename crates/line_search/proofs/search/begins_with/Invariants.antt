use Rattle.std.proofs.Common.{◌≡◌, drop, map, string_bytes}
use Rattle.line_search.specs.Search.{begins_with}
use Rattle.line_search.proofs.search.begins_with.Given as goal

-- the words so far stand for those wanted so far
abbrev pub invariant-wanted : goal.invariant-wanted
invariant-wanted l =
    begins_with (map string_bytes (drop l.want-index l.wanted)) (map (λ w. w.now) l.rest)
    ≡ begins_with (map string_bytes l.wanted) (map (λ w. w.now) l.words)
