use Rattle.std.proofs.Common.{◌≡◌, drop}
use Rattle.order_rules.specs.Rules.{first_of, with_place}
use Rattle.order_rules.proofs.bursts.with_place.Given as goal

-- the place belongs to none of those before
abbrev pub invariant-makers : goal.invariant-makers
invariant-makers l =
    with_place l.words (first_of l.ready) l.place l.ready
    ≡ with_place l.words (first_of l.ready) l.left (drop l.maker-index l.ready)
