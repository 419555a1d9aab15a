use Rattle.std.proofs.Common.{◌≡◌, ◌++◌, drop}
use Rattle.std.specs.List.{filter_map}
use Rattle.link_check.specs.Rest.{stir_in}
use Rattle.link_check.proofs.rest.add_all.Given as goal

-- with what the rest stir it is what it is with what all do
abbrev pub invariant-loop-effect : goal.invariant-loop-effect
invariant-loop-effect l =
    l.stirs.items ++ filter_map (stir_in l.link.0 l.ends) (drop l.effect-index l.effects)
    ≡ l.initial.stirs.items ++ filter_map (stir_in l.link.0 l.ends) l.effects
