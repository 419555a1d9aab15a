use Rattle.std.proofs.Common.{◌≡◌, ◌++◌, take, flat_map}
use Rattle.svg_text.specs.Texts.{light_rule}
use Rattle.svg_text.proofs.style.write_light_rules.Given as goal

-- the rules so far were written
abbrev pub invariant-loop-class : goal.invariant-loop-class
invariant-loop-class l =
    l.out.items ≡ l.initial.out.items ++ flat_map light_rule (take l.class-index l.classes)
