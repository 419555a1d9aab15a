use Rattle.std.proofs.Common.{◌≡◌, ◌++◌, drop}
use Rattle.link_tables.specs.Marks.{marks_in}
use Rattle.link_tables.proofs.marks.Marks.pass.Given as goal

-- with the marks of the rest it is what it is with those of all
abbrev pub invariant-loop-effect : goal.invariant-loop-effect
invariant-loop-effect l =
    l.self ++ marks_in l.step.head (drop l.effect-index l.effect-items)
    ≡ l.initial.self ++ marks_in l.step.head l.effect-items
