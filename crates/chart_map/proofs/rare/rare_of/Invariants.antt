use Rattle.std.proofs.Common.{◌≡◌, ◌++◌, drop}
use Rattle.chart_map.specs.Rare.{rare_from, rare_of}
use Rattle.chart_map.proofs.rare.rare_of.Given as goal

-- the rare ones so far, and those of the lines that are left, are all of them
abbrev pub invariant-loop-place : goal.invariant-loop-place
invariant-loop-place l =
    l.rare.items ++ rare_from l.rails.items l.place (drop l.place l.marks) ≡ rare_of l.marks
