use Rattle.std.proofs.Common.{◌≡◌, drop, map}
use Rattle.text_names.specs.ToldNames.{nothing_told, told_lines}
use Rattle.text_names.proofs.told_names.told_names.Given as goal

-- what is told so far and by the lines that are left is what all tell
abbrev pub invariant-loop-line : goal.invariant-loop-line
invariant-loop-line l =
    told_lines l.told (map (λ w. w.now) (drop l.line-index l.lines))
    ≡ told_lines nothing_told (map (λ w. w.now) l.lines)
