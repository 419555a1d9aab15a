use Rattle.std.proofs.Common.{◌≡◌, take}
use Rattle.text_names.specs.Numbering.{highest}
use Rattle.text_names.proofs.numbering.highest.Given as goal

-- the highest number so far
abbrev pub invariant-loop-numbered : goal.invariant-loop-numbered
invariant-loop-numbered l = l.most ≡ highest (take l.numbered-index l.told)
