use Rattle.std.proofs.Common.{◌≡◌, ◌++◌, take}
use Rattle.text_names.proofs.numbering.add_all.Given as goal

-- the names so far are there
abbrev pub invariant-loop-name : goal.invariant-loop-name
invariant-loop-name l = l.names ≡ l.initial.names ++ take l.name-index l.more
