use Rattle.std.proofs.Common.{◌≡◌, drop}
use Rattle.std.specs.List.{list_any}
use Rattle.link_check.specs.Stillness.{is_unsettled}
use Rattle.link_check.proofs.still.Line.is_settled.Given as goal

-- of those that are left one isn't settled exactly where one of all isn't
abbrev pub invariant-loop-stir : goal.invariant-loop-stir
invariant-loop-stir l =
    list_any (is_unsettled l.self) (drop l.stir-index l.stirs) ≡ list_any (is_unsettled l.self) l.stirs
