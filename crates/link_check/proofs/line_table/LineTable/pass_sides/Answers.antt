use Rattle.std.proofs.Common.{subst, sym}
use Rattle.link_tables.specs.Sides.{HasRoom}
use Rattle.link_check.specs.Lines.{LineSoFar}
use Rattle.link_check.proofs.line_table.LineTable.pass_sides.Goals as goal

pub pass-requires : goal.pass-requires
pass-requires c =
    subst (λ (line : LineSoFar). HasRoom line.first) (sym c.self.view_is) c.requires.first

pub pass-requires-2 : goal.pass-requires-2
pass-requires-2 c =
    subst (λ (line : LineSoFar). HasRoom line.second) (sym c.self.view_is) c.requires.second
