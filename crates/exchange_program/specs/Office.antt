-- The shape of the office.
use Rattle.std.specs.Prelude.{[], ◌∷◌}
use Rattle.linx_base.specs.declared.identity.NodeNo.{NodeNo}
use Rattle.journal.specs.Shapes.{Shape}

-- three actors on the first node, and no link
abbrev pub office : Shape
office =
    let first : NodeNo = record { 0 = 1 } in
    record { links = []; actors = first ∷ first ∷ first ∷ [] }
