use Rattle.std.proofs.Common.{ap}
use Rattle.std.specs.Arc.{arc_value}
use Rattle.linx_base.proofs.Ranges.{part_of_shared}
use Rattle.linx_base.proofs.blob.Blob.part.Goals as goal

-- the buffer's range is a range of the part
pub returns : goal.returns
returns c =
    rw (← c.self.view_is)
    (part_of_shared (arc_value c.self.inside.buffer).items (arc_value c.in_ok-clone.field-0).items
    c.self.inside.from c.self.inside.to c.args.from c.args.to
    (ap (λ v. v.items) c.in_ok-clone.ensures.cases)
    c.requires.order (rw (← c.self.view_is) at c.requires.within))
