use Rattle.std.proofs.Common.{◌∙◌}
use Rattle.std.specs.List.{list_any}
use Rattle.link_tables.proofs.marks.Marks.was_met.Goals as goal

pub returns : goal.returns
returns c =
    rw (← c.self.view_is) (c.has.ensures
    ∙ (λ i. list_any (λ m. c.met_key.ensures m i) c.self.inside.marks))
