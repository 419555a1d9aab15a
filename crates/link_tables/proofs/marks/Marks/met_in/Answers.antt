use Rattle.std.proofs.Common.{◌∙◌, filter}
use Rattle.link_tables.specs.declared.marks.Mark.{Mark}
use Rattle.link_tables.proofs.marks.Marks.met_in.Goals as goal

pub returns : goal.returns
returns c =
    rw (← c.self.view_is) (c.under.ensures
    ∙ (λ i. filter (λ (m : Mark). c.met_in_key.ensures m i) c.self.inside.marks))
