use Rattle.std.proofs.Common.{◌∙◌, List, ap, filter}
use Rattle.link_tables.specs.Sent.{is_in}
use Rattle.link_tables.specs.declared.sent.Flow.{Flow}
use Rattle.link_tables.proofs.sent.Sent.flows_in.Goals as goal

pub returns : goal.returns
returns c =
    rw (← c.self.view_is) (c.under.ensures
    ∙ (λ i. filter (λ (f : Flow). c.in_key.ensures f i) c.self.inside.flows)
    ∙ ap (λ (fs : List Flow). filter (is_in c.args.link c.args.session) fs) c.self.invariant)
