use Rattle.std.proofs.Common.{◌∙◌, ℕ, Option, ap}
use Rattle.std.specs.Option.{unwrap_or}
use Rattle.link_tables.proofs.Counting.{counted}
use Rattle.link_tables.proofs.Flows.{under-flow}
use Rattle.link_tables.proofs.arrivals.Arrivals.count.Goals as goal

pub returns : goal.returns
returns c =
    rw (← c.self.view_is) (c.or_none.ensures
    ∙ ap (λ (o : Option ℕ). unwrap_or o 0) c.get.ensures.value
    ∙ counted _ under-flow c.self.inside.counts.entries c.args.flow)
