use Rattle.std.proofs.Common.{◌∙◌, ℕ, List, ap, refl, sym}
use Rattle.link_tables.specs.Arrivals.{count_in, with_arrival}
use Rattle.link_tables.specs.declared.sent.Flow.{Flow}
use Rattle.link_tables.proofs.Counting.{counted-more}
use Rattle.link_tables.proofs.Flows.{under-flow}
use Rattle.link_tables.proofs.arrivals.Arrivals.add_one.Goals as goal

pub returns : goal.returns
returns c =
    (λ i f. counted-more _ under-flow c.self.inside.counts.entries c.insert.new.self.entries
    c.args.flow c.count-count.result _
    (c.count-count.ensures
    ∙ ap (λ (es : List (Flow × ℕ)). count_in es c.args.flow) (sym c.self.view_is)) refl
    c.in_ok-insert.ensures.updates.0 f i)
    ∙ ap (λ (es : List (Flow × ℕ)). with_arrival (count_in es) c.args.flow) c.self.view_is
