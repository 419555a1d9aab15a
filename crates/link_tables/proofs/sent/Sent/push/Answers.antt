use Rattle.std.proofs.Common.{◌∙◌, List, ap, sym}
use Rattle.std.specs.List.{list_any}
use Rattle.link_tables.specs.Sent.{flows_of, same_flow}
use Rattle.link_tables.specs.declared.sent.Flow.{Flow}
use Rattle.link_tables.specs.declared.sent.SentOver.{SentOver}
use Rattle.link_tables.proofs.sent.Sent.push.Goals as goal

-- the flow is one of the signals' flows exactly where it has a key
pub push_next-requires : goal.push_next-requires
push_next-requires c = record {
  known = ap (λ (fs : List Flow). list_any (same_flow c.args.sent.flow) fs)
      (sym c.self.invariant)
      ∙ sym (c.has.ensures
      ∙ (λ i. list_any (λ (f : Flow). c.own_key.ensures f i) c.self.inside.flows)) ∙ c.if-has.true;
}

pub push_first-requires-clause-known : goal.push_first-requires-clause-known
push_first-requires-clause-known c = c.self.invariant

pub push_first-requires-clause-fresh : goal.push_first-requires-clause-fresh
push_first-requires-clause-fresh c =
    ap (λ (fs : List Flow). list_any (same_flow c.args.sent.flow) fs) (sym c.self.invariant)
    ∙ sym (c.has.ensures
    ∙ (λ i. list_any (λ (f : Flow). c.own_key.ensures f i) c.self.inside.flows)) ∙ c.if-has.false
