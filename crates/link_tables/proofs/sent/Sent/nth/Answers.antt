use Rattle.std.proofs.Common.{◌∙◌, ap, sym, filter, slice_get}
use Rattle.std.specs.Option.{option_map}
use Rattle.std.proofs.lemmas.Option.{slice_get-map}
use Rattle.keyed_list.proofs.Finding.{alone}
use Rattle.link_tables.specs.Sent.{same_flow}
use Rattle.link_tables.specs.declared.sent.SentOver.{SentOver}
use Rattle.link_tables.proofs.Flows.{under-flow}
use Rattle.link_tables.proofs.sent.Sent.nth.Goals as goal

-- what stands under a flow is what is of it
pub returns : goal.returns
returns c =
    rw (← c.self.view_is) (c.note_in.ensures
    ∙ ap (option_map (λ (s : SentOver). s.note)) (c.nth.ensures
    ∙ (λ i. slice_get (filter (λ (s : SentOver). alone (under-flow c.args.flow s.flow) i)
    c.self.inside.sent) c.args.k))
    ∙ sym (slice_get-map (λ (s : SentOver). s.note)
    (filter (λ (s : SentOver). same_flow c.args.flow s.flow) c.self.inside.sent) c.args.k))
