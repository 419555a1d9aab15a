use Rattle.std.proofs.Common.{◌∙◌, ap, filter, fold, List, None}
use Rattle.link_tables.specs.Marks.{name_after}
use Rattle.link_tables.specs.declared.marks.Mark.{Mark}
use Rattle.link_tables.proofs.Named.{among-openings, named-all, named-more}
use Rattle.link_tables.proofs.marks.Marks.opened_as.Goals as goal

pub loop-mark-init : goal.loop-mark-init
loop-mark-init c =
    rw (← c.self.view_is) (ap (λ (ms : List Mark). fold (name_after c.args.inc) None ms)
    (c.under-left.ensures
    ∙ (λ i. filter (λ (m : Mark). c.opened_key.ensures m i) c.self.inside.marks))
    ∙ among-openings c.args.inc c.self.inside.marks None)

pub loop-mark-preserved : goal.loop-mark-preserved
loop-mark-preserved c =
    named-more c.args.inc c.loop-mark.left _ c.in-Some.mark.now _ _ _ c.in-Some.ensures.entry
    c.next_entry.ensures.rest c.name_after-name.ensures c.loop-mark.invariant

pub returns : goal.returns
returns c =
    named-all c.args.inc c.loop-mark.left _ _ c.in_default.ensures.entry c.loop-mark.invariant
