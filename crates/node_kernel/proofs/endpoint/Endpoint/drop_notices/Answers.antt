use Rattle.std.proofs.Common.{◌∙◌, sym, ap, List, is_some}
use Rattle.linx_base.specs.declared.item.Item.{Item}
use Rattle.linx_base.proofs.FirstMatches.{is_some-first_match}
use Rattle.sigsel.specs.Selection.{is_notice_of}
use Rattle.keyed_list.proofs.Entries.{others_none, without_none_first}
use Rattle.node_kernel.proofs.endpoint.Endpoint.drop_notices.Goals as goal

pub returns-in-None-clause-any : goal.returns-in-None-clause-any
returns-in-None-clause-any c =
    let p = is_notice_of c.args.attach in
    rw (← c.self.view_is) (ap is_some c.in-None.ensures.item
    ∙ is_some-first_match p c.self.inside.queue)

pub returns-in-None-clause-others : goal.returns-in-None-clause-others
returns-in-None-clause-others c =
    let p = is_notice_of c.args.attach in
    let none = sym c.in-None.ensures.item in
    let same = c.in-None.ensures.others ∙ without_none_first p c.self.inside.queue none
    ∙ sym (others_none p c.self.inside.queue none) in
    rw (← c.self.view_is) (ap (λ (l : List Item). record {
      inc = c.self.inside.inc;
      name = c.self.inside.name;
      items = l;
    }) same)
