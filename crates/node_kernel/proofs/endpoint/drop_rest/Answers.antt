use Rattle.std.proofs.Common.{◌∙◌, sym}
use Rattle.sigsel.specs.Selection.{is_notice_of}
use Rattle.keyed_list.proofs.Entries.{others_none, without_none_first}
use Rattle.node_kernel.proofs.endpoint.drop_rest.Goals as goal

pub returns : goal.returns
returns c =
    let p = is_notice_of c.args.attach in
    let none = sym c.in_default.ensures.item in
    c.in_default.ensures.others ∙ without_none_first p c.loop-notice.queue none
    ∙ sym (others_none p c.loop-notice.queue none) ∙ c.loop-notice.invariant
