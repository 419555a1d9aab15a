use Rattle.work_gen.proofs.Links.{link_room, link_fresh, link_fits, now_linked, now_half, now_whole}
use Rattle.linx_base.specs.declared.identity.Side.TheVariants.{First}
use Rattle.work_gen.proofs.building.add_link.Goals as goal

pub add_link-requires-clause-room : goal.add_link-requires-clause-room
add_link-requires-clause-room c =
    rw c.requires.before (link_room c.args.n c.args.done c.requires.few)

pub add_link-requires-clause-fresh : goal.add_link-requires-clause-fresh
add_link-requires-clause-fresh c =
    rw (c.requires.before, c.in_ok-numbered_name.ensures)
    (link_fresh c.args.n c.args.done c.requires.few)

pub add_link-requires-clause-fits : goal.add_link-requires-clause-fits
add_link-requires-clause-fits c =
    rw c.requires.before (link_fits c.args.n c.args.done c.requires.few)

pub add_plan-requires : goal.add_plan-requires
add_plan-requires c =
    now_linked c.args.n c.args.done c.args.script.now c.add_link.new.self
    c.in_ok-numbered_name.field-0 c.requires.before c.in_ok-numbered_name.ensures
    c.in_ok-add_link.ensures.ok First c.requires.few

pub add_plan-requires-2 : goal.add_plan-requires-2
add_plan-requires-2 c =
    now_half c.args.n c.args.done c.args.script.now c.add_link.new.self
    c.in_ok-numbered_name.field-0 c.requires.before c.in_ok-numbered_name.ensures
    c.in_ok-add_link.ensures.ok c.add_plan.new.script c.in_ok-add_plan.ensures c.requires.few

pub returns : goal.returns
returns c =
    now_whole c.args.n c.args.done c.args.script.now c.add_link.new.self
    c.in_ok-numbered_name.field-0 c.requires.before c.in_ok-numbered_name.ensures
    c.in_ok-add_link.ensures.ok c.add_plan.new.script c.in_ok-add_plan.ensures
    c.add_plan-2.new.script c.in_ok-add_plan-2.ensures
