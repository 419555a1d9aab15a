use Rattle.std.proofs.Common.{◌∙◌, sym}
use Rattle.node_kernel.proofs.Places.{is_open-no_place, is_open-place}
use Rattle.node_kernel.proofs.Bringing.{put_changed, put_nowhere}
use Rattle.node_kernel.proofs.lookup.deliver.Goals as goal

pub returns-in-None-clause-answer : goal.returns-in-None-clause-answer
returns-in-None-clause-answer c = sym (is_open-no_place c.args.endpoints.now c.args.inc
    (sym c.in-None.ensures))

pub returns-in-None-clause-queued : goal.returns-in-None-clause-queued
returns-in-None-clause-queued c =
    sym (put_nowhere c.args.endpoints.now c.args.inc c.args.item
    (is_open-no_place c.args.endpoints.now c.args.inc (sym c.in-None.ensures)))

pub returns-in-Ok-clause-answer : goal.returns-in-Ok-clause-answer
returns-in-Ok-clause-answer c = sym (is_open-place c.args.endpoints.now c.args.inc c.in-Some.place
    (sym c.in-Some.ensures))

pub returns-in-Ok-clause-queued : goal.returns-in-Ok-clause-queued
returns-in-Ok-clause-queued c = c.in-Ok.ensures.ok
    ∙ put_changed c.args.endpoints.now c.args.inc c.args.item c.requires
