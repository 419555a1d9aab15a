use Rattle.std.proofs.Common.{◌++◌, ◌<◌, length, map}
use Rattle.linx_base.specs.Content.{data_limit}
use Rattle.journal.specs.Effects.{notice}
use Rattle.node_kernel.proofs.Gathering.{all_next, all_rest, falls, gather_more, gathered}
use Rattle.node_kernel.proofs.rules.add_notices.Goals as goal

pub notice-requires : goal.notice-requires
notice-requires c =
    all_next (λ a. length a.signal.bytes < data_limit) c.loop-attach.left c.in-Some.attach.now
    c.loop-attach.invariant.room c.in-Some.ensures.entry

pub loop-attach-smaller : goal.loop-attach-smaller
loop-attach-smaller c =
    falls c.loop-attach.left _ c.in-Some.attach.now c.in-Some.ensures.entry
    c.next_entry.ensures.rest

pub loop-attach-preserved : goal.loop-attach-preserved
loop-attach-preserved c = record {
  told = gather_more (notice c.args.reason) _ c.loop-attach.left _ c.loop-attach.effects _
      c.in-Some.attach.now c.in_ok-notice.field-0 c.in-Some.ensures.entry
      c.next_entry.ensures.rest c.in_ok-notice.ensures c.in_ok-push.ensures.ok
      c.loop-attach.invariant.told;
  room = all_rest (λ a. length a.signal.bytes < data_limit) c.loop-attach.left _
      c.loop-attach.invariant.room c.next_entry.ensures.rest;
}

pub returns : goal.returns
returns c =
    gathered (notice c.args.reason)
    (c.args.effects.now ++ map (notice c.args.reason) c.args.left)
    c.loop-attach.left c.loop-attach.effects c.in_default.ensures.entry
    c.loop-attach.invariant.told
