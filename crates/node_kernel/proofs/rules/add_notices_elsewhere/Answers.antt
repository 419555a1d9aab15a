use Rattle.std.proofs.Common.{◌≡◌, ◌∙◌, ◌++◌, ◌<◌, ap, arith, length, map, not, true, false, filter}
use Rattle.std.proofs.lemmas.Bool.Decides.{nat_tests}
use Rattle.linx_base.specs.Content.{data_limit}
use Rattle.linx_base.specs.Peers.{same_inc, same_peer}
use Rattle.linx_base.specs.declared.identity.Peer.TheVariants.{Here}
use Rattle.linx_base.specs.declared.signal.Reason.TheVariants.{Closed}
use Rattle.journal.specs.Effects.{held_elsewhere, notice, notices}
use Rattle.node_kernel.proofs.Gathering.{all_next, all_rest, falls, filter_swap, pick_more}
use Rattle.node_kernel.proofs.Gathering.{pick_none, picked}
use Rattle.node_kernel.proofs.rules.add_notices_elsewhere.Goals as goal

pub loop-attach-init : goal.loop-attach-init
loop-attach-init c = record {
  told = ap (λ l. c.args.effects.now
      ++ map (notice Closed) (filter (λ a. not (same_inc c.args.inc a.at)) l))
      c.attaches_to-left.ensures.attaches
      ∙ ap (λ l. c.args.effects.now ++ map (notice Closed) l)
      (filter_swap (λ a. not (same_inc c.args.inc a.at)) (λ a. same_peer (Here c.args.inc) a.peer)
      c.args.attaches.now);
  room = c.attaches_to-left.ensures.room;
}

pub notice-requires : goal.notice-requires
notice-requires c =
    all_next (λ a. length a.signal.bytes < data_limit) c.loop-attach.left c.in-Some.attach.now
    c.loop-attach.invariant.room c.in-Some.ensures.entry

pub loop-attach-smaller : goal.loop-attach-smaller
loop-attach-smaller c =
    falls c.loop-attach.left _ c.in-Some.attach.now c.in-Some.ensures.entry
    c.next_entry.ensures.rest

pub loop-attach-preserved-in_ok-push : goal.loop-attach-preserved-in_ok-push
loop-attach-preserved-in_ok-push c =
    let one = c.in-Some.attach.now in
    let passes : not (same_inc c.args.inc one.at) ≡ true = grind (arith, nat_tests) in
    record {
      told = pick_more (notice Closed) _ (λ a. not (same_inc c.args.inc a.at)) c.loop-attach.left _
          c.loop-attach.effects _ one c.in_ok-notice.field-0 c.in-Some.ensures.entry
          c.next_entry.ensures.rest passes c.in_ok-notice.ensures c.in_ok-push.ensures.ok
          c.loop-attach.invariant.told;
      room = all_rest (λ a. length a.signal.bytes < data_limit) c.loop-attach.left _
          c.loop-attach.invariant.room c.next_entry.ensures.rest;
    }

pub loop-attach-preserved : goal.loop-attach-preserved
loop-attach-preserved c =
    let one = c.in-Some.attach.now in
    let fails : not (same_inc c.args.inc one.at) ≡ false = grind (arith, nat_tests) in
    record {
      told = pick_none (notice Closed) _ (λ a. not (same_inc c.args.inc a.at)) c.loop-attach.left _
          c.loop-attach.effects one c.in-Some.ensures.entry c.next_entry.ensures.rest fails
          c.loop-attach.invariant.told;
      room = all_rest (λ a. length a.signal.bytes < data_limit) c.loop-attach.left _
          c.loop-attach.invariant.room c.next_entry.ensures.rest;
    }

pub returns : goal.returns
returns c =
    picked (notice Closed)
    (c.args.effects.now
    ++ notices Closed (same_peer (Here c.args.inc)) (held_elsewhere c.args.inc c.args.attaches.now))
    (λ a. not (same_inc c.args.inc a.at)) c.loop-attach.left c.loop-attach.effects
    c.in_default.ensures.entry c.loop-attach.invariant.told
