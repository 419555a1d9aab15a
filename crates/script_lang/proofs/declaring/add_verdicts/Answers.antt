use Rattle.std.proofs.Common.{List, ap, ◌∙◌, arith, take_all}
use Rattle.linx_base.specs.declared.frame.Verdict.{Verdict}
use Rattle.script_lang.specs.Parts.{with_verdicts}
use Rattle.script_lang.proofs.Verdicts.{room_more, plans_stay, verdicts_none, verdicts_more}
use Rattle.script_lang.proofs.declaring.add_verdicts.Goals as goal

pub loop-verdict-init : goal.loop-verdict-init
loop-verdict-init c = record {
  is = verdicts_none c.args.script c.args.link c.args.from;
  link = c.requires.link;
  place = c.requires.place;
  room = omega arith;
}

pub loop-verdict-preserved : goal.loop-verdict-preserved
loop-verdict-preserved c =
    let s = c.loop-verdict.script in
    let link = c.args.link in
    let from = c.args.from in
    let so_far = c.loop-verdict.invariant in
    let one = c.in_ok-add_verdict.ensures.ok in
    record {
      is = verdicts_more c.args.script s c.add_verdict.new.self link from c.args.verdicts.now
          c.loop-verdict.verdict-index _ c.loop-verdict-test.true so_far.is one;
      link = rw one so_far.link;
      place = rw one (plans_stay s link from _ so_far.place);
      room = rw one (room_more s link from _ _ c.loop-verdict.verdict-index so_far.place
          so_far.room);
    }

pub returns : goal.returns
returns c =
    c.loop-verdict.invariant.is
    ∙ ap (λ (vs : List Verdict). with_verdicts c.args.script c.args.link c.args.from vs)
    (take_all c.loop-verdict.verdict-index c.args.verdicts.now (omega arith))
