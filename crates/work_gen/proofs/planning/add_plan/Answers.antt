use Rattle.std.proofs.Common.{◌+◌, ◌<◌, List, length, ap, ◌∙◌, sym, arith, take_all}
use Rattle.linx_base.specs.declared.identity.LinkNo.{LinkNo}
use Rattle.linx_base.specs.declared.frame.Verdict.{Verdict}
use Rattle.script_lang.specs.Parts.{with_verdict, with_verdicts}
use Rattle.script_lang.proofs.Verdicts.{plan_longer, plans_stay, verdicts_none, verdicts_more}
use Rattle.work_gen.specs.Generated.{plan_of}
use Rattle.work_gen.proofs.Links.{nth_fits, length-plan_of, nth_of_plan}
use Rattle.work_gen.proofs.planning.add_plan.Goals as goal

pub loop-done-init : goal.loop-done-init
loop-done-init c = record {
  is = verdicts_none c.args.script.now (record { 0 = c.args.k }) c.args.from;
  link = c.requires.link;
  place = c.requires.place;
  room = ap length c.requires.plan;
}

pub add_verdict-requires-clause-fits : goal.add_verdict-requires-clause-fits
add_verdict-requires-clause-fits c =
    rw c.nth_verdict.ensures (nth_fits c.args.n c.args.k c.args.from (c.loop-done.done + 1))

pub loop-done-preserved : goal.loop-done-preserved
loop-done-preserved c =
    let s = c.loop-done.script in
    let link : LinkNo = record { 0 = c.args.k } in
    let from = c.args.from in
    let done = c.loop-done.done in
    let so_far = c.loop-done.invariant in
    let verdicts = plan_of c.args.n c.args.k from in
    let v : Verdict = c.nth_verdict.result in
    let one = c.in_ok-add_verdict.ensures.ok in
    let within : done < length verdicts = omega (arith, length-plan_of c.args.n c.args.k from) in
    let nth = nth_of_plan c.args.n c.args.k from done v (omega arith) in
    record {
      is =
          verdicts_more c.args.script.now s c.add_verdict.new.self link from verdicts done v within
          so_far.is
          (one
          ∙ ap (λ (w : Verdict). with_verdict s link from w) (c.nth_verdict.ensures ∙ sym nth));
      link = rw one so_far.link;
      place = rw one (plans_stay s link from v so_far.place);
      room =
          rw one (plan_longer s link from v so_far.place ∙ ap (λ k. k + 1) so_far.room);
    }

pub returns : goal.returns
returns c =
    let verdicts = plan_of c.args.n c.args.k c.args.from in
    c.loop-done.invariant.is
    ∙ ap (λ (vs : List Verdict). with_verdicts c.args.script.now (record { 0 = c.args.k })
    c.args.from vs)
    (take_all c.loop-done.done verdicts
    (omega (arith, length-plan_of c.args.n c.args.k c.args.from)))
