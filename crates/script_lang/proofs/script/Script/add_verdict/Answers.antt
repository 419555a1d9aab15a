use Rattle.std.proofs.Common.{◌<◌, length, subst, sym}
use Rattle.script_lang.specs.Limits.{verdict_limit}
use Rattle.script_lang.specs.Parts.{ScriptParts, parts_of, planned_verdicts}
use Rattle.script_lang.proofs.Keeps.{verdict_kept}
use Rattle.script_lang.proofs.script.Script.add_verdict.Goals as goal

pub invariant_of-self : goal.invariant_of-self
invariant_of-self c = rw c.in_err-plan_more.ensures.err c.self.invariant

pub invariant_of-self-2 : goal.invariant_of-self-2
invariant_of-self-2 c =
    let s = c.self.inside in
    let link = c.args.link in
    let from = c.args.from in
    rw c.in_ok-plan_more.ensures.ok
    (verdict_kept (parts_of s.names s.links.items s.plans.items s.actors.items) link from
    c.args.verdict c.self.invariant
    (subst (λ (t : ScriptParts). length (planned_verdicts t link from) < verdict_limit)
    (sym c.self.view_is)
    c.requires.room)
    c.requires.fits)
