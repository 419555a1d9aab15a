use Rattle.std.proofs.Common.{◌≡◌, true, ◌∙◌, ap, inl, refl, sym, subst, is_some}
use Rattle.journal.specs.Shapes.{Shape}
use Rattle.link_laws.specs.Ends.{IsLinkOf}
use Rattle.run_trunks.specs.States.{trunks_of}
use Rattle.stage.specs.Settlings.{stirs_in}
use Rattle.stage.specs.Turns.{IsDueForLink, makes_event}
use Rattle.stage.proofs.Plans.PumpsRule.{pump-asks, pump-stirs}
use Rattle.stage.proofs.Rounds.WholeRuns.{on_err-said}
use Rattle.stage.proofs.pump.pump_turn.Goals as goal

pub make_step-requires : goal.make_step-requires
make_step-requires c = record {
  asked = pump-asks c.args.script.now c.links.ensures.script c.args.fabric.now c.requires.shape
      c.args.link
      (subst (λ (s : Shape). IsLinkOf s c.args.link) c.requires.shape c.requires.declared)
      c.in-Some.event (sym c.in-Some.ensures);
}

pub returns-in_err-make_step-clause-due : goal.returns-in_err-make_step-clause-due
returns-in_err-make_step-clause-due c =
    let f = c.args.fabric.now in
    let moves : stirs_in f c.args.link ≡ true =
    sym (pump-stirs c.args.script.now f.log.steps (trunks_of f.trunks) c.args.link)
    ∙ ap is_some (sym c.in-Some.ensures) in
    on_err-said c.from_residual.result (IsDueForLink f c.args.link) (inl moves)

pub returns-clause-ok : goal.returns-clause-ok
returns-clause-ok c = makes_event c.in-Some.event (sym c.in-Some.ensures) (record {
  answer = c.in_ok-make_step.field-0;
  stepped = c.in_ok-make_step.ensures.ok;
  fixed = c.in_ok-make_step.ensures.fixed;
  came = refl;
})
