use Rattle.std.proofs.Common.{◌∷◌}
use Rattle.std.proofs.lemmas.Result.{on_ok_weaker}
use Rattle.chart.proofs.OneMore.{marks_put}
use Rattle.chart.proofs.marks.put_step.Goals as goal

pub returns-clause-marks : goal.returns-clause-marks
returns-clause-marks c = λ P at known.
    on_ok_weaker c.put_effects.result
    (marks_put c.args.step.now P c.args.position c.head_mark.result c.as_slice.result.now
    c.args.marks.now.items c.push.new.self.items c.put_effects.new.marks.items at
    c.in_ok-push.ensures.items (c.head_mark.ensures (c.args.step.now ∷ P) (c.in_ok-note.ensures P known)) c.as_slice.ensures)
    (c.put_effects.ensures (c.args.step.now ∷ P) (c.in_ok-note.ensures P known))
