use Rattle.std.proofs.Common.{◌≡◌, ◌∙◌, None}
use Rattle.text_replay.specs.Lines.{other_line}
use Rattle.text_replay.proofs.OneText.{one_text}
use Rattle.text_replay.proofs.replaying.compare.Goals as goal

pub returns-in-None-clause-same : goal.returns-in-None-clause-same
returns-in-None-clause-same c =
    let found = c.other_line.ensures in
    let none = c.in-None.is in
    let run = c.deref.ensures.value in
    let no_other : other_line c.args.text.now c.in_ok-run.run'.items ≡ None = cc in
    record {
      is = one_text c.args.text.now c.in_ok-run.run'.items no_other ∙ c.in_ok-run.ensures;
      counted = c.len.ensures;
    }
