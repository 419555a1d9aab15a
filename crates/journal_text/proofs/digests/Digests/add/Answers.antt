use Rattle.std.proofs.Common.{Some, ap, ◌∙◌}
use Rattle.journal_text.specs.declared.digests.Digests.{Digests}
use Rattle.journal_text.specs.declared.digests.Placed.{Placed}
use Rattle.journal_text.proofs.Fitting.{fits_more}
use Rattle.journal_text.proofs.digests.Digests.add.Goals as goal

pub returns-clause-fits : goal.returns-clause-fits
returns-clause-fits c = λ steps here fits.
    let new : Digests = record { by = c.args.self.now.by; made = c.place_of.new.made; placed = c.push.new.self } in
    let placed : Placed = record {
      step = c.args.position;
      place = c.args.place;
      digest = c.in_ok-digest.digest;
    } in
    fits_more c.args.self.now new steps placed c.args.note.now c.in_ok-digest.ensures.keeps
    (c.in_ok-digest.ensures.stands ∙ ap Some c.data.ensures.data) c.in_ok-push.ensures.items here
    fits
