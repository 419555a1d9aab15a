use Rattle.std.proofs.Common.{sym, ◌∙◌, ap}
use Rattle.trunk.specs.Notes.{record_of}
use Rattle.trunk.specs.Publishing.{newest_noted}
use Rattle.trunk.proofs.Messages.Notes.{one_more}
use Rattle.trunk.proofs.Messages.Publishings.{newest_more}
use Rattle.trunk.proofs.history.History.note.Goals as goal

pub invariant_of-self : goal.invariant_of-self
invariant_of-self c =
    let A = record_of c.self.inside.notes.is in (
      rw c.push.ensures.was c.self.invariant.0,
      rw (c.push.ensures.is, one_more c.self.inside.notes.is c.args.note)
          (c.newest_with-self-inside.ensures
          ∙ ap (λ n. newest_noted n c.args.note) c.self.invariant.1
          ∙ sym (newest_more A c.args.note)),
    )

pub returns-clause-is : goal.returns-clause-is
returns-clause-is c =
    rw (← c.self.view_is, c.push.ensures.is) (one_more c.self.inside.notes.is c.args.note)
