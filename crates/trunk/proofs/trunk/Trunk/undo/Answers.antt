use Rattle.trunk.proofs.EachEvent.AtRest.{rests}
use Rattle.trunk.proofs.trunk.Trunk.undo.Goals as goal

pub returns-clause-grown : goal.returns-clause-grown
returns-clause-grown c =
    λ from. rests from c.self.inside.parts.was c.undo.new.self c.undo.ensures
