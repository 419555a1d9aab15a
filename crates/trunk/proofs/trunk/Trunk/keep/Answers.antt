use Rattle.trunk.proofs.EachEvent.AtRest.{rests}
use Rattle.trunk.proofs.trunk.Trunk.keep.Goals as goal

pub returns-clause-grown : goal.returns-clause-grown
returns-clause-grown c =
    λ from. rests from c.self.inside.parts.is c.keep.new.self c.keep.ensures
