use Rattle.std.proofs.Common.{◌∙◌}
use Rattle.sorted_set.proofs.Walking.{first_here}
use Rattle.sorted_set.proofs.rest.Rest.first.Goals as goal

pub returns : goal.returns
returns g c =
    rw (← c.self.view_is) (c.first.ensures.value
    ∙ first_here c.self.inside.here.now c.self.inside.later.now c.self.invariant)
