use Rattle.std.proofs.Common.{◌∙◌, arith}
use Rattle.fabric.proofs.Standings.KernelAndStanding.{openings-at, openings_fit, sees, stands}
use Rattle.fabric.proofs.fabric.Fabric.next_inc.Goals as goal

pub overflow_add-openings : goal.overflow_add-openings
overflow_add-openings c =
    let seen = sees c.self.invariant.0 c.self.view_is in
    let at = stands seen c.requires.above c.requires.within c.kernel_of.ensures in
    let few = openings_fit at c.index.result.now c.index.ensures in
    omega (arith, few, c.openings-openings.ensures)

pub returns : goal.returns
returns c =
    let seen = sees c.self.invariant.0 c.self.view_is in
    let at = stands seen c.requires.above c.requires.within c.kernel_of.ensures in
    c.of.ensures
    ∙ rw (c.node_of.ensures, c.openings-openings.ensures)
    (rw (← c.self.view_is) (openings-at at c.index.result.now c.index.ensures))
