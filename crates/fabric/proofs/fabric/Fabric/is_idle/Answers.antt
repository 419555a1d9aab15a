use Rattle.std.proofs.Common.{◌∙◌}
use Rattle.fabric.proofs.Standings.KernelAndStanding.{idle-is, idle-open, sees, stands}
use Rattle.fabric.proofs.fabric.Fabric.is_idle.Goals as goal

pub is_vain-requires : goal.is_vain-requires
is_vain-requires c =
    let seen = sees c.self.invariant.0 c.self.view_is in
    let at = stands seen c.requires.above c.requires.within c.kernel_of-place.ensures in
    idle-open at c.index.result.now c.index.ensures c.index-standing.result.now
    c.index-standing.ensures

pub returns : goal.returns
returns c =
    let seen = sees c.self.invariant.0 c.self.view_is in
    let at = stands seen c.requires.above c.requires.within c.kernel_of-place.ensures in
    c.is_vain.ensures ∙ rw (← c.self.view_is)
    (idle-is at c.index.result.now c.index.ensures c.index-standing.result.now
    c.index-standing.ensures)
