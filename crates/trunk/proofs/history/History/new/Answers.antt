use Rattle.std.proofs.Common.{refl}
use Rattle.trunk.proofs.Messages.Notes.{none_yet}
use Rattle.trunk.proofs.history.History.new.Goals as goal

pub invariant_of-result : goal.invariant_of-result
invariant_of-result c = rw (c.new.ensures, none_yet) (refl, refl)

pub returns : goal.returns
returns c = rw (c.new.ensures, none_yet) refl
