use Rattle.std.proofs.Common.{refl}
use Rattle.carrier.specs.Notes.{noted_all}
use Rattle.carrier.proofs.half.Half.new.Goals as goal

pub returns : goal.returns
unfolding noted_all
returns c = rw (c.new.ensures, c.new-2.ensures) refl
