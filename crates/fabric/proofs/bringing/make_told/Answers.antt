use Rattle.fabric.proofs.Trunks.OneLink.{told-kept}
use Rattle.fabric.proofs.bringing.make_told.Goals as goal

pub returns-in-Ok-clause-trunks : goal.returns-in-Ok-clause-trunks
returns-in-Ok-clause-trunks c =
    told-kept c.args.kernel.now c.args.at c.args.up c.args.trunks.now c.bring.new.trunks
    c.keep.new.self c.requires.only c.in-Ok.ensures.links c.in-Ok.ensures.was c.in-Ok.ensures.is
    c.keep.ensures
