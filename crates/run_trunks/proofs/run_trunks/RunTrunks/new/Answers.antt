use Rattle.run_trunks.proofs.Placed.{new-seen}
use Rattle.run_trunks.proofs.run_trunks.RunTrunks.new.Goals as goal

pub returns : goal.returns
returns c =
    new-seen c.args.links.now c.in_ok-links.links.items c.in_ok-trunks.trunks.items
    c.in_ok-links.ensures.items c.in_ok-trunks.ensures
