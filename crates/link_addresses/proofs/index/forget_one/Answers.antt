use Rattle.std.proofs.Common.{nat_eq, sym}
use Rattle.std.specs.HashMap.{get}
use Rattle.link_addresses.proofs.Indexing.{index_left, address_not_live}
use Rattle.link_addresses.proofs.index.forget_one.Goals as goal

pub returns-in-None : goal.returns-in-None
returns-in-None c =
    let ms = c.args.meanings.now in
    index_left (get nat_eq c.args.index.now) (get nat_eq c.leave.new.index) ms c.args.inc
    c.requires (address_not_live ms c.args.inc (sym c.in-None.ensures.value)) c.leave.ensures
