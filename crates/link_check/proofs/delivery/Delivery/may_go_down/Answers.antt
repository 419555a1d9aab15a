use Rattle.std.proofs.Common.{subst, sym}
use Rattle.link_tables.specs.Sides.{HasRoom}
use Rattle.link_check.specs.Deliveries.{Known}
use Rattle.link_check.proofs.delivery.Delivery.may_go_down.Goals as goal

pub session-requires : goal.session-requires
session-requires c =
    subst (λ (d : Known). HasRoom d.there) (sym c.self.view_is) c.requires
