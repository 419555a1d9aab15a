use Rattle.std.proofs.Common.{◌≡◌, length, subst, true}
use Rattle.journal.specs.declared.head.Head.{Head}
use Rattle.link_check.specs.Links.{is_of_link}
use Rattle.link_check.proofs.AtLinks.{room-here, room-there, there-of}
use Rattle.link_check.proofs.book.Book.may_pass.Goals as goal

-- the link of the packet is there
pub known-delivery-requires-clause-there : goal.known-delivery-requires-clause-there
known-delivery-requires-clause-there c =
    there-of c.args.self.now _
    (subst (λ (h : Head). is_of_link (length c.args.self.now.links) h ≡ true) c.in-Wire.is
    c.requires.of_link)

pub may_pass_if-requires-clause-here : goal.may_pass_if-requires-clause-here
may_pass_if-requires-clause-here c =
    room-here c.args.self.now c.args.kernels.now c.requires.ready _
    (there-of c.args.self.now _
    (subst (λ (h : Head). is_of_link (length c.args.self.now.links) h ≡ true) c.in-Wire.is
    c.requires.of_link)) _ _ c.known-delivery.ensures

pub may_pass_if-requires-clause-there : goal.may_pass_if-requires-clause-there
may_pass_if-requires-clause-there c =
    room-there c.args.self.now c.args.kernels.now c.requires.ready _
    (there-of c.args.self.now _
    (subst (λ (h : Head). is_of_link (length c.args.self.now.links) h ≡ true) c.in-Wire.is
    c.requires.of_link)) _ _ c.known-delivery.ensures
