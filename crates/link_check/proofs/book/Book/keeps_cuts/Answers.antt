use Rattle.std.proofs.Common.{◌≡◌, length, subst, true}
use Rattle.journal.specs.declared.head.Head.{Head}
use Rattle.link_check.specs.Links.{is_of_link}
use Rattle.link_check.proofs.AtLinks.{there-of}
use Rattle.link_check.proofs.book.Book.keeps_cuts.Goals as goal

-- the link of the packet is there
pub is_cut-requires-clause-there : goal.is_cut-requires-clause-there
is_cut-requires-clause-there c =
    there-of c.args.self.now _
    (subst (λ (h : Head). is_of_link (length c.args.self.now.links) h ≡ true) c.in-Wire.is
    c.requires.of_link)
