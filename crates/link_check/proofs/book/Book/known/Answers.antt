use Rattle.link_check.proofs.AtLinks.{home-is}
use Rattle.link_check.proofs.book.Book.known.Goals as goal

-- the node is that of a side of the link
pub kernel_of-node-requires-clause-above : goal.kernel_of-node-requires-clause-above
kernel_of-node-requires-clause-above c =
    (home-is c.args.self.now c.args.kernels.now c.requires.ready c.args.link c.requires.there
    c.args.to c.link_of-ends.result.now c.end_of-at.result c.link_of-ends.ensures
    c.end_of-at.ensures).0

pub kernel_of-node-requires-clause-within : goal.kernel_of-node-requires-clause-within
kernel_of-node-requires-clause-within c =
    (home-is c.args.self.now c.args.kernels.now c.requires.ready c.args.link c.requires.there
    c.args.to c.link_of-ends.result.now c.end_of-at.result c.link_of-ends.ensures
    c.end_of-at.ensures).1

-- and the book takes one more step
pub side-here-requires-clause-takes : goal.side-here-requires-clause-takes
side-here-requires-clause-takes c = c.requires.ready.takes

pub side-there-requires-clause-takes : goal.side-there-requires-clause-takes
side-there-requires-clause-takes c = c.requires.ready.takes
