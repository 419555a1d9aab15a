use Rattle.link_check.proofs.book.Book.ends.Goals as goal

pub is_cut-requires-clause-takes : goal.is_cut-requires-clause-takes
is_cut-requires-clause-takes c = c.requires.ready.takes
