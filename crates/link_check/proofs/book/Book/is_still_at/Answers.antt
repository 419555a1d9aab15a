use Rattle.link_check.proofs.book.Book.is_still_at.Goals as goal

-- the book takes one more step
pub stirred-requires-clause-takes : goal.stirred-requires-clause-takes
stirred-requires-clause-takes c = c.requires.ready.takes
