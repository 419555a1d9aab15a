use Rattle.link_check.proofs.Judging.{books-tell}
use Rattle.link_check.proofs.laws.books_tell_laws.Goals as goal

pub returns : goal.returns
returns c = books-tell
