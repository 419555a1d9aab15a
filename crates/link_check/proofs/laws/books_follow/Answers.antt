use Rattle.link_check.proofs.Books.{pass-left}
use Rattle.link_check.proofs.laws.books_follow.Goals as goal

pub returns : goal.returns
returns c =
    λ shape P s legal me mine old new left past.
    pass-left shape s P legal old new left me mine past
