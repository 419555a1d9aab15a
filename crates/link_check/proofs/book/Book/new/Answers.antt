use Rattle.std.proofs.lemmas.Result.{IfOk-weaker}
use Rattle.link_check.proofs.Books.{fresh-left}
use Rattle.link_check.proofs.book.Book.new.Goals as goal

pub returns : goal.returns
returns c =
    IfOk-weaker c.fresh.result _ _ (λ book fresh. fresh-left c.args.links.now book fresh)
    c.fresh.ensures
