use Rattle.journal.specs.Logs.{effect_at}
use Rattle.journal_text.specs.Known.{signal_of}
use Rattle.journal_text.proofs.Fitting.{fits_item}
use Rattle.journal_text.proofs.digests.Digests.of_item.Goals as goal

pub returns-clause-known : goal.returns-clause-known
returns-clause-known c steps fits =
    c.known.ensures.known (signal_of (effect_at steps c.args.at))
    (fits_item c.args.self.now steps c.args.at fits)
