use Rattle.text_check.proofs.Passing.{legal_text_is_printed}
use Rattle.text_check.proofs.laws.legal_texts_are_printed.Goals as goal

pub returns : goal.returns
returns c = legal_text_is_printed c.passing_are_runs.ensures c.text_is_printed_again.ensures
