use Rattle.command_words.proofs.Shortness.{name_short}
use Rattle.command_words.proofs.word.Word.name.Goals as goal

pub returns-clause-short : goal.returns-clause-short
returns-clause-short c =
    name_short c.args.self c.said.result.name.now c.said.ensures.name
