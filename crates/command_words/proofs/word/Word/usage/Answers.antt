use Rattle.command_words.proofs.Shortness.{usage_short}
use Rattle.command_words.proofs.word.Word.usage.Goals as goal

pub returns-clause-short : goal.returns-clause-short
returns-clause-short c =
    usage_short c.args.self c.said.result.usage.now c.said.ensures.usage
