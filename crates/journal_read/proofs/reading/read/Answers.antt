use Rattle.journal.specs.Logs.{Book}
use Rattle.journal_read.proofs.CallLaws.{reads_spell, spelled_reads}
use Rattle.journal_read.proofs.reading.read.Goals as goal

pub returns-clause-spelled : goal.returns-clause-spelled
returns-clause-spelled c =
    reads_spell (λ (journal : Book). journal.log.steps) c.args.names c.args.text.now
    c.read_text.result c.read_text.ensures.steps

pub returns-clause-none_bad : goal.returns-clause-none_bad
returns-clause-none_bad c =
    spelled_reads (λ (journal : Book). journal.log.steps) c.args.names c.args.text.now
    c.read_text.result c.read_text.ensures.steps
