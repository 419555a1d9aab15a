use Rattle.clap.specs.Words.{app_of, found_of}
use Rattle.clap.proofs.TakesLemmas.{passed_up}
use Rattle.command_words.proofs.CommandLine.{asked_is, only_memory}
use Rattle.command_words.proofs.command_line.reads.Goals as goal

pub returns-in_err-matches-clause-err : goal.returns-in_err-matches-clause-err
returns-in_err-matches-clause-err c =
    let error = c.in_err-matches.field-0.0 in
    passed_up c.from_residual-in_err-matches.result error _ c.from_residual-in_err-matches.ensures.1
    (only_memory (app_of c.in_ok-command_line.field-0) c.args.words.now error
    c.requires.few c.in_ok-command_line.ensures c.requires.plain c.in_err-matches.ensures.kinds)

pub returns-clause-ok : goal.returns-clause-ok
returns-clause-ok c =
    asked_is (app_of c.in_ok-command_line.field-0) c.args.words.now
    (found_of c.in_ok-matches.matches) c.request_from.result c.get_str-word.result
    c.get_str-argument.result c.get_str-file.result
    c.in_ok-command_line.ensures c.requires.plain c.in_ok-matches.ensures.kinds
    (λ simple. (c.in_ok-matches.ensures.matches simple).0)
    c.get_str-word.ensures c.get_str-argument.ensures c.get_str-file.ensures
    c.request_from.ensures
