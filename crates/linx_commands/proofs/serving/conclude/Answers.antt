use Rattle.std.proofs.Common.{inr, subst, sym, Result, IfOk}
use Rattle.linx_base.specs.declared.memory.NoMemory.{NoMemory}
use Rattle.workers.specs.declared.ran.Ran.{Ran}
use Rattle.linx_commands.specs.Runs.{IsOutcomeOf, IsRan}
use Rattle.linx_commands.specs.declared.outcome.Status.{Status}
use Rattle.linx_commands.proofs.Answering.{answers-halted, answers-played, legal-run}
use Rattle.linx_commands.proofs.serving.conclude.Goals as goal

pub returns-in-None-clause-answer : goal.returns-in-None-clause-answer
returns-in-None-clause-answer g c ordered is_ran =
    let journal = c.into_journal-journal.ensures in
    let ran : Ran = c.in-Ok.field-0 in
    inr (answers-played c.args.asked c.write_run.result ordered ran
    c.into_journal-journal.result.log
    (subst (λ (p : Result Ran NoMemory). IfOk p (IsRan c.args.asked ordered)) c.in-Ok.is is_ran)
    c.in-None.is journal.so_far journal.whole journal.over journal.rest journal.log
    c.write_run.ensures.kinds)

pub returns-in-None-clause-legal : goal.returns-in-None-clause-legal
returns-in-None-clause-legal g c =
    let journal = c.into_journal-journal.ensures in
    let stage = c.in-Ok.field-0.stage in
    legal-run stage.script stage.run c.into_journal-journal.result.log journal.so_far journal.log

pub returns-in-Some-clause-answer : goal.returns-in-Some-clause-answer
returns-in-Some-clause-answer g c ordered is_ran =
    let journal = c.into_journal-journal.ensures in
    let ran : Ran = c.in-Ok.field-0 in
    let log = c.into_journal-journal.result.log in
    subst (λ (s : Status). IsOutcomeOf c.args.asked s ordered log) (sym c.status_of_stop.ensures)
    (inr (answers-halted c.args.asked c.in-Some.cause ordered ran log
    (subst (λ (p : Result Ran NoMemory). IfOk p (IsRan c.args.asked ordered)) c.in-Ok.is is_ran)
    c.in-Some.is journal.so_far journal.log))

pub returns-in-Some-clause-legal : goal.returns-in-Some-clause-legal
returns-in-Some-clause-legal g c =
    let journal = c.into_journal-journal.ensures in
    let stage = c.in-Ok.field-0.stage in
    legal-run stage.script stage.run c.into_journal-journal.result.log journal.so_far journal.log
