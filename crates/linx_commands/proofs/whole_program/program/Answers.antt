use Rattle.std.proofs.Common.{[], refl}
use Rattle.linx_commands.specs.Programs.{status_of_unread}
use Rattle.linx_commands.specs.Statuses.{IsUsageOrRefused}
use Rattle.linx_commands.specs.declared.words.Unread.{Unread}
use Rattle.linx_commands.specs.declared.words.Unread.TheVariants.{NotWords, NoMemory}
use Rattle.linx_commands.proofs.whole_program.program.Goals as goal

-- without words the program ends as one that was asked for nothing
unread-refused : (why : Unread) → IsUsageOrRefused [] (status_of_unread why)
unread-refused NotWords = refl
unread-refused NoMemory = tt

pub returns-in-Read-clause-served : goal.returns-in-Read-clause-served
returns-in-Read-clause-served g c =
    let run = c.run-outcome.ensures in
    rw c.in-Read.is (rw c.tell.ensures.status (rw (← c.deref.ensures.value) (record {
      log = c.run-outcome.result.journal.log;
      other_words = run.other_words;
      untouched = run.untouched;
      shown = run.shown;
      played = run.played;
      worked = run.worked;
      echoed = run.echoed;
      served = run.served;
      no_file = run.unmade;
      legal = run.legal;
      line = rw (c.deref.ensures.value, ← c.deref-in-Read.ensures.value) c.tell.ensures.line;
    })))

pub returns-in-Unread-clause-served : goal.returns-in-Unread-clause-served
returns-in-Unread-clause-served g c =
    let nothing = c.unstarted.ensures in
    rw c.tell-in-Unread.ensures.status (rw c.in-Unread.is (record {
      log = c.unstarted.result.journal.log;
      other_words = (rw nothing.status (rw c.status.ensures (unread-refused c.in-Unread.why)), nothing.empty);
      untouched = (refl, refl);
      shown = tt;
      played = tt;
      worked = tt;
      echoed = tt;
      served = tt;
      no_file = λ none. refl;
      legal = nothing.legal;
      line = c.tell-in-Unread.ensures.line;
    }))
