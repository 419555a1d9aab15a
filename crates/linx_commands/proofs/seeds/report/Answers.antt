use Rattle.std.proofs.Common.{[], subst, sym}
use Rattle.linx_commands.specs.Causes.{script_status}
use Rattle.linx_commands.specs.Searches.{IsSeedsEnd}
use Rattle.linx_commands.specs.declared.outcome.Status.{Status}
use Rattle.linx_commands.proofs.Searching.{report_unread, report_written, silent_unread}
use Rattle.linx_commands.proofs.Working.{silent_undone, silent_unfailed, writes_none}
use Rattle.linx_commands.proofs.seeds.report.Goals as goal

pub returns-in-Ok-clause-reported : goal.returns-in-Ok-clause-reported
returns-in-Ok-clause-reported g c = record {
  text = c.in-Ok.text.items;
  is = record {
    ended = rw c.unstarted.ensures.status (report_written c.args.asked.range c.args.bytes.now
        c.write_text.result c.in-Ok.text.items c.write_text.ensures.kinds c.in-Ok.ensures.report);
    empty = c.unstarted.ensures.empty;
  };
  written = rw c.unstarted.ensures.status (rw (← c.as_slice.ensures.value) c.write_text.ensures.sink);
  legal = c.unstarted.ensures.legal;
}

pub returns-in-Err-clause-reported : goal.returns-in-Err-clause-reported
returns-in-Err-clause-reported g c =
    let error = c.in-Err.error in
    let status = script_status error in
    let silent = silent_unread error in
    record {
      text = [];
      is = record {
        ended = rw c.unstarted-in-Err.ensures.status (rw c.status_of_script.ensures
            (report_unread c.args.asked.range c.args.bytes.now error [] c.in-Err.ensures.bad));
        empty = c.unstarted-in-Err.ensures.empty;
      };
      written = rw c.unstarted-in-Err.ensures.status (rw c.status_of_script.ensures
          (writes_none g.K.Sink.held g.K.Sink.faults g.K.Sink.last_count g.K.Sink.can_take
          c.args.out.now status [] (silent_undone status silent) (silent_unfailed status silent)));
      legal = c.unstarted-in-Err.ensures.legal;
    }
