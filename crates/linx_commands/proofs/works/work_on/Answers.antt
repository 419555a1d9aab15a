use Rattle.std.proofs.Common.{[], inl, inr, map, string_bytes, sym, subst}
use Rattle.linx_commands.specs.Works.{IsReadStop}
use Rattle.linx_commands.proofs.Working.{reads_ended, stop_undone, stop_unfailed, writes_none}
use Rattle.linx_commands.proofs.works.work_on.Goals as goal

pub returns-in-Ok-clause-worked : goal.returns-in-Ok-clause-worked
returns-in-Ok-clause-worked g c =
    let looked = c.look.ensures.looked in
    let read = c.in-Ok.ensures in
    record {
      text = looked.text;
      cause = inr (record {
        bytes = c.in-Ok.bytes.items;
        read = rw (← c.most_of.ensures) read.told;
        ended = rw (← c.as_slice.ensures.value) looked.is;
      });
      read = reads_ended g.S.Source.left g.S.Source.faults g.S.Source.last_count
          g.S.Source.is_faultless c.args.source.now c.read_bytes.new.source c.args.work
          (map string_bytes c.args.words.now) c.as_slice.result.now c.look.result.status looked.text
          c.look.result.journal.log looked.is
          (rw (c.as_slice.ensures.value, ← c.most_of.ensures) read.whole)
          (rw (← c.most_of.ensures) read.scanned)
          (rw (← c.most_of.ensures) c.read_bytes.ensures.taken) read.counts_nothing
          c.read_bytes.ensures.faultless;
      written = looked.written;
    }

pub returns-in-Ok-clause-legal : goal.returns-in-Ok-clause-legal
returns-in-Ok-clause-legal g c = c.look.ensures.looked.legal

pub returns-in-Err-clause-worked : goal.returns-in-Err-clause-worked
returns-in-Err-clause-worked g c =
    let status = c.unstarted.result.status in
    let stopped : IsReadStop status =
    subst IsReadStop (sym c.unstarted.ensures.status) c.in-Err.ensures.unread in
    record {
      text = [];
      cause = inl (record { stopped = stopped; empty = c.unstarted.ensures.empty });
      read = rw c.unstarted.ensures.status (rw (← c.most_of.ensures) c.in-Err.ensures.source);
      written = writes_none g.K.Sink.held g.K.Sink.faults g.K.Sink.last_count g.K.Sink.can_take
          c.args.out.now status [] (stop_undone status stopped) (stop_unfailed status stopped);
    }
