use Rattle.std.proofs.Common.{[], map, string_bytes}
use Rattle.linx_commands.proofs.Working.{silent_undone, silent_unfailed, writes_none}
use Rattle.linx_commands.proofs.search.find.Goals as goal

pub returns-in-Ok-clause-found : goal.returns-in-Ok-clause-found
returns-in-Ok-clause-found g c =
    c.conclude.ensures c.args.search (map string_bytes c.args.wanted.now) c.args.bytes.now
    c.in-Ok.ensures.answer

pub returns-in-Err-clause-found : goal.returns-in-Err-clause-found
returns-in-Err-clause-found g c =
    let wanted = map string_bytes c.args.wanted.now in
    let silent = c.halt.ensures.silent in
    let status = c.halt.result.status in
    record {
      text = [];
      is = c.halt.ensures.ended c.args.search wanted c.args.bytes.now c.in-Err.ensures.stopped;
      written = writes_none g.K.Sink.held g.K.Sink.faults g.K.Sink.last_count g.K.Sink.can_take
          c.args.out.now status [] (silent_undone status silent) (silent_unfailed status silent);
      legal = c.halt.ensures.legal c.args.search wanted c.args.bytes.now c.in-Err.ensures.stopped;
    }
