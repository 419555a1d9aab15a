use Rattle.std.proofs.Common.{[], refl, subst, sym}
use Rattle.turn_lines.specs.Text.{order_text}
use Rattle.turn_lines.specs.Turns.{turn_makers}
use Rattle.linx_commands.specs.Printed.{IsUnreadText}
use Rattle.linx_commands.proofs.Working.{order_unread, order_written, unread_undone}
use Rattle.linx_commands.proofs.Working.{unread_unfailed, writes_none}
use Rattle.linx_commands.proofs.printed.order.Goals as goal

pub returns-in-Ok : goal.returns-in-Ok
returns-in-Ok g c =
    let log = c.in-Ok.journal.log in
    let text = order_text (turn_makers log.steps) in
    record {
      text = text;
      is = record {
        ended = rw c.unstarted.ensures.status (order_written c.args.bytes.now c.write_order.result text
            c.write_order.ensures.kinds (record {
              log = log;
              spelled = c.in-Ok.ensures.spelled;
              is = refl;
            }));
        empty = c.unstarted.ensures.empty;
      };
      written = rw c.unstarted.ensures.status c.write_order.ensures.sink;
      legal = c.unstarted.ensures.legal;
    }

pub returns-in-Err : goal.returns-in-Err
returns-in-Err g c =
    let bytes = c.args.bytes.now in
    let status = c.unstarted-in-Err.result.status in
    let unread : IsUnreadText bytes status =
    subst (IsUnreadText bytes) (sym c.unstarted-in-Err.ensures.status) c.in-Err.ensures.unread in
    record {
      text = [];
      is = record {
        ended = order_unread bytes status [] unread;
        empty = c.unstarted-in-Err.ensures.empty;
      };
      written = writes_none g.K.Sink.held g.K.Sink.faults g.K.Sink.last_count g.K.Sink.can_take
          c.args.out.now status [] (unread_undone bytes status unread)
          (unread_unfailed bytes status unread);
      legal = c.unstarted-in-Err.ensures.legal;
    }
