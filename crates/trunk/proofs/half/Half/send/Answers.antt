use Rattle.std.proofs.Common.{ap}
use Rattle.rlnh_end.specs.Calls.{after, send_of}
use Rattle.trunk.proofs.Messages.Signals.{sends_new, with_kept}
use Rattle.trunk.proofs.half.Half.send.Goals as goal

pub returns-clause-is : goal.returns-clause-is
returns-clause-is c =
    let old = c.self.inside.end.is in
    let made = send_of old.tables c.args.from c.args.name.now c.args.to c.args.signal.now in
    rw (
      ← c.self.view_is,
      c.in_ok-send.ensures.is,
      c.note-3.ensures.is,
      c.note-2.ensures.is,
      c.in_ok-signal.ensures,
      c.in_ok-name.ensures,
    ) (ap (with_kept (after old made))
    (sends_new old.tables c.self.inside.kept.is c.args.from c.args.to c.args.name.now
    c.args.signal.now (rw (← c.self.view_is) at c.requires.met) c.is_published-known.result
    c.is_published-known.ensures c.if-known.false))
