use Rattle.std.proofs.Common.{arith}
use Rattle.rlnh_messages.specs.Signals.{SpellsSignal}
use Rattle.rlnh_messages.proofs.Bodies.{signal_found, is_body, one_signal}
use Rattle.rlnh_messages.proofs.signals.read_signal.Goals as goal

pub returns-in-Ok : goal.returns-in-Ok
returns-in-Ok c =
    let is : SpellsSignal c.of.result c.args.body.now =
    rw c.of.ensures
    (signal_found c.in-Some.number c.in-Some._data.now c.args.body.now c.in-Ok.data
    (rw (← c.bytes.ensures) c.in-Some.ensures.found.1)
    (rw (← c.len-2.ensures) c.in-Ok.ensures) (omega (arith, c.len.ensures))
    c.in-Some.ensures.found.0)
    in
    record {
      found = is;
      only = λ other spells. one_signal c.of.result other c.args.body.now is spells;
      bad = λ none. absurd (none (is_body c.of.result c.args.body.now is));
      bad_only = tt;
    }
