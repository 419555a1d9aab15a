use Rattle.rlnh_end.proofs.Bodies.{signal_fits}
use Rattle.rlnh_end.proofs.calls.tell.Goals as goal

pub put-requires : goal.put-requires
put-requires c = record {
  message =
      rw c.in_ok-body.ensures.ok (signal_fits c.args.signal.now c.in_ok-body.ensures.is_signal);
}
