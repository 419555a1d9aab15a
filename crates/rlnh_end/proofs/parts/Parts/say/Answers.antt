use Rattle.rlnh_end.proofs.Bodies.{control_fits}
use Rattle.rlnh_end.proofs.parts.Parts.say.Goals as goal

pub put-requires : goal.put-requires
put-requires c = record {
  message =
      rw c.in_ok-body.ensures.ok (control_fits c.args.message.now c.in_ok-body.ensures.is_message);
}
