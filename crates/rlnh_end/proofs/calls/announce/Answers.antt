use Rattle.rlnh_end.proofs.calls.announce.Goals as goal

pub say-requires : goal.say-requires
say-requires c = c.in_ok-addr.ensures.lowest.is_address
