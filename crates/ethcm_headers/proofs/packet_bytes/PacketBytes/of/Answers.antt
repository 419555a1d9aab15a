use Rattle.std.proofs.Common.{sym}
use Rattle.ethcm_headers.proofs.Found.{cut_apart}
use Rattle.ethcm_headers.proofs.packet_bytes.PacketBytes.of.Goals as goal

pub invariant_of-result-2 : goal.invariant_of-result-2
invariant_of-result-2 c =
    rw (
      c.push.ensures,
      c.new-front.ensures,
      c.bytes-3.ensures,
      c.in_ok-part.ensures,
      c.len.ensures,
      c.len-place.ensures,
      c.layout.ensures,
    ) (cut_apart c.args.bytes c.in-Some.headers
    (rw c.bytes-2.ensures at (sym c.in-Some.ensures.value))
    (rw c.bytes-2.ensures at c.in-Some.ensures.within))
