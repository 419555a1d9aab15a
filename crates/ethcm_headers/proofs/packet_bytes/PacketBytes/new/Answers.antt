use Rattle.ethcm_headers.specs.Parted.{bytes_in}
use Rattle.ethcm_headers.proofs.Found.{spelled_stand_apart}
use Rattle.ethcm_headers.proofs.packet_bytes.PacketBytes.new.Goals as goal

pub invariant_of-result : goal.invariant_of-result
invariant_of-result c =
    rw c.bytes.ensures
    (spelled_stand_apart c.args.length c.args.headers.now c.requires (bytes_in c.args.payload))
