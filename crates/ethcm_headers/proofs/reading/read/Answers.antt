use Rattle.ethcm_headers.specs.Packets.{Spells}
use Rattle.ethcm_headers.specs.Chains.{packet_with}
use Rattle.ethcm_headers.specs.Parted.{bytes_in}
use Rattle.ethcm_headers.proofs.Found.{unique}
use Rattle.ethcm_headers.proofs.reading.read.Goals as goal

pub returns-in_err-packet-clause-bad : goal.returns-in_err-packet-clause-bad
returns-in_err-packet-clause-bad c = λ none.
    absurd (none (packet_with c.in-Some.headers (bytes_in c.bytes.inside.payload))
    (rw (← c.bytes.view_is, ← c.as_slice-front.ensures, ← c.bytes_in.ensures)
    c.in-Some.ensures.found))

pub returns-clause-only : goal.returns-clause-only
returns-clause-only c = λ other spells.
    let is : Spells c.in_ok-packet.packet c.args.bytes.now =
    rw (
      c.in_ok-packet.ensures.ok,
      ← c.bytes.view_is,
      ← c.as_slice-front.ensures,
      ← c.bytes_in.ensures,
    ) c.in-Some.ensures.found in
    unique c.in_ok-packet.packet other c.args.bytes.now is spells
