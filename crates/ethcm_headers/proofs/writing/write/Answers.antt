use Rattle.std.proofs.Common.{refl}
use Rattle.ethcm_headers.proofs.Apart.{spelling_apart}
use Rattle.ethcm_headers.proofs.writing.write.Goals as goal

pub returns-clause-ok : goal.returns-clause-ok
returns-clause-ok c =
    rw (
      c.new.ensures,
      c.bytes_in.ensures,
      c.in_ok-payload.ensures,
      c.len.ensures,
      c.layout.ensures,
      c.headers_in-headers.ensures.value,
      spelling_apart c.args.packet.now,
    ) refl
