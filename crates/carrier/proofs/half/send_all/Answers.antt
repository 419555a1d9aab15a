use Rattle.std.proofs.Common.{◌∙◌, sym}
use Rattle.carrier.proofs.Sending.{WentOut, goes_on, went_out}
use Rattle.carrier.proofs.half.send_all.Goals as goal

pub put-requires : goal.put-requires
put-requires c =
    (went_out c.sending.end.is.out c.in-Some.bytes c.out.ensures.packet
    (sym c.in-Some.is ∙ c.in_ok-bytes.ensures.bytes)).spelled

pub sending-preserved : goal.sending-preserved
sending-preserved c =
    let w : WentOut c.sending.end.is.out c.in-Some.bytes =
    went_out c.sending.end.is.out c.in-Some.bytes c.out.ensures.packet
    (sym c.in-Some.is ∙ c.in_ok-bytes.ensures.bytes) in (
      rw (c.in_ok-put.ensures.is, c.in_ok-bytes.ensures.is)
          (goes_on c.sending.out.is c.sending.end.is.out c.in-Some.bytes w
          ∙ c.sending.invariant.0),
      (
        rw c.in_ok-bytes.ensures.is c.sending.invariant.1.0,
        (
          c.in_ok-bytes.ensures.was ∙ c.sending.invariant.1.1.0,
          c.in_ok-put.ensures.was ∙ c.sending.invariant.1.1.1,
        ),
      ),
    )
