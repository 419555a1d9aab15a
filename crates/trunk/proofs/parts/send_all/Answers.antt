use Rattle.std.proofs.Common.{◌∙◌, sym, subst, IsSome}
use Rattle.trunk.proofs.Messages.Sends.{all_went, goes_on, messages_left, none_left, numbers_left}
use Rattle.trunk.proofs.Messages.Sends.{same_side, shorter}
use Rattle.trunk.proofs.parts.send_all.Goals as goal

pub sending-smaller : goal.sending-smaller
sending-smaller c =
    shorter c.args.at c.sending.link.is c.sending.link.is c.sending.half.is c.pass.new.self.is
    c.in-Some.message.now (sym (rw c.in-Some.is at c.next_out.ensures)) c.pass.ensures.is

pub sending-preserved : goal.sending-preserved
sending-preserved c =
    let next = sym (rw c.in-Some.is at c.next_out.ensures) in
    let v = c.sending.link.is in
    let w = c.offer.new.self.is in
    let s = c.sending.half.is in
    let t = c.pass.new.self.is in
    let m = c.in-Some.message.now in
    let half = c.pass.ensures.is in
    let told = c.in_ok-offer.ensures.told in (
      goes_on c.args.at v w s t m next half c.in_ok-offer.ensures.is ∙ c.sending.invariant.0,
      (
        same_side c.args.at v w s t m next half ∙ c.sending.invariant.1.0,
        (
          c.pass.ensures.was ∙ c.sending.invariant.1.1.0,
          (
            c.in_ok-offer.ensures.was ∙ c.sending.invariant.1.1.1.0,
            (
              subst (λ p. IsSome p) (sym told.stays.peer) c.sending.invariant.1.1.1.1.0,
              (
                messages_left c.args.at v w s t m next half c.sending.invariant.1.1.1.1.1.0,
                numbers_left c.args.at v w s t m next half _ _ c.sending.invariant.1.1.1.1.1.1
                    told.numbers,
              ),
            ),
          ),
        ),
      ),
    )

pub returns-clause-link : goal.returns-clause-link
returns-clause-link c =
    all_went c.args.at c.sending.link.is c.sending.half.is
    (sym (rw c.in_default.is at c.next_out.ensures)) ∙ c.sending.invariant.0

pub returns-clause-half : goal.returns-clause-half
returns-clause-half c =
    none_left c.args.at c.sending.link.is c.sending.half.is
    (sym (rw c.in_default.is at c.next_out.ensures)) ∙ c.sending.invariant.1.0
