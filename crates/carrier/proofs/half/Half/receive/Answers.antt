use Rattle.std.proofs.Common.{◌∙◌, refl}
use Rattle.ethcm_end.specs.declared.answers.Input.TheVariants.{Got, WentDown, WentUp}
use Rattle.carrier.specs.Spelling.{packet_at}
use Rattle.carrier.proofs.Noting.{received, told, up_peer}
use Rattle.carrier.proofs.half.Half.receive.Goals as goal

pub returns-in-WentUp-clause-handed : goal.returns-in-WentUp-clause-handed
returns-in-WentUp-clause-handed c =
    let reaction = rw c.in-WentUp.is at
    (c.in_ok-input.ensures.packet (packet_at c.args.bytes.now) c.requires.spelled) in
    let peer = up_peer c.self.inside.end.is c.input.new.self.is c.send_all.new.end.is
    (packet_at c.args.bytes.now) reaction c.in_ok-send_all.ensures.end in
    rw (← c.self.view_is) (told c.self.inside.end.is c.input.new.self.is
    c.send_all.new.end.is (packet_at c.args.bytes.now) WentUp reaction
    c.in_ok-send_all.ensures.end c.self.inside.end.is.talk.mine c.went_up.result
    (rw c.mine-mine.ensures.mine at
    (c.went_up.ensures (packet_at c.args.bytes.now).src (c.peer.ensures ∙ peer))))

pub returns-in-WentDown-clause-half : goal.returns-in-WentDown-clause-half
returns-in-WentDown-clause-half c =
    rw (← c.self.view_is) (received c.self.inside.end.is c.input.new.self.is
    c.send_all.new.end.is (packet_at c.args.bytes.now) WentDown
    (rw c.in-WentDown.is at
    (c.in_ok-input.ensures.packet (packet_at c.args.bytes.now) c.requires.spelled))
    c.in_ok-send_all.ensures.end c.self.inside.notes.is c.push.new.self.is
    (rw (
      c.push.ensures.is,
      c.mine-mine.ensures.mine,
      c.peer-peer.ensures,
    ) refl))

pub returns-in_ok-copy-in-Got-clause-half : goal.returns-in_ok-copy-in-Got-clause-half
returns-in_ok-copy-in-Got-clause-half c =
    rw (← c.self.view_is) (received c.self.inside.end.is c.input.new.self.is
    c.send_all.new.end.is (packet_at c.args.bytes.now) (Got c.in-Got.message)
    (rw c.in-Got.is at
    (c.in_ok-input.ensures.packet (packet_at c.args.bytes.now) c.requires.spelled))
    c.in_ok-send_all.ensures.end c.self.inside.notes.is c.push-in-Got.new.self.is
    (rw (c.push-in-Got.ensures.is, c.in_ok-copy-in-Got.ensures) refl))
