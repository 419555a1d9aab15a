use Rattle.gateway_msgs.proofs.Bodies.{received}
use Rattle.gateway_msgs.proofs.reading.receive_in.Goals as goal

pub returns : goal.returns
returns c =
    received c.args.body.now c.four_in-count.result.1.now c.four_in-count.result.0
    c.in_ok-numbers.numbers c.four_in-count.ensures.spelled c.four_in-count.ensures.fits
    c.in_ok-numbers.ensures.spelled c.in_ok-numbers.ensures.fit c.requires.few
