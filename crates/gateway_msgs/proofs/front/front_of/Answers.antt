use Rattle.std.proofs.Common.{sym, ◌∙◌, arith}
use Rattle.gateway_msgs.proofs.Fronting.{none_by_length, more_of_length, none_follows, more_follows}
use Rattle.gateway_msgs.proofs.Fronting.{whole_follows, cut}
use Rattle.gateway_msgs.proofs.front.front_of.Goals as goal
use Rattle.gateway_msgs.proofs.front.front_of.Goals.{then-length-lt-LENGTH_LEAST-via-then-length-lt-LENGTH_LEAST}
use Rattle.gateway_msgs.proofs.front.front_of.Goals.{then-length-lt-LENGTH_LEAST-via-else-length-lt-LENGTH_LEAST+then-length-gt-LENGTH_MOST}
use Rattle.gateway_msgs.proofs.front.front_of.Goals.{then-length-lt-LENGTH_LEAST-via-else-length-lt-LENGTH_LEAST+else-length-gt-LENGTH_MOST+then-room-from}

pub returns-then-length-lt-LENGTH_LEAST : goal.returns-then-length-lt-LENGTH_LEAST
returns-then-length-lt-LENGTH_LEAST c =
    let is = c.least_length-length.ensures in
    none_by_length c.args.clients c.args.room c.args.bytes.now (λ least most fits.
    elim c.then-length-lt-LENGTH_LEAST.branch [
      | then-length-lt-LENGTH_LEAST-via-then-length-lt-LENGTH_LEAST w ↦
          omega (arith, is, w.if-length-lt-LENGTH_LEAST.true)
      | then-length-lt-LENGTH_LEAST-via-else-length-lt-LENGTH_LEAST+then-length-gt-LENGTH_MOST w ↦
          omega (arith, is, w.if-length-gt-LENGTH_MOST.true)
      | then-length-lt-LENGTH_LEAST-via-else-length-lt-LENGTH_LEAST+else-length-gt-LENGTH_MOST+then-room-from w ↦
          omega (arith, is, w.from.ensures, w.if-room-from.true)
    ])

pub returns-then-bytes-lt-LENGTH_SIZE : goal.returns-then-bytes-lt-LENGTH_SIZE
returns-then-bytes-lt-LENGTH_SIZE c =
    more_of_length c.args.clients c.args.room c.args.bytes.now c.least_length-length.result
    c.least_length-length.ensures c.requires (λ k. (c.type_inv.bytes k).fits)
    c.if-length-lt-LENGTH_LEAST.false
    c.if-length-gt-LENGTH_MOST.false (omega (arith, c.from.ensures, c.if-room-from.false))
    c.if-bytes-lt-LENGTH_SIZE.true

pub returns-then-not-may_follow : goal.returns-then-not-may_follow
returns-then-not-may_follow c =
    none_follows c.args.clients c.args.room c.args.bytes.now c.least_length-length.result
    c.least_length-length.ensures c.requires (λ k. (c.type_inv.bytes k).fits)
    c.if-length-lt-LENGTH_LEAST.false
    c.if-length-gt-LENGTH_MOST.false (omega (arith, c.from.ensures, c.if-room-from.false))
    c.if-bytes-lt-LENGTH_SIZE.false _
    (cut c.args.bytes.now c.least_length-length.result c.min.result c.min.ensures
    c.if-bytes-lt-LENGTH_SIZE.false c.if-length-lt-LENGTH_LEAST.false)
    (sym c.may_follow.ensures ∙ c.if-not-may_follow.true)

pub returns-then-bytes-size : goal.returns-then-bytes-size
returns-then-bytes-size c =
    more_follows c.args.clients c.args.room c.args.bytes.now c.least_length-length.result
    c.least_length-length.ensures c.requires (λ k. (c.type_inv.bytes k).fits)
    c.if-length-lt-LENGTH_LEAST.false
    c.if-length-gt-LENGTH_MOST.false (omega (arith, c.from.ensures, c.if-room-from.false))
    c.if-bytes-lt-LENGTH_SIZE.false _
    (cut c.args.bytes.now c.least_length-length.result c.min.result c.min.ensures
    c.if-bytes-lt-LENGTH_SIZE.false c.if-length-lt-LENGTH_LEAST.false)
    (sym c.may_follow.ensures ∙ c.if-not-may_follow.false) c.if-bytes-size.true

pub returns : goal.returns
returns c =
    whole_follows c.args.clients c.args.room c.args.bytes.now c.least_length-length.result
    c.least_length-length.ensures c.requires (λ k. (c.type_inv.bytes k).fits)
    c.if-length-lt-LENGTH_LEAST.false
    c.if-length-gt-LENGTH_MOST.false (omega (arith, c.from.ensures, c.if-room-from.false))
    c.if-bytes-lt-LENGTH_SIZE.false _
    (cut c.args.bytes.now c.least_length-length.result c.min.result c.min.ensures
    c.if-bytes-lt-LENGTH_SIZE.false c.if-length-lt-LENGTH_LEAST.false)
    (sym c.may_follow.ensures ∙ c.if-not-may_follow.false) c.if-bytes-size.false
