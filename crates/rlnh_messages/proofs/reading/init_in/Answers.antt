use Rattle.std.proofs.Common.{◌≡◌, arith}
use Rattle.std.proofs.lemmas.Bool.{iff_false}
use Rattle.rlnh_messages.proofs.Types.{behind, init_found, init_reply_found}
use Rattle.rlnh_messages.proofs.reading.init_in.Goals as goal

pub returns-then-not-is_version : goal.returns-then-not-is_version
returns-then-not-is_version c =
    λ message s. iff_false c.is_version.ensures c.if-not-is_version.true
    ((behind message c.args.kind c.args.rest.now s).version (omega arith))

pub returns-then-kind-eq-INIT : goal.returns-then-kind-eq-INIT
returns-then-kind-eq-INIT c =
    let is : c.args.kind ≡ 1 = c.if-kind-eq-INIT.true in
    rw is (init_found c.args.rest.now (c.is_version.ensures.0 c.if-not-is_version.false))

pub returns : goal.returns
returns c =
    let is : c.args.kind ≡ 2 = omega arith in
    rw is (init_reply_found c.args.rest.now (c.is_version.ensures.0 c.if-not-is_version.false))
