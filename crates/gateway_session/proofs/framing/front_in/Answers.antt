use Rattle.std.proofs.Common.{◌≡◌, ◌<◌, length, inl, inr, rules}
use Rattle.request_stream.proofs.GoingOn.{is_empty_list}
use Rattle.gateway_session.proofs.Begun.{whole, part, none}
use Rattle.gateway_session.proofs.framing.front_in.Goals as goal

pub returns-then-is_empty : goal.returns-then-is_empty
returns-then-is_empty c =
    let empty : length c.args.bytes.now ≡ 0 = search rules in
    inl (is_empty_list c.args.bytes.now empty)

pub returns-in-Whole : goal.returns-in-Whole
returns-in-Whole c =
    whole c.args.clients c.args.room c.args.bytes.now c.in-Whole.size c.in-Whole.ensures

pub returns-in-More : goal.returns-in-More
returns-in-More c = inr (part c.args.clients c.args.room c.args.bytes.now c.in-More.ensures)

pub returns-in-Bad : goal.returns-in-Bad
returns-in-Bad c =
    let some : 0 < length c.args.bytes.now = search rules in
    none c.args.clients c.args.room c.args.bytes.now some c.in-Bad.ensures
