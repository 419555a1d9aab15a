use Rattle.std.proofs.Common.{◌^◌, ◌<◌, ◌≡◌, sym, ◌∙◌, arith, true, ltb-true}
use Rattle.link_addresses.specs.Meanings.{used_in}
use Rattle.trunk_record.specs.Sayings.{is_live}
use Rattle.trunk.specs.Events.{kept_of, tables_of}
use Rattle.trunk.specs.Publishing.{newest_unpublished}
use Rattle.trunk.proofs.Messages.Publishings.{publishes_again, publishes_new}
use Rattle.trunk.proofs.trunk.Trunk.may_publish.Goals as goal

pub returns-then-is_published-clause-may : goal.returns-then-is_published-clause-may
returns-then-is_published-clause-may c =
    λ is.
    let t = c.self.inside.parts.is in
    let numbered : c.args.inc.0 < 2 ^ 64 = omega arith in
    let room : used_in (tables_of c.args.side t).own < 4294967295 = omega arith in
    let live : is_live c.args.inc (kept_of c.args.side t).now.said ≡ true =
    sym (rw (← c.self.view_is) at c.is_published.ensures) ∙ is in
    rw (← c.self.view_is) (publishes_again c.args.side c.args.inc c.args.name.now t
    c.self.invariant.1 numbered c.bytes.ensures.name room live)

pub returns-else-is_published-clause-may : goal.returns-else-is_published-clause-may
returns-else-is_published-clause-may c =
    λ is.
    let t = c.self.inside.parts.is in
    let numbered : c.args.inc.0 < 2 ^ 64 = omega arith in
    let room : used_in (tables_of c.args.side t).own < 4294967295 = omega arith in
    let older : c.newest_unpublished.result < c.number_of-number.result =
    ltb-true c.newest_unpublished.result c.number_of-number.result is in
    let newer : newest_unpublished (kept_of c.args.side t).now.said < c.args.inc.0 = omega arith in
    rw (← c.self.view_is) (publishes_new c.args.side c.args.inc c.args.name.now t
    numbered c.bytes.ensures.name room newer)
