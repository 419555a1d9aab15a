use Rattle.std.proofs.Common.{rules, ◌≡◌, ◌≢◌, ◌∙◌, nat_eq, sym, ap}
use Rattle.std.specs.HashMap.{get}
use Rattle.link_addresses.specs.declared.meaning.Meaning.TheVariants.{Live}
use Rattle.link_addresses.specs.Meanings.{meaning_of}
use Rattle.link_addresses.proofs.Indexing.{same_inc, not_live_address, no_entry, live_address}
use Rattle.link_addresses.proofs.Indexing.{stale_entry}
use Rattle.link_addresses.proofs.index.address_in.Goals as goal

pub returns-in_err-addr-clause-value : goal.returns-in_err-addr-clause-value
returns-in_err-addr-clause-value c =
    let ms = c.args.meanings.now in
    c.from_residual.ensures ∙ not_live_address ms c.args.inc
    (no_entry (get nat_eq c.args.index.now) ms c.requires c.args.inc
    (sym c.in_err-addr.ensures.value))

pub returns-in-Live-clause-value : goal.returns-in-Live-clause-value
returns-in-Live-clause-value c =
    let ms = c.args.meanings.now in
    let live : meaning_of c.args.meanings.now c.in_ok-addr.field-0.now ≡ Live c.args.inc =
    sym c.in-Live.ensures ∙ ap Live (same_inc c.in-Live.other c.args.inc c.if-other-inc.true) in
    sym (live_address (get nat_eq c.args.index.now) ms c.requires c.args.inc
    c.in_ok-addr.field-0.now live)

pub returns-in_default-clause-value : goal.returns-in_default-clause-value
returns-in_default-clause-value c =
    let ms = c.args.meanings.now in
    let other : meaning_of c.args.meanings.now c.in_ok-addr.field-0.now ≢ Live c.args.inc =
    search rules in
    not_live_address ms c.args.inc (stale_entry (get nat_eq c.args.index.now) ms
    c.requires c.args.inc c.in_ok-addr.field-0.now (sym c.in_ok-addr.ensures.value) other)

pub returns-in_default-2 : goal.returns-in_default-2
returns-in_default-2 c =
    let ms = c.args.meanings.now in
    let other : meaning_of c.args.meanings.now c.in_ok-addr.field-0.now ≢ Live c.args.inc =
    search rules in
    record {
      value = not_live_address ms c.args.inc (stale_entry (get nat_eq c.args.index.now) ms
          c.requires c.args.inc c.in_ok-addr.field-0.now (sym c.in_ok-addr.ensures.value) other);
      found = tt;
    }
