use Rattle.std.proofs.Common.{rules, ◌≡◌}
use Rattle.link_addresses.specs.declared.meaning.Meaning.TheVariants.{Live}
use Rattle.link_addresses.specs.Meanings.{lowest_free, with_lowest}
use Rattle.link_addresses.proofs.Lists.{given_changes}
use Rattle.link_addresses.proofs.addresses.Addresses.publish.Goals as goal

pub returns-clause-changes : goal.returns-clause-changes
returns-clause-changes c =
    let address : c.in_ok-addr.addr ≡ lowest_free c.args.self.now.is = search rules in
    let put : c.publish.new.self.is ≡ with_lowest c.args.self.now.is (Live c.args.inc) =
    search rules in
    given_changes c.args.self.now.is c.publish.new.self.is c.in_ok-addr.addr c.args.inc address put
