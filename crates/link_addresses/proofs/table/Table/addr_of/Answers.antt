use Rattle.std.proofs.Common.{◌≡◌, ◌∙◌, nat_eq, ap, subst, List}
use Rattle.std.specs.HashMap.{get}
use Rattle.linx_base.specs.Both.{Both}
use Rattle.link_addresses.specs.declared.meaning.Meaning.{Meaning}
use Rattle.link_addresses.specs.Meanings.{meaning_of, address_of}
use Rattle.link_addresses.proofs.Indexing.{live_address}
use Rattle.link_addresses.proofs.table.Table.addr_of.Goals as goal

pub returns-clause-only : goal.returns-clause-only
returns-clause-only c = λ addr live.
    let ms = c.self.inside.meanings.items in
    let value : c.address_in.result ≡ address_of c.self.inside.meanings.items c.args.inc =
    subst (λ (l : List Meaning). c.address_in.result ≡ address_of l c.args.inc)
    c.deref.ensures.value c.address_in.ensures.value in
    value ∙ live_address (get nat_eq c.self.inside.index) ms c.self.invariant.indexed c.args.inc
    addr
    (ap (λ (b : Both (List Meaning)). meaning_of b.is addr) c.self.view_is ∙ live)
