use Rattle.std.proofs.Common.{◌≡◌, ◌∙◌, nat_eq, refl, ap, arith, List}
use Rattle.std.specs.HashMap.{get}
use Rattle.linx_base.specs.Both.{Both}
use Rattle.link_addresses.specs.declared.meaning.Meaning.{Meaning}
use Rattle.link_addresses.specs.declared.meaning.Meaning.TheVariants.{Live, Closing}
use Rattle.link_addresses.specs.Meanings.{meaning_of}
use Rattle.link_addresses.proofs.Lists.{live_taken, changes_at}
use Rattle.link_addresses.proofs.Indexing.{closed_not_live}
use Rattle.link_addresses.proofs.Steps.{was_at, closed_at}
use Rattle.link_addresses.proofs.table.Table.closing.Goals as goal

pub invariant_of-self : goal.invariant_of-self
invariant_of-self c =
    let ms = c.self.inside.meanings.items in
    let live : meaning_of ms c.in_ok-addr.addr ≡ Live c.args.inc =
    ap (λ (b : Both (List Meaning)). meaning_of b.is c.in_ok-addr.addr) c.self.view_is
    ∙ c.in_ok-addr.ensures.found in
    rw (c.change_used.ensures.noted, c.change_used.ensures.capacity)
    (closed_at _ ms _ c.self.inside.changes.items _ _ _ c.self.invariant
    c.change_used.new.meanings.items c.in_ok-addr.addr (Closing c.args.inc) c.args.inc
    (live_taken ms c.in_ok-addr.addr c.args.inc live) c.change_used.ensures.meanings (omega arith)
    refl live)

pub returns-clause-not_live : goal.returns-clause-not_live
returns-clause-not_live c =
    let ms = c.self.inside.meanings.items in
    let live : meaning_of ms c.in_ok-addr.addr ≡ Live c.args.inc =
    ap (λ (b : Both (List Meaning)). meaning_of b.is c.in_ok-addr.addr) c.self.view_is
    ∙ c.in_ok-addr.ensures.found in
    closed_not_live (get nat_eq c.self.inside.index) ms c.change_used.new.meanings.items c.args.inc
    c.in_ok-addr.addr c.self.invariant.indexed live
    (rw c.change_used.ensures.meanings (changes_at ms c.in_ok-addr.addr (Closing c.args.inc)
    (live_taken ms c.in_ok-addr.addr c.args.inc live)))

pub returns-clause-was : goal.returns-clause-was
returns-clause-was c =
    let ms = c.self.inside.meanings.items in
    let live : meaning_of ms c.in_ok-addr.addr ≡ Live c.args.inc =
    ap (λ (b : Both (List Meaning)). meaning_of b.is c.in_ok-addr.addr) c.self.view_is
    ∙ c.in_ok-addr.ensures.found in
    rw (c.change_used.ensures.noted)
    (was_at _ ms _ c.self.inside.changes.items _ _ _ c.self.invariant
    c.change_used.new.meanings.items c.in_ok-addr.addr (Closing c.args.inc) c.args.inc
    (live_taken ms c.in_ok-addr.addr c.args.inc live) c.change_used.ensures.meanings)
    ∙ ap (λ (b : Both (List Meaning)). b.was) c.self.view_is
