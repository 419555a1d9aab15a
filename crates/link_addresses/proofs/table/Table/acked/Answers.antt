use Rattle.std.proofs.Common.{◌≡◌, ◌∙◌, refl, sym, ap, List}
use Rattle.linx_base.specs.Both.{Both}
use Rattle.link_addresses.specs.declared.meaning.Meaning.{Meaning}
use Rattle.link_addresses.specs.declared.meaning.Meaning.TheVariants.{Free, Closing}
use Rattle.link_addresses.specs.Meanings.{meaning_of}
use Rattle.link_addresses.proofs.Lists.{closing_taken}
use Rattle.link_addresses.proofs.Steps.{was_at, freed_at}
use Rattle.link_addresses.proofs.table.Table.acked.Goals as goal

pub invariant_of-self : goal.invariant_of-self
invariant_of-self c =
    let ms = c.self.inside.meanings.items in
    let closing : meaning_of ms c.args.addr ≡ Closing c.in-Closing.inc =
    ap (λ (b : Both (List Meaning)). meaning_of b.is c.args.addr) c.self.view_is
    ∙ sym c.in-Closing.ensures in
    rw (c.change_used.ensures.noted, c.change_used.ensures.capacity, c.release.ensures)
    (freed_at _ ms _ c.self.inside.changes.items _ _ _ c.self.invariant
    c.change_used.new.meanings.items c.args.addr Free c.in-Closing.inc
    (closing_taken ms c.args.addr c.in-Closing.inc closing) c.change_used.ensures.meanings refl
    closing)

pub returns-clause-was : goal.returns-clause-was
returns-clause-was c =
    let ms = c.self.inside.meanings.items in
    let closing : meaning_of ms c.args.addr ≡ Closing c.in-Closing.inc =
    ap (λ (b : Both (List Meaning)). meaning_of b.is c.args.addr) c.self.view_is
    ∙ sym c.in-Closing.ensures in
    rw (c.change_used.ensures.noted)
    (was_at _ ms _ c.self.inside.changes.items _ _ _ c.self.invariant
    c.change_used.new.meanings.items c.args.addr Free c.in-Closing.inc
    (closing_taken ms c.args.addr c.in-Closing.inc closing) c.change_used.ensures.meanings)
    ∙ ap (λ (b : Both (List Meaning)). b.was) c.self.view_is
