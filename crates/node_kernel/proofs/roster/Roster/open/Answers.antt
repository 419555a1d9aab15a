use Rattle.node_kernel.proofs.Keeping.{ok_of, opened_kept, refused_kept, rising_opened}
use Rattle.std.proofs.Common.{◌∙◌, sym}
use Rattle.node_kernel.proofs.roster.Roster.open.Goals as goal

pub open_with-requires : goal.open_with-requires
open_with-requires c =
    rw (c.new-endpoint.ensures, c.of-inc.ensures)
    (rising_opened c.self.inside.node c.self.inside.openings c.self.inside.endpoints.items
    c.self.inside.names c.self.invariant c.args.name)

pub invariant_of-self-in-Ok-open_with : goal.invariant_of-self-in-Ok-open_with
invariant_of-self-in-Ok-open_with c =
    opened_kept c.self.inside.node c.self.inside.openings c.self.inside.endpoints.items
    c.self.inside.names c.self.invariant c.args.name c.in-Ok.copy c.of-inc.result
    c.new-endpoint.result c.args.step c.args.effects.now c.open_with.new.endpoints.items
    c.add.new.self
    c.of-inc.ensures c.in-Ok.ensures c.new-endpoint.ensures c.in-Ok-open_with.ensures.ok
    (ok_of c.add.result (sym c.is_err.ensures.value ∙ c.if-is_err.false) c.add.ensures.ok)

pub invariant_of-self-in-Err : goal.invariant_of-self-in-Err
invariant_of-self-in-Err c =
    refused_kept c.self.inside.node c.self.inside.openings c.self.inside.endpoints.items
    c.self.inside.names c.self.invariant c.in-Ok.copy c.of-inc.result
    c.open_with.new.endpoints.items c.add.new.self c.remove.new.self
    c.of-inc.ensures c.in-Err.ensures.err.1 (ok_of c.add.result (sym c.is_err.ensures.value
    ∙ c.if-is_err.false) c.add.ensures.ok) c.remove.ensures.others
