use Rattle.std.proofs.Common.{◌∙◌, sym}
use Rattle.node_kernel.proofs.Bringing.{brings_nothing}
use Rattle.node_kernel.proofs.delivery.bring.Goals as goal

pub returns-in_default-clause-ok : goal.returns-in_default-clause-ok
returns-in_default-clause-ok c =
    sym (brings_nothing c.args.pos c.args.effect.now (sym c.in_ok-made.ensures
    ∙ c.in_default.is) c.args.endpoints.now)
