use Rattle.std.proofs.Common.{◌∷◌, [], ◌++◌, ◌∙◌, ap, sym}
use Rattle.node_kernel.proofs.Keeping.{err_of, taken_back}
use Rattle.node_kernel.proofs.roster.open_with.Goals as goal

pub returns-clause-err : goal.returns-clause-err
returns-clause-err c =
    let out = taken_back c.args.endpoint c.unwrap.result c.args.endpoints.now.items
    c.bring_to.new.endpoints.items c.pop.new.self.items c.pop.result
    (err_of c.bring_to.result (sym c.is_ok.ensures.value ∙ c.if-is_ok.false)
    c.bring_to.ensures.err ∙ c.push_reserved.ensures.items
    ∙ ap (λ l. l ++ c.args.endpoint ∷ []) c.reserve.ensures.items)
    c.pop.ensures.items c.unwrap.ensures in
    (c.into_name-2.ensures ∙ ap (λ e. e.name) out.0, out.1)
