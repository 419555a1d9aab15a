use Rattle.std.proofs.Common.{◌∙◌, sym, ap, map}
use Rattle.node_kernel.specs.Kept.{change_items, name_entry, without_last}
use Rattle.node_kernel.proofs.Bringing.{none_taken_back, taken_back}
use Rattle.node_kernel.proofs.Keeping.{same_changed}
use Rattle.node_kernel.proofs.delivery.take_back.Goals as goal

pub returns-in-Some-clause-same : goal.returns-in-Some-clause-same
returns-in-Some-clause-same c =
    ap (map name_entry) c.take_last.ensures
    ∙ same_changed c.in-Some.to without_last c.args.endpoints.now

pub returns-in-Some-clause-back : goal.returns-in-Some-clause-back
returns-in-Some-clause-back c = λ pos before is.
    c.take_last.ensures ∙ ap (map (change_items c.in-Some.to without_last)) is
    ∙ taken_back pos c.args.effect.now c.in-Some.to (sym c.in-Some.ensures) before

pub returns-in_default-clause-back : goal.returns-in_default-clause-back
returns-in_default-clause-back c = λ pos before is.
    is ∙ none_taken_back pos c.args.effect.now (sym c.in_default.ensures) before
