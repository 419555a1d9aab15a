use Rattle.std.proofs.Common.{arith}
use Rattle.std.proofs.lemmas.List.{length-map}
use Rattle.script_words.proofs.Shapes.{plan_few}
use Rattle.script_words.proofs.declaration.plan.Goals as goal

pub returns-in_default-clause-gives : goal.returns-in_default-clause-gives
returns-in_default-clause-gives c =
    let few = c.in_default.len_below in
    rw c.bad_shape.ensures
    (plan_few c.args.statement.now _
    (omega (arith, few, length-map c.args.words.now (λ w. w.now))))
