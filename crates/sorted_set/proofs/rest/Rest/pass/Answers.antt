use Rattle.std.proofs.Common.{◌≡◌, ◌<◌, ◌∙◌, ◌++◌, ap, drop, length, arith}
use Rattle.std.proofs.lemmas.Bool.Decides.{nat_tests}
use Rattle.std.proofs.lemmas.List.{take_rest}
use Rattle.sorted_set.specs.Chunks.{joined}
use Rattle.sorted_set.proofs.Walking.{none_left, one_left}
use Rattle.sorted_set.proofs.rest.Rest.pass.Goals as goal

pub of-requires : goal.of-requires
of-requires g c = c.self.invariant.filled

pub returns-then-is_empty : goal.returns-then-is_empty
returns-then-is_empty g c =
    let none : length c.self.inside.here.now ≡ 0 = grind (arith, nat_tests) in
    rw (← c.self.view_is)
    (none_left c.self.inside.here.now c.self.inside.later.now c.self.invariant none)

pub returns : goal.returns
returns g c =
    let here = c.self.inside.here.now in
    let later = c.self.inside.later.now in
    let some : 0 < length here = grind (arith, nat_tests) in
    c.self-2.view_is ∙ c.of.ensures ∙ ap (λ l. l ++ joined later) (take_rest here 1)
    ∙ one_left here later some ∙ ap (drop 1) c.self.view_is
