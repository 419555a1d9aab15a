use Rattle.std.proofs.Common.{ℕ, ◌≡◌, ◌++◌, sym, ◌∙◌, ap, add-one, set, get_or, List, map, take}
use Rattle.std.proofs.Common.{drop}
use Rattle.fabric.specs.Standings.{past_effects}
use Rattle.fabric.specs.declared.standing.Standing.{Standing}
use Rattle.fabric.proofs.Standings.Counting.{map-turn}
use Rattle.fabric.proofs.standing.lose_all.Goals as goal

pub loop-standing-preserved : goal.loop-standing-preserved
loop-standing-preserved c =
    let xs : List Standing = c.args.standings.now in
    let k : ℕ = c.loop-standing.standing-index in
    let f : Standing → Standing = past_effects c.args.step c.args.effects.now in
    let item : Standing = c.standing-item.result in
    let before : c.loop-standing.standings ≡ map f
    (take k xs) ++ drop k xs = c.loop-standing.invariant in
    ap (λ (z : Standing). set c.loop-standing.standings k z) (c.lose.ensures
    ∙ ap f (sym c.standing-item.is))
    ∙ ap (λ (ys : List Standing). set ys k (f item)) before
    ∙ map-turn f xs k item c.loop-standing-test.true (c.standing-item.is
    ∙ ap (λ (ys : List Standing). get_or ys k item) before)
    ∙ ap (λ (n : ℕ). map f (take n xs) ++ drop n xs) (sym (add-one k))
