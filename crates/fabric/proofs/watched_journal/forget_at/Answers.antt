use Rattle.std.proofs.Common.{ℕ, ◌++◌, sym, ◌∙◌, ap, add-one, set, get_or, List, map, take, drop}
use Rattle.std.proofs.Common.{Option}
use Rattle.linx_base.specs.declared.identity.Inc.{Inc}
use Rattle.fabric.specs.Idle.{unless_at}
use Rattle.fabric.proofs.Standings.Idling.{map-turned}
use Rattle.fabric.proofs.watched_journal.forget_at.Goals as goal

pub loop-noted-preserved : goal.loop-noted-preserved
loop-noted-preserved c =
    let xs : List (Option Inc) = c.args.idle.now in
    let k : ℕ = c.loop-noted.noted-index in
    let f : Option Inc → Option Inc = unless_at c.args.reached in
    ap (λ (z : Option Inc). set c.loop-noted.idle k z) c.forget_if_at.ensures
    ∙ ap (λ (ys : List (Option Inc)). set ys k (f (get_or ys k _))) c.loop-noted.invariant
    ∙ map-turned f xs k _ c.loop-noted-test.true
    ∙ ap (λ (n : ℕ). map f (take n xs) ++ drop n xs) (sym (add-one k))
