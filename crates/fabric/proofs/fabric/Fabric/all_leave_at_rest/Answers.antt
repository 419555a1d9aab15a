use Rattle.std.proofs.Common.{ℕ, ◌≡◌, ◌&&◌, Bool, false, suc, ◌∙◌, sym, ap, refl, add-one, arith}
use Rattle.std.proofs.Common.{length, List, ◌==◌, ◌||◌}
use Rattle.journal.specs.declared.effect.Step.{Step}
use Rattle.journal.specs.Rest.{leaves_at_rest}
use Rattle.fabric.specs.Machine.{all_leave_at_rest}
use Rattle.fabric.proofs.Standings.Counting.{fails-on}
use Rattle.fabric.proofs.fabric.Fabric.all_leave_at_rest.Goals as goal

pub returns-then-not-leaves_at_rest : goal.returns-then-not-leaves_at_rest
returns-then-not-leaves_at_rest c =
    let P : List Step = c.args.self.now.log.steps in
    let k : ℕ = c.args.actor in
    let place : ℕ = c.loop-place.place in
    let one : ((k == suc place) || leaves_at_rest P k (suc place)) ≡ false =
    ap (λ (n : ℕ). (k == n) || leaves_at_rest P k n) (sym (add-one place))
    ∙ sym c.leaves_at_rest.ensures ∙ c.if-not-leaves_at_rest.true
    in
    let fails : all_leave_at_rest P k (suc place) ≡ false =
    ap (λ (b : Bool). b && ((k == suc place) || leaves_at_rest P k (suc place)))
    c.loop-place.invariant ∙ one
    in
    sym (fails-on (all_leave_at_rest P k) (λ n. (k == suc n) || leaves_at_rest P k (suc n))
    (λ n. refl) (suc place) (length c.args.self.now.shape.actors) fails
    (omega (arith, c.actor_count-place-end.ensures.count)))
