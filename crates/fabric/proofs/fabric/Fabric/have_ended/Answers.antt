use Rattle.std.proofs.Common.{ℕ, ◌≡◌, ◌&&◌, Bool, false, suc, ◌∙◌, sym, ap, refl, add-one, arith}
use Rattle.std.proofs.Common.{length, List}
use Rattle.journal.specs.declared.effect.Step.{Step}
use Rattle.journal.specs.History.{has_ended}
use Rattle.fabric.specs.Machine.{have_ended}
use Rattle.fabric.proofs.Standings.Counting.{fails-on}
use Rattle.fabric.proofs.fabric.Fabric.have_ended.Goals as goal

pub returns-then-not-has_ended : goal.returns-then-not-has_ended
returns-then-not-has_ended c =
    let P : List Step = c.args.self.now.log.steps in
    let place : ℕ = c.loop-place.place in
    let one : has_ended P (suc place) ≡ false =
    ap (has_ended P) (sym (add-one place)) ∙ sym c.has_ended.ensures ∙ c.if-not-has_ended.true
    in
    let fails : have_ended P (suc place) ≡ false =
    ap (λ (b : Bool). b && has_ended P (suc place)) c.loop-place.invariant ∙ one
    in
    sym (fails-on (have_ended P) (λ n. has_ended P (suc n)) (λ n. refl) (suc place)
    (length c.args.self.now.shape.actors) fails
    (omega (arith, c.actor_count-place-end.ensures.count)))
