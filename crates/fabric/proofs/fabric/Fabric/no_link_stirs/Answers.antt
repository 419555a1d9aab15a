use Rattle.std.proofs.Common.{ℕ, ◌≡◌, ◌&&◌, not, Bool, false, suc, ◌∙◌, sym, ap, refl, add-one}
use Rattle.std.proofs.Common.{arith, length, List}
use Rattle.journal.specs.declared.effect.Step.{Step}
use Rattle.run_trunks.specs.States.{trunks_of}
use Rattle.trunk_moves.specs.Trunks.{RunTrunks}
use Rattle.fabric.specs.Links.{none_stirs, stirs}
use Rattle.fabric.proofs.Standings.Counting.{fails-on}
use Rattle.fabric.proofs.fabric.Fabric.no_link_stirs.Goals as goal

pub returns-then-stirs : goal.returns-then-stirs
returns-then-stirs c =
    let P : List Step = c.args.self.now.log.steps in
    let trunks : RunTrunks = trunks_of c.args.self.now.trunks in
    let place : ℕ = c.loop-place.place in
    let one : not (stirs P trunks (suc place)) ≡ false =
    ap not (ap (stirs P trunks) (sym (add-one place)) ∙ sym c.stirs.ensures ∙ c.if-stirs.true)
    in
    let fails : none_stirs P trunks (suc place) ≡ false =
    ap (λ (b : Bool). b && not (stirs P trunks (suc place))) c.loop-place.invariant ∙ one
    in
    sym (fails-on (none_stirs P trunks) (λ n. not (stirs P trunks (suc n)))
    (λ n. refl) (suc place) (length c.args.self.now.shape.links) fails
    (omega (arith, c.link_count-place-end.ensures.count)))
