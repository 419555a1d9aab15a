use Rattle.std.proofs.Common.{ℕ, ◌≡◌, ◌+◌, List, ◌++◌, ◌∙◌, ap, sym, add-one, arith, Option}
use Rattle.std.proofs.Common.{option_to_list}
use Rattle.std.proofs.lemmas.Grind.{common_steps}
use Rattle.linx_base.specs.declared.frame.LinkDecl.{LinkDecl}
use Rattle.journal.specs.declared.effect.Effect.{Effect}
use Rattle.link_laws.specs.Laws.{down_if}
use Rattle.run_trunks.specs.States.{over, trunks_of}
use Rattle.trunk.specs.Events.{TrunkState}
use Rattle.trunk_moves.specs.Trunks.{side_on}
use Rattle.fabric.specs.Downs.{downs_on, session_at_if}
use Rattle.fabric.proofs.makings.downs_of.Goals as goal
use Rattle.fabric.proofs.makings.downs_of.Goals.{in-Some+in_ok-push, in_default}

-- the end over link number m, if one is up there
abbrev down_at : List LinkDecl → ℕ → List TrunkState → ℕ → List Effect
down_at links n ts m =
    down_if n m (session_at_if (side_on (over links) n (record { 0 = m })) (trunks_of ts m))

-- one more link
downs-more : (links : List LinkDecl) (n : ℕ) (ts : List TrunkState) (k : ℕ)
    (before now : List Effect) (down : Option Effect) → before ≡ downs_on links n ts k
    → option_to_list down ≡ down_at links n ts (k + 1) → now ≡ before ++ option_to_list down
    → now ≡ downs_on links n ts (k + 1)
downs-more links n ts k before now down so_far is more =
    more ∙ ap (λ (l : List Effect). l ++ option_to_list down) so_far
    ∙ ap (λ (l : List Effect). downs_on links n ts k ++ l)
    (is ∙ ap (down_at links n ts) (add-one k))
    ∙ ap (downs_on links n ts) (sym (add-one k))

pub loop-place-preserved : goal.loop-place-preserved
loop-place-preserved c =
    let more : c.match-down_over.downs.items
    ≡ c.loop-place.downs.items ++ option_to_list c.down_over.result =
    elim c.match-down_over.branch [
      | in-Some+in_ok-push w ↦ grind (arith, common_steps)
      | in_default w ↦ grind (arith, common_steps)
    ] in
    downs-more c.args.trunks.now.links c.args.node.0 c.args.trunks.now.is c.loop-place.place
    c.loop-place.downs.items c.match-down_over.downs.items c.down_over.result
    c.loop-place.invariant c.down_over.ensures more
