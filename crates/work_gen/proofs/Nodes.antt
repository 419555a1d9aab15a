-- one more node
use Rattle.std.proofs.Common.{◌≡◌, ℕ, suc, zero, ◌+◌, ◌<◌, false, List, [], length}
use Rattle.std.proofs.Common.{refl, sym, ap, arith}
use Rattle.std.specs.Fmt.{digits}
use Rattle.std.proofs.lemmas.List.FromFn.{map-range_with_len_more, length-map-range_with_len}
use Rattle.script_lang.specs.Limits.{node_limit}
use Rattle.script_lang.specs.Parts.{parts_of, empty_script, with_node}
use Rattle.script_lang.specs.Fits.{is_among}
use Rattle.work_gen.specs.Generated.{node_name, built}

pub nothing_built : (n : ℕ) → empty_script ≡ built n 0 0 0
unfolding built
nothing_built n = refl

pub node_room : (n done : ℕ) → done < 4 → length (built n done 0 0).names.nodes < node_limit
unfolding built
node_room n done few = omega (arith, length-map-range_with_len node_name 1 done)

pub node_fresh : (n done : ℕ) → done < 4
    → is_among (built n done 0 0).names.nodes (node_name (done + 1)) ≡ false
unfolding built digits
node_fresh n zero few = refl
node_fresh n (suc zero) few = refl
node_fresh n (suc (suc zero)) few = refl
node_fresh n (suc (suc (suc zero))) few = refl
node_fresh n (suc (suc (suc (suc done)))) few = absurd (omega arith)

pub noded : (n done : ℕ)
    → with_node (built n done 0 0) (node_name (done + 1)) ≡ built n (done + 1) 0 0
unfolding built
noded n done =
    let e : 1 + done ≡ done + 1 = omega arith in
    ap (λ (nodes : List (List ℕ)). parts_of (record { nodes = nodes; links = [] }) [] [] [])
    (sym (map-range_with_len_more node_name 1 done (done + 1) e))
