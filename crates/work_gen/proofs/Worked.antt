-- what the generated scripts come to, computed
use Rattle.std.proofs.Common.{◌≡◌, ◌+◌, ◌*◌, ◌%◌, [], ◌∷◌, map, refl, codes, sum_by}
use Rattle.std.specs.List.{range_with_len}
use Rattle.std.specs.Fmt.{digits}
use Rattle.linx_base.specs.declared.identity.Side.TheVariants.{First, Second}
use Rattle.linx_base.specs.declared.frame.Verdict.TheVariants.{Deliver, Lose, Repeat, Swap}
use Rattle.work_gen.specs.Generated.{node_name, link_name, client_name, nth_verdict}

-- the names of the second node, the third link and the last client
second_node : node_name 2 ≡ codes "n2"
unfolding digits
second_node = refl

third_link : link_name 3 ≡ codes "l3"
unfolding digits
third_link = refl

last_client : client_name 24 ≡ codes "c24"
unfolding digits
last_client = refl

-- the first verdicts of the first link, for number 7, in both directions
first_verdicts : map (nth_verdict 7 1 First) (range_with_len 1 7)
    ≡ Deliver ∷ Deliver ∷ Deliver ∷ Lose ∷ Repeat ∷ Swap 2 ∷ Deliver ∷ []
first_verdicts = refl

first_verdicts_back : map (nth_verdict 7 1 Second) (range_with_len 1 7)
    ≡ Deliver ∷ Deliver ∷ Deliver ∷ Deliver ∷ Deliver ∷ Deliver ∷ Lose ∷ []
first_verdicts_back = refl

-- the data bytes of a hundred requests of each client of number 7
all_bytes : sum_by (λ i. 100 * ((97 * 7 + 131 * i) % 4001)) (range_with_len 1 24) ≡ 5559600
all_bytes = refl
