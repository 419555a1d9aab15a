-- in no direction a verdict that loses stands behind another one
use Rattle.std.proofs.Common.{◌≡◌, ℕ, suc, zero, ◌+◌, ◌-◌, ◌*◌, ◌%◌, ◌<◌, Bool, true, false, cond}
use Rattle.std.proofs.Common.{map, ap, sym, ◌∙◌, arith, ⊎_elim, ◌==◌, slice_get, eqb-true}
use Rattle.std.proofs.lemmas.Bool.{cases_Bool}
use Rattle.std.proofs.lemmas.Option.{get_or_from_slice_get, slice_get_within}
use Rattle.linx_base.specs.declared.identity.Side.{Side}
use Rattle.linx_base.specs.declared.identity.Side.TheVariants.{First, Second}
use Rattle.linx_base.specs.declared.frame.Verdict.TheVariants.{Deliver, Lose, Repeat, Swap}
use Rattle.script_lang.specs.Parts.{plan_in}
use Rattle.work_gen.specs.Generated.{up_to, verdict_by, shift, nth_verdict, plan_of, plans_of}
use Rattle.work_gen.specs.Generated.{built, generated}
use Rattle.work_gen.specs.Losses.{LosesApart, EachLosesApart}
use Rattle.work_gen.proofs.Links.{length-plan_of, nth_of_plan}

-- behind a verdict that loses stands one that repeats
module _ (n k : ℕ) (from : Side) (j : ℕ) where
  lost_at : (digit : ℕ) → verdict_by digit ≡ Lose → digit ≡ 0
  lost_at digit lost = ⊎_elim
      (λ (yes : (digit == 0) ≡ true). eqb-true digit 0 yes)
      (λ (no : (digit == 0) ≡ false). absurd (other (digit == 3) (digit == 6) (rw no at lost)))
      (cases_Bool (digit == 0))
    where
      other : (a b : Bool) → cond a Repeat (cond b (Swap 2) Deliver) ≡ Lose → ⊥
      other true b lost = cc
      other false true lost = cc
      other false false lost = cc

  next_repeated : nth_verdict n k from j ≡ Lose → nth_verdict n k from (j + 1) ≡ Repeat
  next_repeated lost =
      let gone = lost_at ((n + 3 * j + k + shift from) % 10) lost in
      let next : (n + 3 * (j + 1) + k + shift from) % 10 ≡ 3 = omega (arith, gone) in
      ap verdict_by next

plan_apart : (n k : ℕ) (from : Side) → LosesApart (plan_of n k from)
plan_apart n k from i lost next =
    let here : i + 1 < 200 =
    omega (arith, length-plan_of n k from, slice_get_within (plan_of n k from) (i + 1) Lose next)
    in
    let gone : nth_verdict n k from (i + 1) ≡ Lose =
    sym (nth_of_plan n k from i Lose (omega arith))
    ∙ get_or_from_slice_get (plan_of n k from) i Lose Lose lost
    in
    let again : nth_verdict n k from (i + 1 + 1) ≡ Lose =
    sym (nth_of_plan n k from (i + 1) Lose here)
    ∙ get_or_from_slice_get (plan_of n k from) (i + 1) Lose Lose next
    in
    let repeated : nth_verdict n k from (i + 1 + 1) ≡ Repeat =
    next_repeated n k from (i + 1) gone
    in
    let both : Repeat ≡ Lose = sym repeated ∙ again in
    cc

-- a link that isn't there has no plan
at_place : (n place : ℕ) (from : Side)
    → LosesApart (plan_in (slice_get (map (plans_of n) (up_to 3)) place) from)
at_place n zero First = plan_apart n 1 First
at_place n zero Second = plan_apart n 1 Second
at_place n (suc zero) First = plan_apart n 2 First
at_place n (suc zero) Second = plan_apart n 2 Second
at_place n (suc (suc zero)) First = plan_apart n 3 First
at_place n (suc (suc zero)) Second = plan_apart n 3 Second
at_place n (suc (suc (suc place))) from = λ i lost next. cc

pub generated_apart : (n : ℕ) → EachLosesApart (generated n)
unfolding built
generated_apart n link from = at_place n (link.0 - 1) from
