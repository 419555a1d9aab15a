-- A COUNT THAT IS WRITTEN BACK one higher is one more of its flow, and every other one is as it was.
use Rattle.std.proofs.Common.{◌≡◌, ℕ, suc, ◌+◌, Bool, true, false, cond, List, ◌∷◌, Option, Some, None}
use Rattle.std.proofs.Common.{refl, sym, ◌∙◌, ap, add-one, if◌then◌else◌}
use Rattle.std.specs.Map.{lookup}
use Rattle.std.specs.Option.{unwrap_or}
use Rattle.journal.specs.declared.effect.Effect.{Effect}
use Rattle.link_tables.specs.Arrivals.{arrived_in, count_in, counts_if, counts_past, with_arrival}
use Rattle.link_tables.specs.Sent.{same_flow}
use Rattle.link_tables.specs.declared.sent.Flow.{Flow}
use Rattle.link_tables.proofs.Flows.{flow-flipped, flow-is}

module _ (test : Flow → Flow → Bool) (agrees : (f g : Flow) → test f g ≡ same_flow f g) where
  -- what is found by the one test is found by the other
  pub counted : (counts : List (Flow × ℕ)) (f : Flow)
      → unwrap_or (lookup (test f) counts) 0 ≡ count_in counts f
  counted counts f = λ i. unwrap_or (lookup (λ g. agrees f g i) counts) 0

  pub counted-more : (old new : List (Flow × ℕ)) (came : Flow) (count w : ℕ)
      → count ≡ count_in old came → w ≡ count + 1
      → ((f : Flow) → lookup (test f) new ≡ cond (test came f) (Some w) (lookup (test f) old))
      → (f : Flow) → count_in new f ≡ with_arrival (count_in old) came f
  counted-more old new came count w is one updates f =
      sym (counted new f) ∙ ap (λ (o : Option ℕ). unwrap_or o 0) (updates f)
      ∙ ap (λ (b : Bool). unwrap_or (cond b (Some w) (lookup (test f) old)) 0)
      (agrees came f ∙ flow-flipped came f)
      ∙ go (same_flow f came) refl
    where
      go : (b : Bool) → same_flow f came ≡ b
          → unwrap_or (cond b (Some w) (lookup (test f) old)) 0
          ≡ (if b then suc (count_in old f) else count_in old f)
      go true same =
          one ∙ add-one count ∙ ap suc (is ∙ sym (ap (count_in old) (flow-is f came same)))
      go false same = counted old f

-- ONE EFFECT MORE: its signal, and then those of the rest
pub one_counted : (counts : Flow → ℕ) (e : Effect) (es : List Effect)
    → counts_past es (counts_if (arrived_in e) counts) ≡ counts_past (e ∷ es) counts
one_counted counts e es = refl
