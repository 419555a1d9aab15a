-- Who is among those that are ready.
use Rattle.std.proofs.Common.{◌≡◌, ℕ, zero, suc, ◌<◌, ◌≤◌, ◌⊎◌, Bool, true, false, List, [], ◌∷◌}
use Rattle.std.proofs.Common.{◌++◌, length, refl, sym, ◌∙◌, subst, inl, inr, arith, ◌==◌, ◌||◌}
use Rattle.std.proofs.Common.{if◌then◌else◌, eq-eqb, eqb-true, true≢false}
use Rattle.std.proofs.lemmas.Bool.{cases_order}
use Rattle.script_lang.specs.Parts.{ScriptParts}
use Rattle.fabric.specs.Run.{Layout}
use Rattle.stage.specs.Ready.{IsSomeReady, is_ready}
use Rattle.stage.specs.Turns.{makers}
use Rattle.order_rules.specs.Orders.{named}
use Rattle.order_rules.specs.Rules.{is_among}
use Rattle.order_rules.specs.declared.rule.Rule.{Rule}
use Rattle.order_rules.proofs.Among.{named-among}
use Rattle.orders.specs.Makers.{IsReadyMaker, ready, ready_among}

-- ---- one more at the end

after : (b c d : Bool) → (c ≡ true → d ≡ true) → (b || c) ≡ true → (b || d) ≡ true
after true c d on is = refl
after false c d on is = on is

among-last : (some : List ℕ) (n : ℕ) → is_among n (some ++ n ∷ []) ≡ true
among-last [] n = rw (eq-eqb n n refl) refl
among-last (k ∷ rest) n = later (k == n) (is_among n (rest ++ n ∷ [])) (among-last rest n)
  where
    later : (b c : Bool) → c ≡ true → (b || c) ≡ true
    later true c is = refl
    later false c is = is

among-more : (some : List ℕ) (n m : ℕ) → is_among m some ≡ true
    → is_among m (some ++ n ∷ []) ≡ true
among-more [] n m is = absurd (true≢false (sym is))
among-more (k ∷ rest) n m is =
    after (k == m) (is_among m rest) (is_among m (rest ++ n ∷ [])) (among-more rest n m) is

among-split : (some : List ℕ) (n m : ℕ) → is_among m (some ++ n ∷ []) ≡ true
    → (is_among m some ≡ true) ⊎ (n ≡ m)
among-split [] n m is = inr (eqb-true n m (alone (n == m) is))
  where
    alone : (b : Bool) → (b || false) ≡ true → b ≡ true
    alone true is = refl
    alone false is = is
among-split (k ∷ rest) n m is = go (k == m) (among-split rest n m) is
  where
    go : (b : Bool) → (is_among m (rest ++ n ∷ []) ≡ true → (is_among m rest ≡ true) ⊎ (n ≡ m))
        → (b || is_among m (rest ++ n ∷ [])) ≡ true → ((b || is_among m rest) ≡ true) ⊎ (n ≡ m)
    go true on is = inl refl
    go false on is = on is

long-last : (some : List ℕ) (n : ℕ) → 0 < length (some ++ n ∷ [])
long-last [] n = omega arith
long-last (k ∷ rest) n = omega arith

-- ---- of the first so many

-- one of the first so many makers that is ready
record IsReadyAmong (script : ScriptParts) (f : Layout) (n m : ℕ) : Type 0 where
  pub above : 0 < m
  pub within : m ≤ n
  pub is : is_ready script f m ≡ true

module _ (script : ScriptParts) (f : Layout) where
  wider : (n m : ℕ) → IsReadyAmong script f n m → IsReadyAmong script f (suc n) m
  wider n m it =
      let within : m ≤ n = it.within in
      record { above = it.above; within = omega (arith, within); is = it.is }

  -- each that is ready is there
  there-if : (b : Bool) (n m : ℕ) → is_ready script f (suc n) ≡ b → IsReadyAmong script f (suc n) m
      → (IsReadyAmong script f n m → is_among m (ready_among script f n) ≡ true)
      → is_among m (if b
      then ready_among script f n ++ suc n ∷ []
      else ready_among script f n) ≡ true
  there-if true n m last it before =
      let within : m ≤ suc n = it.within in
      elim (cases_order m (suc n)) [
        | inl same ↦
            subst (λ (x : ℕ). is_among x (ready_among script f n ++ suc n ∷ []) ≡ true) (sym same)
            (among-last (ready_among script f n) (suc n))
        | inr (inl less) ↦
            among-more (ready_among script f n) (suc n) m
            (before (record { above = it.above; within = omega (arith, less); is = it.is }))
        | inr (inr over) ↦ absurd (omega (arith, over, within))
      ]
  there-if false n m last it before =
      let within : m ≤ suc n = it.within in
      elim (cases_order m (suc n)) [
        | inl same ↦
            absurd (true≢false (sym it.is
            ∙ subst (λ (x : ℕ). is_ready script f x ≡ false) (sym same) last))
        | inr (inl less) ↦
            before (record { above = it.above; within = omega (arith, less); is = it.is })
        | inr (inr over) ↦ absurd (omega (arith, over, within))
      ]

  there : (n m : ℕ) → IsReadyAmong script f n m → is_among m (ready_among script f n) ≡ true
  there zero m it =
      let above : 0 < m = it.above in
      let within : m ≤ 0 = it.within in
      absurd (omega (arith, above, within))
  there (suc n) m it = there-if (is_ready script f (suc n)) n m refl it (there n m)

  -- and who is there is ready
  back-if : (b : Bool) (n m : ℕ) → is_ready script f (suc n) ≡ b
      → (is_among m (ready_among script f n) ≡ true → IsReadyAmong script f n m)
      → is_among m (if b
      then ready_among script f n ++ suc n ∷ []
      else ready_among script f n) ≡ true
      → IsReadyAmong script f (suc n) m
  back-if true n m last before is =
      elim (among-split (ready_among script f n) (suc n) m is) [
        | inl among ↦ wider n m (before among)
        | inr same ↦
            subst (IsReadyAmong script f (suc n)) same
            (record { above = omega arith; within = omega arith; is = last })
      ]
  back-if false n m last before is = wider n m (before is)

  back : (n m : ℕ) → is_among m (ready_among script f n) ≡ true → IsReadyAmong script f n m
  back zero m is = absurd (true≢false (sym is))
  back (suc n) m is = back-if (is_ready script f (suc n)) n m refl (back n m) is

  -- WHO IS READY is among those that are
  pub ready-there : (m : ℕ) → IsReadyMaker script f m → is_among m (ready script f) ≡ true
  ready-there m it =
      there (makers script) m (record { above = it.above; within = it.within; is = it.is })

  -- AND THEY ARE READY
  pub there-ready : (m : ℕ) → is_among m (ready script f) ≡ true → IsReadyMaker script f m
  there-ready m is =
      let it : IsReadyAmong script f (makers script) m = back (makers script) m is in
      record { above = it.above; within = it.within; is = it.is }

-- where one is among them, there are some
pub among-some : (some : List ℕ) (m : ℕ) → is_among m some ≡ true → 0 < length some
among-some [] m is = absurd (true≢false (sym is))
among-some (k ∷ rest) m is = omega arith

pub ready-some : (script : ScriptParts) (f : Layout) → IsSomeReady script f
    → 0 < length (ready script f)
ready-some script f some =
    among-some (ready script f) some.maker
    (ready-there script f some.maker
    (record { above = some.above; within = some.within; is = some.ready }))

-- WHOM AN ORDER NAMES is ready, where one is
pub named-ready : (script : ScriptParts) (f : Layout) → IsSomeReady script f → (left : List ℕ)
    (rule : Rule) → IsReadyMaker script f (named left rule (ready script f)).maker
named-ready script f some left rule =
    there-ready script f (named left rule (ready script f)).maker
    (named-among left rule (ready script f) (ready-some script f some))
