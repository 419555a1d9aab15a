-- THE FLOWS OF SIGNALS: whatever one of them is, the flow of one of the signals is.
use Rattle.std.proofs.Common.{◌≡◌, ℕ, suc, ◌+◌, ◌-◌, Bool, true, false, ◌&&◌, ◌||◌, List, [], ◌∷◌, ◌++◌}
use Rattle.std.proofs.Common.{filter, fold, length, take, refl, sym, ◌∙◌, ap, arith, if◌then◌else◌}
use Rattle.std.specs.List.{list_any}
use Rattle.std.proofs.lemmas.Bool.{or_left, or_right}
use Rattle.std.proofs.lemmas.List.Folds.{list_any-append}
use Rattle.std.proofs.lemmas.List.Sums.{fold-append}
use Rattle.link_tables.specs.Sent.{flows_of, same_flow, with_flow}
use Rattle.link_tables.specs.declared.sent.Flow.{Flow}
use Rattle.link_tables.specs.declared.sent.SentOver.{SentOver}
use Rattle.link_tables.proofs.Flows.{flow-is}

-- ONE SIGNAL MORE: its flow is one of them, or is the next one
pub flow-known : (sent : List SentOver) (s : SentOver)
    → list_any (same_flow s.flow) (flows_of sent) ≡ true
    → flows_of (sent ++ s ∷ []) ≡ flows_of sent
flow-known sent s known =
    fold-append with_flow [] sent (s ∷ [])
    ∙ ap (λ (b : Bool). if b then flows_of sent else flows_of sent ++ s.flow ∷ []) known

pub flow-new : (sent : List SentOver) (s : SentOver)
    → list_any (same_flow s.flow) (flows_of sent) ≡ false
    → flows_of (sent ++ s ∷ []) ≡ flows_of sent ++ s.flow ∷ []
flow-new sent s is_new =
    fold-append with_flow [] sent (s ∷ [])
    ∙ ap (λ (b : Bool). if b then flows_of sent else flows_of sent ++ s.flow ∷ []) is_new

-- what was added last is taken out
pub last-taken : {X : Type 0} (xs : List X) (x : X)
    → take (length (xs ++ x ∷ []) - 1) (xs ++ x ∷ []) ≡ xs
last-taken {X = X} xs x =
    let one : length (xs ++ x ∷ []) - 1 ≡ length xs = omega (arith, more xs) in
    ap (λ (n : ℕ). take n (xs ++ x ∷ [])) one ∙ front xs
  where
    more : (ys : List X) → length (ys ++ x ∷ []) ≡ suc (length ys)
    more [] = refl
    more (y ∷ ys) = ap suc (more ys)

    front : (ys : List X) → take (length ys) (ys ++ x ∷ []) ≡ ys
    front [] = refl
    front (y ∷ ys) = ap (λ (zs : List X). y ∷ zs) (front ys)

-- A TEST OF FLOWS
module _ (q : Flow → Bool) where
  or-none : (b : Bool) → (b || false) ≡ b
  or-none true = refl
  or-none false = refl

  or-within : (b c : Bool) → (c ≡ true → b ≡ true) → b ≡ (b || c)
  or-within true c within = refl
  or-within false true within = within refl
  or-within false false within = refl

  or-thrice : (a b c : Bool) → ((a || b) || c) ≡ (a || (b || c))
  or-thrice true b c = refl
  or-thrice false b c = refl

  -- a flow that is one of these passes only where one of them does
  passes-among : (f : Flow) (flows : List Flow) → list_any (same_flow f) flows ≡ true
      → q f ≡ true → list_any q flows ≡ true
  passes-among f [] known is = known
  passes-among f (g ∷ flows) known is =
      go (same_flow f g) refl (λ later. passes-among f flows later is) known
    where
      go : (b : Bool) → same_flow f g ≡ b
          → (list_any (same_flow f) flows ≡ true → list_any q flows ≡ true)
          → (b || list_any (same_flow f) flows) ≡ true → (q g || list_any q flows) ≡ true
      go true same more later =
          or_left (q g) (list_any q flows) (ap q (sym (flow-is f g same)) ∙ is)
      go false same more later = or_right (q g) (list_any q flows) (more later)

  one-flow : (flows : List Flow) (s : SentOver)
      → list_any q (with_flow flows s) ≡ (list_any q flows || q s.flow)
  one-flow flows s = go (list_any (same_flow s.flow) flows) refl
    where
      go : (b : Bool) → list_any (same_flow s.flow) flows ≡ b
          → list_any q (if b then flows else flows ++ s.flow ∷ [])
          ≡ (list_any q flows || q s.flow)
      go true known =
          or-within (list_any q flows) (q s.flow) (passes-among s.flow flows known)
      go false fresh =
          list_any-append q flows (s.flow ∷ [])
          ∙ ap (λ (b : Bool). list_any q flows || b) (or-none (q s.flow))

  all-flows : (sent : List SentOver) (flows : List Flow)
      → list_any q (fold with_flow flows sent)
      ≡ (list_any q flows || list_any (λ (s : SentOver). q s.flow) sent)
  all-flows [] flows = sym (or-none (list_any q flows))
  all-flows (s ∷ sent) flows =
      all-flows sent (with_flow flows s)
      ∙ ap (λ (b : Bool). b || list_any (λ (t : SentOver). q t.flow) sent) (one-flow flows s)
      ∙ or-thrice (list_any q flows) (q s.flow) (list_any (λ (t : SentOver). q t.flow) sent)

  pub any-flow : (sent : List SentOver)
      → list_any q (flows_of sent) ≡ list_any (λ (s : SentOver). q s.flow) sent
  any-flow sent = all-flows sent []
