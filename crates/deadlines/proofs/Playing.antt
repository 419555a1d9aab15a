-- The matches of a tournament.
use Rattle.std.proofs.Common.{◌≡◌, ◌≢◌, ◌⊎◌, inl, inr, ℕ, zero, suc, ◌+◌, ◌-◌, ◌*◌, ◌/◌, ◌<◌, ◌≤◌}
use Rattle.std.proofs.Common.{true, false, true≢false, List, length, set, length-set, refl, ap, sym}
use Rattle.std.proofs.Common.{subst, ◌∙◌, arith, Option, Some, None, nat_lt}
use Rattle.std.proofs.Common.{get_or-set_same, get_or-set_other, slice_index_or}
use Rattle.std.proofs.lemmas.Bool.{cases_Bool, cases_eq, cases_lt}
use Rattle.std.proofs.lemmas.Bool.Decides.{nat_tests}
use Rattle.deadlines.specs.declared.deadline.Deadline.{Deadline}
use Rattle.deadlines.specs.Slots.{deadline_at}
use Rattle.deadlines.specs.Tournament.{comes_first, leader_at, sooner, AreLed, IsPlayed}

-- WHICH DEADLINE COMES FIRST
pub first_itself : (a : Option Deadline) → comes_first a a ≡ true
first_itself None = refl
first_itself (Some a) = grind (arith, nat_tests)

pub first_chain : (a b c : Option Deadline) → comes_first a b ≡ true → comes_first b c ≡ true
    → comes_first a c ≡ true
first_chain a b None one two = refl
first_chain a None (Some c) one two = absurd (true≢false (sym two))
first_chain None (Some b) (Some c) one two = absurd (true≢false (sym one))
first_chain (Some a) (Some b) (Some c) one two = grind (arith, nat_tests)

pub first_other : (a b : Option Deadline) → comes_first a b ≡ false → comes_first b a ≡ true
first_other a None not = absurd (true≢false not)
first_other None (Some b) not = refl
first_other (Some a) (Some b) not = grind (arith, nat_tests)

module _ (slots : List (Option Deadline)) where
  -- the sooner one comes before both
  pub sooner_left : (a b : ℕ)
      → comes_first (deadline_at slots (sooner slots a b)) (deadline_at slots a) ≡ true
  sooner_left a b = elim (cases_Bool (comes_first (deadline_at slots a) (deadline_at slots b))) [
    | inl is ↦ rw is (first_itself (deadline_at slots a))
    | inr not ↦ rw not (first_other (deadline_at slots a) (deadline_at slots b) not)
  ]

  pub sooner_right : (a b : ℕ)
      → comes_first (deadline_at slots (sooner slots a b)) (deadline_at slots b) ≡ true
  sooner_right a b = elim (cases_Bool (comes_first (deadline_at slots a) (deadline_at slots b))) [
    | inl is ↦ rw is is
    | inr not ↦ rw not (first_itself (deadline_at slots b))
  ]

  -- and is one of them
  pub sooner_is : (a b : ℕ) → (sooner slots a b ≡ a) ⊎ (sooner slots a b ≡ b)
  sooner_is a b = elim (cases_Bool (comes_first (deadline_at slots a) (deadline_at slots b))) [
    | inl is ↦ rw is (inl refl)
    | inr not ↦ rw not (inr refl)
  ]

-- NODES
-- the node so many steps above another
abbrev pub node_above : ℕ → ℕ → ℕ
node_above zero i = i
node_above (suc steps) i = node_above steps (i / 2)

-- a node is another one, or stands above it
pub record IsAtOrAbove (i other : ℕ) : Type 0 where
  pub steps : ℕ
  pub is : node_above steps other ≡ i

-- each leader is the earlier of the two below it, but perhaps this one and those above it
abbrev pub AreLedBut : List (Option Deadline) → List ℕ → ℕ → Type 0
AreLedBut slots tree at = (i : ℕ) → 0 < i → i < length tree → (IsAtOrAbove i at → ⊥)
    → IsPlayed slots tree i

pub leader_leaf : (tree : List ℕ) (i : ℕ) → length tree ≤ i → leader_at tree i ≡ i - length tree
leader_leaf tree i leaf =
    let behind : nat_lt i (length tree) ≡ false = grind (arith, nat_tests) in rw behind refl

pub leader_inner : (tree : List ℕ) (i : ℕ) → i < length tree
    → leader_at tree i ≡ slice_index_or tree i 0
leader_inner tree i inner =
    let inside : nat_lt i (length tree) ≡ true = grind (arith, nat_tests) in rw inside refl

pub halves : (k j : ℕ) → node_above k (j / 2) ≡ node_above k j / 2
halves zero j = refl
halves (suc k) j = halves k (j / 2)

-- above a node stands what is above the one below it
pub above_both : (c j : ℕ) → IsAtOrAbove c j → IsAtOrAbove (c / 2) (j / 2)
above_both c j is = record {
  steps = is.steps;
  is = halves is.steps j ∙ ap (λ n. n / 2) is.is;
}

pub above_one : (c j : ℕ) → IsAtOrAbove c j → IsAtOrAbove (c / 2) j
above_one c j is = record {
  steps = suc is.steps;
  is = halves is.steps j ∙ ap (λ n. n / 2) is.is;
}

pub one_step : (i j k : ℕ) → node_above k j ≡ i → i ≢ j → IsAtOrAbove i (j / 2)
one_step i j zero is differs = absurd (differs (sym is))
one_step i j (suc k) is differs = record { steps = k; is = is }

-- A MATCH IS PLAYED
module _ (slots : List (Option Deadline)) (tree : List ℕ) (node best : ℕ)
    (is : best ≡ sooner slots (leader_at tree (2 * node)) (leader_at tree (2 * node + 1)))
    (above : 0 < node) (inside : node < length tree) where
  pub stays : (i : ℕ) → i ≢ node → leader_at (set tree node best) i ≡ leader_at tree i
  stays i differs = elim (cases_lt i (length tree)) [
    | inl inner ↦
        leader_inner (set tree node best) i
        (subst (λ n. i < n) (sym (length-set tree node best)) inner)
        ∙ get_or-set_other tree node i best 0 differs ∙ sym (leader_inner tree i inner)
    | inr leaf ↦
        leader_leaf (set tree node best) i
        (subst (λ n. n ≤ i) (sym (length-set tree node best)) leaf)
        ∙ ap (λ n. i - n) (length-set tree node best) ∙ sym (leader_leaf tree i leaf)
  ]

  pub here : leader_at (set tree node best) node ≡ best
  here =
      leader_inner (set tree node best) node
      (subst (λ n. node < n) (sym (length-set tree node best)) inside)
      ∙ get_or-set_same tree node best 0 inside

  same_below : (i : ℕ) → 2 * i ≢ node → 2 * i + 1 ≢ node
      → sooner slots (leader_at tree (2 * i)) (leader_at tree (2 * i + 1))
      ≡ sooner slots (leader_at (set tree node best) (2 * i))
      (leader_at (set tree node best) (2 * i + 1))
  same_below i left right =
      ap (λ l. sooner slots l (leader_at tree (2 * i + 1))) (sym (stays (2 * i) left))
      ∙ ap (λ l. sooner slots (leader_at (set tree node best) (2 * i)) l)
      (sym (stays (2 * i + 1) right))

  pub played_here : IsPlayed slots (set tree node best) node
  played_here = here ∙ is ∙ same_below node (omega arith) (omega arith)

  pub played_other : (i : ℕ) → i ≢ node → 2 * i ≢ node → 2 * i + 1 ≢ node
      → IsPlayed slots tree i → IsPlayed slots (set tree node best) i
  played_other i differs left right was = stays i differs ∙ was ∙ same_below i left right

  -- on the way up
  pub played_up : AreLedBut slots tree node → AreLedBut slots (set tree node best) (node / 2)
  played_up led i positive below off = elim (cases_eq i node) [
    | inl e ↦ subst (IsPlayed slots (set tree node best)) (sym e) played_here
    | inr differs ↦
        played_other i differs
        (λ left. off (record { steps = 0; is = omega (arith, left) }))
        (λ right. off (record { steps = 0; is = omega (arith, right) }))
        (led i positive (subst (λ n. i < n) (length-set tree node best) below)
        (λ up. off (one_step i node up.steps up.is differs)))
  ]

  -- and from the last one down
  pub played_down : ((i : ℕ) → node < i → i < length tree → IsPlayed slots tree i)
      → (i : ℕ) → node ≤ i → i < length (set tree node best)
      → IsPlayed slots (set tree node best) i
  played_down led i from below = elim (cases_eq i node) [
    | inl e ↦ subst (IsPlayed slots (set tree node best)) (sym e) played_here
    | inr differs ↦
        played_other i differs (omega arith) (omega arith)
        (led i (omega arith) (subst (λ n. i < n) (length-set tree node best) below))
  ]

-- all have played once the way up is at its end
pub all_played : (slots : List (Option Deadline)) (tree : List ℕ) (at : ℕ) → at ≡ 0
    → AreLedBut slots tree at → AreLed slots tree
all_played slots tree at done led i positive below =
    led i positive below (λ up. absurd (omega (arith, positive, none up.steps at done ∙ up.is)))
  where
    none : (k j : ℕ) → j ≡ 0 → 0 ≡ node_above k j
    none zero j is = sym is
    none (suc k) j is = none k (j / 2) (omega (arith, is))
