-- Where a match leaves its leader, and that isn't the slot whose deadline is another one, those above
-- have played.
use Rattle.std.proofs.Common.{◌≡◌, ◌≢◌, ◌⊎◌, inl, inr, ℕ, zero, suc, ◌+◌, ◌*◌, ◌/◌, ◌<◌, ◌≤◌, List}
use Rattle.std.proofs.Common.{[], ◌∷◌, length, set, refl, ap, sym, ◌∙◌, arith, Option}
use Rattle.std.proofs.Common.{slice_index_or}
use Rattle.std.proofs.lemmas.Bool.{cases_eq, cases_lt}
use Rattle.deadlines.specs.declared.deadline.Deadline.{Deadline}
use Rattle.deadlines.specs.Tournament.{leader_at, sooner, AreLed, IsPlayed, IsStale}
use Rattle.deadlines.proofs.Playing.{halves, here, leader_inner, leader_leaf, one_step, played_up}
use Rattle.deadlines.proofs.Playing.{stays}
use Rattle.deadlines.proofs.Playing.{AreLedBut, IsAtOrAbove, node_above}

-- what is read at a node leads there
pub shown : (tree : List ℕ) (i x : ℕ) → i < length tree → x ≡ slice_index_or tree i x
    → leader_at tree i ≡ x
shown tree i x inside is = leader_inner tree i inside ∙ default tree i inside ∙ sym is
  where
    default : (ps : List ℕ) (k : ℕ) → k < length ps → slice_index_or ps k 0 ≡ slice_index_or ps k x
    default [] k within = absurd (omega (arith, within))
    default (p ∷ ps) zero within = refl
    default (p ∷ ps) (suc k) within = default ps k (omega (arith, within))

-- a node stands no higher than those above it
no_higher : (k j : ℕ) → node_above k j ≤ j
no_higher zero j = omega arith
no_higher (suc k) j = let up = no_higher k (j / 2) in omega (arith, up)

lower : (k n j : ℕ) → k < n → node_above n j ≤ node_above k j / 2
lower k zero j less = absurd (omega (arith, less))
lower k (suc n) j less =
    let up : node_above (suc n) j ≡ node_above n j / 2 = halves n j in
    elim (cases_eq k n) [
      | inl same ↦
          let equal : node_above n j ≡ node_above k j = ap (λ m. node_above m j) (sym same) in
          omega (arith, up, equal)
      | inr differs ↦
          let rest = lower k n j (omega (arith, less, differs)) in omega (arith, up, rest)
    ]

-- whether a node is another one or stands above it: `most` bounds the other
above_or_not : (i most j : ℕ) → j ≤ most → 0 < i
    → IsAtOrAbove i j ⊎ (IsAtOrAbove i j → ⊥)
above_or_not i zero j few positive =
    inr (λ up. let high = no_higher up.steps j in omega (arith, few, positive, high, up.is))
above_or_not i (suc most) j few positive = elim (cases_eq i j) [
  | inl same ↦ inl (record { steps = 0; is = sym same })
  | inr differs ↦ elim (cases_eq j 0) [
    | inl none ↦
        inr (λ up. let high = no_higher up.steps j in omega (arith, none, positive, high, up.is))
    | inr some ↦ elim (above_or_not i most (j / 2) (omega arith) positive) [
      | inl up ↦ inl (record { steps = suc up.steps; is = up.is })
      | inr not ↦ inr (λ up. not (one_step i j up.steps up.is differs))
    ]
  ]
]

module _ (slots : List (Option Deadline)) (first : List ℕ) (s : ℕ) (stale : IsStale slots first s)
  where
    -- the slot leads at each node from its leaf on up to this one
    record LeadsUpTo (i : ℕ) : Type 0 where
      steps : ℕ
      is : node_above steps (length first + s) ≡ i
      all : (k : ℕ) → k ≤ steps → leader_at first (node_above k (length first + s)) ≡ s

    leads_up_one : (c : ℕ) (i : ℕ) → c / 2 ≡ i → leader_at first i ≡ s → LeadsUpTo c → LeadsUpTo i
    leads_up_one c i half led up =
        let here : node_above (suc up.steps) (length first + s) ≡ i =
        halves up.steps (length first + s) ∙ ap (λ n. n / 2) up.is ∙ half in
        record {
          steps = suc up.steps;
          is = here;
          all = λ k few. elim (cases_eq k (suc up.steps)) [
            | inl last ↦
                ap (λ m. leader_at first (node_above m (length first + s))) last
                ∙ ap (leader_at first) here ∙ led
            | inr before ↦ up.all k (omega (arith, few, before))
          ];
        }

    -- `more` bounds how far the node is from the last
    leads_up_to : (more i : ℕ) → 2 * length first ≤ i + more → 0 < i → i < 2 * length first
        → leader_at first i ≡ s → LeadsUpTo i
    leads_up_to zero i far positive below led = absurd (omega arith)
    leads_up_to (suc more) i far positive below led = elim (cases_lt i (length first)) [
      | inl inner ↦ elim (stale.below i positive inner led) [
        | inl left ↦
            leads_up_one (2 * i) i (omega arith) led
            (leads_up_to more (2 * i) (omega arith) (omega arith) (omega arith) left)
        | inr right ↦
            leads_up_one (2 * i + 1) i (omega arith) led
            (leads_up_to more (2 * i + 1) (omega arith) (omega arith) (omega arith) right)
      ]
      | inr leaf ↦
          let slot = leader_leaf first i leaf in
          let here : length first + s ≡ i = omega (arith, slot, led, leaf) in
          record {
            steps = 0;
            is = here;
            all = λ k few.
                let none : k ≡ 0 = omega (arith, few) in
                ap (λ m. leader_at first (node_above m (length first + s))) none
                ∙ ap (leader_at first) here ∙ led;
          }
    ]

    -- A MATCH AT A NODE above its leaf is played, and who leads there stays
    module _ (tree : List ℕ) (node : ℕ) (long : length tree ≡ length first)
        (above : IsAtOrAbove node (length first + s)) (positive : 0 < node)
        (inside : node < length tree)
        (same : (i : ℕ) → i < 2 * node → leader_at tree i ≡ leader_at first i)
        (other : leader_at tree node ≢ s) where
      -- the slot leads at no node that isn't below it
      nowhere : (i : ℕ) → 0 < i → i < 2 * node → leader_at first i ≢ s
      nowhere i some high led =
          let up : LeadsUpTo i =
          leads_up_to (2 * length first) i (omega arith) some
          (omega (arith, high, inside, long)) led in
          elim (cases_lt up.steps above.steps) [
            | inl further ↦
                let low = lower up.steps above.steps (length first + s) further in
                omega (arith, low, up.is, above.is, high)
            | inr within ↦
                other (same node (omega (arith, positive))
                ∙ ap (leader_at first) (sym above.is) ∙ up.all above.steps within)
          ]

      module _ (best : ℕ)
          (is : best ≡ sooner slots (leader_at tree (2 * node)) (leader_at tree (2 * node + 1)))
          (kept : best ≡ leader_at tree node) (led : AreLedBut slots tree node) where
        now : (i : ℕ) → i < 2 * node → leader_at (set tree node best) i ≡ leader_at first i
        now i high = elim (cases_eq i node) [
          | inl e ↦
              ap (leader_at (set tree node best)) e
              ∙ here slots tree node best is positive inside ∙ kept
              ∙ ap (leader_at tree) (sym e) ∙ same i high
          | inr differs ↦ stays slots tree node best is positive inside i differs ∙ same i high
        ]

        all_above : (i : ℕ) → 0 < i → IsAtOrAbove i (node / 2)
            → IsPlayed slots (set tree node best) i
        all_above i some up =
            let high : i ≤ node / 2 =
            let most = no_higher up.steps (node / 2) in omega (arith, most, up.is) in
            let left : 2 * i < 2 * node = omega (arith, high, some) in
            let right : 2 * i + 1 < 2 * node = omega (arith, high, some) in
            let itself : i < 2 * node = omega (arith, high, some) in
            now i itself
            ∙ stale.apart i some (omega (arith, high, inside, long, some))
            (nowhere i some itself) (nowhere (2 * i) (omega (arith, some)) left)
            (nowhere (2 * i + 1) (omega arith) right)
            ∙ ap (λ l. sooner slots l (leader_at first (2 * i + 1))) (sym (now (2 * i) left))
            ∙ ap (λ l. sooner slots (leader_at (set tree node best) (2 * i)) l)
            (sym (now (2 * i + 1) right))

        pub stopped : AreLed slots (set tree node best)
        stopped i some below = elim (above_or_not i (node / 2) (node / 2) (omega arith) some) [
          | inl up ↦ all_above i some up
          | inr not ↦
              played_up slots tree node best is positive inside led i some below not
        ]
