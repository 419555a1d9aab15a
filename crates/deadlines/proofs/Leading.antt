-- What the tournament says of the slots.
use Rattle.std.proofs.Common.{◌≡◌, ◌≢◌, inl, inr, ℕ, zero, suc, ◌+◌, ◌*◌, ◌/◌, ◌%◌, ◌<◌, ◌≤◌, true}
use Rattle.std.proofs.Common.{true≢false, List, length, refl, ap, sym, subst, ◌∙◌, arith, Option}
use Rattle.std.proofs.Common.{Some, None, if◌then◌else◌, get_or-set_other, slice_set}
use Rattle.std.proofs.lemmas.Bool.{cases_eq, cases_lt}
use Rattle.std.proofs.lemmas.Bool.Decides.{nat_tests}
use Rattle.deadlines.specs.declared.deadline.Deadline.{Deadline}
use Rattle.deadlines.specs.Slots.{deadline_at, IsEarliest, IsNoLater}
use Rattle.deadlines.specs.Tournament.{comes_first, leader_at, sooner, AreLed, IsStale}
use Rattle.deadlines.specs.Tournament.{IsTournament}
use Rattle.deadlines.proofs.Playing.{AreLedBut, IsAtOrAbove}
use Rattle.deadlines.proofs.Playing.{above_both, above_one, first_chain, first_itself, leader_leaf}
use Rattle.deadlines.proofs.Playing.{sooner_is, sooner_left, sooner_right}

-- a slot leads at its leaf alone and above it: `more` bounds how far the node is from the last
leads_above : (slots : List (Option Deadline)) (tree : List ℕ) (s : ℕ) → IsStale slots tree s
    → (more i : ℕ) → 2 * length tree ≤ i + more → 0 < i → i < 2 * length tree
    → leader_at tree i ≡ s → IsAtOrAbove i (length tree + s)
leads_above slots tree s stale zero i far positive below is = absurd (omega arith)
leads_above slots tree s stale (suc more) i far positive below is =
    elim (cases_lt i (length tree)) [
      | inl inner ↦ elim (stale.below i positive inner is) [
        | inl left ↦
            let half : 2 * i / 2 ≡ i = omega arith in
            subst (λ n. IsAtOrAbove n (length tree + s)) half
            (above_one (2 * i) (length tree + s)
            (leads_above slots tree s stale more (2 * i) (omega arith) (omega arith) (omega arith)
            left))
        | inr right ↦
            let half : (2 * i + 1) / 2 ≡ i = omega arith in
            subst (λ n. IsAtOrAbove n (length tree + s)) half
            (above_one (2 * i + 1) (length tree + s)
            (leads_above slots tree s stale more (2 * i + 1) (omega arith) (omega arith)
            (omega arith) right))
      ]
      | inr leaf ↦
          let slot = leader_leaf tree i leaf in
          record { steps = 0; is = omega (arith, slot, is, leaf) }
    ]

-- so only those above its leaf are to play
pub to_play : (slots : List (Option Deadline)) (tree : List ℕ) (s : ℕ) → IsStale slots tree s
    → AreLedBut slots tree ((length tree + s) / 2)
to_play slots tree s stale i positive below off =
    stale.apart i positive below
    (λ led. elim (stale.below i positive below led) [ inl left ↦ by_left left | inr right ↦ by_right right ])
    by_left by_right
  where
    by_left : leader_at tree (2 * i) ≡ s → ⊥
    by_left left =
        let half : 2 * i / 2 ≡ i = omega arith in
        off (subst (λ n. IsAtOrAbove n ((length tree + s) / 2)) half
        (above_both (2 * i) (length tree + s)
        (leads_above slots tree s stale (2 * length tree) (2 * i) (omega arith) (omega arith)
        (omega arith) left)))

    by_right : leader_at tree (2 * i + 1) ≡ s → ⊥
    by_right right =
        let half : (2 * i + 1) / 2 ≡ i = omega arith in
        off (subst (λ n. IsAtOrAbove n ((length tree + s) / 2)) half
        (above_both (2 * i + 1) (length tree + s)
        (leads_above slots tree s stale (2 * length tree) (2 * i + 1) (omega arith) (omega arith)
        (omega arith) right)))

module _ (slots : List (Option Deadline)) (tree : List ℕ) (led : AreLed slots tree) where
  -- the first leader comes before all: `most` bounds the node
  pub leads_first : (most i : ℕ) → i ≤ most → 0 < i → i < 2 * length tree
      → comes_first (deadline_at slots (leader_at tree 1)) (deadline_at slots (leader_at tree i))
      ≡ true
  leads_first zero i low positive below = absurd (omega arith)
  leads_first (suc most) i low positive below = elim (cases_eq i 1) [
    | inl e ↦
        subst (λ n. comes_first (deadline_at slots (leader_at tree 1))
        (deadline_at slots (leader_at tree n)) ≡ true) (sym e)
        (first_itself (deadline_at slots (leader_at tree 1)))
    | inr higher ↦
        let up = leads_first most (i / 2) (omega arith) (omega arith) (omega arith) in
        let is = led (i / 2) (omega arith) (omega arith) in
        let left = leader_at tree (2 * (i / 2)) in
        let right = leader_at tree (2 * (i / 2) + 1) in
        let upper : comes_first (deadline_at slots (leader_at tree 1))
        (deadline_at slots (sooner slots left right)) ≡ true =
        subst (λ l. comes_first (deadline_at slots (leader_at tree 1)) (deadline_at slots l)
        ≡ true) is up in
        elim (cases_eq (i % 2) 0) [
          | inl even ↦
              let here : 2 * (i / 2) ≡ i = omega arith in
              subst (λ n. comes_first (deadline_at slots (leader_at tree 1))
              (deadline_at slots (leader_at tree n)) ≡ true) here
              (first_chain (deadline_at slots (leader_at tree 1))
              (deadline_at slots (sooner slots left right)) (deadline_at slots left) upper
              (sooner_left slots left right))
          | inr odd ↦
              let here : 2 * (i / 2) + 1 ≡ i = omega arith in
              subst (λ n. comes_first (deadline_at slots (leader_at tree 1))
              (deadline_at slots (leader_at tree n)) ≡ true) here
              (first_chain (deadline_at slots (leader_at tree 1))
              (deadline_at slots (sooner slots left right)) (deadline_at slots right) upper
              (sooner_right slots left right))
        ]
  ]

-- A SLOT HAS ANOTHER DEADLINE, or none: only those above its leaf are to play
module _ (old new : List (Option Deadline)) (tree : List ℕ) (is : IsTournament old tree) (s : ℕ)
    (others : (other : ℕ) → other ≢ s → deadline_at new other ≡ deadline_at old other) where
  same_sooner : (a b : ℕ) → a ≢ s → b ≢ s → sooner old a b ≡ sooner new a b
  same_sooner a b one two =
      ap (λ o. if comes_first o (deadline_at old b) then a else b) (sym (others a one))
      ∙ ap (λ o. if comes_first (deadline_at new a) o then a else b) (sym (others b two))

  pub stale : IsStale new tree s
  stale = record {
    apart = λ i positive below itself left right.
        is.led i positive below
        ∙ same_sooner (leader_at tree (2 * i)) (leader_at tree (2 * i + 1)) left right;
    below = λ i positive below led.
        elim (sooner_is old (leader_at tree (2 * i)) (leader_at tree (2 * i + 1))) [
          | inl left ↦ inl (sym left ∙ sym (is.led i positive below) ∙ led)
          | inr right ↦ inr (sym right ∙ sym (is.led i positive below) ∙ led)
        ];
  }

  pub put_kept : (after : List ℕ) → s < length tree → length after ≡ length tree
      → AreLed new after → IsTournament new after
  put_kept after inside long led = record {
    led = led;
    outside = λ other behind. others other (omega arith) ∙ is.outside other (omega arith);
    leaves = let most = is.leaves in omega (arith, long, most);
  }

pub set_other : (slots : List (Option Deadline)) (s : ℕ) (o : Option Deadline) (other : ℕ)
    → other ≢ s → deadline_at (slice_set slots s o) other ≡ deadline_at slots other
set_other slots s o other differs = get_or-set_other slots s other o None differs

-- a slot with a deadline has a leaf
pub has_leaf : (slots : List (Option Deadline)) (tree : List ℕ) (s : ℕ) (d : Deadline)
    → IsTournament slots tree → deadline_at slots s ≡ Some d → s < length tree
has_leaf slots tree s d is has = elim (cases_lt s (length tree)) [
  | inl inside ↦ inside
  | inr behind ↦ let gone : Some d ≡ None = sym has ∙ is.outside s behind in cc
]

-- THE FIRST ONE
module _ (slots : List (Option Deadline)) (tree : List ℕ) (is : IsTournament slots tree) where
  before_all : (s : ℕ) → s < length tree
      → comes_first (deadline_at slots (leader_at tree 1)) (deadline_at slots s) ≡ true
  before_all s inside =
      let leaf : leader_at tree (length tree + s) ≡ s =
      let at = leader_leaf tree (length tree + s) (omega arith) in omega (arith, at) in
      subst (λ k. comes_first (deadline_at slots (leader_at tree 1)) (deadline_at slots k) ≡ true)
      leaf
      (leads_first slots tree is.led (length tree + s) (length tree + s) (omega arith)
      (omega arith) (omega arith))

  none_behind : (o : Option Deadline) → comes_first None o ≡ true → o ≡ None
  none_behind None first = refl
  none_behind (Some d) first = absurd (true≢false (sym first))

  pub none_at_all : None ≡ deadline_at slots (leader_at tree 1) → (s : ℕ)
      → deadline_at slots s ≡ None
  none_at_all none s = elim (cases_lt s (length tree)) [
    | inl inside ↦
        none_behind (deadline_at slots s)
        (subst (λ o. comes_first o (deadline_at slots s) ≡ true) (sym none) (before_all s inside))
    | inr behind ↦ is.outside s behind
  ]

  no_later : (a b : Deadline) → comes_first (Some a) (Some b) ≡ true → IsNoLater a b
  no_later a b first = record {
    due = grind (arith, nat_tests);
    ticket = λ same. grind (arith, nat_tests);
  }

  pub first_is_earliest : (d : Deadline) → Some d ≡ deadline_at slots (leader_at tree 1)
      → IsEarliest slots (leader_at tree 1) d.due
  first_is_earliest d has = record {
    ticket = d.ticket;
    here = sym has;
    least = λ other e at.
        no_later d e
        (subst (λ o. comes_first o (Some e) ≡ true) (sym has)
        (subst (λ o. comes_first (deadline_at slots (leader_at tree 1)) o ≡ true) at
        (before_all other (has_leaf slots tree other e is at))));
  }
