-- The pending hunts and the owed attaches of a node: their numbers rise, and are those of steps
-- made.
use Rattle.std.proofs.Common.{◌≡◌, ℕ, suc, ◌<◌, Bool, true, false, cond, not, List, [], ◌∷◌, ◌++◌}
use Rattle.std.proofs.Common.{length, map, filter, Option, Some, None, refl, arith, ◌==◌}
use Rattle.std.specs.List.{list_any, AllByRecursion}
use Rattle.std.proofs.lemmas.Bool.Decides.{nat_tests}
use Rattle.linx_base.specs.Numbers.{is_on}
use Rattle.linx_base.specs.declared.identity.Inc.{Inc}
use Rattle.linx_base.specs.declared.identity.Peer.{Peer}
use Rattle.linx_base.specs.declared.name.Path.{Path}
use Rattle.linx_base.specs.declared.pending.PendingAttach.{PendingAttach}
use Rattle.linx_base.specs.declared.pending.PendingHunt.{PendingHunt}
use Rattle.linx_base.specs.declared.signal.Reason.{Reason}
use Rattle.linx_base.specs.SigNotes.{SigNote}
use Rattle.journal.specs.declared.effect.Effect.{Effect}
use Rattle.journal.specs.declared.effect.Step.{Step}
use Rattle.journal.specs.declared.head.Head.{Head}
use Rattle.journal.specs.declared.head.Head.TheVariants.{Hunt, Attach}
use Rattle.journal.specs.Effects.{found, notice}
use Rattle.journal.specs.History.{endpoint_by}
use Rattle.journal.specs.Pending.{answers_hunt, attach_at, attach_in, ends_hunt, hunt_at, hunt_in}
use Rattle.journal.specs.Pending.{hunting, notifies, owed, ends_attach}
use Rattle.journal.proofs.Lists.{all-append, all-filter, all-impl}
use Rattle.journal.proofs.Openings.{same_inc-refl}

-- numbers rise along a list
abbrev pub Rises : {X : Type 0} → (X → ℕ) → List X → Type 0
Rises f [] = Unit {0}
Rises f (x ∷ xs) = AllByRecursion (λ y. f x < f y) xs × Rises f xs

module _ {X : Type 0} (f : X → ℕ) where
  pub rises-filter : (p : X → Bool) (xs : List X) → Rises f xs → Rises f (filter p xs)
  rises-filter p [] up = tt
  rises-filter p (x ∷ xs) up =
      elim (p x) as (λ b. Rises f (cond b (x ∷ filter p xs) (filter p xs))) [
        | true ↦ (all-filter (λ y. f x < f y) p xs up.0, rises-filter p xs up.1)
        | false ↦ rises-filter p xs up.1
      ]

  -- greater ones at the end
  pub rises-append : (n : ℕ) (xs ys : List X) → Rises f xs → AllByRecursion (λ x. f x < n) xs
      → Rises f ys → AllByRecursion (λ y. f y ≡ n) ys → Rises f (xs ++ ys)
  rises-append n [] ys up below up_ys at = up_ys
  rises-append n (x ∷ xs) ys up below up_ys at = (
    all-append (λ y. f x < f y) xs ys up.0
        (all-impl (λ y. f y ≡ n) (λ y. f x < f y) (λ y e. let low = below.0 in omega arith) ys at),
    rises-append n xs ys up.1 below.1 up_ys at,
  )

-- THE HUNTS
module _ (node k : ℕ) (me : Option Inc) where
  hunt_at-number : (path : Path) (note : SigNote)
      → AllByRecursion (λ h. h.number ≡ k) (hunt_at node k me path note)
      × Rises (λ h. h.number) (hunt_at node k me path note)
  hunt_at-number path note = elim me as (λ m. AllByRecursion (λ h. h.number ≡ k)
      (hunt_at node k m path note) × Rises (λ h. h.number) (hunt_at node k m path note)) [
        | None ↦ (tt, tt)
        | Some j ↦ go j (is_on node j)
      ]
    where
      go : (j : Inc) (b : Bool) → AllByRecursion (λ h. h.number ≡ k)
          (cond b ((let h : PendingHunt = record {
            at = j;
            path = path;
            signal = note;
            number = k;
          } in h) ∷ []) [])
          × Rises (λ h. h.number) (cond b ((let h : PendingHunt =
          record { at = j; path = path; signal = note; number = k } in h) ∷ []) [])
      go j true = ((refl, tt), (tt, tt))
      go j false = (tt, tt)

  pub hunt_in-number : (head : Head)
      → AllByRecursion (λ h. h.number ≡ k) (hunt_in node k me head)
      × Rises (λ h. h.number) (hunt_in node k me head)
  hunt_in-number (Hunt path note) = hunt_at-number path note
  hunt_in-number _ = (tt, tt)

  attach_at-number : (q : Peer) (note : SigNote)
      → AllByRecursion (λ a. a.reference.0 ≡ k) (attach_at node k me q note)
      × Rises (λ a. a.reference.0) (attach_at node k me q note)
  attach_at-number q note = elim me as (λ m. AllByRecursion (λ a. a.reference.0 ≡ k)
      (attach_at node k m q note) × Rises (λ a. a.reference.0) (attach_at node k m q note)) [
        | None ↦ (tt, tt)
        | Some j ↦ go j (is_on node j)
      ]
    where
      go : (j : Inc) (b : Bool) → AllByRecursion (λ a. a.reference.0 ≡ k)
          (cond b ((let a : PendingAttach = record {
            at = j;
            peer = q;
            signal = note;
            reference = record { 0 = k };
          } in a) ∷ []) [])
          × Rises (λ a. a.reference.0) (cond b ((let a : PendingAttach =
          record { at = j; peer = q; signal = note; reference = record { 0 = k } } in a) ∷ [])
          [])
      go j true = ((refl, tt), (tt, tt))
      go j false = (tt, tt)

  pub attach_in-number : (head : Head)
      → AllByRecursion (λ a. a.reference.0 ≡ k) (attach_in node k me head)
      × Rises (λ a. a.reference.0) (attach_in node k me head)
  attach_in-number (Attach q note) = attach_at-number q note
  attach_in-number _ = (tt, tt)

-- a history's hunts: each has the number of a step made, and the numbers rise
pub hunting-below : (P : List Step) (node : ℕ)
    → AllByRecursion (λ h. h.number < suc (length P)) (hunting P node)
hunting-below [] node = tt
hunting-below (s ∷ P) node =
    let k : ℕ = suc (length P) in
    let new = hunt_in-number node k (endpoint_by P s.by) s.head in
    all-filter (λ h. h.number < suc k) (λ h. not (ends_hunt s.effects h)) (hunting P node
    ++ hunt_in node k (endpoint_by P s.by) s.head)
    (all-append (λ h. h.number < suc k) (hunting P node)
    (hunt_in node k (endpoint_by P s.by) s.head)
    (all-impl (λ h. h.number < k) (λ h. h.number < suc k) (λ h low. omega arith) (hunting P node)
    (hunting-below P node))
    (all-impl (λ h. h.number ≡ k) (λ h. h.number < suc k) (λ h e. omega arith)
    (hunt_in node k (endpoint_by P s.by) s.head) new.0))

pub hunting-rises : (P : List Step) (node : ℕ) → Rises (λ h. h.number) (hunting P node)
hunting-rises [] node = tt
hunting-rises (s ∷ P) node =
    let k : ℕ = suc (length P) in
    let new = hunt_in-number node k (endpoint_by P s.by) s.head in
    rises-filter (λ h. h.number) (λ h. not (ends_hunt s.effects h)) (hunting P node
    ++ hunt_in node k (endpoint_by P s.by) s.head)
    (rises-append (λ h. h.number) k (hunting P node) (hunt_in node k (endpoint_by P s.by) s.head)
    (hunting-rises P node) (hunting-below P node) new.1 new.0)

pub owed-below : (P : List Step) (node : ℕ)
    → AllByRecursion (λ a. a.reference.0 < suc (length P)) (owed P node)
owed-below [] node = tt
owed-below (s ∷ P) node =
    let k : ℕ = suc (length P) in
    let me : Option Inc = endpoint_by P s.by in
    let new = attach_in-number node k me s.head in
    all-filter (λ a. a.reference.0 < suc k) (λ a. not (ends_attach me s.head s.effects a)) (owed P node
    ++ attach_in node k me s.head)
    (all-append (λ a. a.reference.0 < suc k) (owed P node) (attach_in node k me s.head)
    (all-impl (λ a. a.reference.0 < k) (λ a. a.reference.0 < suc k) (λ a low. omega arith)
    (owed P node) (owed-below P node))
    (all-impl (λ a. a.reference.0 ≡ k) (λ a. a.reference.0 < suc k) (λ a e. omega arith)
    (attach_in node k me s.head) new.0))

pub owed-rises : (P : List Step) (node : ℕ) → Rises (λ a. a.reference.0) (owed P node)
owed-rises [] node = tt
owed-rises (s ∷ P) node =
    let k : ℕ = suc (length P) in
    let me : Option Inc = endpoint_by P s.by in
    let new = attach_in-number node k me s.head in
    rises-filter (λ a. a.reference.0) (λ a. not (ends_attach me s.head s.effects a)) (owed P node
    ++ attach_in node k me s.head)
    (rises-append (λ a. a.reference.0) k (owed P node) (attach_in node k me s.head)
    (owed-rises P node) (owed-below P node) new.1 new.0)

-- WHICH OF THEM ARE NAMED. Where numbers rise, the effects of some of a list name just these
not_numbered : (n m : ℕ) → n < m → (m == n) ≡ false
not_numbered n m low = grind (arith, nat_tests)

not_numbered_below : (n m : ℕ) → m < n → (m == n) ≡ false
not_numbered_below n m low = grind (arith, nat_tests)

same_number : (n : ℕ) → (n == n) ≡ true
same_number n = grind (arith, nat_tests)

pub all-both : {X : Type 0} (P Q : X → Type 0) (xs : List X) → AllByRecursion P xs
    → AllByRecursion Q xs → AllByRecursion (λ x. P x × Q x) xs
all-both P Q [] ps qs = tt
all-both P Q (x ∷ xs) ps qs = ((ps.0, qs.0), all-both P Q xs ps.1 qs.1)

-- tests that agree on a list keep the same of it
pub filter-agree : {X : Type 0} (p q : X → Bool) (xs : List X)
    → AllByRecursion (λ x. p x ≡ q x) xs → filter p xs ≡ filter q xs
filter-agree p q [] all = refl
filter-agree p q (x ∷ xs) all =
    rw (all.0, filter-agree p q xs all.1) refl

module _ {X : Type 0} (f : X → ℕ) (e : X → Effect) (names : X → Effect → Bool)
    (another : (x y : X) → (f y == f x) ≡ false → names x (e y) ≡ false)
    (itself : (x : X) → names x (e x) ≡ true) (p : X → Bool) where
  -- those with other numbers don't name it
  named-none : (x : X) (xs : List X) → AllByRecursion (λ y. (f y == f x) ≡ false) xs
      → list_any (names x) (map e (filter p xs)) ≡ false
  named-none x [] all = refl
  named-none x (y ∷ xs) all =
      let rest = named-none x xs all.1 in
      elim (p y) as (λ b. list_any (names x) (map e (cond b (y ∷ filter p xs) (filter p xs)))
      ≡ false) [
        | true ↦ rw (another x y all.0) rest
        | false ↦ rest
      ]

  named-head : (x : X) (xs : List X) → AllByRecursion (λ y. f x < f y) xs
      → list_any (names x) (map e (filter p (x ∷ xs))) ≡ p x
  named-head x xs later =
      let rest = named-none x xs (all-impl (λ y. f x < f y) (λ y. (f y == f x) ≡ false)
      (λ y low. not_numbered (f x) (f y) low) xs later) in
      elim (p x) as (λ b. list_any (names x) (map e (cond b (x ∷ filter p xs) (filter p xs))) ≡ b) [
        | true ↦ rw (itself x) refl
        | false ↦ rest
      ]

  named-tail : (x : X) (xs : List X) (y : X) (b : Bool) → f x < f y
      → list_any (names y) (map e (filter p xs)) ≡ b
      → list_any (names y) (map e (filter p (x ∷ xs))) ≡ b
  named-tail x xs y b low is =
      elim (p x) as (λ c. list_any (names y) (map e (cond c (x ∷ filter p xs) (filter p xs))) ≡ b) [
        | true ↦ rw (another y x (not_numbered_below (f y) (f x) low)) is
        | false ↦ is
      ]

  -- each is named exactly where it is one of them
  pub named-each : (xs : List X) → Rises f xs
      → AllByRecursion (λ x. list_any (names x) (map e (filter p xs)) ≡ p x) xs
  named-each [] up = tt
  named-each (x ∷ xs) up = (
    named-head x xs up.0,
    all-impl (λ y. (f x < f y) × (list_any (names y) (map e (filter p xs)) ≡ p y))
        (λ y. list_any (names y) (map e (filter p (x ∷ xs))) ≡ p y)
        (λ y h. named-tail x xs y (p y) h.0 h.1) xs
        (all-both (λ y. f x < f y) (λ y. list_any (names y) (map e (filter p xs)) ≡ p y) xs up.0
        (named-each xs up.1)),
  )

-- the answered hunts
pub answered-each : (q : Peer) (p : PendingHunt → Bool) (hs : List PendingHunt)
    → Rises (λ h. h.number) hs
    → AllByRecursion (λ h. list_any (answers_hunt h) (map (found q) (filter p hs)) ≡ p h) hs
answered-each q p hs up =
    named-each (λ h. h.number) (found q) answers_hunt (λ h g other. rw other refl)
    (λ h. rw (same_number h.number, same_inc-refl h.at) refl) p hs up

-- the notified attaches
pub notified-each : (reason : Reason) (p : PendingAttach → Bool) (owes : List PendingAttach)
    → Rises (λ a. a.reference.0) owes
    → AllByRecursion (λ a. list_any (notifies a) (map (notice reason) (filter p owes)) ≡ p a) owes
notified-each reason p owes up =
    named-each (λ a. a.reference.0) (notice reason) notifies (λ a b other. rw other refl)
    (λ a. rw (same_number a.reference.0, same_inc-refl a.at) refl) p owes up
