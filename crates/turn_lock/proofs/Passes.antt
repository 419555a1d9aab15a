-- Passes that are dealt one by one, gathered one by one, and found by their numbers.
use Rattle.std.proofs.Common.{◌≡◌, ◌≢◌, ℕ, zero, suc, ◌+◌, ◌<◌, ◌≤◌, false, get_or, List, [], ◌∷◌}
use Rattle.std.proofs.Common.{◌++◌, length, Option, Some, append_assoc, sym, ap, ◌∙◌, subst, arith}
use Rattle.std.proofs.Common.{length-append, slice_get, All, Contains, IsTrue, ◌↔◌}
use Rattle.std.proofs.lemmas.List.Elements.{All-weaker}
use Rattle.std.proofs.lemmas.List.{length-map}
use mathlib.Core.Logic.{dite}
use native.Mathlib.Decide.{ℕ_discrete}
use Rattle.atomic_table.specs.Seated.{TableId}
use Rattle.atomic_table.specs.Table.{Me}
use Rattle.turn_lock.specs.declared.story.Made.{Made}
use Rattle.turn_lock.specs.declared.turns.Known.{Known}
use Rattle.turn_lock.specs.Turns.{front, joined, fixed_first, seen_first, pass_view, HasFronts}
use Rattle.turn_lock.specs.Passes.{PassView, new_pass, AreFirst, numbers, Tells, TellsOfEach}
use Rattle.turn_lock.specs.Stories.{RestsFor}
use Rattle.turn_lock.proofs.Lists.{get_before, get_last}

module _ {E F : Type 0} (id : TableId) (fixed : F) where
  first_more : (n : ℕ) (passes : List (PassView E F)) → AreFirst id fixed n passes
      → AreFirst id fixed (n + 1) (passes ++ new_pass id fixed (n + 1) ∷ [])
  first_more n passes h =
      let p : PassView E F = new_pass id fixed (n + 1) in
      let long : length passes ≡ n = h.0 in (
        length-append passes (p ∷ []) ∙ omega arith,
        λ k l. dite (ℕ_discrete k n)
            (λ e. let at : k ≡ length passes = omega arith in
            ap (slice_get (passes ++ p ∷ [])) at
            ∙ (get_last passes p
            ∙ ap (λ (j : ℕ). Some (new_pass id fixed (j + 1))) (omega arith)))
            (λ ne. get_before passes (p ∷ []) k (omega arith) ∙ h.1 k (omega arith)),
      )

  -- the next pass was dealt, from a seat with its front
  pub first_push : (none : F) (k n more : ℕ) (passes longer : List (PassView E F))
      (p : PassView E F) (at : TableId) (v : Known E F) → AreFirst id fixed k passes
      → longer ≡ passes ++ p ∷ [] → p ≡ pass_view none at n v → at ≡ id → n ≡ k + 1
      → v.fronts ≡ front n fixed [] ∷ [] → more ≡ k + 1 → AreFirst id fixed more longer
  first_push none k n more passes longer p at v h e is lock number fronts up =
      let new : p ≡ new_pass id fixed (k + 1) = is ∙ (λ j. record {
        lock = lock j;
        number = number j;
        fixed = fixed_first none (fronts j);
        front = seen_first (fronts j);
      }) in
      rw (e, new, up) (first_more k passes h)

module _ {E F : Type 0} where
  -- the number of the pass at i
  pub number_at : (passes : List (PassView E F)) (i n : ℕ) (p : PassView E F) → i < length passes
      → p ≡ get_or passes i p → get_or (numbers passes) i n ≡ p.number
  number_at [] i n p l e = absurd (omega arith)
  number_at (q ∷ qs) zero n p l e = ap (λ (r : PassView E F). r.number) (sym e)
  number_at (q ∷ qs) (suc i) n p l e = number_at qs i n p (omega arith) e

  as_many : (passes : List (PassView E F)) → length (numbers passes) ≡ length passes
  as_many passes = length-map passes (λ (p : PassView E F). p.number)

  pub none_numbered : (passes : List (PassView E F)) (i n : ℕ) → length passes ≤ i
      → ((k : ℕ) → k < i → get_or (numbers passes) k n ≢ n)
      → IsTrue false ↔ Contains (numbers passes) n
  none_numbered passes i n past none = (
    λ t. cc,
    λ h. absurd (let l = h.1 in let long = as_many passes in none h.0 (omega arith) h.2),
  )

  pub some_pass : (passes : List (PassView E F)) (seats : ℕ) → 0 < seats
      → ((n : ℕ) → 0 < n → n ≤ seats → Contains (numbers passes) n) → 0 < length passes
  some_pass passes seats low each =
      let first = each 1 (omega arith) (omega arith) in
      let there : first.0 < length (numbers passes) = first.1 in
      let long = as_many passes in omega arith

  module _ {S : Type 0} where
    -- of all these passes some are left, and the seat has the fronts of the others
    abbrev pub Gathers : List (PassView E F) → List (PassView E F)
        → Me (Option S) (Known E F) → Type 0
    Gathers all left m =
        (late : List (PassView E F)) × (all ≡ left ++ late) × HasFronts late m

  module _ {S : Type 0} (all left : List (PassView E F)) (p : PassView E F) where
    pub gathers_more : (less : List (PassView E F)) (m m' other : Me (Option S) (Known E F))
        → Gathers all left m → left ≡ less ++ p ∷ [] → HasFronts (p ∷ []) other
        → m' ≡ (joined m.0 other.0, m.1) → Gathers all less m'
    gathers_more less m m' other g e h is = (
      p ∷ g.0,
      g.1 ∙ (ap (λ t. t ++ g.0) e ∙ append_assoc less (p ∷ []) g.0),
      (
        ap (λ (k : Me (Option S) (Known E F)). k.1) is ∙ g.2.0,
        ap (λ (k : Me (Option S) (Known E F)). k.0.holds) is,
        ap (λ (k : Me (Option S) (Known E F)). k.0.fronts) is ∙ (λ i. h.2 i ++ g.2.2 i),
      ),
    )

  module _ {S : Type 0} (seats : ℕ) (story_of : S → List (Made E)) (fixed_of : S → F)
      (passes : List (PassView E F)) (x : S)
      (h : TellsOfEach seats story_of fixed_of passes x) where
    pub told_rests : All (λ p. RestsFor p.number (story_of x) p.front) passes
    told_rests = All-weaker (Tells (fixed_of x) (story_of x)) _ (λ p t. t.1) passes h.each

-- where each number below n is among these, and so is n, each number below n + 1 is
pub numbered_more : (xs : List ℕ) (n : ℕ) → ((k : ℕ) → 0 < k → k < n → Contains xs k)
    → Contains xs n → (k : ℕ) → 0 < k → k < n + 1 → Contains xs k
numbered_more xs n below here k low high = dite (ℕ_discrete k n)
    (λ (e : k ≡ n). subst (λ (j : ℕ). Contains xs j) (sym e) here)
    (λ (ne : k ≢ n). below k low (omega arith))
