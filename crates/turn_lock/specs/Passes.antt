-- What a pass and a lock are to a contract.
use Rattle.std.specs.Prelude.{◌≡◌, ℕ, ◌+◌, ◌<◌, ◌≤◌, List, [], Some, length, slice_get}
use Rattle.std.specs.Prelude.{map, All, Contains}
use Rattle.atomic_table.specs.Seated.{TableId}
use Rattle.turn_lock.specs.declared.story.Made.{Made}
use Rattle.turn_lock.specs.Stories.{made_by, AllMadeUpTo, RestsFor}

-- what a lock is seen as: which one it is, and how many passes it has
pub record LockView : Type 0 where
  pub id : TableId
  pub seats : ℕ

-- what a pass is seen as: the lock that it is of, its number there, what no step changes, and the
-- steps that it has seen, the newest first
pub record PassView (E F : Type 0) : Type 0 where
  pub lock : TableId
  pub number : ℕ
  pub fixed : F
  pub front : List (Made E)

module _ {E F : Type 0} where
  -- the steps that the pass itself made: those of its front with its number
  abbrev pub own_steps : PassView E F → List (Made E)
  own_steps p = made_by p.number p.front

  -- the pass is of this lock
  abbrev pub IsPassOf : LockView → PassView E F → Type 0
  IsPassOf lock p = p.lock ≡ lock.id

  -- the pass number n of this lock, which has seen nothing
  abbrev pub new_pass : TableId → F → ℕ → PassView E F
  new_pass id fixed n = record { lock = id; number = n; fixed = fixed; front = [] }

  -- these are the first n passes of a new lock, numbered from 1 in their order
  abbrev pub AreFirst : TableId → F → ℕ → List (PassView E F) → Type 0
  AreFirst id fixed n passes =
      (length passes ≡ n)
      × ((k : ℕ) → k < n → slice_get passes k ≡ Some (new_pass id fixed (k + 1)))

  -- these are all passes of a new lock
  abbrev pub AreDealt : LockView → F → List (PassView E F) → Type 0
  AreDealt lock fixed passes = AreFirst lock.id fixed lock.seats passes

  -- two passes are one, which may have seen other steps since
  abbrev pub IsSamePass : PassView E F → PassView E F → Type 0
  IsSamePass before now = now ≡ record before { front = now.front }

  -- the numbers of these passes
  abbrev pub numbers : List (PassView E F) → List ℕ
  numbers passes = map (λ p. p.number) passes

  -- each pass of the lock is among these
  abbrev pub HasEach : LockView → List (PassView E F) → Type 0
  HasEach lock passes = (n : ℕ) → 0 < n → n ≤ lock.seats → Contains (numbers passes) n

  -- the least number of a pass of the lock that is not among these
  abbrev pub IsLeastMissing : LockView → List (PassView E F) → ℕ → Type 0
  IsLeastMissing lock passes n =
      (0 < n) × (n ≤ lock.seats) × ¬ (Contains (numbers passes) n)
      × ((k : ℕ) → 0 < k → k < n → Contains (numbers passes) k)

  -- a state with this fixed part and this story: what the pass has seen begins it, and the pass
  -- made no step of it since
  abbrev pub Tells : F → List (Made E) → PassView E F → Type 0
  Tells fixed story p = (fixed ≡ p.fixed) × RestsFor p.number story p.front

  -- a state that tells of each of these passes, and of makers up to the number of seats alone
  pub record TellsOfEach {S : Type 0} (seats : ℕ) (story_of : S → List (Made E)) (fixed_of : S → F)
      (passes : List (PassView E F)) (x : S) : Type 0 where
    pub each : All (Tells (fixed_of x) (story_of x)) passes
    pub makers : AllMadeUpTo seats (story_of x)
