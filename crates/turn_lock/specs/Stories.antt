-- Stories: lists of steps with their makers, the newest step first.
use Rattle.std.specs.Prelude.{◌≡◌, ℕ, ◌<◌, ◌≤◌, List, [], ◌++◌, ◌==◌, All}
use Rattle.std.specs.List.{filter}
use Rattle.turn_lock.specs.declared.story.Made.{Made}

-- a step with its maker
abbrev pub made : {E : Type 0} → ℕ → E → Made E
made n e = record { maker = n; step = e }

-- a title, which no step changes, and steps that say nothing but who made them, the newest first
pub record LogParts : Type 0 where
  pub title : ℕ
  pub made : List (Made (Unit {0}))

module _ {E : Type 0} where
  -- what the maker n made, the newest first
  abbrev pub made_by : ℕ → List (Made E) → List (Made E)
  made_by n steps = filter (λ m. m.maker == n) steps

  -- the maker n made each of these
  abbrev pub AllMadeBy : ℕ → List (Made E) → Type 0
  AllMadeBy n steps = All (λ m. m.maker ≡ n) steps

  -- each of these is of one of the makers 1 to n
  abbrev pub AllMadeUpTo : ℕ → List (Made E) → Type 0
  AllMadeUpTo n steps = All (λ m. (0 < m.maker) × (m.maker ≤ n)) steps

  -- the story goes on from the front, and n made nothing of what came since
  abbrev pub RestsFor : ℕ → List (Made E) → List (Made E) → Type 0
  RestsFor n story front =
      (since : List (Made E)) × (story ≡ since ++ front) × (made_by n since ≡ [])

  -- the story goes on from the front, and n alone made what came since
  abbrev pub IsAddedBy : ℕ → List (Made E) → List (Made E) → Type 0
  IsAddedBy n story front =
      (added : List (Made E)) × (story ≡ added ++ front) × AllMadeBy n added
