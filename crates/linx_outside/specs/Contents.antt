-- What the sources and sinks of this crate are.
use Rattle.std.specs.Prelude.{◌≡◌, ℕ, ◌<◌, List, length}
use Rattle.linx_outside.specs.Counts.{raised}

-- the calls made so far, up to the last value of a `u64`, and the numbers of those that fail
pub record Plan : Type 0 where
  pub calls : ℕ
  pub fails : List ℕ

-- the plan after one more call
abbrev pub counted : Plan → Plan
counted plan = record plan { calls = raised plan.calls }

-- the bytes not yet given, the most that a read gives, its calls, and its faults so far
pub record Supply : Type 0 where
  pub left : List ℕ
  pub most : ℕ
  pub plan : Plan
  pub faults : ℕ

-- the bytes taken, the most that a write takes, the most that are held, its calls, its faults
pub record Store : Type 0 where
  pub held : List ℕ
  pub most : ℕ
  pub room : ℕ
  pub plan : Plan
  pub faults : ℕ

-- a piece that isn't empty comes to a sink that is full
abbrev pub IsFullFor : Store → List ℕ → Type 0
IsFullFor store piece = (0 < length piece) × (length store.held ≡ store.room)

-- a reader or writer of std, with its faults so far
pub record WithFaults (T : Type 0) : Type 0 where
  pub inner : T
  pub faults : ℕ
