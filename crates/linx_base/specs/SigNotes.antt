-- What a signal is to contracts.
use Rattle.std.specs.Prelude.{ℕ, List}

-- the content of a signal: its number, and its data bytes
pub record SigNote : Type 0 where
  pub number : ℕ
  pub bytes : List ℕ
