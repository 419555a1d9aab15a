-- How far a text begins as expected.
use Rattle.std.specs.Prelude.{◌≡◌, ℕ, nat_lt, List, length}
use Rattle.text_logs.specs.declared.comparing.Begun.{Begun}
use Rattle.text_logs.specs.First.{alike}

-- so many bytes of the text are as what was expected so far, and not all are
pub record IsBegun (text so_far : List ℕ) (begun : Begun) : Type 0 where
  pub same : begun.alike ≡ alike text so_far
  pub other : begun.apart ≡ nat_lt (alike text so_far) (length so_far)
