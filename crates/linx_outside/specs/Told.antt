-- Bytes that a source still has to give, or that a sink holds, where these are told. Of what isn't
-- told nothing is said.
use Rattle.std.specs.Prelude.{◌≡◌, ℕ, ◌<◌, List, ◌++◌, length, take, Option}
use Rattle.std.specs.Io.KnownBytes.{Appends, Consumes}

-- some first bytes of these, and not all of them, were appended
pub record AppendsFront (old new : Option (List ℕ)) (bytes : List ℕ) : Type 0 where
  pub count : ℕ
  pub within : count < length bytes
  pub front : Appends old new (take count bytes)

-- a buffer gained at its end just the bytes that a source lost at its front
pub record MovesBytes (filled grown : List ℕ) (left rest : Option (List ℕ)) : Type 0 where
  pub bytes : List ℕ
  pub gained : grown ≡ filled ++ bytes
  pub lost : Consumes left rest bytes
