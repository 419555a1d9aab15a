-- Texts kept by number while they grow.
use Rattle.std.specs.Prelude.{ℕ, List, [], nat_eq, unwrap_or}
use Rattle.std.specs.declared.hash.FoldHasher.{FoldHasher}
use Rattle.std.specs.declared.hash.BuildHasherDefault.{BuildHasherDefault}
use Rattle.std.specs.HashMap.{get, HashMap}

-- the text that is kept under a number, if there is one, else no bytes
abbrev pub kept : HashMap ℕ (List ℕ) (BuildHasherDefault FoldHasher) → ℕ → List ℕ
kept texts number = unwrap_or (get nat_eq texts number) []
