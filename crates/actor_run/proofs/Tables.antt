-- a table to whose name nothing can be given, since it has no row
use Rattle.std.proofs.Common.{◌≡◌, ℕ, Bool, true, false, cond, List, [], ◌∷◌, Option, refl, ap}
use Rattle.std.proofs.Common.{Some, None}
use Rattle.std.specs.Map.{lookup as found, set_value}
use Rattle.actor_run.specs.Bindings.{Table}

module _ {T : Type 0} (test : List ℕ → Bool) (value : Option T) where
  stays : (there : Bool) (row : List ℕ × Option T) (rows : Table T)
      → cond there (Some row.1) (found test rows) ≡ None
      → (found test rows ≡ None → set_value test rows value ≡ rows)
      → cond there ((row.0, value) ∷ rows) (row ∷ set_value test rows value) ≡ row ∷ rows
  stays true row rows h more = absurd cc
  stays false row rows h more = ap (λ (rest : Table T). row ∷ rest) (more h)

  pub absent_stays : (rows : Table T) → found test rows ≡ None → set_value test rows value ≡ rows
  absent_stays [] h = refl
  absent_stays (row ∷ rows) h = stays (test row.0) row rows h (absent_stays rows)
