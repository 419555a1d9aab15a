-- A held state, after a write through `state`.
use Rattle.turn_lock.specs.declared.pass.Held.{Held}

-- a turn with the state x in place of the one that it holds
abbrev pub held_with : {S E F : Type 0} → Held S E F → S → Held S E F
held_with held x = record held { state = x }
