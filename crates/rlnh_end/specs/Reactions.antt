-- What a message makes of an end.
use Rattle.rlnh_end.specs.declared.heard.Heard.{Heard}
use Rattle.rlnh_end.specs.declared.up.Up.{Up}
use Rattle.rlnh_end.specs.States.{RlnhState}
use Rattle.rlnh_end.specs.Calls.{after}
use Rattle.rlnh_end.specs.Hearing.{Hearing, hears}

-- an end afterwards, and what it hands up
pub record Reaction : Type 0 where
  pub state : RlnhState
  pub up : Up

-- the reaction with this state, which hands this up
abbrev pub gives : RlnhState → Up → Reaction
gives s up = record { state = s; up = up }

-- what an end has heard makes these tables of its own, is answered so, and is handed up so
abbrev pub reacts : RlnhState → Hearing → Reaction
reacts s heard = gives (after s heard.made) heard.up

-- a message comes that is read so
abbrev pub rlnh_input_of : RlnhState → Heard → Reaction
rlnh_input_of s heard = reacts s (hears s.tables heard)
