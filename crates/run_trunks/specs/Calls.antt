-- Sides that say nothing to a call.
use Rattle.std.specs.Prelude.{◌≡◌, None}
use Rattle.linx_base.specs.declared.identity.Side.{Side}
use Rattle.ethcm_end.specs.States.{peer_of}
use Rattle.carrier.specs.Events.{half_of}
use Rattle.trunk.specs.Events.{TrunkState}

-- the side isn't up: its end of the link has no peer
abbrev pub IsDown : Side → TrunkState → Type 0
IsDown side t = peer_of (half_of side t.link).end ≡ None
