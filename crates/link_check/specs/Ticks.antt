-- Which session a tick may lose, by the table of a side.
use Rattle.std.specs.Prelude.{nat_le, Option, None, if◌then◌else◌}
use Rattle.linx_base.specs.declared.identity.Session.{Session}
use Rattle.link_tables.specs.Sides.{SideSoFar}

-- the session that is up, of a side that was silent for two ticks or more
abbrev pub session_to_lose : SideSoFar → Option Session
session_to_lose side = if nat_le 2 side.silent then side.up else None
