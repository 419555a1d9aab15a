-- The packets in flight, as the bytes of a wire spell them.
use Rattle.std.specs.Prelude.{ℕ, Option, None, Some, List, drop}
use Rattle.linx_base.specs.declared.frame.ConnKind.TheVariants.{Connect}
use Rattle.linx_base.specs.declared.identity.Side.{Side}
use Rattle.linx_base.specs.Both.{Both}
use Rattle.ethcm_headers.specs.declared.chains.Headers.{Headers}
use Rattle.ethcm_headers.specs.declared.packets.Packet.{Packet}
use Rattle.ethcm_headers.specs.declared.packets.Part.TheVariants.{Conn}
use Rattle.ethcm_headers.specs.Chains.{headers_at, length_of, packet_with}
use Rattle.ethcm_headers.specs.Packets.{Spells}
use Rattle.lossy_wire.specs.Flight.{HasOnlyGrown}
use Rattle.carrier.specs.Events.{LinkState, flight_from}

-- the packet that has these headers, and the bytes behind them as its payload; some packet where
-- there are no headers
abbrev pub packet_behind : Option Headers → List ℕ → Packet
packet_behind (Some headers) bytes = packet_with headers (drop (length_of headers.chain) bytes)
packet_behind None bytes = record { src = record { 0 = 0 }; dst = 0; part = Conn Connect }

-- the packet that these bytes spell, where they spell one
unfoldable pub packet_at : List ℕ → Packet
packet_at bytes = packet_behind (headers_at bytes) bytes

-- these bytes spell a packet
abbrev pub IsSpelled : List ℕ → Type 0
IsSpelled bytes = Spells (packet_at bytes) bytes

-- since the event began packets were put alone from a side of a link, and none of them was lost or
-- exchanged
abbrev pub HasOnlyGrownFrom : Side → Both LinkState → Type 0
HasOnlyGrownFrom from link =
    HasOnlyGrown (record { was = flight_from from link.was; is = flight_from from link.is })
