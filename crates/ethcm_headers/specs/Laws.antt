-- What follows from the spelling alone.
use Rattle.std.specs.Prelude.{◌≡◌, List, ℕ}
use Rattle.ethcm_headers.specs.declared.packets.Packet.{Packet}
use Rattle.ethcm_headers.specs.Packets.{IsPacket, Spells, spelling_of}

-- every packet has a spelling
abbrev pub EachIsSpelled : Type 0
EachIsSpelled = (packet : Packet) → IsPacket packet → Spells packet (spelling_of packet)

-- no packet has two spellings
abbrev pub HasOneSpelling : Type 0
HasOneSpelling =
    (packet : Packet) (bytes others : List ℕ) → Spells packet bytes → Spells packet others
    → bytes ≡ others

-- no bytes spell two packets
abbrev pub SpellsOnePacket : Type 0
SpellsOnePacket =
    (packet other : Packet) (bytes : List ℕ) → Spells packet bytes → Spells other bytes
    → packet ≡ other
