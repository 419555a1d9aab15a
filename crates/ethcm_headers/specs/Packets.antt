-- Which packets there are, and the bytes that spell each.
use Rattle.std.specs.Prelude.{◌≡◌, ℕ, ◌+◌, ◌^◌, ◌<◌, ◌≤◌, ◌↔◌, List, ◌++◌, length}
use Rattle.linx_base.specs.declared.frame.ConnKind.TheVariants.{Connect}
use Rattle.linx_base.specs.declared.frame.Frame.TheVariants.{First, Next}
use Rattle.linx_base.specs.Frames.{IsFrame, FitsFrame}
use Rattle.ethcm_headers.specs.declared.packets.Packet.{Packet}
use Rattle.ethcm_headers.specs.declared.packets.Part.{Part}
use Rattle.ethcm_headers.specs.declared.packets.Part.TheVariants.{Conn, Ack, Nack, Piece}
use Rattle.ethcm_headers.specs.Headers.{main_header, conn_header, ack_header, nack_header}
use Rattle.ethcm_headers.specs.Headers.{udata_header, frag_header}

-- The five chains of headers. A header's type is 2 for CONN, 3 for UDATA, 4 for FRAG, 5 for ACK, 6
-- for NACK and 0 for none.
unfoldable pub spelling_between : ℕ → ℕ → Part → List ℕ
spelling_between src dst (Conn kind) = main_header 2 24 src dst ++ conn_header kind
spelling_between src dst (Ack next) = main_header 5 28 src dst ++ ack_header 0 next
spelling_between src dst (Nack next count) = main_header 6 28 src dst ++ nack_header next count
spelling_between src dst (Piece next seq (First more from to size payload)) =
    main_header 5 (48 + length payload) src dst
    ++ (ack_header 3 next ++ (udata_header more seq from to size ++ payload))
spelling_between src dst (Piece next seq (Next more payload)) =
    main_header 5 (36 + length payload) src dst
    ++ (ack_header 4 next ++ (frag_header more seq ++ payload))

-- the bytes that spell a packet
abbrev pub spelling_of : Packet → List ℕ
spelling_of packet = spelling_between packet.src.0 packet.dst packet.part

-- the bounds of what a packet brings
abbrev pub IsPart : Part → Type 0
IsPart (Conn kind) = Unit {0}
IsPart (Ack next) = Unit {0}
IsPart (Nack next count) = (1 ≤ count) × (count ≤ 256)
IsPart (Piece next seq frame) = (seq < 4294967295) × IsFrame frame

-- what holds of the numbers of a packet besides their fields: the sender is known, the receiver is
-- unknown in a CONNECT alone, and its part is within its bounds
pub record IsWithinBounds (packet : Packet) : Type 0 where
  pub sender_known : 0 < packet.src.0
  pub receiver_unknown_in_connect : (packet.dst ≡ 0) ↔ (packet.part ≡ Conn Connect)
  pub part : IsPart packet.part

-- the numbers of what a packet brings fit their fields
abbrev pub FitsPart : Part → Type 0
FitsPart (Conn kind) = Unit {0}
FitsPart (Ack next) = next < 2 ^ 32
FitsPart (Nack next count) = next < 2 ^ 32
FitsPart (Piece next seq frame) = (next < 2 ^ 32) × FitsFrame frame

-- a packet: its numbers fit their fields, and keep their bounds
pub record IsPacket (packet : Packet) : Type 0 where
  pub bounds : IsWithinBounds packet
  pub sender_fits : packet.src.0 < 2 ^ 64
  pub receiver_fits : packet.dst < 2 ^ 64
  pub part_fits : FitsPart packet.part

-- the bytes are those of this packet
pub record Spells (packet : Packet) (bytes : List ℕ) : Type 0 where
  pub is_packet : IsPacket packet
  pub spelled : bytes ≡ spelling_of packet
