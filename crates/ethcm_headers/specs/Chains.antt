-- Packets taken apart into their headers and the payload behind them.
use Rattle.std.specs.Prelude.{◌≡◌, ℕ, ◌^◌, ◌<◌, ◌==◌, nat_lt, List, [], ◌++◌, length, drop}
use Rattle.std.specs.Prelude.{slice_index, if◌then◌else◌, Option, Some, None}
use Rattle.byteorder.specs.Endian.{big_number}
use Rattle.linx_base.specs.declared.frame.ConnKind.{ConnKind}
use Rattle.linx_base.specs.declared.frame.ConnKind.TheVariants as kinds
use Rattle.linx_base.specs.declared.frame.Frame.TheVariants as frames
use Rattle.ethcm_headers.specs.declared.packets.Packet.{Packet}
use Rattle.ethcm_headers.specs.declared.packets.Part.{Part}
use Rattle.ethcm_headers.specs.declared.packets.Part.TheVariants as parts
use Rattle.ethcm_headers.specs.declared.chains.Chain.{Chain}
use Rattle.ethcm_headers.specs.declared.chains.Chain.TheVariants.{Conn, Ack, Nack, First, Next}
use Rattle.ethcm_headers.specs.declared.chains.Layout.{Layout}
use Rattle.ethcm_headers.specs.declared.chains.Layout.TheVariants as layouts
use Rattle.ethcm_headers.specs.declared.chains.Headers.{Headers}
use Rattle.ethcm_headers.specs.Headers.{main_header, conn_header, ack_header, nack_header}
use Rattle.ethcm_headers.specs.Headers.{udata_header, frag_header}

-- the number of bytes of a chain's headers, with MAIN
abbrev pub layout_length : Layout → ℕ
layout_length layouts.Conn = 24
layout_length layouts.Ack = 28
layout_length layouts.Nack = 28
layout_length layouts.First = 48
layout_length layouts.Next = 36

-- which headers a chain has
abbrev pub layout_of : Chain → Layout
layout_of (Conn kind) = layouts.Conn
layout_of (Ack next) = layouts.Ack
layout_of (Nack next count) = layouts.Nack
layout_of (First next seq more from to size) = layouts.First
layout_of (Next next seq more) = layouts.Next

-- the bytes that a chain takes
abbrev pub length_of : Chain → ℕ
length_of chain = layout_length (layout_of chain)

-- what a chain and the payload behind it bring
abbrev pub part_with : Chain → List ℕ → Part
part_with (Conn kind) payload = parts.Conn kind
part_with (Ack next) payload = parts.Ack next
part_with (Nack next count) payload = parts.Nack next count
part_with (First next seq more from to size) payload =
    parts.Piece next seq (frames.First more from to size payload)
part_with (Next next seq more) payload = parts.Piece next seq (frames.Next more payload)

-- the packet that has these headers and this payload
abbrev pub packet_with : Headers → List ℕ → Packet
packet_with headers payload =
    record {
      src = record { 0 = headers.src };
      dst = headers.dst;
      part = part_with headers.chain payload;
    }

-- the bytes of the headers in a packet of this length
unfoldable pub chain_bytes : ℕ → ℕ → ℕ → Chain → List ℕ
chain_bytes length src dst (Conn kind) = main_header 2 length src dst ++ conn_header kind
chain_bytes length src dst (Ack next) = main_header 5 length src dst ++ ack_header 0 next
chain_bytes length src dst (Nack next count) =
    main_header 6 length src dst ++ nack_header next count
chain_bytes length src dst (First next seq more from to size) =
    (main_header 5 length src dst ++ ack_header 3 next) ++ udata_header more seq from to size
chain_bytes length src dst (Next next seq more) =
    (main_header 5 length src dst ++ ack_header 4 next) ++ frag_header more seq

-- the bytes of headers: those of their chain, between their sessions
abbrev pub header_bytes : ℕ → Headers → List ℕ
header_bytes length headers = chain_bytes length headers.src headers.dst headers.chain

-- the number of n bytes at a place
unfoldable pub number_at : ℕ → ℕ → List ℕ → ℕ
number_at n place bytes = big_number n (drop place bytes)

-- the kind that has this number in CONN
abbrev pub kind_of : ℕ → Option ConnKind
kind_of number =
    (if number == 1 then Some kinds.Connect
    else if number == 2 then Some kinds.ConnectAck
    else if number == 3 then Some kinds.Ack
    else if number == 4 then Some kinds.Reset
    else None)

-- the chain that the fields at the places of CONN make
abbrev pub conn_of : Option ConnKind → Option Chain
conn_of (Some kind) = Some (Conn kind)
conn_of None = None

-- the chain of these headers that the fields at their places make, nothing else being tested
unfoldable pub fields_at : Layout → List ℕ → Option Chain
fields_at layouts.Conn bytes = conn_of (kind_of (slice_index bytes 21))
fields_at layouts.Ack bytes = Some (Ack (number_at 4 24 bytes))
fields_at layouts.Nack bytes = Some (Nack (number_at 4 24 bytes) (number_at 2 22 bytes))
fields_at layouts.First bytes =
    Some (First (number_at 4 24 bytes) (number_at 4 32 bytes) (slice_index bytes 29 == 1)
    (number_at 4 36 bytes) (number_at 4 40 bytes) (number_at 4 44 bytes))
fields_at layouts.Next bytes =
    Some (Next (number_at 4 24 bytes) (number_at 4 32 bytes) (slice_index bytes 29 == 1))

-- the headers that the types name
unfoldable pub layout_at : List ℕ → Option Layout
layout_at bytes =
    (if slice_index bytes 1 == 2 then Some layouts.Conn
    else if slice_index bytes 1 == 6 then Some layouts.Nack
    else if slice_index bytes 1 == 5 then
    (if slice_index bytes 20 == 0 then Some layouts.Ack
    else if slice_index bytes 20 == 3 then Some layouts.First
    else if slice_index bytes 20 == 4 then Some layouts.Next
    else None)
    else None)

-- the chain, where there are bytes enough
abbrev pub chain_of : Option Layout → List ℕ → Option Chain
chain_of None bytes = None
chain_of (Some layout) bytes =
    (if nat_lt (length bytes) (layout_length layout) then None else fields_at layout bytes)

-- the chain of headers that stands in these bytes, if they are enough for one
abbrev pub chain_at : List ℕ → Option Chain
chain_at bytes = chain_of (layout_at bytes) bytes

-- the headers with the sessions that stand in MAIN
abbrev pub headers_of : List ℕ → Option Chain → Option Headers
headers_of bytes (Some chain) =
    Some (record { src = number_at 8 4 bytes; dst = number_at 8 12 bytes; chain = chain })
headers_of bytes None = None

-- the headers at the front of a packet; none where it has no whole chain of the protocol
unfoldable pub headers_at : List ℕ → Option Headers
headers_at bytes = (if nat_lt (length bytes) 24 then None else headers_of bytes (chain_at bytes))

-- a payload stands behind the headers of pieces alone
abbrev pub StandsBehind : List ℕ → Chain → Type 0
StandsBehind payload (Conn kind) = payload ≡ []
StandsBehind payload (Ack next) = payload ≡ []
StandsBehind payload (Nack next count) = payload ≡ []
StandsBehind payload (First next seq more from to size) = Unit {0}
StandsBehind payload (Next next seq more) = Unit {0}

-- the numbers of a chain fit their fields
abbrev pub FitsChain : Chain → Type 0
FitsChain (Conn kind) = Unit {0}
FitsChain (Ack next) = next < 2 ^ 32
FitsChain (Nack next count) = (next < 2 ^ 32) × (count < 2 ^ 16)
FitsChain (First next seq more from to size) =
    (next < 2 ^ 32) × (seq < 2 ^ 32) × (from < 2 ^ 32) × (to < 2 ^ 32) × (size < 2 ^ 32)
FitsChain (Next next seq more) = (next < 2 ^ 32) × (seq < 2 ^ 32)

-- the numbers of headers fit their fields
abbrev pub FitsHeaders : Headers → Type 0
FitsHeaders headers = (headers.src < 2 ^ 64) × (headers.dst < 2 ^ 64) × FitsChain headers.chain

-- the chain of a packet's part, without its payload
abbrev pub chain_in : Part → Chain
chain_in (parts.Conn kind) = Conn kind
chain_in (parts.Ack next) = Ack next
chain_in (parts.Nack next count) = Nack next count
chain_in (parts.Piece next seq (frames.First more from to size payload)) =
    First next seq more from to size
chain_in (parts.Piece next seq (frames.Next more payload)) = Next next seq more

-- the payload of a packet's part, which pieces alone have
abbrev pub payload_in : Part → List ℕ
payload_in (parts.Conn kind) = []
payload_in (parts.Ack next) = []
payload_in (parts.Nack next count) = []
payload_in (parts.Piece next seq (frames.First more from to size payload)) = payload
payload_in (parts.Piece next seq (frames.Next more payload)) = payload

-- the headers of a packet: its sessions, and the chain of its part
abbrev pub headers_in : Packet → Headers
headers_in packet = record { src = packet.src.0; dst = packet.dst; chain = chain_in packet.part }
