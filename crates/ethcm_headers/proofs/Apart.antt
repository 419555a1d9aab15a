-- A packet is its headers and the payload behind them.
use Rattle.std.proofs.Common.{◌≡◌, ℕ, ◌+◌, ◌≤◌, List, ◌++◌, length, Some, refl, sym, ap, ◌∙◌}
use Rattle.std.proofs.Common.{append_assoc, arith, length-append, append-nil}
use Rattle.linx_base.specs.declared.frame.Frame.TheVariants as frames
use Rattle.ethcm_headers.specs.declared.packets.Packet.{Packet}
use Rattle.ethcm_headers.specs.declared.packets.Part.{Part}
use Rattle.ethcm_headers.specs.declared.packets.Part.TheVariants as parts
use Rattle.ethcm_headers.specs.declared.chains.Chain.{Chain}
use Rattle.ethcm_headers.specs.declared.chains.Chain.TheVariants.{Conn, Ack, Nack, First, Next}
use Rattle.ethcm_headers.specs.Headers.{main_header, conn_header, ack_header, nack_header}
use Rattle.ethcm_headers.specs.Packets.{spelling_between, spelling_of, IsPart, FitsPart, IsPacket}
use Rattle.ethcm_headers.specs.Packets.{Spells}
use Rattle.ethcm_headers.specs.Chains.{chain_bytes, header_bytes, part_with, packet_with, chain_in}
use Rattle.ethcm_headers.specs.Chains.{payload_in, headers_in, length_of, FitsChain, FitsHeaders}
use Rattle.ethcm_headers.specs.Chains.{StandsBehind, headers_at}
use Rattle.ethcm_headers.proofs.Again.{length-chain_bytes, headers_again}

-- the spelling of what is put together
pub spelling-part_with : (src dst : ℕ) (chain : Chain) (payload : List ℕ)
    → StandsBehind payload chain
    → spelling_between src dst (part_with chain payload)
    ≡ chain_bytes (length_of chain + length payload) src dst chain ++ payload
unfolding spelling_between chain_bytes
spelling-part_with src dst (Conn kind) payload empty =
    rw empty (sym (append-nil (main_header 2 24 src dst ++ conn_header kind)))
spelling-part_with src dst (Ack next) payload empty =
    rw empty (sym (append-nil (main_header 5 28 src dst ++ ack_header 0 next)))
spelling-part_with src dst (Nack next count) payload empty =
    rw empty (sym (append-nil (main_header 6 28 src dst ++ nack_header next count)))
spelling-part_with src dst (First next seq more from to size) payload behind =
    simp append_assoc refl
spelling-part_with src dst (Next next seq more) payload behind = simp append_assoc refl

-- taking apart and putting together
pub part_with-apart : (part : Part) → part_with (chain_in part) (payload_in part) ≡ part
part_with-apart (parts.Piece next seq (frames.Next more payload)) = refl
part_with-apart _ = refl

pub stands_behind : (part : Part) → StandsBehind (payload_in part) (chain_in part)
stands_behind (parts.Conn kind) = refl
stands_behind (parts.Ack next) = refl
stands_behind (parts.Nack next count) = refl
stands_behind (parts.Piece next seq (frames.First more from to size payload)) = tt
stands_behind (parts.Piece next seq (frames.Next more payload)) = tt

pub packet_with-apart : (packet : Packet)
    → packet_with (headers_in packet) (payload_in packet.part) ≡ packet
packet_with-apart packet =
    ap (λ (part : Part). record { src = packet.src; dst = packet.dst; part = part })
    (part_with-apart packet.part)

pub spelling_apart : (packet : Packet)
    → spelling_of packet ≡ header_bytes
    (length_of (chain_in packet.part) + length (payload_in packet.part)) (headers_in packet)
    ++ payload_in packet.part
spelling_apart packet =
    ap (spelling_between packet.src.0 packet.dst) (sym (part_with-apart packet.part))
    ∙ spelling-part_with packet.src.0 packet.dst (chain_in packet.part) (payload_in packet.part)
    (stands_behind packet.part)

pub length-spelling : (packet : Packet)
    → length (spelling_of packet)
    ≡ length_of (chain_in packet.part) + length (payload_in packet.part)
length-spelling packet =
    ap length (spelling_apart packet)
    ∙ length-append (header_bytes
    (length_of (chain_in packet.part) + length (payload_in packet.part)) (headers_in packet))
    (payload_in packet.part)
    ∙ ap (λ (n : ℕ). n + length (payload_in packet.part))
    (length-chain_bytes _ packet.src.0 packet.dst (chain_in packet.part))

-- the numbers of a packet's headers fit
fits_chain : (part : Part) → IsPart part → FitsPart part → FitsChain (chain_in part)
fits_chain (parts.Conn kind) bounds fits = tt
fits_chain (parts.Ack next) bounds fits = fits
fits_chain (parts.Nack next count) bounds fits = (fits, omega arith)
fits_chain (parts.Piece next seq (frames.First more from to size payload)) bounds fits =
    (fits.0, omega arith, fits.1.0, fits.1.1, omega arith)
fits_chain (parts.Piece next seq (frames.Next more payload)) bounds fits = (fits.0, omega arith)

pub fits_headers : (packet : Packet) → IsPacket packet → FitsHeaders (headers_in packet)
fits_headers packet is =
    (is.sender_fits, is.receiver_fits, fits_chain packet.part is.bounds.part is.part_fits)

short_chain : (part : Part) → IsPart part
    → length_of (chain_in part) + length (payload_in part) ≤ 8240
short_chain (parts.Piece next seq (frames.Next more payload)) bounds = omega arith
short_chain _ bounds = omega arith

-- a packet has at most 8,240 bytes
pub short_packet : (packet : Packet) → IsPacket packet → length (spelling_of packet) ≤ 8240
short_packet packet is =
    omega (arith, length-spelling packet, short_chain packet.part is.bounds.part)

-- what the bytes of a packet begin with
pub spelled_apart : (packet : Packet) (bytes : List ℕ) → Spells packet bytes
    → bytes ≡ header_bytes (length bytes) (headers_in packet) ++ payload_in packet.part
spelled_apart packet bytes spells =
    let len : length bytes ≡ length_of (chain_in packet.part) + length (payload_in packet.part) =
    ap length spells.spelled ∙ length-spelling packet in
    rw len (spells.spelled ∙ spelling_apart packet)

-- the headers that are read are the packet's
pub headers_found : (packet : Packet) (bytes : List ℕ) → Spells packet bytes
    → headers_at bytes ≡ Some (headers_in packet)
headers_found packet bytes spells =
    ap headers_at (spelled_apart packet bytes spells)
    ∙ headers_again (length bytes) (headers_in packet) (payload_in packet.part)
    (fits_headers packet spells.is_packet)
