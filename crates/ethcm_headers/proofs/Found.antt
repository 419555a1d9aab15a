-- What the steps of reading tell of the packet whose spelling the bytes are.
use Rattle.std.proofs.Common.{◌≡◌, ℕ, ◌+◌, ◌<◌, ◌≤◌, List, [], ◌++◌, length, take, drop, Some, None}
use Rattle.std.proofs.Common.{slice_range, sym, ap, subst, ◌∙◌, arith, length-append}
use Rattle.std.proofs.Common.{length-take-le, append-nil, length-drop, take-append-drop}
use Rattle.std.proofs.lemmas.List.{append_cancel_left}
use Rattle.std.proofs.Math.Seq.{take-append_seam, take-length}
use Rattle.ethcm_headers.specs.declared.packets.Packet.{Packet}
use Rattle.ethcm_headers.specs.declared.chains.Chain.{Chain}
use Rattle.ethcm_headers.specs.declared.chains.Chain.TheVariants.{Conn, Ack, Nack, First, Next}
use Rattle.ethcm_headers.specs.declared.chains.Headers.{Headers}
use Rattle.ethcm_headers.specs.Packets.{FitsPart, IsWithinBounds, Spells}
use Rattle.ethcm_headers.specs.Chains.{header_bytes, headers_at, part_with, packet_with, payload_in}
use Rattle.ethcm_headers.specs.Chains.{headers_in, FitsChain, FitsHeaders, StandsBehind, length_of}
use Rattle.ethcm_headers.specs.Parted.{StandApart}
use Rattle.ethcm_headers.proofs.Again.{length-chain_bytes, headers_again}
use Rattle.ethcm_headers.proofs.Apart.{spelled_apart, headers_found, short_packet, fits_headers}
use Rattle.ethcm_headers.proofs.Apart.{spelling-part_with, packet_with-apart, stands_behind}

module _ (l : ℕ) (headers : Headers) (fits : FitsHeaders headers) where
  -- headers that were spelled stand apart from what is behind them
  pub spelled_stand_apart : (behind : List ℕ) → StandApart (header_bytes l headers) behind
  spelled_stand_apart behind = λ others read.
      let again = headers_again l headers behind fits in
      let same : headers ≡ others = cc in
      rw (← same) (length-chain_bytes l headers.src headers.dst headers.chain)

  -- and are found again without it
  headers_alone : headers_at (header_bytes l headers) ≡ Some headers
  headers_alone =
      ap headers_at (sym (append-nil (header_bytes l headers))) ∙ headers_again l headers [] fits

-- where bytes are cut behind their headers, those stand apart
pub cut_apart : (bytes : List ℕ) (headers : Headers) → headers_at bytes ≡ Some headers
    → length_of headers.chain ≤ length bytes
    → StandApart (take (length_of headers.chain) bytes)
    (slice_range bytes (length_of headers.chain) (length bytes))
cut_apart bytes headers read within = λ others again.
    let place = length_of headers.chain in
    let rest : slice_range bytes place (length bytes) ≡ drop place bytes =
    ap (λ n. take n (drop place bytes)) (sym (length-drop place bytes))
    ∙ take-length (drop place bytes) in
    let whole : headers_at bytes ≡ Some others =
    ap headers_at (sym (ap (λ l. take place bytes ++ l) rest ∙ take-append-drop place bytes))
    ∙ again in
    let same : headers ≡ others = cc in
    rw (← same) (length-take-le place bytes within)

-- bytes without headers have none in front
pub none_apart : (bytes : List ℕ) → headers_at bytes ≡ None → StandApart [] bytes
none_apart bytes none = λ headers read. absurd (cc)

module _ (packet : Packet) (front behind : List ℕ) (spells : Spells packet (front ++ behind)) where
  -- no packet is longer than the longest
  pub too_long : 8240 < length front + length behind → ⊥
  too_long long =
      omega (
        arith,
        short_packet packet spells.is_packet,
        ap length spells.spelled,
        length-append front behind,
      )

  module _ (apart : StandApart front behind) where
    -- the bytes that stand apart are those of the packet's headers
    front_is : front ≡ header_bytes (length front + length behind) (headers_in packet)
    front_is =
        let headers = header_bytes (length (front ++ behind)) (headers_in packet) in
        let len : length front ≡ length headers =
        apart (headers_in packet) (headers_found packet (front ++ behind) spells)
        ∙ sym (length-chain_bytes (length (front ++ behind)) packet.src.0 packet.dst
        (headers_in packet).chain) in
        let is : front ≡ headers =
        sym (take-append_seam front behind)
        ∙ ap (λ n. take n (front ++ behind)) len
        ∙ ap (take (length headers)) (spelled_apart packet (front ++ behind) spells)
        ∙ take-append_seam headers (payload_in packet.part) in
        is ∙ ap (λ n. header_bytes n (headers_in packet)) (length-append front behind)

    behind_is : behind ≡ payload_in packet.part
    behind_is =
        append_cancel_left front behind (payload_in packet.part)
        (spelled_apart packet (front ++ behind) spells
        ∙ ap (λ n. header_bytes n (headers_in packet) ++ payload_in packet.part)
        (length-append front behind)
        ∙ ap (λ l. l ++ payload_in packet.part) (sym front_is))

    -- the fields of a packet make headers
    headers_front : headers_at front ≡ Some (headers_in packet)
    headers_front =
        ap headers_at front_is
        ∙ headers_alone (length front + length behind) (headers_in packet)
        (fits_headers packet spells.is_packet)

    pub headers_missing : headers_at front ≡ None → ⊥
    headers_missing none =
        let found = headers_front in
        cc

    module _ (headers : Headers) (read : headers_at front ≡ Some headers) where
      the_headers : headers ≡ headers_in packet
      the_headers =
          let found = headers_front in
          cc

      -- a packet begins with its headers, spelled again
      pub spelled_otherwise :
          (header_bytes (length front + length behind) headers ≡ front → ⊥) → ⊥
      spelled_otherwise other = other (rw the_headers (sym front_is))

      -- the packet is what was read
      the_packet : packet_with headers behind ≡ packet
      the_packet = rw (the_headers, behind_is) (packet_with-apart packet)

      -- a packet keeps the bounds
      pub out_of_bounds :
          (IsWithinBounds (packet_with headers behind) × StandsBehind behind headers.chain → ⊥)
          → ⊥
      out_of_bounds out =
          out (
            rw the_packet spells.is_packet.bounds,
            rw (the_headers, behind_is) (stands_behind packet.part),
          )

fits_part : (chain : Chain) (payload : List ℕ) → FitsChain chain
    → FitsPart (part_with chain payload)
fits_part (Conn kind) payload fits = tt
fits_part (Ack next) payload fits = fits
fits_part (Nack next count) payload fits = fits.0
fits_part (First next seq more from to size) payload fits = (fits.0, (fits.2, fits.3))
fits_part (Next next seq more) payload fits = (fits.0, tt)

-- what was read is spelled so
pub is_spelled : (front behind : List ℕ) (headers : Headers) → FitsHeaders headers
    → header_bytes (length front + length behind) headers ≡ front
    → IsWithinBounds (packet_with headers behind) × StandsBehind behind headers.chain
    → Spells (packet_with headers behind) (front ++ behind)
is_spelled front behind headers fits spelled within =
    let len : length front + length behind ≡ length_of headers.chain + length behind =
    omega (
      arith,
      ap length spelled,
      length-chain_bytes (length front + length behind) headers.src headers.dst headers.chain,
    ) in
    record {
      is_packet = record {
        bounds = within.0;
        sender_fits = fits.0;
        receiver_fits = fits.1;
        part_fits = fits_part headers.chain behind fits.2;
      };
      spelled = ap (λ l. l ++ behind) (sym spelled)
          ∙ ap (λ (n : ℕ). header_bytes n headers ++ behind) len
          ∙ sym (spelling-part_with headers.src headers.dst headers.chain behind within.1);
    }

-- no bytes spell two packets
pub unique : (a b : Packet) (bytes : List ℕ) → Spells a bytes → Spells b bytes → a ≡ b
unique a b bytes first second =
    let fits = fits_headers a first.is_packet in
    sym (packet_with-apart a)
    ∙ the_packet b (header_bytes (length bytes) (headers_in a)) (payload_in a.part)
    (subst (Spells b) (spelled_apart a bytes first) second)
    (spelled_stand_apart (length bytes) (headers_in a) fits (payload_in a.part))
    (headers_in a) (headers_alone (length bytes) (headers_in a) fits)
