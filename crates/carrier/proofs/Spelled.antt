-- The packets that bytes spell.
use Rattle.std.proofs.Common.{◌≡◌, ℕ, List, [], ◌∷◌, ◌++◌, All, length, map, take, drop, refl, sym}
use Rattle.std.proofs.Common.{ap, ◌∙◌, subst, Result, Ok, Err, drop_at, OnErr, OnOk}
use Rattle.std.proofs.lemmas.List.{take-map, length-map}
use Rattle.std.proofs.lemmas.List.Elements.{All-head, All-push, All-tail}
use Rattle.linx_base.specs.Both.{Both}
use Rattle.ethcm_headers.specs.declared.packets.Packet.{Packet}
use Rattle.ethcm_headers.specs.Packets.{IsPacket, Spells, spelling_of}
use Rattle.ethcm_headers.specs.Chains.{headers_in, header_bytes, length_of, payload_in}
use Rattle.ethcm_headers.proofs.Again.{length-chain_bytes}
use Rattle.ethcm_headers.proofs.Apart.{headers_found, packet_with-apart, spelled_apart}
use Rattle.lossy_wire.specs.Flight.{HasOnlyGrown}
use Rattle.carrier.specs.Spelling.{IsSpelled, packet_at}

-- behind its headers a packet has its payload
payload_behind : (p : Packet) (bytes : List ℕ) → Spells p bytes
    → drop (length_of (headers_in p).chain) bytes ≡ payload_in p.part
payload_behind p bytes spells =
    ap (λ l. drop (length_of (headers_in p).chain) l) (spelled_apart p bytes spells)
    ∙ drop_at (header_bytes (length bytes) (headers_in p)) (payload_in p.part)
    (length_of (headers_in p).chain)
    (length-chain_bytes (length bytes) p.src.0 p.dst (headers_in p).chain)

-- the packet that bytes spell is the one at them
pub packet_there : (p : Packet) (bytes : List ℕ) → Spells p bytes → packet_at bytes ≡ p
unfolding packet_at
packet_there p bytes spells =
    rw (headers_found p bytes spells, payload_behind p bytes spells) (packet_with-apart p)

-- so it is spelled by them
pub spelled_there : (p : Packet) (bytes : List ℕ) → Spells p bytes → IsSpelled bytes
spelled_there p bytes spells =
    subst (λ q. Spells q bytes) (sym (packet_there p bytes spells)) spells

-- the spelling of a packet is spelled
pub spells_itself : (p : Packet) (bytes : List ℕ) → IsPacket p → bytes ≡ spelling_of p
    → Spells p bytes
spells_itself p bytes is e = record { is_packet = is; spelled = e }

-- bytes are the spelling of their packet
pub spelled_back : (packets : List (List ℕ)) → All IsSpelled packets
    → map spelling_of (map packet_at packets) ≡ packets
spelled_back [] all = refl
spelled_back (bytes ∷ packets) all =
    let first = All-head IsSpelled bytes packets all in
    let rest = spelled_back packets (All-tail IsSpelled bytes packets all) in
    ap (λ b. b ∷ map spelling_of (map packet_at packets)) (sym first.spelled)
    ∙ ap (λ l. bytes ∷ l) rest

-- where packets were put alone, bytes were put alone
pub bytes_grown : (was is : List (List ℕ)) → All IsSpelled was → All IsSpelled is
    → HasOnlyGrown (record { was = map packet_at was; is = map packet_at is })
    → take (length was) is ≡ was
bytes_grown was is all_was all_is grown =
    let front : take (length was) (map packet_at is) ≡ map packet_at was =
    ap (λ n. take n (map packet_at is)) (sym (length-map was packet_at)) ∙ grown in
    ap (λ l. take (length was) l) (sym (spelled_back is all_is))
    ∙ take-map spelling_of (length was) (map packet_at is)
    ∙ ap (map spelling_of) front
    ∙ spelled_back was all_was

-- with one more packet, or as they were, all are spelled
pub put_spelled : {A E : Type 0} (result : Result A E) (old new : Both (List (List ℕ)))
    (bytes : List ℕ) → All IsSpelled old.is → IsSpelled bytes
    → OnOk result (new.is ≡ old.is ++ bytes ∷ []) → OnErr result (new ≡ old)
    → All IsSpelled new.is
put_spelled (Ok x) old new bytes all is ok err =
    subst (All IsSpelled) (sym ok)
    (All-push IsSpelled old.is bytes all is)
put_spelled (Err x) old new bytes all is ok err =
    subst (λ (b : Both (List (List ℕ))). All IsSpelled b.is) (sym err) all
