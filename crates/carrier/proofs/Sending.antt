-- What an end sends goes into flight, packet by packet.
use Rattle.std.proofs.Common.{◌≡◌, ◌<◌, ℕ, Some, None, List, [], ◌∷◌, ◌++◌, length, drop, refl, sym}
use Rattle.std.proofs.Common.{ap, ◌∙◌, append_assoc, arith, option_map, slice_get}
use Rattle.std.specs.Option.{ForSome}
use Rattle.std.proofs.lemmas.Option.{same_Some}
use Rattle.ethcm_headers.specs.declared.packets.Packet.{Packet}
use Rattle.ethcm_headers.specs.Packets.{IsPacket, spelling_of}
use Rattle.carrier.specs.Spelling.{IsSpelled, packet_at}
use Rattle.carrier.proofs.Spelled.{packet_there, spelled_there, spells_itself}

-- the first of these packets went out as these bytes
pub record WentOut (out : List Packet) (bytes : List ℕ) : Type 0 where
  pub spelled : IsSpelled bytes
  pub first : out ≡ packet_at bytes ∷ drop 1 out
  pub fewer : length (drop 1 out) < length out

pub went_out : (out : List Packet) (bytes : List ℕ) → ForSome (slice_get out 0) IsPacket
    → Some bytes ≡ option_map spelling_of (slice_get out 0) → WentOut out bytes
went_out [] bytes packet e = absurd cc
went_out (p ∷ ps) bytes packet e =
    let spells = spells_itself p bytes (packet p refl) (same_Some _ _ e) in
    record {
      spelled = spelled_there p bytes spells;
      first = ap (λ q. q ∷ ps) (sym (packet_there p bytes spells));
      fewer = omega arith;
    }

-- then what is in flight and what is still to go out are as before
pub goes_on : (flight out : List Packet) (bytes : List ℕ) → WentOut out bytes
    → (flight ++ packet_at bytes ∷ []) ++ drop 1 out ≡ flight ++ out
goes_on flight out bytes w =
    append_assoc flight (packet_at bytes ∷ []) (drop 1 out) ∙ ap (λ l. flight ++ l) (sym w.first)

-- nothing is left to go out
pub none_left : (out : List Packet) → None ≡ option_map spelling_of (slice_get out 0) → out ≡ []
none_left [] e = refl
none_left (p ∷ ps) e = absurd cc
