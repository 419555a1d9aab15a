-- The numbers of a session are those of the frames of what was offered in it.
use Rattle.std.proofs.Common.{◌≡◌, ◌≤◌, ◌+◌, ◌*◌, ℕ, List, [], ◌∷◌, length, arith, sym, ap, subst}
use Rattle.std.proofs.Common.{All, length-append, length-drop}
use Rattle.std.proofs.lemmas.List.Elements.{All-head, All-tail}
use Rattle.linx_base.specs.Frames.{IsMessage}
use Rattle.linx_base.specs.declared.frame.Frame.{Frame}
use Rattle.linx_base.specs.declared.frame.Message.{Message}
use Rattle.linx_base.specs.declared.identity.Side.TheVariants.{First, Second}
use Rattle.fragmenter.specs.Pieces.{pieces_of}
use Rattle.fragmenter.specs.Streams.{frames_of}
use Rattle.fragmenter.proofs.Cuts.{few_pieces}
use Rattle.ethcm_headers.specs.declared.packets.Packet.{Packet}
use Rattle.ethcm_window.specs.Sending.{Sender}
use Rattle.carrier.specs.Records.{HalfState}
use Rattle.carrier.specs.Keeping.{HoldsRest, KeepsHalf}
use Rattle.run_numbers.specs.Laws.{FramesAreNumbered, frames_offered, numbers_given}

-- a message has at most 1,024 frames
few_frames : (piece : ℕ) → 64 ≤ piece → (ms : List Message) → All IsMessage ms
    → length (frames_of piece ms) ≤ length ms * 1024
few_frames piece sized [] all = omega arith
few_frames piece sized (m ∷ ms) all =
    omega (
      arith,
      few_pieces m piece sized (All-head IsMessage m ms all),
      few_frames piece sized ms (All-tail IsMessage m ms all),
      length-append (pieces_of m piece) (frames_of piece ms),
    )

-- a sender that has these frames from its base on has numbered them all
all_numbered : (all : List Frame) (tx : Sender) → HoldsRest all tx
    → tx.base + length tx.frames ≡ length all
all_numbered all tx holds =
    omega (arith, holds.0, ap (λ (fs : List Frame). length fs) holds.1, length-drop tx.base all)

module _ (piece : ℕ) (near other : HalfState) (there : List Packet)
    (kept : KeepsHalf piece near other there) where
  near_numbered : numbers_given near ≡ length (frames_offered near)
  near_numbered =
      subst (λ p. numbers_given near ≡ length (frames_of p near.offered)) (sym kept.cut)
      (all_numbered (frames_of piece near.offered) near.end.tx kept.sends)

  near_few : 64 ≤ piece
      → length (frames_offered near) ≤ length near.offered * 1024
  near_few sized =
      few_frames near.end.piece (omega (arith, sized, kept.cut)) near.offered kept.book.messages

pub frames_are_numbered : FramesAreNumbered
frames_are_numbered First v kept = record {
  each = near_numbered kept.piece v.first v.second v.there kept.near;
  few = near_few kept.piece v.first v.second v.there kept.near kept.sized;
}
frames_are_numbered Second v kept = record {
  each = near_numbered kept.piece v.second v.first v.back kept.far;
  few = near_few kept.piece v.second v.first v.back kept.far kept.sized;
}
