-- The functions of an end computed on worked rows.
use Rattle.std.proofs.Common.{◌≡◌, ℕ, Bool, true, false, List, [], ◌∷◌, map, refl}
use Rattle.linx_base.specs.Numbers.{first_session, session_of}
use Rattle.linx_base.specs.declared.identity.Session.{Session}
use Rattle.linx_base.specs.declared.frame.ConnKind.TheVariants as kinds
use Rattle.linx_base.specs.declared.frame.Frame.{Frame}
use Rattle.linx_base.specs.declared.frame.Frame.TheVariants.{First, Next}
use Rattle.ethcm_headers.specs.declared.packets.Packet.{Packet}
use Rattle.ethcm_headers.specs.declared.packets.Part.{Part}
use Rattle.ethcm_headers.specs.declared.packets.Part.TheVariants.{Conn, Ack, Nack, Piece}
use Rattle.ethcm_session.specs.declared.standing.Standing.TheVariants.{Connecting, Up}
use Rattle.ethcm_window.specs.Sending.{numbered_from}
use Rattle.ethcm_end.specs.declared.answers.Input.{Input}
use Rattle.ethcm_end.specs.declared.answers.Input.TheVariants.{Got}
use Rattle.ethcm_end.specs.declared.answers.Ticked.TheVariants as ticks
use Rattle.ethcm_end.specs.States.{EndState, new_end}
use Rattle.ethcm_end.specs.Rules.{data_in, input_of, take_kept, tick_of}

-- the end has session 1.1 and its peer 1.1; the window has two frames
abbrev mine : Session
mine = first_session 1

abbrev up_end : EndState
up_end = record (new_end 1 2 64) { talk = record { mine = mine; standing = Up mine true } }

abbrev arriving : Part → Packet
arriving part = record { src = mine; dst = mine.0; part = part }

-- what goes out, without the sessions
abbrev parts_of : EndState → List Part
parts_of s = map (λ (p : Packet). p.part) s.out

-- these packets come, one after the other
after_all : EndState → List Part → EndState
after_all s [] = s
after_all s (part ∷ parts) = after_all (input_of s (arriving part)).state parts

abbrev answer_after : EndState → List Part → Part → Input
answer_after s parts part = (input_of (after_all s parts) (arriving part)).answer

-- the frames of a message of four bytes
abbrev first : Frame
first = First true 7 9 4 (10 ∷ [])

abbrev next : Bool → ℕ → Frame
next more byte = Next more (byte ∷ [])

-- frame 1 is missing: one NACK, and then the message at once
abbrev gap : List Part
gap = Piece 0 0 first ∷ Piece 0 2 (next true 12) ∷ Piece 0 3 (next false 13) ∷ []

gap_asked : parts_of (after_all up_end gap) ≡ Ack 1 ∷ Nack 1 1 ∷ []
unfolding after_all input_of data_in take_kept numbered_from
gap_asked = refl

gap_closed : answer_after up_end gap (Piece 0 1 (next true 11))
    ≡ Got (record { from = 7; to = 9; body = 10 ∷ 11 ∷ 12 ∷ 13 ∷ [] })
unfolding after_all input_of data_in take_kept numbered_from
gap_closed = refl

gap_expected :
    (input_of (after_all up_end gap) (arriving (Piece 0 1 (next true 11)))).state.rx.expected ≡ 4
unfolding after_all input_of data_in take_kept numbered_from
gap_expected = refl

-- three frames are there, and two of them were sent
abbrev sending : EndState
sending =
    record up_end {
      tx = record up_end.tx { frames = first ∷ next true 11 ∷ next true 12 ∷ [] };
    }

-- a NACK first moves the window
nack_moves : parts_of (after_all sending (Nack 1 1 ∷ []))
    ≡ Piece 0 2 (next true 12) ∷ Piece 0 1 (next true 11) ∷ []
unfolding after_all input_of data_in take_kept numbered_from
nack_moves = refl

-- an ACK beyond what was sent changes nothing
ack_beyond : after_all sending (Ack 3 ∷ []) ≡ sending
unfolding after_all input_of data_in take_kept numbered_from
ack_beyond = refl

-- a tick sends again what was sent
tick_again : parts_of (tick_of sending).state ≡ Piece 0 0 first ∷ Piece 0 1 (next true 11) ∷ []
unfolding tick_of numbered_from
tick_again = refl

-- the third tick loses the link
tick_lost : tick_of (record up_end { ticks = 2 })
    ≡ record {
      state = record (new_end 1 2 64) {
        talk = record { mine = session_of 1 2; standing = Connecting };
        out = arriving (Conn kinds.Reset) ∷ [];
      };
      answer = ticks.WentDown;
    }
unfolding tick_of numbered_from
tick_lost = refl

-- a broken frame ends the session, and what was kept and had begun is gone
broken : after_all up_end (Piece 0 2 (next false 13) ∷ Piece 0 0 (next false 10) ∷ [])
    ≡ record (new_end 1 2 64) {
      talk = record { mine = session_of 1 2; standing = Connecting };
      out = arriving (Nack 0 2) ∷ [];
    }
unfolding after_all input_of data_in take_kept numbered_from
broken = refl
