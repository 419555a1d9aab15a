-- What an event makes of the window of an end, and the packets that it sends.
use Rattle.std.specs.Prelude.{◌≡◌, ℕ, ◌-◌, ◌≤◌, ◌⊎◌, Option, None, Some, List, ◌++◌, slice_get, All}
use Rattle.linx_base.specs.declared.identity.Session.{Session}
use Rattle.linx_base.specs.declared.frame.ConnKind.TheVariants as kinds
use Rattle.linx_base.specs.declared.frame.Frame.{Frame}
use Rattle.linx_base.specs.declared.frame.Message.{Message}
use Rattle.ethcm_headers.specs.declared.packets.Packet.{Packet}
use Rattle.ethcm_headers.specs.declared.packets.Part.{Part}
use Rattle.ethcm_headers.specs.declared.packets.Part.TheVariants.{Conn, Ack, Nack, Piece}
use Rattle.ethcm_window.specs.Sending.{Sender, after_ack, with_frames}
use Rattle.fragmenter.specs.Pieces.{pieces_of}
use Rattle.ethcm_end.specs.States.{EndState, peer_of}
use Rattle.ethcm_end.specs.Rules.{input_of, offer_of, tick_of}
use Rattle.ethcm_end.specs.Rows.{IsBetween}
use Rattle.ethcm_end.specs.Sessions.{GoesDown, IsAnew}

-- ---- the window

-- the number below which a part acknowledges all frames
abbrev pub acknowledged_in : Part → Option ℕ
acknowledged_in (Conn kind) = None
acknowledged_in (Ack next) = Some next
acknowledged_in (Nack next count) = Some next
acknowledged_in (Piece next n frame) = Some next

-- the packet, from the peer's session to this one, acknowledges all frames below a number
pub record Acknowledges (old : EndState) (p : Packet) (new : EndState) : Type 0 where
  pub between : IsBetween old p
  pub next : ℕ
  pub names : acknowledged_in p.part ≡ Some next
  pub window : new.tx ≡ after_ack old.tx next

-- what each event makes of the window: it stays, all begins anew, frames are acknowledged, or the
-- pieces of a message come behind the others
pub record WindowsMove : Type 0 where
  pub input :
      (s : EndState) (p : Packet)
      → ((input_of s p).state.tx ≡ s.tx)
      ⊎ (IsAnew (input_of s p).state ⊎ Acknowledges s p (input_of s p).state)
  pub tick : (s : EndState) → ((tick_of s).state.tx ≡ s.tx) ⊎ IsAnew (tick_of s).state
  pub offer :
      (s : EndState) (m : Message) (peer : Session) → peer_of s ≡ Some peer
      → (offer_of s m).tx ≡ with_frames s.tx (pieces_of m s.piece)
  pub offer_connecting : (s : EndState) (m : Message) → peer_of s ≡ None → offer_of s m ≡ s

-- ---- what goes out

-- the frame of this number stands in the sender's window
abbrev pub HasFrame : Sender → ℕ → Frame → Type 0
HasFrame tx n frame = (tx.base ≤ n) × (slice_get tx.frames (n - tx.base) ≡ Some frame)

-- the number is the expected one of the end before an event, or after it
abbrev pub IsExpected : EndState → EndState → ℕ → Type 0
IsExpected old new next = (next ≡ old.rx.expected) ⊎ (next ≡ new.rx.expected)

-- what a part that an event sends to this session says
abbrev pub PartSays : Sender → EndState → EndState → Session → Part → Type 0
-- CONNECT is sent to the unknown session while connecting, and CONNECT_ACK while connecting
PartSays tx old new to (Conn kinds.Connect) = (peer_of old ≡ None) × (to.0 ≡ 0)
PartSays tx old new to (Conn kinds.ConnectAck) = peer_of old ≡ None
-- ACK is sent to the peer of the end afterwards, and RESET to the one that it had, as it goes down
PartSays tx old new to (Conn kinds.Ack) = peer_of new ≡ Some to
PartSays tx old new to (Conn kinds.Reset) = (peer_of old ≡ Some to) × GoesDown old new
-- an ACK or a NACK of frames to the peer names the expected number
PartSays tx old new to (Ack next) = (peer_of old ≡ Some to) × IsExpected old new next
PartSays tx old new to (Nack next count) = (peer_of old ≡ Some to) × IsExpected old new next
-- a piece to the peer names it too, and is the frame of its number
PartSays tx old new to (Piece next n frame) =
    (peer_of old ≡ Some to) × (IsExpected old new next × HasFrame tx n frame)

-- the event sends the packet from the end's session to this one; a piece is a frame of this sender
pub record IsSent (tx : Sender) (old new : EndState) (to : Session) (p : Packet) : Type 0 where
  pub src : p.src ≡ old.talk.mine
  pub dst : p.dst ≡ to.0
  pub says : PartSays tx old new to p.part

-- the packets that an event adds to those that are still to go out
pub record SendsPackets (tx : Sender) (old new : EndState) (to : Session) : Type 0 where
  pub packets : List Packet
  pub added : new.out ≡ old.out ++ packets
  pub sent : All (IsSent tx old new to) packets

-- the session that an end sends to of its own accord: its peer, and the unknown one while
-- connecting
abbrev pub peer_or_unknown : Option Session → Session
peer_or_unknown None = record { 0 = 0 }
peer_or_unknown (Some peer) = peer

-- What each event sends. A packet is answered to the session that it came from. A piece is a frame
-- of the window before the event, or after an offer.
pub record PacketsNameSessions : Type 0 where
  pub input : (s : EndState) (p : Packet) → SendsPackets s.tx s (input_of s p).state p.src
  pub tick : (s : EndState) → SendsPackets s.tx s (tick_of s).state (peer_or_unknown (peer_of s))
  pub offer :
      (s : EndState) (m : Message)
      → SendsPackets (offer_of s m).tx s (offer_of s m) (peer_or_unknown (peer_of s))
