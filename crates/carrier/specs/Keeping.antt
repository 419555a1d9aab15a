-- What holds of the two sides of a link and of the packets in flight between them, whatever
-- happened. Each definition speaks of a side, the near one, against what the other side has
-- recorded.
use Rattle.std.specs.Prelude.{◌≡◌, ℕ, ◌<◌, ◌≤◌, true, false, Option, None, Some, List, [], ◌∷◌}
use Rattle.std.specs.Prelude.{length, take, drop, slice_get, All}
use Rattle.std.specs.Option.{ForSome}
use Rattle.linx_base.specs.Fronts.{IsFront}
use Rattle.linx_base.specs.declared.identity.Session.{Session}
use Rattle.linx_base.specs.declared.frame.ConnKind.TheVariants as kinds
use Rattle.linx_base.specs.declared.frame.Frame.{Frame}
use Rattle.linx_base.specs.declared.frame.Message.{Message}
use Rattle.linx_base.specs.declared.frame.SentFrame.{SentFrame}
use Rattle.linx_base.specs.Frames.{IsMessage}
use Rattle.ethcm_headers.specs.declared.packets.Packet.{Packet}
use Rattle.ethcm_headers.specs.declared.packets.Part.{Part}
use Rattle.ethcm_headers.specs.declared.packets.Part.TheVariants.{Conn, Ack, Nack, Piece}
use Rattle.ethcm_session.specs.Table.{is_confirmed_in}
use Rattle.ethcm_window.specs.Sending.{Sender, sent_end}
use Rattle.ethcm_window.specs.Receiving.{Receiver}
use Rattle.fragmenter.specs.Joining.{Begun, answers_to, held_after_all}
use Rattle.fragmenter.specs.Streams.{frames_of, wholes}
use Rattle.ethcm_end.specs.States.{EndState, peer_of}
use Rattle.ethcm_end.specs.Taking.{AreFrames}
use Rattle.carrier.specs.Records.{Entry, HalfState, entries, has_session, is_pair, mine_of}
use Rattle.carrier.specs.Records.{offered_at, source}
use Rattle.carrier.specs.Events.{LinkState}

-- ---- the sessions of a side

-- the numbers of these sessions, newest first, fall from below n on
abbrev pub FallsBelow : ℕ → List Entry → Type 0
FallsBelow n [] = Unit {0}
FallsBelow n (e ∷ es) = (e.number.0 < n) × FallsBelow e.number.0 es

-- no peer of these sessions is above n
abbrev pub PeersUpTo : ℕ → List Entry → Type 0
PeersUpTo n [] = Unit {0}
PeersUpTo n (e ∷ es) = ForSome e.peer (λ y. y.0 ≤ n) × PeersUpTo n es

-- from the oldest to the newest of these sessions the peers don't go back
abbrev pub PeersRise : List Entry → Type 0
PeersRise [] = Unit {0}
PeersRise (e ∷ es) = ForSome e.peer (λ y. PeersUpTo y.0 es) × PeersRise es

-- each peer of these sessions is a session of the other side
abbrev pub PeersHeld : List Entry → List Entry → Type 0
PeersHeld others [] = Unit {0}
PeersHeld others (e ∷ es) =
    ForSome e.peer (λ y. has_session y.0 others ≡ true) × PeersHeld others es

-- what was handed up in each of these sessions is a front of what was offered to it
abbrev pub HandedFronts : List Entry → List Entry → Type 0
HandedFronts others [] = Unit {0}
HandedFronts others (e ∷ es) =
    IsFront e.handed (source others e.number.0 e.peer) × HandedFronts others es

-- what was offered in each of these sessions are messages
abbrev pub OfferedMessages : List Entry → Type 0
OfferedMessages [] = Unit {0}
OfferedMessages (e ∷ es) = All IsMessage e.offered × OfferedMessages es

-- the sessions of a side, the last of which has number `mine`, against those of the other side
pub record KeepsSessions (mine : ℕ) (peer : Option Session) (offered : List Message)
    (past others : List Entry) : Type 0 where
  pub known : 0 < mine
  pub falls : FallsBelow mine past
  -- the peers are sessions of the other side, and don't go back
  pub peer_held : ForSome peer (λ y. has_session y.0 others ≡ true)
  pub past_held : PeersHeld others past
  pub peer_rises : ForSome peer (λ y. PeersUpTo y.0 past)
  pub past_rises : PeersRise past
  -- what was offered are messages, and nothing before there was a peer
  pub messages : All IsMessage offered
  pub past_messages : OfferedMessages past
  pub unpaired : peer ≡ None → offered ≡ []
  -- what was handed up in ended sessions
  pub handed : HandedFronts others past

-- ---- the frames of a session

-- the sender has these frames from its base on
abbrev pub HoldsRest : List Frame → Sender → Type 0
HoldsRest all tx = (tx.base ≤ length all) × (tx.frames ≡ drop tx.base all)

-- what was taken are the first frames of what was offered to this session, up to the expected
-- number: the messages that they make whole were handed up, the joiner holds the rest, and each
-- frame that is kept is that of its number
pub record Receives (piece : ℕ) (source handed : List Message) (rx : Receiver)
    (held : Option Begun) : Type 0 where
  pub within : rx.expected ≤ length (frames_of piece source)
  pub handed_up : handed ≡ wholes (answers_to None (take rx.expected (frames_of piece source)))
  pub holds : held ≡ held_after_all None (take rx.expected (frames_of piece source))
  pub kept : AreFrames (slice_get (frames_of piece source)) rx.kept

-- the numbers of kept frames are below n
abbrev pub KeptBelow : ℕ → List SentFrame → Type 0
KeptBelow n kept = All (λ s. s.number < n) kept

-- what was taken and kept of a session was sent in it
pub record WasSent (rx : Receiver) (tx : Sender) : Type 0 where
  pub taken : rx.expected ≤ sent_end tx
  pub kept : KeptBelow (sent_end tx) rx.kept

-- how a side in this session stands to the other side, to which it is bound
pub record Bound (mine : ℕ) (peer : Option Session) (end : EndState) (other : HalfState)
    : Type 0 where
  -- no more is acknowledged than the other side's session has taken
  pub base_taken : ForSome peer (λ y. y.0 ≡ mine_of other → end.tx.base ≤ other.end.rx.expected)
  -- nothing is acknowledged where the peer doesn't have this session as its peer
  pub base_none :
      ForSome peer (λ y. is_pair mine y.0 (entries other) ≡ false → end.tx.base ≡ 0)
  -- the peer of a confirmed session has it as its peer
  pub confirmed : ForSome peer (λ y. is_confirmed_in end.talk.standing ≡ true
      → is_pair mine y.0 (entries other) ≡ true)
  -- what was taken and kept of the other side's session was sent in it
  pub was_sent : ForSome peer (λ y. y.0 ≡ mine_of other → WasSent end.rx other.end.tx)

-- ---- the packets in flight

-- a packet in flight from this session of the near side acknowledges no more than was taken
abbrev pub AcksTaken : HalfState → ℕ → ℕ → Type 0
AcksTaken near src next = src ≡ mine_of near → next ≤ near.end.rx.expected

-- what a packet in flight from session src of the near side to session dst says
abbrev pub IsSaid : ℕ → HalfState → ℕ → ℕ → Part → Type 0
IsSaid piece near src dst (Conn kinds.Connect) = dst ≡ 0
IsSaid piece near src dst (Conn kinds.ConnectAck) = Unit {0}
-- what else is sent is sent to the peer
IsSaid piece near src dst (Conn kinds.Ack) = is_pair dst src (entries near) ≡ true
-- RESET is sent by a session that has ended
IsSaid piece near src dst (Conn kinds.Reset) =
    (is_pair dst src (entries near) ≡ true) × (src < mine_of near)
IsSaid piece near src dst (Ack next) =
    (is_pair dst src (entries near) ≡ true) × AcksTaken near src next
IsSaid piece near src dst (Nack next count) =
    (is_pair dst src (entries near) ≡ true) × AcksTaken near src next
-- a piece is the frame of its number in its session, and was sent
IsSaid piece near src dst (Piece next n frame) =
    (is_pair dst src (entries near) ≡ true) × AcksTaken near src next
    × (slice_get (frames_of piece (offered_at src (entries near))) n ≡ Some frame)
    × (src ≡ mine_of near → n < sent_end near.end.tx)

-- a packet in flight from the near side to the other
pub record IsFlying (piece : ℕ) (near other : HalfState) (p : Packet) : Type 0 where
  -- it was put in a session of its sender
  pub from : has_session p.src.0 (entries near) ≡ true
  -- it is to no later session than the receiver's
  pub to : p.dst ≤ mine_of other
  -- where it is to the receiver's session, no earlier session of the receiver had a later peer
  pub latest : p.dst ≡ mine_of other → PeersUpTo p.src.0 other.past
  pub says : IsSaid piece near p.src.0 p.dst p.part

-- ---- both sides

-- the near side, and the packets in flight from it, where pieces have this size
pub record KeepsHalf (piece : ℕ) (near other : HalfState) (there : List Packet) : Type 0 where
  pub book : KeepsSessions (mine_of near) (peer_of near.end) near.offered near.past (entries other)
  pub cut : near.end.piece ≡ piece
  pub window : 1 ≤ near.end.tx.window
  pub sends : HoldsRest (frames_of piece near.offered) near.end.tx
  pub receives :
      Receives piece (source (entries other) (mine_of near) (peer_of near.end)) near.handed
      near.end.rx near.end.held
  pub bound : Bound (mine_of near) (peer_of near.end) near.end other
  -- all that the end sent went out
  pub out : near.end.out ≡ []
  pub packets : All (IsFlying piece near other) there

-- both sides of a link, and the packets in flight in both directions
pub record KeepsLink (v : LinkState) : Type 0 where
  pub piece : ℕ
  pub sized : 64 ≤ piece
  pub near : KeepsHalf piece v.first v.second v.there
  pub far : KeepsHalf piece v.second v.first v.back
