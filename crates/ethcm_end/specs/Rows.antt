-- The rules of an end, one field a rule.
use Rattle.std.specs.Prelude.{◌≡◌, ◌≢◌, ℕ, ◌+◌, ◌<◌, ◌≤◌, Bool, true, false, None, Some, []}
use Rattle.linx_base.specs.declared.identity.Session.{Session}
use Rattle.linx_base.specs.declared.frame.ConnKind.TheVariants as kinds
use Rattle.linx_base.specs.declared.frame.Frame.{Frame}
use Rattle.linx_base.specs.declared.frame.Message.{Message}
use Rattle.ethcm_headers.specs.declared.packets.Packet.{Packet}
use Rattle.ethcm_headers.specs.declared.packets.Part.TheVariants.{Conn, Ack, Nack, Piece}
use Rattle.ethcm_session.specs.Table.{up_with}
use Rattle.ethcm_window.specs.Sending.{Sender, coming_in, sent_frame, unacknowledged, with_frames}
use Rattle.ethcm_window.specs.Receiving.{missing_count}
use Rattle.fragmenter.specs.declared.joiner.Joined.TheVariants.{More, Whole, Broken}
use Rattle.fragmenter.specs.Pieces.{pieces_of}
use Rattle.ethcm_session.specs.Loss.{lost_at}
use Rattle.ethcm_end.specs.declared.answers.Input.{Input}
use Rattle.ethcm_end.specs.declared.answers.Input.TheVariants.{Nothing, WentUp, WentDown, Got}
use Rattle.ethcm_end.specs.declared.answers.Ticked.{Ticked}
use Rattle.ethcm_end.specs.declared.answers.Ticked.TheVariants as ticks
use Rattle.ethcm_end.specs.States.{EndState, Reaction, gives, peer_of}
use Rattle.ethcm_end.specs.Rules.{acked, anew, connect, gone_down, heard, input_of, lost, nacked}
use Rattle.ethcm_end.specs.Rules.{offer_of, put, put_ack, put_pieces, replied, take_frames, tick_of}
use Rattle.ethcm_end.specs.Rules.{ticked, with_early, with_taken}

-- the end is up with this session, which has confirmed it or not
abbrev pub up : EndState → Session → Bool → EndState
up s peer confirmed = record s { talk = up_with s.talk peer confirmed }

-- the packet is from the peer's session to this one
pub record IsBetween (s : EndState) (p : Packet) : Type 0 where
  pub from : peer_of s ≡ Some p.src
  pub to : p.dst ≡ s.talk.mine.0

-- the end was heard and confirmed by data, and those of its frames are gone that its peer has taken
abbrev pub after_header : EndState → Session → ℕ → EndState
after_header s peer next = acked (heard (up s peer true)) peer next

-- The rules for a packet, one field a rule: P holds of what the packet makes of the end.
pub record PacketRules (P : Reaction Input → Type 0) (s : EndState) (p : Packet) : Type 0 where
  -- connecting, and a CONNECT: CONNECT_ACK is replied
  pub connecting_connect :
      peer_of s ≡ None → p.part ≡ Conn kinds.Connect
      → P (gives (replied s p.src kinds.ConnectAck) Nothing)
  -- connecting, and a CONNECT_ACK to this session: all begins anew, up with the sender, which has
  -- not confirmed it, and ACK is replied
  pub connecting_connect_ack :
      peer_of s ≡ None → p.part ≡ Conn kinds.ConnectAck → p.dst ≡ s.talk.mine.0
      → P (gives (replied (anew (up s p.src false)) p.src kinds.Ack) WentUp)
  -- connecting, and an ACK to this session: all begins anew, up with the sender, and confirmed
  pub connecting_ack :
      peer_of s ≡ None → p.part ≡ Conn kinds.Ack → p.dst ≡ s.talk.mine.0
      → P (gives (anew (up s p.src true)) WentUp)
  -- connecting, and any other packet: nothing
  pub connecting_other :
      peer_of s ≡ None → p.part ≢ Conn kinds.Connect
      → (p.part ≡ Conn kinds.ConnectAck → p.dst ≢ s.talk.mine.0)
      → (p.part ≡ Conn kinds.Ack → p.dst ≢ s.talk.mine.0)
      → P (gives s Nothing)
  -- up, and the sender's session is less than the peer: nothing
  pub up_lower : (peer : Session) → peer_of s ≡ Some peer → p.src.0 < peer.0 → P (gives s Nothing)
  -- up, and the sender's session is greater than the peer: it goes down
  pub up_greater :
      (peer : Session) → peer_of s ≡ Some peer → peer.0 < p.src.0
      → P (gives (gone_down s) WentDown)
  -- up with the sender, and a CONNECT: heard, and ACK is replied
  pub up_connect :
      peer_of s ≡ Some p.src → p.part ≡ Conn kinds.Connect
      → P (gives (replied (heard s) p.src kinds.Ack) Nothing)
  -- up with the sender, and another packet that isn't to this session: nothing
  pub up_not_mine :
      peer_of s ≡ Some p.src → p.part ≢ Conn kinds.Connect → p.dst ≢ s.talk.mine.0
      → P (gives s Nothing)
  -- a RESET: it goes down
  pub up_reset : IsBetween s p → p.part ≡ Conn kinds.Reset → P (gives (gone_down s) WentDown)
  -- a CONNECT_ACK: heard, and ACK is replied
  pub up_connect_ack :
      IsBetween s p → p.part ≡ Conn kinds.ConnectAck
      → P (gives (replied (heard s) p.src kinds.Ack) Nothing)
  -- an ACK of the session: heard and confirmed
  pub up_ack :
      IsBetween s p → p.part ≡ Conn kinds.Ack → P (gives (heard (up s p.src true)) Nothing)
  -- an ACK of frames: heard and confirmed, and the frames that come into the window are sent
  pub frames_acked :
      (next : ℕ) → IsBetween s p → p.part ≡ Ack next
      → P (gives (after_header s p.src next) Nothing)
  -- a NACK: the same, and then the missing frames are sent again
  pub frames_missed :
      (next count : ℕ) → IsBetween s p → p.part ≡ Nack next count
      → P (gives (nacked (heard (up s p.src true)) p.src next count) Nothing)
  -- a piece whose number is below the expected one: an ACK is sent
  pub old :
      (next seq : ℕ) (frame : Frame) → IsBetween s p → p.part ≡ Piece next seq frame
      → seq < s.rx.expected → P (gives (put_ack (after_header s p.src next) p.src) Nothing)
  -- a piece whose number is above the expected one is kept where it is near; where the missing
  -- frames were asked for, that is all
  pub early_again :
      (next seq : ℕ) (frame : Frame) → IsBetween s p → p.part ≡ Piece next seq frame
      → s.rx.expected < seq → s.asked ≡ true
      → P (gives (with_early (after_header s p.src next) (sent_frame seq frame)) Nothing)
  -- where they were not, a NACK is sent
  pub early :
      (next seq : ℕ) (frame : Frame) → IsBetween s p → p.part ≡ Piece next seq frame
      → s.rx.expected < seq → s.asked ≡ false
      → (let kept : EndState = with_early (after_header s p.src next) (sent_frame seq frame) in
      let count : ℕ = missing_count s.rx.expected kept.rx.kept in
      P (gives (record (put kept p.src (Nack s.rx.expected count)) { asked = true }) Nothing))
  -- the piece of the expected number, and those kept behind it, make no message whole: an ACK is
  -- sent
  pub taken :
      (next : ℕ) (frame : Frame) → IsBetween s p → p.part ≡ Piece next s.rx.expected frame
      → (take_frames s frame).made ≡ More
      → P (gives (put_ack (with_taken (after_header s p.src next) (take_frames s frame)) p.src)
      Nothing)
  -- they make a message whole: it is handed up, and an ACK is sent
  pub taken_whole :
      (next : ℕ) (frame : Frame) (m : Message) → IsBetween s p
      → p.part ≡ Piece next s.rx.expected frame → (take_frames s frame).made ≡ Whole m
      → P (gives (put_ack (with_taken (after_header s p.src next) (take_frames s frame)) p.src)
      (Got m))
  -- the last of them is broken: the end goes down, and no ACK is sent
  pub taken_broken :
      (next : ℕ) (frame : Frame) → IsBetween s p → p.part ≡ Piece next s.rx.expected frame
      → (take_frames s frame).made ≡ Broken
      → P (gives (gone_down (with_taken (after_header s p.src next) (take_frames s frame)))
      WentDown)

-- The rules for a tick, one field a rule.
pub record TickRules (P : Reaction Ticked → Type 0) (s : EndState) : Type 0 where
  -- connecting: CONNECT is sent
  pub connecting : peer_of s ≡ None → P (gives (connect s) ticks.Stays)
  -- up, and the third tick since the peer was heard: RESET is sent, and the end goes down
  pub lost :
      (peer : Session) → peer_of s ≡ Some peer → lost_at ≤ s.ticks + 1
      → P (gives (lost s peer) ticks.WentDown)
  -- up, and frames aren't acknowledged: they are sent again
  pub again :
      (peer : Session) → peer_of s ≡ Some peer → s.ticks + 1 < lost_at
      → unacknowledged s.tx ≢ []
      → P (gives (put_pieces (ticked s) peer (unacknowledged s.tx)) ticks.Stays)
  -- up, and all frames are acknowledged: an ACK of the session is sent
  pub idle :
      (peer : Session) → peer_of s ≡ Some peer → s.ticks + 1 < lost_at
      → unacknowledged s.tx ≡ []
      → P (gives (put (ticked s) peer (Conn kinds.Ack)) ticks.Stays)

-- The rules for an offered message, one field a rule.
pub record OfferRules (P : EndState → Type 0) (s : EndState) (m : Message) : Type 0 where
  -- connecting: nothing
  pub connecting : peer_of s ≡ None → P s
  -- up: the message's pieces stand behind the frames of the window, and those that thereby come
  -- into it are sent
  pub up :
      (peer : Session) → peer_of s ≡ Some peer
      → (let tx : Sender = with_frames s.tx (pieces_of m s.piece) in
      P (put_pieces (record s { tx = tx }) peer (coming_in s.tx tx)))

-- what a packet makes of an end is what its rules say
abbrev pub InputFollowsRules : Type 0
InputFollowsRules =
    (s : EndState) (p : Packet) → PacketRules (λ reaction. input_of s p ≡ reaction) s p

-- what a tick makes of an end is what its rules say
abbrev pub TickFollowsRules : Type 0
TickFollowsRules = (s : EndState) → TickRules (λ reaction. tick_of s ≡ reaction) s

-- what an offered message makes of an end is what its rules say
abbrev pub OfferFollowsRules : Type 0
OfferFollowsRules =
    (s : EndState) (m : Message) → OfferRules (λ state. offer_of s m ≡ state) s m
