-- What a packet, a tick, an offered message and a restart make of an end: one small function for
-- each rule, and their composition. What is sent goes behind the packets that are still to go out.
use Rattle.std.specs.Prelude.{ℕ, ◌+◌, ◌==◌, nat_lt, if◌then◌else◌, Bool, true, false, Option, None}
use Rattle.std.specs.Prelude.{Some, List, [], ◌∷◌, ◌++◌, map, drop, option_map, slice_get}
use Rattle.linx_base.specs.declared.identity.Session.{Session}
use Rattle.linx_base.specs.declared.frame.ConnKind.{ConnKind}
use Rattle.linx_base.specs.declared.frame.ConnKind.TheVariants as kinds
use Rattle.linx_base.specs.declared.frame.Frame.{Frame}
use Rattle.linx_base.specs.declared.frame.Message.{Message}
use Rattle.linx_base.specs.declared.frame.SentFrame.{SentFrame}
use Rattle.ethcm_headers.specs.declared.packets.Packet.{Packet}
use Rattle.ethcm_headers.specs.declared.packets.Part.{Part}
use Rattle.ethcm_headers.specs.declared.packets.Part.TheVariants.{Conn, Ack, Nack, Piece}
use Rattle.ethcm_headers.specs.Packets.{spelling_of}
use Rattle.ethcm_session.specs.declared.standing.Standing.{Standing}
use Rattle.ethcm_session.specs.declared.standing.Standing.TheVariants.{Connecting, Up}
use Rattle.ethcm_session.specs.declared.standing.Change.{Change}
use Rattle.ethcm_session.specs.declared.standing.Change.TheVariants as changes
use Rattle.ethcm_session.specs.Table.{Outcome, after_down, outcome_of}
use Rattle.ethcm_window.specs.Sending.{Sender, after_ack, coming_in, empty_sender, sent_again}
use Rattle.ethcm_window.specs.Sending.{sent_frame, unacknowledged, with_frames}
use Rattle.ethcm_window.specs.Receiving.{Receiver, after_taking, empty_receiver, kept_early}
use Rattle.ethcm_window.specs.Receiving.{missing_count}
use Rattle.fragmenter.specs.declared.joiner.Joined.{Joined}
use Rattle.fragmenter.specs.declared.joiner.Joined.TheVariants.{More, Whole, Broken}
use Rattle.fragmenter.specs.Joining.{Begun, held_after, joiner_answer}
use Rattle.fragmenter.specs.Pieces.{pieces_of}
use Rattle.ethcm_session.specs.Loss.{lost_at}
use Rattle.ethcm_end.specs.declared.answers.Input.{Input}
use Rattle.ethcm_end.specs.declared.answers.Input.TheVariants.{Nothing, WentUp, WentDown, Got}
use Rattle.ethcm_end.specs.declared.answers.Ticked.{Ticked}
use Rattle.ethcm_end.specs.declared.answers.Ticked.TheVariants as ticks
use Rattle.ethcm_end.specs.States.{EndState, Reaction, gives, new_end}

-- ---- sending

-- a packet from this end's session to another one
abbrev pub packet_of : EndState → Session → Part → Packet
packet_of s dst part = record { src = s.talk.mine; dst = dst.0; part = part }

-- a packet goes out behind the others
abbrev pub put : EndState → Session → Part → EndState
put s dst part = record s { out = s.out ++ packet_of s dst part ∷ [] }

-- a piece carries the expected number of the moment
abbrev pub piece_packet : EndState → Session → SentFrame → Packet
piece_packet s dst sent = packet_of s dst (Piece s.rx.expected sent.number sent.frame)

-- these frames go out behind the others, each as a piece
abbrev pub put_pieces : EndState → Session → List SentFrame → EndState
put_pieces s dst sent = record s { out = s.out ++ map (piece_packet s dst) sent }

-- all that was taken is acknowledged
abbrev pub put_ack : EndState → Session → EndState
put_ack s peer = put s peer (Ack s.rx.expected)

-- ---- going up and going down

-- the watch, the window and the joiner begin anew, and no frame is kept
abbrev pub anew : EndState → EndState
anew s =
    record s {
      tx = empty_sender s.tx.window;
      rx = empty_receiver;
      held = None;
      ticks = 0;
      asked = false;
    }

-- an end whose session is over: the next one is connecting, and all begins anew
abbrev pub gone_down : EndState → EndState
gone_down s = anew (record s { talk = after_down s.talk })

-- an end that heard its peer just now
abbrev pub heard : EndState → EndState
heard s = record s { ticks = 0 }

-- ---- the data rules, for an end that is up with this peer and heard it

-- all frames below `next` have arrived, and those that thereby come into the window are sent
abbrev pub acked : EndState → Session → ℕ → EndState
acked s peer next =
    let tx : Sender = after_ack s.tx next in
    put_pieces (record s { tx = tx }) peer (coming_in s.tx tx)

-- a NACK acts as an ACK, and then at most `count` of the unacknowledged frames from `next` on are
-- sent again
abbrev pub nacked : EndState → Session → ℕ → ℕ → EndState
nacked s peer next count =
    let after : EndState = acked s peer next in
    put_pieces after peer (sent_again after.tx next count)

-- what stands after some frames were taken in turn: the receiver, the message that has begun, and
-- what the last of them made of it
pub record Taken : Type 0 where
  pub rx : Receiver
  pub held : Option Begun
  pub made : Joined

-- kept frames are taken in turn: while no message was made whole, the first of them is taken where
-- it has the expected number
unfoldable pub take_kept : ℕ → List SentFrame → Option Begun → Joined → Taken
take_kept expected (s ∷ kept) held More =
    if s.number == expected
    then take_kept (expected + 1) kept (held_after held s.frame) (joiner_answer held s.frame)
    else record { rx = record { expected = expected; kept = s ∷ kept }; held = held; made = More }
take_kept expected kept held made =
    record { rx = record { expected = expected; kept = kept }; held = held; made = made }

-- a frame is joined, and then those that are kept from the expected number on
abbrev pub take_behind : Receiver → Option Begun → Frame → Taken
take_behind rx held frame =
    take_kept rx.expected rx.kept (held_after held frame) (joiner_answer held frame)

-- a frame of the expected number is taken, and then those that are kept behind it
abbrev pub take_frames : EndState → Frame → Taken
take_frames s frame = take_behind (after_taking s.rx) s.held frame

-- the end after these frames were taken
abbrev pub with_taken : EndState → Taken → EndState
with_taken s taken = record s { rx = taken.rx; held = taken.held; asked = false }

-- what the last taken frame made: all is acknowledged, or it was broken and ends the session
abbrev pub finished : EndState → Session → Joined → Reaction Input
finished s peer More = gives (put_ack s peer) Nothing
finished s peer (Whole message) = gives (put_ack s peer) (Got message)
finished s peer Broken = gives (gone_down s) WentDown

-- the frame of the expected number
abbrev pub took : EndState → Session → Frame → Reaction Input
took s peer frame =
    let taken : Taken = take_frames s frame in
    finished (with_taken s taken) peer taken.made

-- a frame below the expected number: it was taken before
abbrev pub old : EndState → Session → Reaction Input
old s peer = gives (put_ack s peer) Nothing

-- a frame above the expected number is kept where it is near
abbrev pub with_early : EndState → SentFrame → EndState
with_early s sent =
    record s { rx = record s.rx { kept = kept_early s.rx.expected s.rx.kept sent } }

-- the missing frames are asked for, unless that was done since the last taken frame and the last
-- tick
abbrev pub ask : EndState → Session → EndState
ask s peer =
    let missing : Part = Nack s.rx.expected (missing_count s.rx.expected s.rx.kept) in
    if s.asked then s else record (put s peer missing) { asked = true }

-- a frame above the expected number comes: it is kept where it is near, and the missing frames are
-- asked for
abbrev pub early : EndState → Session → SentFrame → Reaction Input
early s peer sent = gives (ask (with_early s sent) peer) Nothing

-- what a frame means by its number: the expected one is taken, a lower one was taken before, a
-- greater one comes early
abbrev pub framed_in : EndState → Session → SentFrame → Reaction Input
framed_in s peer sent =
    if sent.number == s.rx.expected then took s peer sent.frame
    else (if nat_lt sent.number s.rx.expected then old s peer else early s peer sent)

-- what a part means by the data rules
unfoldable pub data_in : EndState → Session → Part → Reaction Input
data_in s peer (Conn kind) = gives s Nothing
data_in s peer (Ack next) = gives (acked s peer next) Nothing
data_in s peer (Nack next count) = gives (nacked s peer next count) Nothing
data_in s peer (Piece next seq frame) = framed_in (acked s peer next) peer (sent_frame seq frame)

-- ---- a packet

-- the kind of a part, none for data, ACK and NACK of frames
abbrev pub kind_in : Part → Option ConnKind
kind_in (Conn kind) = Some kind
kind_in (Ack next) = None
kind_in (Nack next count) = None
kind_in (Piece next seq frame) = None

-- a packet of this kind is replied
abbrev pub replied : EndState → Session → ConnKind → EndState
replied s src kind = put s src (Conn kind)

-- the end went up, and replies an ACK or doesn't
abbrev pub gone_up : EndState → Session → Bool → EndState
gone_up s src true = replied (anew s) src kinds.Ack
gone_up s src false = anew s

-- what a part from session src means, by the change that the table of sessions gives
abbrev pub changed : EndState → Session → Part → Change → Reaction Input
changed s src part changes.Ignored = gives s Nothing
changed s src part changes.Heard = data_in (heard s) src part
changed s src part (changes.HeardReply kind) = gives (replied (heard s) src kind) Nothing
changed s src part (changes.Reply kind) = gives (replied s src kind) Nothing
changed s src part (changes.WentUp reply) = gives (gone_up s src reply) WentUp
changed s src part changes.WentDown = gives (anew s) WentDown

-- what a part from session src means, once the table of sessions has said how the end stands and
-- what changed
abbrev pub reacts : EndState → Session → Part → Outcome → Reaction Input
reacts s src part outcome = changed (record s { talk = outcome.state }) src part outcome.change

-- what a packet makes of an end, and what it is answered
unfoldable pub input_of : EndState → Packet → Reaction Input
input_of s p = reacts s p.src p.part (outcome_of s.talk p.src p.dst (kind_in p.part))

-- ---- a tick

-- a connecting end asks for a peer
abbrev pub connect : EndState → EndState
connect s = put s (record { 0 = 0 }) (Conn kinds.Connect)

-- these frames are sent again, or an ACK of the session where there are none
abbrev pub sent_or_ack : EndState → Session → List SentFrame → EndState
sent_or_ack s peer [] = put s peer (Conn kinds.Ack)
sent_or_ack s peer (f ∷ fs) = put_pieces s peer (f ∷ fs)

-- a tick is counted, and missing frames may be asked for again
abbrev pub ticked : EndState → EndState
ticked s = record s { ticks = s.ticks + 1; asked = false }

-- a tick before the last one: what isn't acknowledged is sent again
abbrev pub beat : EndState → Session → EndState
beat s peer = sent_or_ack (ticked s) peer (unacknowledged s.tx)

-- the last tick: the link is lost, and a RESET goes out
abbrev pub lost : EndState → Session → EndState
lost s peer = gone_down (put s peer (Conn kinds.Reset))

-- a tick of an end that is up: the third one in a row with nothing heard loses the link, the others
-- send again what isn't acknowledged
abbrev pub tick_up : EndState → Session → Reaction Ticked
tick_up s peer =
    if nat_lt (s.ticks + 1) lost_at then gives (beat s peer) ticks.Stays
    else gives (lost s peer) ticks.WentDown

-- a tick by the standing of the session: a connecting end asks for a peer, one that is up may lose
-- the link
abbrev pub tick_in : EndState → Standing → Reaction Ticked
tick_in s Connecting = gives (connect s) ticks.Stays
tick_in s (Up peer confirmed) = tick_up s peer

-- what a tick makes of an end, and what it is answered
unfoldable pub tick_of : EndState → Reaction Ticked
tick_of s = tick_in s s.talk.standing

-- ---- an offered message, and a restart

-- the message's pieces get the next numbers, and those inside the window are sent
abbrev pub offered : EndState → Session → Message → EndState
offered s peer message =
    let tx : Sender = with_frames s.tx (pieces_of message s.piece) in
    put_pieces (record s { tx = tx }) peer (coming_in s.tx tx)

-- a message is offered by the standing of the session: a connecting end does nothing with it, one
-- that is up sends it
abbrev pub offer_in : EndState → Standing → Message → EndState
offer_in s Connecting message = s
offer_in s (Up peer confirmed) message = offered s peer message

-- a message is offered; while connecting that does nothing
unfoldable pub offer_of : EndState → Message → EndState
offer_of s message = offer_in s s.talk.standing message

-- the node boots again: the end is a new one, with the same window and pieces of the same size
abbrev pub restart_of : EndState → ℕ → EndState
restart_of s boot = new_end boot s.tx.window s.piece

-- ---- what goes out

-- the bytes of the packet that goes out next
abbrev pub next_bytes : EndState → Option (List ℕ)
next_bytes s = option_map spelling_of (slice_get s.out 0)

-- the next packet has gone out
abbrev pub after_out : EndState → EndState
after_out s = record s { out = drop 1 s.out }
