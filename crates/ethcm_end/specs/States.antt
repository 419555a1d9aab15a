-- What an end of a link is seen as.
use Rattle.std.specs.Prelude.{ℕ, Bool, false, not, ◌==◌, ◌||◌, Option, None, List, [], length}
use Rattle.linx_base.specs.declared.identity.Session.{Session}
use Rattle.ethcm_headers.specs.declared.packets.Packet.{Packet}
use Rattle.ethcm_session.specs.declared.standing.TalkState.{TalkState}
use Rattle.ethcm_session.specs.Table.{boot_state, is_confirmed_in, standing_peer}
use Rattle.ethcm_window.specs.Sending.{Sender, empty_sender}
use Rattle.ethcm_window.specs.Receiving.{Receiver, empty_receiver}
use Rattle.fragmenter.specs.Joining.{Begun}

-- an end of a link: its session, its watch, its window, the message that has begun, and the packets
-- that are still to go out
pub record EndState : Type 0 where
  -- its session, and whether it is connecting or up with a session of its peer, which has confirmed
  -- it or not
  pub talk : TalkState
  -- its window, its base, and the frames from the base on
  pub tx : Sender
  -- its expected number, and the frames that it keeps with their numbers
  pub rx : Receiver
  -- the message of which the first pieces have come
  pub held : Option Begun
  -- the ticks since it heard its peer
  pub ticks : ℕ
  -- whether it asked for missing frames since the last taken frame and the last tick
  pub asked : Bool
  -- the size of its pieces
  pub piece : ℕ
  -- the packets that are still to go out, in order
  pub out : List Packet

-- an end in the first session of a boot
abbrev pub new_end : ℕ → ℕ → ℕ → EndState
new_end boot window piece =
    record {
      talk = boot_state boot;
      tx = empty_sender window;
      rx = empty_receiver;
      held = None;
      ticks = 0;
      asked = false;
      piece = piece;
      out = [];
    }

-- the session of the peer, none while connecting
abbrev pub peer_of : EndState → Option Session
peer_of s = standing_peer s.talk.standing

-- an end has work while it isn't up, isn't confirmed, or has a frame that isn't acknowledged
abbrev pub has_work_in : EndState → Bool
has_work_in s = not (is_confirmed_in s.talk.standing) || not (length s.tx.frames == 0)

-- what an event makes of an end: its state afterwards, and what it answers
pub record Reaction (A : Type 0) : Type 0 where
  pub state : EndState
  pub answer : A

-- the reaction with this state and this answer
abbrev pub gives : {A : Type 0} → EndState → A → Reaction A
gives state answer = record { state = state; answer = answer }
