-- The table of sessions: what a packet means to an end.
use Rattle.std.specs.Prelude.{◌≡◌, ◌≢◌, ℕ, ◌<◌, ◌==◌, nat_lt, if◌then◌else◌, Bool, true, false}
use Rattle.std.specs.Prelude.{Option, None, Some}
use Rattle.linx_base.specs.declared.identity.Session.{Session}
use Rattle.linx_base.specs.Numbers.{count_of, first_session, next_session}
use Rattle.linx_base.specs.declared.frame.ConnKind.{ConnKind}
use Rattle.linx_base.specs.declared.frame.ConnKind.TheVariants.{Connect, ConnectAck, Ack, Reset}
use Rattle.ethcm_session.specs.declared.standing.Standing.{Standing}
use Rattle.ethcm_session.specs.declared.standing.Standing.TheVariants.{Connecting, Up}
use Rattle.ethcm_session.specs.declared.standing.TalkState.{TalkState}
use Rattle.ethcm_session.specs.declared.standing.Change.{Change}
use Rattle.ethcm_session.specs.declared.standing.Change.TheVariants.{Ignored, Heard, HeardReply}
use Rattle.ethcm_session.specs.declared.standing.Change.TheVariants.{Reply, WentUp, WentDown}

-- the session isn't the last one of its boot
abbrev pub HasNext : Session → Type 0
HasNext session = count_of session < 4294967295

-- an end in the first session of a boot
abbrev pub boot_state : ℕ → TalkState
boot_state boot = record { mine = first_session boot; standing = Connecting }

-- the end is up with this session of its peer
abbrev pub up_with : TalkState → Session → Bool → TalkState
up_with s peer confirmed = record s { standing = Up peer confirmed }

-- the end has gone down: its next session is connecting
abbrev pub after_down : TalkState → TalkState
after_down s = record { mine = next_session s.mine; standing = Connecting }

-- the session of the peer, none while connecting
abbrev pub standing_peer : Standing → Option Session
standing_peer Connecting = None
standing_peer (Up peer confirmed) = Some peer

-- the peer has confirmed the session
abbrev pub is_confirmed_in : Standing → Bool
is_confirmed_in Connecting = false
is_confirmed_in (Up peer confirmed) = confirmed

-- a change, and the state afterwards
pub record Outcome : Type 0 where
  pub change : Change
  pub state : TalkState

-- the outcome with this change and this state
abbrev pub gives : Change → TalkState → Outcome
gives change state = record { change = change; state = state }

-- what a packet means while connecting: its kind decides, and whether it is to this session
abbrev pub while_connecting : TalkState → Session → Option ConnKind → Bool → Outcome
while_connecting s src (Some Connect) to_me = gives (Reply ConnectAck) s
while_connecting s src (Some ConnectAck) true = gives (WentUp true) (up_with s src false)
while_connecting s src (Some Ack) true = gives (WentUp false) (up_with s src true)
while_connecting s src _ _ = gives Ignored s

-- what a packet from the peer's session means while up: its kind decides, and whether it is to this
-- session
abbrev pub from_peer : TalkState → Session → Option ConnKind → Bool → Outcome
from_peer s peer (Some Connect) to_me = gives (HeardReply Ack) s
from_peer s peer (Some Reset) true = gives WentDown (after_down s)
from_peer s peer (Some ConnectAck) true = gives (HeardReply Ack) s
from_peer s peer (Some Ack) true = gives Heard (up_with s peer true)
from_peer s peer None true = gives Heard (up_with s peer true)
from_peer s peer _ false = gives Ignored s

-- what a packet means while up: one of a lower session than the peer's is old, and one of a greater
-- session ends this one
abbrev pub while_up : TalkState → Session → Session → Option ConnKind → Bool → Outcome
while_up s peer src kind to_me =
    if nat_lt src.0 peer.0 then gives Ignored s
    else (if nat_lt peer.0 src.0 then gives WentDown (after_down s)
    else from_peer s peer kind to_me)

-- what a packet from session src to session dst means; its kind is none for data, ACK and NACK
abbrev pub outcome_in : Standing → TalkState → Session → ℕ → Option ConnKind → Outcome
outcome_in Connecting s src dst kind = while_connecting s src kind (dst == s.mine.0)
outcome_in (Up peer confirmed) s src dst kind = while_up s peer src kind (dst == s.mine.0)

-- what a packet means to an end in its present standing
abbrev pub outcome_of : TalkState → Session → ℕ → Option ConnKind → Outcome
outcome_of s src dst kind = outcome_in s.standing s src dst kind

-- The table, one field a row: P holds of what a packet from session src to session dst gives.
pub record SessionRules (P : Outcome → Type 0)
    (old : TalkState) (src : Session) (dst : ℕ) (kind : Option ConnKind) : Type 0 where
  -- connecting, and a CONNECT: CONNECT_ACK is replied
  pub connecting_connect :
      old.standing ≡ Connecting → kind ≡ Some Connect → P (gives (Reply ConnectAck) old)
  -- connecting, and a CONNECT_ACK to this session: up with the sender, not confirmed, and ACK is
  -- replied
  pub connecting_connect_ack :
      old.standing ≡ Connecting → kind ≡ Some ConnectAck → dst ≡ old.mine.0
      → P (gives (WentUp true) (up_with old src false))
  -- connecting, and an ACK to this session: up with the sender, confirmed
  pub connecting_ack :
      old.standing ≡ Connecting → kind ≡ Some Ack → dst ≡ old.mine.0
      → P (gives (WentUp false) (up_with old src true))
  -- connecting, and any other packet: nothing
  pub connecting_other :
      old.standing ≡ Connecting → kind ≢ Some Connect
      → (kind ≡ Some ConnectAck → dst ≢ old.mine.0) → (kind ≡ Some Ack → dst ≢ old.mine.0)
      → P (gives Ignored old)
  -- up, and the sender's session is less than the peer: nothing
  pub up_lower :
      (peer : Session) (confirmed : Bool) → old.standing ≡ Up peer confirmed → src.0 < peer.0
      → P (gives Ignored old)
  -- up, and the sender's session is greater than the peer: it goes down
  pub up_greater :
      (peer : Session) (confirmed : Bool) → old.standing ≡ Up peer confirmed → peer.0 < src.0
      → P (gives WentDown (after_down old))
  -- up with the sender, and a CONNECT: heard, and ACK is replied
  pub up_connect :
      (confirmed : Bool) → old.standing ≡ Up src confirmed → kind ≡ Some Connect
      → P (gives (HeardReply Ack) old)
  -- up with the sender, and another packet that isn't to this session: nothing
  pub up_not_mine :
      (confirmed : Bool) → old.standing ≡ Up src confirmed → kind ≢ Some Connect
      → dst ≢ old.mine.0 → P (gives Ignored old)
  -- up with the sender, and a RESET to this session: it goes down
  pub up_reset :
      (confirmed : Bool) → old.standing ≡ Up src confirmed → dst ≡ old.mine.0
      → kind ≡ Some Reset → P (gives WentDown (after_down old))
  -- up with the sender, and a CONNECT_ACK to this session: heard, and ACK is replied
  pub up_connect_ack :
      (confirmed : Bool) → old.standing ≡ Up src confirmed → dst ≡ old.mine.0
      → kind ≡ Some ConnectAck → P (gives (HeardReply Ack) old)
  -- up with the sender, and an ACK of a session to this session: heard, and confirmed
  pub up_ack :
      (confirmed : Bool) → old.standing ≡ Up src confirmed → dst ≡ old.mine.0
      → kind ≡ Some Ack → P (gives Heard (up_with old src true))
  -- up with the sender, and data, an ACK or a NACK of frames to this session: heard, and confirmed
  pub up_data :
      (confirmed : Bool) → old.standing ≡ Up src confirmed → dst ≡ old.mine.0
      → kind ≡ None → P (gives Heard (up_with old src true))

-- the outcome of a packet is that of its row
abbrev pub FollowsTable : TalkState → Session → ℕ → Option ConnKind → Outcome → Type 0
FollowsTable old src dst kind outcome = SessionRules (λ row. outcome ≡ row) old src dst kind
