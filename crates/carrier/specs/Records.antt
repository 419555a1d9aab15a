-- The record of a link: what was offered and handed up in each session of a side.
use Rattle.std.specs.Prelude.{ℕ, ◌==◌, if◌then◌else◌, Bool, true, false, Option, None, Some}
use Rattle.std.specs.Prelude.{List, [], ◌∷◌}
use Rattle.linx_base.specs.declared.identity.Session.{Session}
use Rattle.linx_base.specs.declared.frame.Message.{Message}
use Rattle.ethcm_end.specs.States.{EndState, new_end, peer_of}

-- one session of a side: its number, its peer where it has had one, and the messages that were
-- offered and handed up in it, oldest first
pub record Entry : Type 0 where
  pub number : Session
  pub peer : Option Session
  pub offered : List Message
  pub handed : List Message

-- one side of a link: its end, what was offered and handed up in the session of its end, and its
-- ended sessions, newest first
pub record HalfState : Type 0 where
  pub end : EndState
  pub offered : List Message
  pub handed : List Message
  pub past : List Entry

-- a side before anything happened, in the first session of boot 1
abbrev pub new_half : ℕ → ℕ → HalfState
new_half window piece =
    record { end = new_end 1 window piece; offered = []; handed = []; past = [] }

-- the number of the session of the end
abbrev pub mine_of : HalfState → ℕ
mine_of h = h.end.talk.mine.0

-- the session of the end, which has not ended
abbrev pub current : HalfState → Entry
current h =
    record {
      number = h.end.talk.mine;
      peer = peer_of h.end;
      offered = h.offered;
      handed = h.handed;
    }

-- all sessions of a side, newest first
abbrev pub entries : HalfState → List Entry
entries h = current h ∷ h.past

-- one of the sessions has this number
abbrev pub has_session : ℕ → List Entry → Bool
has_session n [] = false
has_session n (e ∷ es) = if e.number.0 == n then true else has_session n es

-- the peer of session n, none where it has none
abbrev pub peer_at : ℕ → List Entry → Option Session
peer_at n [] = None
peer_at n (e ∷ es) = if e.number.0 == n then e.peer else peer_at n es

-- what was offered in session n
abbrev pub offered_at : ℕ → List Entry → List Message
offered_at n [] = []
offered_at n (e ∷ es) = if e.number.0 == n then e.offered else offered_at n es

-- what was handed up in session n
abbrev pub handed_at : ℕ → List Entry → List Message
handed_at n [] = []
handed_at n (e ∷ es) = if e.number.0 == n then e.handed else handed_at n es

-- the session that is named has this number
abbrev pub names : ℕ → Option Session → Bool
names n None = false
names n (Some y) = y.0 == n

-- session y has session x of the other side as its peer
abbrev pub is_pair : ℕ → ℕ → List Entry → Bool
is_pair x y es = names x (peer_at y es)

-- what these sessions offered to session x of the other side, whose peer is this: what was offered
-- in that peer, where it has x as its peer, and otherwise nothing
abbrev pub source : List Entry → ℕ → Option Session → List Message
source es x None = []
source es x (Some y) = if is_pair x y.0 es then offered_at y.0 es else []
