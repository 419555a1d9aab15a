-- The record of a side of a link, session by session, and how a session is looked up in it.
use Rattle.std.specs.Prelude.{Bool, ◌==◌, List, [], ◌∷◌, Option, Some, None}
use Rattle.linx_base.specs.FirstMatch.{first_match}
use Rattle.linx_base.specs.declared.identity.Session.{Session}
use Rattle.trunk_record.specs.Sayings.{Given, Said}

-- one session of a side: its number, the session of the other side that it went up with, if it did,
-- and what the side said and was given in it, the newest first
pub record SessionRecord : Type 0 where
  pub session : Session
  pub peer : Option Session
  pub said : List Said
  pub given : List Given

-- a side: its present session, and the earlier ones, the newest first
pub record SideRecord : Type 0 where
  pub now : SessionRecord
  pub earlier : List SessionRecord

-- all sessions of a side, the newest first
abbrev pub all : SideRecord → List SessionRecord
all A = A.now ∷ A.earlier

-- the entry is that of this session
abbrev pub has_session : Session → SessionRecord → Bool
has_session x e = e.session.0 == x.0

-- the peer of the session that an entry is of; nothing without an entry
abbrev pub peer_of : Option SessionRecord → Option Session
peer_of None = None
peer_of (Some e) = e.peer

-- what was said in the session that an entry is of; nothing without an entry
abbrev pub said_of : Option SessionRecord → List Said
said_of None = []
said_of (Some e) = e.said

-- what was given in the session that an entry is of; nothing without an entry
abbrev pub given_of : Option SessionRecord → List Given
given_of None = []
given_of (Some e) = e.given

-- the peer of a side in a session; none in one that it never had
abbrev pub peer_in : SideRecord → Session → Option Session
peer_in A x = peer_of (first_match (has_session x) (all A))

-- what a side said in a session; nothing in one that it never had
abbrev pub said_in : SideRecord → Session → List Said
said_in A x = said_of (first_match (has_session x) (all A))

-- what a side was given in a session; nothing in one that it never had
abbrev pub given_in : SideRecord → Session → List Given
given_in A x = given_of (first_match (has_session x) (all A))

-- a session, if it has a peer
abbrev pub session_if : Option Session → Session → Option Session
session_if None x = None
session_if (Some y) x = Some x

-- the session of a side that is up
abbrev pub up_in : SideRecord → Option Session
up_in A = session_if A.now.peer A.now.session
