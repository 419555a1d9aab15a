-- What holds of a trunk, whatever happened: there are words that each side said and heard, session
-- by session, whose messages the link's record has, and to which both RLNH ends and the record of
-- both sides have come.
use Rattle.std.specs.Prelude.{◌≡◌, List, [], ◌∷◌, map}
use Rattle.std.specs.List.{AllByRecursion}
use Rattle.linx_base.specs.declared.frame.Message.{Message}
use Rattle.carrier.specs.Records.{Entry, HalfState, entries}
use Rattle.carrier.specs.Keeping.{KeepsLink}
use Rattle.rlnh_end.specs.Words.{Word, message_of}
use Rattle.rlnh_laws.specs.Ties.{Talk}
use Rattle.trunk.specs.Events.{TrunkSide, TrunkState}
use Rattle.trunk.specs.Talks.{KeepsTalks, IsSoundSession, Talks, all_talks, side_record}

-- the messages by which words go
abbrev pub messages_of : List Word → List Message
messages_of words = map message_of words

-- an entry of the link's record has the messages of the words of a session
pub record Mirrors (e : Entry) (t : Talk) : Type 0 where
  pub number : e.number ≡ t.number
  pub peer : e.peer ≡ t.peer
  pub offered : e.offered ≡ messages_of t.words
  pub handed : e.handed ≡ messages_of t.heard

-- each entry of the link's record has the messages of the session at its place
abbrev pub AllMirror : List Entry → List Talk → Type 0
AllMirror [] [] = Unit {0}
AllMirror [] (t ∷ ts) = ⊥
AllMirror (e ∷ es) [] = ⊥
AllMirror (e ∷ es) (t ∷ ts) = Mirrors e t × AllMirror es ts

-- one side of a trunk over its half of the link, in these words, beside the words of the other side
pub record KeepsSide (s : TrunkSide) (h : HalfState) (A B : Talks) : Type 0 where
  pub half : KeepsTalks A B
  pub sound : AllByRecursion IsSoundSession (all_talks A)
  pub mirrors : AllMirror (entries h) (all_talks A)
  -- the RLNH end is that of the present session, and all that it had to say went out
  pub tables : s.end.tables ≡ A.now.end
  pub out : s.end.out ≡ []
  pub kept : s.kept ≡ side_record A

-- a trunk: its link, and both sides in words
pub record KeepsTrunk (t : TrunkState) : Type 0 where
  pub link : KeepsLink t.link
  pub near : Talks
  pub far : Talks
  pub first : KeepsSide t.first t.link.first near far
  pub second : KeepsSide t.second t.link.second far near
