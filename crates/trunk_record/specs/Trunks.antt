-- What a trunk keeps of its two sides, and what it promises where it is quiet.
use Rattle.std.specs.Prelude.{◌≡◌, ◌<◌, true, List, [], ◌∷◌, ◌++◌, map, Some, None}
use Rattle.std.specs.List.{list_any, AllByRecursion}
use Rattle.linx_base.specs.declared.identity.Inc.{Inc}
use Rattle.linx_base.specs.declared.identity.Session.{Session}
use Rattle.trunk_record.specs.Records.{SessionRecord, SideRecord, all, peer_in, said_in}
use Rattle.trunk_record.specs.Sayings.{AreInTurn, Given, IsProper, Said, arrived, asked_for, freed}
use Rattle.trunk_record.specs.Sayings.{frees, gone, heard_as, is_live, met, was_unpublished}

-- What a session was given is what its peer said so far, in a session that has it as peer; where
-- nothing was given, nothing is claimed
pub data IsHeardFrom (B : SideRecord) (e : SessionRecord) : Type 0 where
  nothing_heard : e.given ≡ [] → IsHeardFrom B e
  heard : (y : Session) → e.peer ≡ Some y → peer_in B y ≡ Some e.session → (later : List Said)
      → said_in B y ≡ later ++ map heard_as e.given → IsHeardFrom B e

-- a session has a lower number than this
abbrev pub IsBelow : Session → SessionRecord → Type 0
IsBelow x e = e.session.0 < x.0

-- each session has a higher number than those before it
abbrev pub AllFall : List SessionRecord → Type 0
AllFall [] = Unit {0}
AllFall (e ∷ es) = AllByRecursion (IsBelow e.session) es × AllFall es

-- where a signal was freed, the side had unpublished its receiver in that session
abbrev pub FreesClosed : SessionRecord → Type 0
FreesClosed e = (j : Inc) → list_any (frees j) e.given ≡ true → was_unpublished j e.said ≡ true

-- what was given came in turn
abbrev pub IsGivenInTurn : SessionRecord → Type 0
IsGivenInTurn e = AreInTurn e.given

-- a session that never went up has nothing in it
abbrev pub EmptyWhileDown : SessionRecord → Type 0
EmptyWhileDown e = e.peer ≡ None → (e.said ≡ []) × (e.given ≡ [])

-- what is said in a session is proper
abbrev pub SaysProperly : SessionRecord → Type 0
SaysProperly e = IsProper e.said

-- what a trunk keeps of a side, beside the other one
pub record IsHalf (A B : SideRecord) : Type 0 where
  pub rising : AllFall (all A)
  pub proper : AllByRecursion SaysProperly (all A)
  pub hears : AllByRecursion (IsHeardFrom B) (all A)
  pub frees_closed : AllByRecursion FreesClosed (all A)
  pub in_turn : AllByRecursion IsGivenInTurn (all A)
  pub empty : AllByRecursion EmptyWhileDown (all A)

-- what a trunk keeps of both
pub record IsTrunk (A B : SideRecord) : Type 0 where
  pub near : IsHalf A B
  pub far : IsHalf B A

-- a signal arrives at a receiver that is live on the side, and is freed where that was unpublished
abbrev pub FitsReceiver : SideRecord → Given → Type 0
FitsReceiver A (met i name) = Unit {0}
FitsReceiver A (asked_for name) = Unit {0}
FitsReceiver A (arrived a b note) = is_live b A.now.said ≡ true
FitsReceiver A (freed a b note) = was_unpublished b A.now.said ≡ true
FitsReceiver A (gone i) = Unit {0}

-- what a trunk promises where it is quiet: the sides are up with each other, and all that was said
-- is heard
pub record IsQuiet (A B : SideRecord) : Type 0 where
  pub pair : A.now.peer ≡ Some B.now.session
  pub back : B.now.peer ≡ Some A.now.session
  pub said : A.now.said ≡ map heard_as B.now.given
  pub answered : B.now.said ≡ map heard_as A.now.given
