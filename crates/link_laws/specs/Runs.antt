-- A run, step by step, and what holds of it.
use Rattle.std.specs.Prelude.{ℕ, ◌≡◌, ◌≤◌, Bool, true, List, [], ◌∷◌, length}
use Rattle.std.specs.List.{list_any, AllByRecursion}
use Rattle.linx_base.specs.Numbers.{first_session, is_on}
use Rattle.linx_base.specs.Pending.{is_for}
use Rattle.linx_base.specs.Sides.{other_of}
use Rattle.linx_base.specs.declared.identity.Inc.{Inc}
use Rattle.linx_base.specs.declared.identity.LinkNo.{LinkNo}
use Rattle.linx_base.specs.declared.identity.Peer.TheVariants.{Here, There}
use Rattle.linx_base.specs.declared.identity.Side.{Side}
use Rattle.linx_base.specs.declared.identity.Side.TheVariants.{First, Second}
use Rattle.linx_base.specs.declared.name.Path.TheVariants.{Local}
use Rattle.linx_base.specs.declared.pending.PendingAttach.{PendingAttach}
use Rattle.trunk_record.specs.Changes.{new_side}
use Rattle.trunk_record.specs.Records.{SideRecord}
use Rattle.trunk_record.specs.Trunks.{IsQuiet}
use Rattle.journal.specs.Living.{is_alive}
use Rattle.journal.specs.Logs.{step_limit}
use Rattle.journal.specs.Pending.{hunting, owed}
use Rattle.journal.specs.Promises.{KeepsNodePromises}
use Rattle.journal.specs.Shapes.{Shape}
use Rattle.journal.specs.Traffic.{arrived_from, sent_to}
use Rattle.journal.specs.declared.effect.Step.{Step}
use Rattle.link_laws.specs.Ends.{HasTwoEnds, IsLinkOf, node_at}
use Rattle.link_laws.specs.Sides.{AreLinksKept, Links, SideState}
use Rattle.link_laws.specs.Laws.{IsLegal}
use Rattle.link_laws.specs.Linked.{HasNone, IsUnfound, is_hunted}
use Rattle.link_laws.specs.Moves.{IsLeft, IsMove, IsResting}
use Rattle.link_laws.specs.NotifiedCloses.{AllToldWhole, NeverAfterTold}
use Rattle.link_laws.specs.Promises.{AllCarried, AllGotFronts, KeepsLinkPromises}
use Rattle.link_laws.specs.Still.{IsStill}

-- a side before its first session went up
abbrev pub first_side : SideRecord
first_side = new_side (first_session 1)

-- a side before its first session went up, with no name noted, and heard just now
abbrev pub first_state : SideState
first_state = record { side = first_side; noted = []; silent = 0 }

-- all sides of all links are as before their first session went up
abbrev pub AreFirst : Shape → Links → Type 0
AreFirst shape links = (l : LinkNo) → IsLinkOf shape l → (side : Side)
    → IsLeft first_state (links l.0 side)

-- A RUN: from the first states on, each step is a move from the links before it to those after it
abbrev pub IsRun : Shape → List Step → Links → Type 0
IsRun shape [] links = AreFirst shape links
IsRun shape (s ∷ P) after =
    (before : Links) × (IsRun shape P before × IsMove shape P before s after)

-- A RUN WITHIN BOUNDS: on links between two nodes each, with no more steps than a journal takes
pub record IsBoundedRun (shape : Shape) (P : List Step) (links : Links) : Type 0 where
  pub two_ends : HasTwoEnds shape
  pub fits : length P ≤ step_limit
  pub run : IsRun shape P links

-- a run is legal, by the laws of nodes and links, and its links are what its history tells
pub record IsSoundRun (shape : Shape) (P : List Step) (links : Links) : Type 0 where
  pub legal : IsLegal shape P
  pub linked : AreLinksKept shape P links

-- EVERY RUN IS LEGAL, and its links are what its history tells
abbrev pub RunsAreLegal : Type 0
RunsAreLegal = (shape : Shape) (P : List Step) (links : Links) → IsBoundedRun shape P links
    → IsSoundRun shape P links

-- NOTHING VANISHES. Where the trunk of a link is quiet, an open endpoint has got all that anybody
-- of the other side ever sent it in the session
abbrev pub NothingVanishes : List Step → (n m : ℕ) → LinkNo → SideRecord → SideRecord → Type 0
NothingVanishes P n m l A B = IsQuiet A B → (a b : Inc) → is_on m a ≡ true
    → is_alive P n (Here b) ≡ true
    → arrived_from P b (There l A.now.session a) ≡ sent_to P a (There l B.now.session b)

-- nothing vanishes over any link, either way
abbrev pub NothingVanishesThere : Shape → List Step → Links → Type 0
NothingVanishesThere shape P links = (l : LinkNo) → IsLinkOf shape l → (side : Side)
    → NothingVanishes P (node_at shape l side) (node_at shape l (other_of side)) l
    (links l.0 side).side (links l.0 (other_of side)).side

-- a name for which a hunt is pending over a link is that of no living peer
abbrev pub AllUnfound : List Step → Type 0
AllUnfound P = (n : ℕ) (l : LinkNo) (v : List ℕ) → is_hunted P n l v ≡ true → IsUnfound P n l v

-- a hunt of node n is pending for a name of the own node
abbrev pub is_hunted_here : List Step → ℕ → List ℕ → Bool
is_hunted_here P n v = list_any (is_for (Local v)) (hunting P n)

-- a name that a pending hunt looks for on its own node is that of no open endpoint there
abbrev pub AllUnfoundHere : List Step → Type 0
AllUnfoundHere P = (n : ℕ) (v : List ℕ) → is_hunted_here P n v ≡ true → HasNone P n v

-- an attach at node n is between living: its holder is open there, and its peer is alive
pub record IsBetweenLiving (P : List Step) (n : ℕ) (a : PendingAttach) : Type 0 where
  pub holder : is_alive P n (Here a.at) ≡ true
  pub peer : is_alive P n a.peer ≡ true

-- each attach that is owed a notification is between living
abbrev pub AllBetweenLiving : List Step → Type 0
AllBetweenLiving P = (n : ℕ) → AllByRecursion (IsBetweenLiving P n) (owed P n)

-- a link that rests is still: nothing is under way on it
abbrev pub RestsAreStill : Shape → List Step → Links → Type 0
RestsAreStill shape P links = (l : LinkNo) → IsLinkOf shape l
    → IsResting P l (links l.0 First) (links l.0 Second) → IsStill shape P l

-- what is promised of the journal so far and of the links that it left
pub record KeepsPromises (shape : Shape) (P : List Step) (links : Links) : Type 0 where
  -- on a node an endpoint has got just what another sent it
  pub nodes : KeepsNodePromises shape P
  -- arrivals are fronts of what was sent, at an endpoint that is still open complete once the
  -- close was told, and then over
  pub carried : AllCarried shape P
  -- so they are at any endpoint from any peer
  pub fronts : AllGotFronts P
  -- complete when its close is notified
  pub told_whole : AllToldWhole P
  -- and never followed by more
  pub told_last : NeverAfterTold P
  -- sessions pair both ways and go forward, and whoever is met was not closed before the paired
  -- session went up
  pub packets : KeepsLinkPromises shape P
  -- no pending hunt names a living peer, over a link or on its own node
  pub unfound : AllUnfound P
  pub unfound_here : AllUnfoundHere P
  -- each attach that is owed a notification is of a living peer, and its holder is open
  pub between_living : AllBetweenLiving P
  pub vanishes_none : NothingVanishesThere shape P links
  -- each link that rests is still
  pub still : RestsAreStill shape P links

-- WHAT IS PROMISED HOLDS AFTER EACH STEP, and before the first one, of the links that the moves so
-- far left
abbrev pub KeepsThroughout : Shape → List Step → Links → Type 0
KeepsThroughout shape [] links = KeepsPromises shape [] links × AreFirst shape links
KeepsThroughout shape (s ∷ P) after =
    KeepsPromises shape (s ∷ P) after
    × ((before : Links) × (KeepsThroughout shape P before × IsMove shape P before s after))

-- EVERY RUN KEEPS ITS PROMISES, before its first step and after each one
abbrev pub RunsKeepPromises : Type 0
RunsKeepPromises = (shape : Shape) (P : List Step) (links : Links) → IsBoundedRun shape P links
    → KeepsThroughout shape P links
