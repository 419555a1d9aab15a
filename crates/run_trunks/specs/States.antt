-- The trunks of the links of a run, by the places of their links, as they were when the event began
-- and as they are now.
use Rattle.std.specs.Prelude.{ℕ, ◌≡◌, ◌-◌, ◌≤◌, List, [], map, slice_index_or, slice_set}
use Rattle.std.specs.List.{AllByRecursion}
use Rattle.linx_base.specs.Both.{Both}
use Rattle.linx_base.specs.declared.frame.LinkDecl.{LinkDecl}
use Rattle.linx_base.specs.declared.identity.LinkNo.{LinkNo}
use Rattle.ethcm_end.specs.Sound.{IsPiece}
use Rattle.journal.specs.Shapes.{Shape}
use Rattle.link_laws.specs.Ends.{IsLinkOf}
use Rattle.trunk.specs.Events.{TrunkState, new_trunk}
use Rattle.trunk_moves.specs.Trunks.{RunTrunks}

-- the links of a run, and the trunk of each, as it was when the event began and as it is now
pub record TrunksState : Type 0 where
  pub links : List LinkDecl
  pub was : List TrunkState
  pub is : List TrunkState

-- the trunks as they were when the event began
abbrev pub was_of : List (Both TrunkState) → List TrunkState
was_of trunks = map (λ (t : Both TrunkState). t.was) trunks

-- the trunks as they are now
abbrev pub is_of : List (Both TrunkState) → List TrunkState
is_of trunks = map (λ (t : Both TrunkState). t.is) trunks

-- ---- by the numbers of the links

-- a shape that has these links
abbrev pub over : List LinkDecl → Shape
over links = record { links = links; actors = [] }

-- there is a link of this number
abbrev pub HasLink : TrunksState → LinkNo → Type 0
HasLink s l = IsLinkOf (over s.links) l

-- a trunk to name where there is none
unfoldable pub no_trunk : TrunkState
no_trunk = new_trunk 1 64

-- the trunk at a place, from 0
abbrev pub trunk_at : List TrunkState → ℕ → TrunkState
trunk_at ts place = slice_index_or ts place no_trunk

-- the trunks by the numbers of their links, from 1
abbrev pub trunks_of : List TrunkState → RunTrunks
trunks_of ts k = trunk_at ts (k - 1)

-- the trunk of a link, as it was when the event began and as it is now
abbrev pub both_at : TrunksState → LinkNo → Both TrunkState
both_at s l = record { was = trunks_of s.was l.0; is = trunks_of s.is l.0 }

-- ---- at rest

-- nothing has changed since the event began
abbrev pub resting : List LinkDecl → List TrunkState → TrunksState
resting links ts = record { links = links; was = ts; is = ts }

-- what the event changed on all links stays
abbrev pub kept : TrunksState → TrunksState
kept s = resting s.links s.is

-- what was when the event began is again, on all links
abbrev pub undone : TrunksState → TrunksState
undone s = resting s.links s.was

-- what the event changed on one link stays, and can't be undone any more
abbrev pub kept_at : LinkNo → TrunksState → TrunksState
kept_at l s = record s { was = slice_set s.was (l.0 - 1) (trunks_of s.is l.0) }

-- nothing but the trunk of this link has changed since the event began
abbrev pub OnlyChangedAt : LinkNo → TrunksState → Type 0
OnlyChangedAt l s = s.is ≡ slice_set s.was (l.0 - 1) (trunks_of s.is l.0)

-- ---- before the first step

-- a link's window is at least one frame, and its piece size that of a piece
pub record FitsTrunk (link : LinkDecl) : Type 0 where
  pub window : 1 ≤ link.window
  pub piece : IsPiece link.piece

-- each link has a window and a piece size that a trunk can have
abbrev pub AllFit : List LinkDecl → Type 0
AllFit links = AllByRecursion FitsTrunk links

-- a new trunk for each link
abbrev pub new_trunks : List LinkDecl → List TrunkState
new_trunks links = map (λ (link : LinkDecl). new_trunk link.window link.piece) links
