-- The trunks of a run, by the numbers of their links: the sides that a run of moves sees of them,
-- what they keep, and what the sides of a node do.
use Rattle.std.specs.Prelude.{ℕ, ◌≡◌, ◌≤◌, ◌<◌, ◌==◌, Bool, true, false, if◌then◌else◌, Option}
use Rattle.std.specs.Prelude.{Some, None}
use Rattle.linx_base.specs.declared.identity.LinkNo.{LinkNo}
use Rattle.linx_base.specs.declared.identity.Side.{Side}
use Rattle.linx_base.specs.declared.identity.Side.TheVariants.{First, Second}
use Rattle.link_addresses.specs.Meanings.{used_in}
use Rattle.journal.specs.Shapes.{Shape}
use Rattle.link_laws.specs.Ends.{IsLinkOf, node_at}
use Rattle.link_laws.specs.Sides.{Links, SideState}
use Rattle.trunk.specs.Events.{TrunkState, kept_of, new_trunk, tables_of}
use Rattle.trunk.specs.Keeping.{KeepsTrunk}
use Rattle.trunk.specs.Tells.{noted_of, silent_of}

-- the trunks of a run, by the number of the link
abbrev pub RunTrunks : Type 0
RunTrunks = ℕ → TrunkState

-- what a run of moves sees of a side: its record, the names that it has noted, its ticks in silence
abbrev pub state_of : Side → TrunkState → SideState
state_of side t =
    record { side = kept_of side t; noted = noted_of side t; silent = silent_of side t }

-- what a run of moves sees of all sides of a run with trunks
abbrev pub links_of : RunTrunks → Links
links_of trunks k side = state_of side (trunks k)

-- every link's trunk is kept
abbrev pub AllKept : Shape → RunTrunks → Type 0
AllKept shape trunks = (l : LinkNo) → IsLinkOf shape l → KeepsTrunk (trunks l.0)

-- a side has no more than so many addresses in use
abbrev pub UsesUpTo : ℕ → TrunkState → Type 0
UsesUpTo n t = (side : Side) → used_in (tables_of side t).own ≤ n

-- every side of every link has no more than so many addresses in use
abbrev pub AllUseUpTo : Shape → ℕ → RunTrunks → Type 0
AllUseUpTo shape n trunks = (l : LinkNo) → IsLinkOf shape l → UsesUpTo n (trunks l.0)

-- the trunks are these, on the links of the shape
abbrev pub Become : Shape → RunTrunks → RunTrunks → Type 0
Become shape after made = (l : LinkNo) → IsLinkOf shape l → after l.0 ≡ made l.0

-- ---- what the sides of a node do

-- the side of a link that is on a node, if one is
abbrev pub side_if : Bool → Bool → Option Side
side_if true second = Some First
side_if false true = Some Second
side_if false false = None

-- the side of a link that is on a node, if one is
abbrev pub side_on : Shape → ℕ → LinkNo → Option Side
side_on shape n l = side_if (node_at shape l First == n) (node_at shape l Second == n)

-- a side does something, where there is that side
abbrev pub does : Option Side → (Side → TrunkState → TrunkState) → TrunkState → TrunkState
does None act t = t
does (Some side) act t = act side t

-- the side of each link that is on a node does something
abbrev pub all_do : Shape → ℕ → (Side → TrunkState → TrunkState) → RunTrunks → RunTrunks
all_do shape n act trunks k = does (side_on shape n (record { 0 = k })) act (trunks k)

-- one link's trunk is this now
abbrev pub with_trunk : RunTrunks → ℕ → TrunkState → RunTrunks
with_trunk trunks link t k = if k == link then t else trunks k

-- ---- before the first step

-- a trunk before anything happened, with a window of at least one frame and pieces of at least 64
-- bytes
pub record IsNew (t : TrunkState) : Type 0 where
  pub window : ℕ
  pub piece : ℕ
  pub has_window : 1 ≤ window
  pub has_piece : 64 ≤ piece
  pub made : t ≡ new_trunk window piece

-- all trunks are new
abbrev pub AllNew : Shape → RunTrunks → Type 0
AllNew shape trunks = (l : LinkNo) → IsLinkOf shape l → IsNew (trunks l.0)

-- the numbers of the nodes of links fit 32 bits
abbrev pub NodesFit : Shape → Type 0
NodesFit shape = (l : LinkNo) → IsLinkOf shape l → (side : Side) → node_at shape l side < 4294967296
