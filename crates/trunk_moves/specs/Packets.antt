-- What a packet, and a tick, makes of a trunk, with what its node does when it is told of it.
use Rattle.std.specs.Prelude.{ℕ, ◌-◌, ◌≡◌, nat_lt, Bool, true, false, if◌then◌else◌, List, [], ◌∷◌}
use Rattle.std.specs.Prelude.{length, Option, Some, None}
use Rattle.linx_base.specs.Pending.{names_over}
use Rattle.linx_base.specs.Sides.{other_of}
use Rattle.linx_base.specs.declared.frame.Verdict.{Verdict}
use Rattle.linx_base.specs.declared.frame.Verdict.TheVariants.{Deliver, Lose, Repeat, Swap}
use Rattle.linx_base.specs.declared.identity.Inc.{Inc}
use Rattle.linx_base.specs.declared.identity.LinkNo.{LinkNo}
use Rattle.linx_base.specs.declared.identity.Session.{Session}
use Rattle.linx_base.specs.declared.identity.Side.{Side}
use Rattle.rlnh_end.specs.declared.heard.Heard.{Heard}
use Rattle.carrier.specs.Events.{flight_from, handed_by, link_told_by}
use Rattle.journal.specs.Living.{holder_of}
use Rattle.journal.specs.Pending.{hunting}
use Rattle.journal.specs.declared.effect.Effect.{Effect}
use Rattle.journal.specs.declared.effect.Step.{Step}
use Rattle.link_laws.specs.Brought.{Brought, arrives, brought_at, goes_down, goes_up, meets}
use Rattle.link_laws.specs.Brought.{nothing, parts}
use Rattle.trunk.specs.declared.up.TrunkUp.{TrunkUp}
use Rattle.trunk.specs.declared.up.TrunkUp.TheVariants.{Nothing, WentUp, WentDown, Arrived, Met}
use Rattle.trunk.specs.declared.up.TrunkUp.TheVariants.{Gone, Asked}
use Rattle.trunk.specs.Events.{IsReading, TrunkState, asked_at, delivered, kept_of, lost_from}
use Rattle.trunk.specs.Events.{published_at, swapped_from, ticked_at, told_by}
use Rattle.trunk.specs.Tells.{up_of_tick}

-- ---- what a node does when it is told

-- the names of the hunts of a node that are pending over a link, in order of hunting
abbrev pub names_hunted : List Step → ℕ → LinkNo → List (List ℕ)
names_hunted P n l = names_over l (hunting P n)

-- a side asks for names, one after the other
abbrev pub asks_for : Side → List (List ℕ) → TrunkState → TrunkState
asks_for side [] t = t
asks_for side (name ∷ names) t = asks_for side names (asked_at side name t)

-- a side publishes an endpoint of this name, where there is one
abbrev pub publishes_if : Side → List ℕ → Option Inc → TrunkState → TrunkState
publishes_if side name None t = t
publishes_if side name (Some i) t = published_at side i name t

-- a side that went up asks for the name of each hunt that is pending over the link; one that is
-- asked for a name publishes an endpoint of that name
abbrev pub answered : List Step → ℕ → LinkNo → Side → TrunkUp → TrunkState → TrunkState
answered P n l side (WentUp session peer) t = asks_for side (names_hunted P n l) t
answered P n l side (Asked name) t = publishes_if side name (holder_of P n name) t
answered P n l side up t = t

-- what is told in a session brings this to the node
abbrev pub told_brings : Session → TrunkUp → Brought
told_brings x Nothing = nothing
told_brings x (WentUp session peer) = goes_up session peer
told_brings x (WentDown session) = goes_down session
told_brings x (Arrived from to signal) = arrives x from to signal
told_brings x (Met inc name) = meets x inc name
told_brings x (Gone inc) = parts x inc
told_brings x (Asked name) = nothing

-- what is told at a side of a trunk has these effects at node n
abbrev pub told_at : List Step → ℕ → LinkNo → Side → TrunkState → TrunkUp → List Effect
told_at P n l side t up = brought_at P n l (told_brings (kept_of side t).now.session up)

-- ---- a packet

-- the packet at place 0 comes, by a reading of what it makes whole, and stays in flight or is gone
pub record Comes (P : List Step) (n : ℕ) (l : LinkNo) (from : Side) (keep : Bool)
    (es : List Effect) (before after : TrunkState) : Type 0 where
  pub heard : Heard
  pub reading : IsReading (handed_by from 0 before.link) heard
  pub effects : es ≡ told_at P n l (other_of from) before (told_by from 0 heard before)
  pub makes : after ≡ answered P n l (other_of from) (told_by from 0 heard before)
      (delivered from 0 keep heard before)

-- the packet at place 0 is lost
pub record IsLostThere (from : Side) (es : List Effect) (before after : TrunkState) : Type 0 where
  pub effects : es ≡ []
  pub makes : after ≡ lost_from from 0 before

-- the place that a swap names, or the last one where there are fewer packets
abbrev pub place_of : ℕ → ℕ → ℕ
place_of k count = if nat_lt k count then k else count - 1

-- the packet at place 0 is exchanged with the one at the place that the swap names
pub record IsSwapped (from : Side) (k : ℕ) (es : List Effect) (before after : TrunkState) : Type 0
  where
    pub effects : es ≡ []
    pub makes :
        after
        ≡ swapped_from from 0 (place_of k (length (flight_from from before.link))) before

-- what a verdict makes of the packet at place 0 from a side
abbrev pub Meets : List Step → ℕ → LinkNo → Side → Verdict → List Effect → TrunkState → TrunkState
    → Type 0
Meets P n l from Deliver es before after = Comes P n l from false es before after
Meets P n l from Repeat es before after = Comes P n l from true es before after
Meets P n l from Lose es before after = IsLostThere from es before after
Meets P n l from (Swap k) es before after = IsSwapped from k es before after

-- ---- a tick

-- a side is ticked: the trunk is the one that the tick leaves, and the effects are what it tells
pub record IsBeat (P : List Step) (n : ℕ) (l : LinkNo) (side : Side) (es : List Effect)
    (before after : TrunkState) : Type 0 where
  pub effects : es ≡ told_at P n l side before (up_of_tick (link_told_by side before.link))
  pub makes : after ≡ ticked_at side before
