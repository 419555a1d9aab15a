-- What a run keeps of its links: the states of their sides.
use Rattle.std.specs.Prelude.{ℕ, ◌≤◌, List}
use Rattle.linx_base.specs.Sides.{other_of}
use Rattle.linx_base.specs.declared.identity.LinkNo.{LinkNo}
use Rattle.linx_base.specs.declared.identity.Side.{Side}
use Rattle.trunk_record.specs.Records.{SideRecord}
use Rattle.trunk_record.specs.Trunks.{IsHalf}
use Rattle.journal.specs.Shapes.{Shape}
use Rattle.journal.specs.declared.effect.Step.{Step}
use Rattle.link_laws.specs.Ends.{IsLinkOf, node_at}
use Rattle.link_laws.specs.Linked.{AreHunted, IsLinked}
use Rattle.link_laws.specs.Promises.{ArePublishedOpen}
use Rattle.link_laws.specs.Sessions.{silent_ticks}

-- the sides of a run's trunks, by the number of the link
abbrev pub Trunks : Type 0
Trunks = ℕ → Side → SideRecord

-- each pair of sides is what a trunk keeps
abbrev pub AllTrunks : Shape → Trunks → Type 0
AllTrunks shape trunks = (l : LinkNo) → IsLinkOf shape l → (side : Side)
    → IsHalf (trunks l.0 side) (trunks l.0 (other_of side))

-- each side of each link is what the history tells
abbrev pub AllLinked : Shape → List Step → Trunks → Type 0
AllLinked shape P trunks = (l : LinkNo) → IsLinkOf shape l → (side : Side)
    → IsLinked P (node_at shape l side) l (trunks l.0 side)

-- a side as a run sees it: its record, the names that the other side asked for in vain, and the
-- ticks since it heard
pub record SideState : Type 0 where
  pub side : SideRecord
  pub noted : List (List ℕ)
  pub silent : ℕ

-- the sides of a run's links, by the number of the link
abbrev pub Links : Type 0
Links = ℕ → Side → SideState

-- the records of the sides of all links
abbrev pub records_of : Links → Trunks
records_of links k at = (links k at).side

-- each side's hunts stand somewhere, seen with what the other side has noted
abbrev pub AllHunted : Shape → List Step → Links → Type 0
AllHunted shape P links = (l : LinkNo) → IsLinkOf shape l → (side : Side)
    → AreHunted P (node_at shape l side) (node_at shape l (other_of side)) l
    (links l.0 side).side (links l.0 (other_of side)).side (links l.0 (other_of side)).noted

-- each side's ticks in silence are no more than the history tells
abbrev pub AllSilent : Shape → List Step → Links → Type 0
AllSilent shape P links = (l : LinkNo) → IsLinkOf shape l → (side : Side)
    → (links l.0 side).silent ≤ silent_ticks P (node_at shape l side) l.0 side

-- what each side published in a session was not closed before that went up
abbrev pub AllPublishedOpen : Shape → List Step → Trunks → Type 0
AllPublishedOpen shape P trunks = (l : LinkNo) → IsLinkOf shape l → (side : Side)
    → ArePublishedOpen P (node_at shape l side) l (trunks l.0 side)

-- WHAT A RUN KEEPS OF ITS LINKS, beside a legal journal
pub record AreLinksKept (shape : Shape) (P : List Step) (links : Links) : Type 0 where
  pub trunks : AllTrunks shape (records_of links)
  pub linked : AllLinked shape P (records_of links)
  pub opened : AllPublishedOpen shape P (records_of links)
  pub hunted : AllHunted shape P links
  pub silent : AllSilent shape P links
