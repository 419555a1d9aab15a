-- What a node and its sides of links ask of each other, and every run grants.
use Rattle.std.specs.Prelude.{ℕ, ◌≡◌, ◌≢◌, true, false, List, map, None}
use Rattle.linx_base.specs.Sides.{other_of}
use Rattle.linx_base.specs.declared.identity.Inc.{Inc}
use Rattle.linx_base.specs.declared.identity.LinkNo.{LinkNo}
use Rattle.linx_base.specs.declared.identity.Peer.TheVariants.{Here, There}
use Rattle.linx_base.specs.declared.identity.Session.{Session}
use Rattle.linx_base.specs.declared.identity.Side.{Side}
use Rattle.trunk_record.specs.Records.{SideRecord}
use Rattle.trunk_record.specs.Sayings.{Given, arrived, asked_for, freed, gone, heard_as, is_live}
use Rattle.trunk_record.specs.Sayings.{met, was_unpublished}
use Rattle.trunk_record.specs.Trunks.{FitsReceiver}
use Rattle.journal.specs.Living.{is_alive}
use Rattle.journal.specs.Shapes.{Shape}
use Rattle.journal.specs.declared.effect.Step.{Step}
use Rattle.link_laws.specs.Ends.{IsLinkOf, node_at}
use Rattle.link_laws.specs.Sides.{Links}
use Rattle.link_laws.specs.Moves.{IsTold}
use Rattle.link_laws.specs.Runs.{IsBoundedRun}

-- WHAT A NODE IS GIVEN FITS IT: whom it meets is no living peer as yet, a signal arrives at an open
-- endpoint from a living peer and is freed where its receiver is closed, and who goes was alive
abbrev pub FitsNode : List Step → ℕ → LinkNo → SideRecord → Given → Type 0
FitsNode P n l A (met a name) = is_alive P n (There l A.now.session a) ≡ false
FitsNode P n l A (asked_for name) = Unit {0}
FitsNode P n l A (arrived a b note) =
    (is_alive P n (Here b) ≡ true) × (is_alive P n (There l A.now.session a) ≡ true)
FitsNode P n l A (freed a b note) = is_alive P n (Here b) ≡ false
FitsNode P n l A (gone a) = is_alive P n (There l A.now.session a) ≡ true

-- a peer over a link can be sent to: the side is up in the peer's session, and has met it there
pub record CanSend (A : SideRecord) (x : Session) (b : Inc) : Type 0 where
  pub own : x ≡ A.now.session
  pub up : A.now.peer ≢ None
  pub known : is_live b (map heard_as A.now.given) ≡ true

-- WHAT A NODE ASKS OF ITS SIDE FITS IT: a living peer can be sent to, and an open endpoint was not
-- unpublished in this session
pub record FitsSide (P : List Step) (n : ℕ) (l : LinkNo) (A : SideRecord) : Type 0 where
  pub sends : (x : Session) (b : Inc) → is_alive P n (There l x b) ≡ true → CanSend A x b
  pub says : (j : Inc) → is_alive P n (Here j) ≡ true → was_unpublished j A.now.said ≡ false

-- what the trunk of a side may give it next fits the side's node
abbrev pub FitsNext : List Step → ℕ → LinkNo → SideRecord → SideRecord → Type 0
FitsNext P n l A B = (g : Given) → IsTold A B g → FitsReceiver A g → FitsNode P n l A g

-- what a node is given next fits it, and what it asks of its side fits that
pub record FitsBoth (P : List Step) (n : ℕ) (l : LinkNo) (A B : SideRecord) : Type 0 where
  pub side : FitsSide P n l A
  pub node : FitsNext P n l A B

-- EVERY RUN within its bounds grants both, on each side of each link
abbrev pub RunsFit : Type 0
RunsFit = (shape : Shape) (P : List Step) (links : Links) → IsBoundedRun shape P links
    → (l : LinkNo) → IsLinkOf shape l → (side : Side)
    → FitsBoth P (node_at shape l side) l (links l.0 side).side (links l.0 (other_of side)).side
