-- When a step is legal after the steps before it, on nodes and links, and a journal is.
use Rattle.std.specs.Prelude.{ℕ, zero, suc, ◌≡◌, ◌≤◌, Bool, true, false, List, [], ◌∷◌, ◌++◌}
use Rattle.std.specs.Prelude.{length, Option, Some, None}
use Rattle.linx_base.specs.Sides.{other_of}
use Rattle.linx_base.specs.declared.frame.Verdict.{Verdict}
use Rattle.linx_base.specs.declared.frame.Verdict.TheVariants.{Deliver, Lose, Repeat, Swap}
use Rattle.linx_base.specs.declared.identity.Inc.{Inc}
use Rattle.linx_base.specs.declared.identity.LinkNo.{LinkNo}
use Rattle.linx_base.specs.declared.identity.Session.{Session}
use Rattle.linx_base.specs.declared.identity.Side.{Side}
use Rattle.journal.specs.Effects.{closings, losing}
use Rattle.journal.specs.History.{endpoint_by, open_endpoints}
use Rattle.journal.specs.Laws.{IsBounded, KeepsEndpoints, KeepsMakers, KeepsReceives, KeepsSends}
use Rattle.journal.specs.Laws.{effects_by}
use Rattle.journal.specs.Pending.{owed}
use Rattle.journal.specs.Sessions.{up_session}
use Rattle.journal.specs.Shapes.{Shape, node_by}
use Rattle.journal.specs.declared.effect.Effect.{Effect}
use Rattle.journal.specs.declared.effect.Effect.TheVariants.{Down}
use Rattle.journal.specs.declared.effect.Step.{Step}
use Rattle.journal.specs.declared.head.Head.{Head}
use Rattle.journal.specs.declared.head.Head.TheVariants.{TakeNone, Restart, Cut, Mend, Settle}
use Rattle.journal.specs.declared.head.Head.TheVariants.{Wire, Tick}
use Rattle.link_laws.specs.Brought.{Brought, MayBring, brought_at}
use Rattle.link_laws.specs.Ends.{IsLinkOf, node_at}
use Rattle.link_laws.specs.Sessions.{LosesIfCut, silent_ticks}
use Rattle.link_laws.specs.Still.{AllStill}

-- EFFECTS. The session of a node on a link that a restart ends, if it is up
abbrev pub down_if : ℕ → ℕ → Option Session → List Effect
down_if node link None = []
down_if node link (Some x) = Down (record { 0 = node }) (record { 0 = link }) x ∷ []

-- the ends of the sessions of a node that are up, on the first so many links, by number
abbrev pub downs_of : List Step → ℕ → ℕ → List Effect
downs_of P node zero = []
downs_of P node (suc k) = downs_of P node k ++ down_if node (suc k) (up_session P node (suc k))

-- the effects of a restart: each session of the node that is up ends, and then each open endpoint
-- is closed; nobody is notified
abbrev pub restarting : Shape → List Step → ℕ → List Effect
restarting shape P node = downs_of P node (length shape.links) ++ closings (open_endpoints P node)

-- THE EFFECTS of a step off the links are those that its head has, of one on a link those that the
-- laws of packets and of ticks name
abbrev pub HasEffects : Shape → List Step → ℕ → Option Inc → Head → List Effect → Type 0
HasEffects shape P node me (Restart n) es = es ≡ restarting shape P n.0
HasEffects shape P node me (Wire l from verdict) es = Unit {0}
HasEffects shape P node me (Tick l side) es = Unit {0}
HasEffects shape P node me head es = es ≡ effects_by P node me head

-- LAW OF REST. A receive finds none only where every link is still
abbrev pub KeepsRest : Shape → List Step → Head → Type 0
KeepsRest shape P (TakeNone filter) = AllStill shape P
KeepsRest shape P _ = Unit {0}

-- LAW OF LINKS. A packet and a tick are of a link that there is, and what is cut, mended or settled
-- is one
abbrev pub KeepsLinks : Shape → Head → Type 0
KeepsLinks shape (Wire l from verdict) = IsLinkOf shape l
KeepsLinks shape (Tick l side) = IsLinkOf shape l
KeepsLinks shape (Cut l) = IsLinkOf shape l
KeepsLinks shape (Mend l) = IsLinkOf shape l
KeepsLinks shape (Settle l) = IsLinkOf shape l
KeepsLinks shape _ = Unit {0}

-- the verdict hands the packet over
abbrev pub delivers : Verdict → Bool
delivers Deliver = true
delivers Lose = false
delivers Repeat = true
delivers (Swap k) = false

-- LAW OF PACKETS. A packet that is handed over to node n from node m brings one thing, with exactly
-- its effects, and what it brings may come
pub record ArePacketEffects (P : List Step) (n m : ℕ) (l : LinkNo) (es : List Effect) : Type 0 where
  pub what : Brought
  pub effects : es ≡ brought_at P n l what
  pub may : MayBring P n m l what

-- a packet that is handed over keeps the law of packets, and one that isn't brings nothing
abbrev pub IsHandedOver : Bool → List Step → (n m : ℕ) → LinkNo → List Effect → Type 0
IsHandedOver true P n m l es = ArePacketEffects P n m l es
IsHandedOver false P n m l es = es ≡ []

-- a packet that meets a verdict keeps the law of packets
abbrev pub KeepsPackets : Shape → List Step → Head → List Effect → Type 0
KeepsPackets shape P (Wire l from verdict) es =
    IsHandedOver (delivers verdict) P (node_at shape l (other_of from)) (node_at shape l from) l es
KeepsPackets shape P _ es = Unit {0}

-- LAW OF CUTS. While a link is cut, its packets are lost
abbrev pub KeepsCuts : List Step → Head → Type 0
KeepsCuts P (Wire l from verdict) = LosesIfCut P l verdict
KeepsCuts P _ = Unit {0}

-- LAW OF TICKS. A tick does nothing, or its side was silent for two ticks or more, and then the
-- session that is up is lost. A packet that brings nothing is heard too, and stands in no effect, so
-- a side may stay longer
pub data IsTick (P : List Step) (n : ℕ) (l : LinkNo) (side : Side) (es : List Effect) : Type 0
  where
    stays : es ≡ [] → IsTick P n l side es
    loses : (x : Session) → up_session P n l.0 ≡ Some x → 2 ≤ silent_ticks P n l.0 side
        → es ≡ losing (record { 0 = n }) l x (owed P n) → IsTick P n l side es

-- a tick keeps the law of ticks
abbrev pub KeepsTicks : Shape → List Step → Head → List Effect → Type 0
KeepsTicks shape P (Tick l side) es = IsTick P (node_at shape l side) l side es
KeepsTicks shape P _ es = Unit {0}

-- THE LAWS OF NODES, which the tables of the nodes keep without a look at what the links hold
pub record KeepsNodeLaws (shape : Shape) (P : List Step) (s : Step) : Type 0 where
  pub makers : KeepsMakers shape P s.by s.head
  pub endpoints : KeepsEndpoints (endpoint_by P s.by) s.head
  pub bounds : IsBounded s.head
  pub effects : HasEffects shape P (node_by shape s.by) (endpoint_by P s.by) s.head s.effects
  pub sends : KeepsSends P (node_by shape s.by) s.head
  pub receives : KeepsReceives shape P (node_by shape s.by) s.by (endpoint_by P s.by) s.head
  pub links : KeepsLinks shape s.head

-- A STEP IS LEGAL after the steps P where it keeps the laws of nodes and those of what the links
-- hold. Where a receive finds none, the law of receiving asks that its maker is at rest, and the
-- law of rest that every link is still
pub record IsLegalStep (shape : Shape) (P : List Step) (s : Step) : Type 0 where
  pub nodes : KeepsNodeLaws shape P s
  pub rest : KeepsRest shape P s.head
  pub packets : KeepsPackets shape P s.head s.effects
  pub cuts : KeepsCuts P s.head
  pub ticks : KeepsTicks shape P s.head s.effects

-- a journal is legal: each step is, after the steps before it
abbrev pub IsLegal : Shape → List Step → Type 0
IsLegal shape [] = Unit {0}
IsLegal shape (s ∷ P) = IsLegal shape P × IsLegalStep shape P s
