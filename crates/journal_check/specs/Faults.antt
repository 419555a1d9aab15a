-- The laws of a step by their names, and the first fault of a journal.
use Rattle.std.specs.Prelude.{◌-◌, ◌≡◌, List, [], ◌∷◌, Option, Some, None}
use Rattle.std.specs.List.{AllByRecursion}
use Rattle.linx_base.specs.declared.identity.ItemAt.{ItemAt}
use Rattle.journal.specs.declared.effect.Step.{Step}
use Rattle.journal.specs.Histories.{first_steps}
use Rattle.journal.specs.History.{endpoint_by}
use Rattle.journal.specs.Laws.{IsBounded, KeepsEndpoints}
use Rattle.journal.specs.Laws.{KeepsMakers, KeepsReceives, KeepsSends}
use Rattle.journal.specs.Shapes.{Shape, node_by}
use Rattle.link_laws.specs.Laws.{HasEffects, IsLegal, IsLegalStep, KeepsCuts, KeepsLinks}
use Rattle.link_laws.specs.Laws.{KeepsPackets, KeepsRest, KeepsTicks}
use Rattle.journal_check.specs.Earliest.{earliest_at}
use Rattle.journal_check.specs.declared.law.Fault.{Fault}
use Rattle.journal_check.specs.declared.law.Law.{Law}
use Rattle.journal_check.specs.declared.law.Law.TheVariants as laws

-- a step after the steps P keeps a law
abbrev pub Keeps : Shape → List Step → Step → Law → Type 0
Keeps shape P s laws.Makers = KeepsMakers shape P s.by s.head
Keeps shape P s laws.Endpoints = KeepsEndpoints (endpoint_by P s.by) s.head
Keeps shape P s laws.Bounds = IsBounded s.head
Keeps shape P s laws.Effects =
    HasEffects shape P (node_by shape s.by) (endpoint_by P s.by) s.head s.effects
Keeps shape P s laws.Sends = KeepsSends P (node_by shape s.by) s.head
Keeps shape P s laws.Receives =
    KeepsReceives shape P (node_by shape s.by) s.by (endpoint_by P s.by) s.head
Keeps shape P s laws.Links = KeepsLinks shape s.head
Keeps shape P s laws.Rest = KeepsRest shape P s.head
Keeps shape P s laws.Packets = KeepsPackets shape P s.head s.effects
Keeps shape P s laws.Cuts = KeepsCuts P s.head
Keeps shape P s laws.Ticks = KeepsTicks shape P s.head s.effects

-- the laws that are looked at before a law, the last one first
abbrev pub laws_before : Law → List Law
laws_before laws.Makers = []
laws_before laws.Endpoints = laws.Makers ∷ []
laws_before laws.Bounds = laws.Endpoints ∷ laws.Makers ∷ []
laws_before laws.Effects = laws.Bounds ∷ laws.Endpoints ∷ laws.Makers ∷ []
laws_before laws.Sends = laws.Effects ∷ laws.Bounds ∷ laws.Endpoints ∷ laws.Makers ∷ []
laws_before laws.Receives =
    laws.Sends ∷ laws.Effects ∷ laws.Bounds ∷ laws.Endpoints ∷ laws.Makers ∷ []
laws_before laws.Links =
    laws.Receives ∷ laws.Sends ∷ laws.Effects ∷ laws.Bounds ∷ laws.Endpoints ∷ laws.Makers ∷ []
laws_before laws.Rest =
    laws.Links ∷ laws.Receives ∷ laws.Sends ∷ laws.Effects ∷ laws.Bounds ∷ laws.Endpoints
    ∷ laws.Makers ∷ []
laws_before laws.Packets =
    laws.Rest ∷ laws.Links ∷ laws.Receives ∷ laws.Sends ∷ laws.Effects ∷ laws.Bounds
    ∷ laws.Endpoints ∷ laws.Makers ∷ []
laws_before laws.Cuts =
    laws.Packets ∷ laws.Rest ∷ laws.Links ∷ laws.Receives ∷ laws.Sends ∷ laws.Effects
    ∷ laws.Bounds ∷ laws.Endpoints ∷ laws.Makers ∷ []
laws_before laws.Ticks =
    laws.Cuts ∷ laws.Packets ∷ laws.Rest ∷ laws.Links ∷ laws.Receives ∷ laws.Sends
    ∷ laws.Effects ∷ laws.Bounds ∷ laws.Endpoints ∷ laws.Makers ∷ []

-- a law is the first that a step breaks
pub record Breaks (shape : Shape) (P : List Step) (s : Step) (law : Law) : Type 0 where
  pub earlier : AllByRecursion (Keeps shape P s) (laws_before law)
  pub broken : Keeps shape P s law → ⊥

-- A VERDICT on a step: it is legal, or this law is the first that it breaks
abbrev pub IsVerdict : Shape → List Step → Step → Option Law → Type 0
IsVerdict shape P s None = IsLegalStep shape P s
IsVerdict shape P s (Some law) = Breaks shape P s law

-- what is told of a step beside the law that it breaks: where that is the law of receiving, what the
-- step was to take
abbrev pub told_beside : Law → List Step → Step → Option ItemAt
told_beside laws.Receives P s = earliest_at P s
told_beside _ P s = None

-- THE FAULT of a journal: a step of it, before which all are legal, and the first law that it breaks;
-- of a receive, too, which item it was to take
pub record IsFault (shape : Shape) (steps : List Step) (fault : Fault) : Type 0 where
  pub step : Step
  pub there : first_steps fault.step steps ≡ step ∷ first_steps (fault.step - 1) steps
  pub legal : IsLegal shape (first_steps (fault.step - 1) steps)
  pub breaks : Breaks shape (first_steps (fault.step - 1) steps) step fault.law
  pub earliest : fault.earliest ≡ told_beside fault.law (first_steps (fault.step - 1) steps) step

-- WHAT A CHECK ANSWERS: nothing where the journal is legal, or else its fault
abbrev pub IsAnswer : Shape → List Step → Option Fault → Type 0
IsAnswer shape steps None = IsLegal shape steps
IsAnswer shape steps (Some fault) = IsFault shape steps fault
