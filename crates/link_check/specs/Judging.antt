-- The laws of what links hold: of which a book tells whether a step keeps them, and what else a legal
-- step keeps.
use Rattle.std.specs.Prelude.{◌≡◌, ◌↔◌, true, List, ◌∷◌, length, Option}
use Rattle.linx_base.specs.declared.identity.Inc.{Inc}
use Rattle.journal.specs.History.{endpoint_by}
use Rattle.journal.specs.Shapes.{Shape}
use Rattle.journal.specs.declared.effect.Step.{Step}
use Rattle.link_laws.specs.Laws.{IsLegalStep, KeepsCuts, KeepsLinks, KeepsNodeLaws, KeepsRest}
use Rattle.node_kernel.specs.Nodes.{NodeState}
use Rattle.link_check.specs.Books.{BookSoFar, IsBookLeft, IsPast}
use Rattle.link_check.specs.Coming.{HasExact, MayPass, MayTick}
use Rattle.link_check.specs.Links.{is_of_link}
use Rattle.link_check.specs.Told.{AreLeft, IsReady, keeps_cuts, keeps_rest, may_pass, may_tick}

-- a step keeps the laws of links: those of packets and of ticks by what their effects tell
pub record KeepsLinkLaws (shape : Shape) (P : List Step) (s : Step) : Type 0 where
  pub links : KeepsLinks shape s.head
  pub rest : KeepsRest shape P s.head
  pub packets : MayPass shape P s.head s.effects
  pub cuts : KeepsCuts P s.head
  pub ticks : MayTick shape P s.head s.effects

-- A STEP IS LEGAL exactly where it keeps the laws of nodes and these, and the effects of its packet
-- or tick are exactly those that they tell
pub record IsLegalBy (shape : Shape) (P : List Step) (s : Step) : Type 0 where
  pub nodes : KeepsNodeLaws shape P s
  pub links : KeepsLinkLaws shape P s
  pub exact : HasExact shape P s.head s.effects

-- so it is of every step after every history
abbrev pub LegalByLaws : Type 0
LegalByLaws =
    (shape : Shape) (P : List Step) (s : Step) → IsLegalStep shape P s ↔ IsLegalBy shape P s

-- A BOOK AND THE KERNELS tell of a step whether it keeps the law of links, and that of rest; and
-- where its link is there, those of packets, cuts and ticks
pub record TellLinkLaws (shape : Shape) (P : List Step) (book : BookSoFar)
    (kernels : List NodeState) (s : Step) : Type 0 where
  pub links : (is_of_link (length book.links) s.head ≡ true) ↔ KeepsLinks shape s.head
  pub rest : (keeps_rest book kernels s.head ≡ true) ↔ KeepsRest shape P s.head
  pub packets : is_of_link (length book.links) s.head ≡ true
      → (may_pass book kernels s.head s.effects ≡ true) ↔ MayPass shape P s.head s.effects
  pub cuts : is_of_link (length book.links) s.head ≡ true
      → (keeps_cuts book s.head ≡ true) ↔ KeepsCuts P s.head
  pub ticks : is_of_link (length book.links) s.head ≡ true
      → (may_tick book s.head s.effects ≡ true) ↔ MayTick shape P s.head s.effects

-- so they do after every legal history that leaves them
abbrev pub BooksTellLaws : Type 0
BooksTellLaws =
    (shape : Shape) (P : List Step) (book : BookSoFar) (kernels : List NodeState)
    → AreLeft shape P book kernels → IsReady book kernels → (s : Step)
    → TellLinkLaws shape P book kernels s

-- A BOOK FOLLOWS a history: past a legal step it is what the longer one leaves
abbrev pub BooksFollow : Type 0
BooksFollow =
    (shape : Shape) (P : List Step) (s : Step) → IsLegalStep shape P s → (me : Option Inc)
    → me ≡ endpoint_by P s.by → (old new : BookSoFar) → IsBookLeft P shape.links old
    → IsPast me s old new → IsBookLeft (s ∷ P) shape.links new
