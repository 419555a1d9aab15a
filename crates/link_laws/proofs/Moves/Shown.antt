-- What a move has to show: its step is legal, its links are kept, and it keeps what is promised;
-- and this for a step that touches no side and leaves all of them.
use Rattle.std.proofs.Common.{◌≡◌, ℕ, ◌<◌, true, false, List, [], ◌∷◌, length, sym, ◌∙◌, ap, arith}
use Rattle.std.proofs.Common.{filter_map}
use Rattle.std.specs.List.{list_any}
use Rattle.linx_base.specs.Peers.{same_inc}
use Rattle.linx_base.specs.declared.identity.Inc.{Inc}
use Rattle.linx_base.specs.declared.identity.LinkNo.{LinkNo}
use Rattle.linx_base.specs.declared.identity.Session.{Session}
use Rattle.journal.specs.History.{closes, endpoint_by, opened_in}
use Rattle.journal.specs.Logs.{step_limit}
use Rattle.journal.specs.Shapes.{Shape}
use Rattle.journal.specs.declared.by.By.{By}
use Rattle.journal.specs.declared.effect.Effect.{Effect}
use Rattle.journal.specs.declared.effect.Step.{Step}
use Rattle.journal.specs.declared.head.Head.{Head}
use Rattle.journal.proofs.Openings.{IsShort}
use Rattle.link_laws.specs.Came.{signal_over}
use Rattle.link_laws.specs.Ends.{HasTwoEnds, node_at}
use Rattle.link_laws.specs.Sides.{AllLinked, AreLinksKept, Links, records_of}
use Rattle.link_laws.specs.Laws.{IsLegal, IsLegalStep}
use Rattle.link_laws.specs.Linked.{IsUnfound, is_hunted}
use Rattle.link_laws.specs.Moves.{AllLeft}
use Rattle.link_laws.specs.Promises.{PromisesOf}
use Rattle.link_laws.specs.Sessions.{restarts}
use Rattle.link_laws.proofs.Sides.Acts.{keeps_quiet}
use Rattle.link_laws.proofs.Sides.Untouched.{touches}
use Rattle.link_laws.proofs.Sides.WordsAfterStep.{IsDone}
use Rattle.link_laws.proofs.Hunts.EachStep.{hunts_stay}
use Rattle.link_laws.proofs.Hunts.Questions.{IsSameHere}
use Rattle.link_laws.proofs.AllLinks.OneSideKept.{all_kept, raises-none, tells-none}
use Rattle.link_laws.proofs.AllLinks.OneSideKept.{untouched-raises}
use Rattle.link_laws.proofs.Endpoints.OpenAfterStep.{OpensNew, opened-any}
use Rattle.link_laws.proofs.AllLinks.Publishings.{opened_step}
use Rattle.link_laws.proofs.Hunts.UnfoundPeers.{unfound}
use Rattle.linx_base.specs.Sides.{other_of}

-- a step of these parts
abbrev pub step_of : By → Head → List Effect → Step
step_of by head es = record { by = by; head = head; effects = es }

-- what is known before a step
pub record IsKnown (shape : Shape) (P : List Step) (links : Links) : Type 0 where
  pub two : HasTwoEnds shape
  pub room : length P < step_limit
  pub legal : IsLegal shape P
  pub kept : AreLinksKept shape P links

pub short : (shape : Shape) (P : List Step) (links : Links) → IsKnown shape P links → IsShort P
short shape P links known = let few = known.room in omega arith

pub short_after : (shape : Shape) (P : List Step) (links : Links) (s : Step)
    → IsKnown shape P links → IsShort (s ∷ P)
short_after shape P links s known = let few = known.room in omega arith

-- no pending hunt names a living peer, before it
pub unfound_before : (shape : Shape) (P : List Step) (links : Links) → IsKnown shape P links
    → (n : ℕ) (l : LinkNo) (v : List ℕ) → is_hunted P n l v ≡ true → IsUnfound P n l v
unfound_before shape P links known =
    unfound shape P known.legal (short shape P links known)

-- what is shown of it
pub record IsGood (shape : Shape) (P : List Step) (s : Step) (after : Links) : Type 0 where
  pub legal : IsLegalStep shape P s
  pub kept : AreLinksKept shape (s ∷ P) after
  pub promised : PromisesOf shape P s.head s.effects

-- what opens nothing opens nothing that was opened before
pub opens-nothing : (P : List Step) (es : List Effect) → filter_map opened_in es ≡ []
    → OpensNew P es
opens-nothing P es none i was = sym (opened-any i es) ∙ ap (list_any (same_inc i)) none

-- A STEP THAT TOUCHES NO SIDE, says nothing and closes nobody
pub record TouchesNone (P : List Step) (s : Step) : Type 0 where
  pub es : List Effect
  pub items : List Effect
  pub done : IsDone s es items
  pub touches_none : (n l : ℕ) → list_any (touches n l) es ≡ false
  pub opens_none : filter_map opened_in es ≡ []
  pub closes_none : (i : Inc) → list_any (closes i) es ≡ false
  pub stays : (n : ℕ) → restarts n s.head ≡ false
  pub says_none : (n h : ℕ) (x : Session) → signal_over n h x (endpoint_by P s.by) s.head ≡ []

pub linked_untouched : (shape : Shape) (P : List Step) (s : Step) (links : Links)
    → TouchesNone P s → AreLinksKept shape P links → AllLinked shape (s ∷ P) (records_of links)
linked_untouched shape P s links quiet kept h of_h side =
    keeps_quiet P s quiet.es quiet.items quiet.done (node_at shape h side) h
    (records_of links h.0 side) (kept.linked h of_h side)
    (quiet.touches_none (node_at shape h side) h.0) (quiet.stays (node_at shape h side))
    (opens-nothing P quiet.es quiet.opens_none)
    (λ x. quiet.says_none (node_at shape h side) h.0 x) (λ i live. quiet.closes_none i)

-- it keeps all sides where it leaves them, and no hunt over a link and no open name is new
pub left_kept : (shape : Shape) (P : List Step) (s : Step) (before after : Links)
    → TouchesNone P s → ((n m : ℕ) (l : LinkNo) → IsSameHere P (s ∷ P) n m l)
    → AllLeft shape before after → AreLinksKept shape P before
    → AreLinksKept shape (s ∷ P) after
left_kept shape P s before after quiet same left kept =
    all_kept shape P s before after left kept
    (linked_untouched shape P s before quiet kept)
    (opened_step shape P (records_of before) s kept.opened
    (raises-none s quiet.es quiet.items quiet.done
    (λ n l x. untouched-raises n l x quiet.es (quiet.touches_none n l))))
    (λ l of_shape side.
    hunts_stay P (s ∷ P) (node_at shape l side) (node_at shape l (other_of side)) l
    (before l.0 side).side (before l.0 (other_of side)).side (before l.0 (other_of side)).noted
    (same (node_at shape l side) (node_at shape l (other_of side)) l) (kept.hunted l of_shape side))
    (λ n l. tells-none s quiet.es quiet.items quiet.done n l (quiet.touches_none n l))
