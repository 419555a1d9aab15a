-- An actor's cut, mend or end of a link's plans, as the fabric's method makes it.
use Rattle.std.proofs.Common.{◌≡◌, ℕ, suc, List, [], ◌∷◌, length, Option, None, get_or, refl, sym}
use Rattle.std.proofs.Common.{◌∙◌, ap, subst, arith, false, ◌-◌, slice_get, slice_set}
use Rattle.linx_base.specs.declared.identity.LinkNo.{LinkNo}
use Rattle.linx_base.specs.SigNotes.{SigNote}
use Rattle.journal.specs.declared.by.By.TheVariants.{Actor}
use Rattle.journal.specs.declared.effect.Step.{Step}
use Rattle.journal.specs.declared.effect.Effect.{Effect}
use Rattle.journal.specs.declared.event.Event.TheVariants as asks
use Rattle.journal.specs.declared.event.Event.{Event}
use Rattle.journal.specs.declared.head.Head.{Head}
use Rattle.journal.specs.Logs.{Log}
use Rattle.journal.specs.Shapes.{node_by}
use Rattle.journal.specs.Pending.{attach_in, detaches, hunt_in}
use Rattle.journal.specs.Laws.{effects_by}
use Rattle.link_laws.specs.Ends.{IsLinkOf}
use Rattle.node_kernel.specs.declared.answers.StepAnswer.TheVariants as answers
use Rattle.node_kernel.specs.Answers.{asks_to_open, needs_endpoint}
use Rattle.trunk_moves.specs.Steps.{IsTrunkStep, Makes}
use Rattle.fabric.specs.declared.line.Line.{Line}
use Rattle.fabric.specs.declared.line.Mark.{Mark}
use Rattle.fabric.specs.declared.line.Mark.TheVariants.{Cut, Mend, Settle}
use Rattle.fabric.specs.declared.standing.Standing.{Standing}
use Rattle.fabric.specs.Actings.{HasMade, asking}
use Rattle.fabric.specs.Asks.{FitsEvent}
use Rattle.fabric.specs.Lines.{event_of_mark, head_of_mark, marked}
use Rattle.fabric.specs.Machine.{head_of, signal_in}
use Rattle.fabric.specs.Remains.{IsKept, Parts, node_left, standing_left}
use Rattle.fabric.specs.Run.{IsStepOf, Layout}
use Rattle.fabric.specs.Standings.{waiting_no_more, waiting_none}
use Rattle.fabric.specs.Links.{no_link_stirs}
use Rattle.fabric.proofs.AfterStep.Effects.{leaves-none}
use Rattle.fabric.proofs.AfterStep.OtherNodes.{changed_node}
use Rattle.fabric.proofs.Methods.Legal.{IsLawful, IsNamedEvent, LawfulIf, granted-plain}
use Rattle.fabric.proofs.Trunks.Lines.{own-mark}
use Rattle.fabric.proofs.Methods.AllSteps.{IsLogged, granted}
use Rattle.fabric.proofs.AfterStep.NodeOffTheLinks.{node-quiet}
use Rattle.fabric.proofs.AfterStep.EndpointsStay.{TakesNone}
use Rattle.fabric.proofs.Methods.StepsOnLinks.{kernels-same, laid, made-on_link, mark-on}
use Rattle.fabric.proofs.Standings.KernelAndStanding.{Acts, before, standing-is}
use Rattle.fabric.proofs.Methods.KernelAndLine.{line-is}
use Rattle.linx_base.specs.declared.pending.PendingAttach.{PendingAttach}

module _ {f : Layout} {parts : Parts} {actor place home : ℕ} (acts : Acts f parts actor place home)
    (l : LinkNo) (of_shape : IsLinkOf f.shape l) where
  open f use {shape, log.{steps as P}}
  open acts use {at}
  open before acts use {trunks, node, now, me, legal_log, fits}

  abbrev step_by : Head → Step
  step_by head = record { by = Actor actor; head = head; effects = [] }

  -- the standings once their actor waits no more
  waiting-is : (standing then : Standing) → standing ≡ get_or parts.standings place standing
      → then ≡ record standing { waits = None }
      → waiting_no_more (Actor actor) parts.standings ≡ slice_set parts.standings place then
  waiting-is standing then stands then_eq =
      let place_is : actor - 1 ≡ place = let own : actor ≡ suc place = at.own in omega arith in
      ap (λ (k : ℕ). waiting_none (slice_get parts.standings k) parts.standings k) place_is
      ∙ ap (λ (o : Option Standing). waiting_none o parts.standings place)
      (at.kept.left.standings place at.inside)
      ∙ ap (λ (s : Standing). slice_set parts.standings place (let t : Standing = record s
      { waits = None } in t))
      (ap (standing_left P) (sym at.own) ∙ sym (standing-is at standing stands))
      ∙ ap (slice_set parts.standings place) (sym then_eq)

  -- the parts after it
  abbrev pub with_mark : Standing → Line → Parts
  with_mark standing line =
      record parts {
        standings = slice_set parts.standings place standing;
        lines = slice_set parts.lines (l.0 - 1) line;
      }

  -- what is asked for is lawful
  asked : (event : Event) → asks_to_open event ≡ false → needs_endpoint event ≡ false
      → IsNamedEvent event → FitsEvent f (node_by shape (Actor actor)) event (signal_in None)
      → LawfulIf (length f.log.names.nodes) shape P trunks actor acts.maker acts.room
      (head_of shape P (no_link_stirs shape P trunks) actor (node_by shape (Actor actor)) me event
      (signal_in None))
  asked event opens_not needs_not named fit =
      granted acts event (signal_in None) (granted-plain me event opens_not needs_not) named
      (omega arith) fit

  -- A MARK whose head leaves the nodes and the trunks
  made-mark : (mark : Mark) → (let head : Head = head_of_mark mark l in
      IsLawful (length f.log.names.nodes) shape P trunks (step_by head)
      → Makes shape P trunks trunks (node_by shape (Actor actor)) me head []
      → changed_node shape (Actor actor) head ≡ suc home → ((n : ℕ) → effects_by P n me head ≡ [])
      → TakesNone head → hunt_in node.0 now me head ≡ []
      → ((a : PendingAttach) → detaches me head a ≡ false) → attach_in node.0 now me head ≡ []
      → (line next : Line) → line ≡ get_or parts.lines (l.0 - 1) line → next ≡ marked mark line
      → (standing then : Standing) → standing ≡ get_or parts.standings place standing
      → then ≡ record standing { waits = None }
      → (new : Log) → new ≡ record f.log { steps = step_by head ∷ P }
      → IsKept (laid f new f.trunks) (with_mark then next)
      × IsStepOf f (laid f new f.trunks) (Actor actor) head answers.Done)
  made-mark mark lawful makes changed none takes hunts cancels attaches line next line_is next_eq
      standing then stands then_eq new new_eq =
      let head : Head = head_of_mark mark l in
      let step : IsTrunkStep shape P trunks (step_by head) trunks =
      record { laws = lawful.laws; makes = makes } in
      let left : node_left (step_by head ∷ P) node ≡ node_left P node =
      ap (λ (es : List Effect). node_left (record { by = Actor actor; head = head; effects = es }
      ∷ P) node) (sym (none (node_by shape (Actor actor))))
      ∙ node-quiet shape P legal_log fits actor node at.home_is head (none node.0) takes hunts
      cancels attaches in
      let made = made-on_link at.kept acts.short (step_by head) f.trunks step lawful acts.maker
      at.kept.counted.trunks l of_shape (mark-on l mark) leaves-none next
      (next_eq ∙ ap (marked mark) (line-is at.kept l of_shape line line_is)
      ∙ sym (own-mark P (Actor actor) [] l mark))
      parts.kernels refl
      (kernels-same at.kept acts.short (step_by head) f.trunks step node changed left)
      new new_eq f.trunks refl in (
        subst (λ (xs : List Standing). IsKept (laid f new f.trunks) (record parts
            { standings = xs; lines = slice_set parts.lines (l.0 - 1) next }))
            (waiting-is standing then stands then_eq) made.0,
        made.1,
      )

  -- AN ACTOR MARKS A LINK
  pub made-marked : (mark : Mark) (line next : Line) → line ≡ get_or parts.lines (l.0 - 1) line
      → next ≡ marked mark line
      → (standing then : Standing) → standing ≡ get_or parts.standings place standing
      → then ≡ record standing { waits = None }
      → (new : Log) → IsLogged acts new (head_of_mark mark l) []
      → IsKept (laid f new f.trunks) (with_mark then next)
      × HasMade f (laid f new f.trunks) actor (asking (event_of_mark mark l) None) answers.Done
  made-marked Cut = made-mark Cut (asked (asks.Cut l) refl refl tt of_shape) (λ k of_link. refl)
      at.home_is (λ n. refl) (λ x. refl) refl (λ a. refl) refl
  made-marked Mend = made-mark Mend (asked (asks.Mend l) refl refl tt of_shape) (λ k of_link. refl)
      at.home_is (λ n. refl) (λ x. refl) refl (λ a. refl) refl
  made-marked Settle = made-mark Settle (asked (asks.Settle l) refl refl tt of_shape)
      (λ k of_link. refl) at.home_is (λ n. refl) (λ x. refl) refl (λ a. refl) refl

-- what is asked of a mark is that its link is one of the shape
pub mark-fits : (f : Layout) (node : ℕ) (note : SigNote) (mark : Mark) (l : LinkNo)
    → FitsEvent f node (event_of_mark mark l) note → IsLinkOf f.shape l
mark-fits f node note Cut l fits = fits
mark-fits f node note Mend l fits = fits
mark-fits f node note Settle l fits = fits
