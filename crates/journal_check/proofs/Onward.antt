-- WHAT IS KNOWN AFTER A LEGAL STEP is what the history then leaves.
use Rattle.std.proofs.Common.{◌≡◌, ◌≢◌, ℕ, zero, suc, ◌<◌, ◌≤◌, Bool, true, false, List, ◌∷◌}
use Rattle.std.proofs.Common.{length, Option, Some, None, refl, sym, ◌∙◌, ap, subst, arith, ◌-◌}
use Rattle.std.proofs.Common.{nat_lt, slice_get, slice_set, ltb-false, ltb-true}
use Rattle.linx_base.specs.declared.identity.Inc.{Inc}
use Rattle.linx_base.specs.declared.identity.NodeNo.{NodeNo}
use Rattle.journal.specs.declared.by.By.{By}
use Rattle.journal.specs.declared.by.By.TheVariants.{Actor}
use Rattle.journal.specs.declared.effect.Effect.{Effect}
use Rattle.journal.specs.declared.effect.Step.{Step}
use Rattle.journal.specs.declared.head.Head.{Head}
use Rattle.journal.specs.History.{endpoint_of}
use Rattle.journal.specs.Laws.{effects_by}
use Rattle.journal.specs.Shapes.{Shape}
use Rattle.journal.specs.Shapes.{node_by}
use Rattle.journal.specs.declared.head.Head.TheVariants as heads
use Rattle.journal.proofs.Openings.{IsShort}
use Rattle.link_laws.specs.Laws.{HasEffects, IsLegalStep}
use Rattle.node_kernel.specs.Calls.{after_restart}
use Rattle.node_kernel.specs.Nodes.{NodeState}
use Rattle.fabric.specs.Remains.{AreNodesLeft, node_left}
use Rattle.fabric.proofs.AfterStep.NodeAtALink.{node-restart}
use Rattle.fabric.proofs.AfterStep.OtherNodes.{changed_node, node_left-elsewhere, step-about}
use Rattle.journal_check.specs.Brought.{side_reached}
use Rattle.journal_check.specs.Calls.{AnswersAs, call_after}
use Rattle.journal_check.specs.Standings.{AreStandingsLeft}
use Rattle.journal_check.specs.Standings.{standing_left}
use Rattle.journal_check.specs.Tables.{AreLeft, ArePast, Known, endpoint_of_maker}
use Rattle.journal_check.specs.Tables.{kernel_of, kernel_of_maker, kernels_after, restarted_in}
use Rattle.journal_check.specs.Tables.{restarted_node}
use Rattle.journal_check.specs.declared.standing.Standing.{Standing}
use Rattle.journal_check.proofs.Actors.{endpoint-is}
use Rattle.journal_check.proofs.Lists.{set-left}
use Rattle.journal_check.proofs.Nodes.{called-left, home-node, kernel-past, maker-left}

-- THE STANDINGS
pub standings-next : (P : List Step) (s : Step) (old new : List Standing)
    → AreStandingsLeft P old → ArePast s old new → AreStandingsLeft (s ∷ P) new
standings-next P s old new left past k under =
    past.each k (standing_left P (suc k)) (left k (omega (arith, past.counted)))

-- a step off the links that restarts no node changes its maker's
changed-home : (shape : Shape) (by : By) (head : Head) → restarted_node head ≡ None
    → side_reached head ≡ None → changed_node shape by head ≡ node_by shape by
changed-home shape by (heads.Restart m) plain off = cc
changed-home shape by (heads.Wire l side verdict) plain off = cc off
changed-home shape by (heads.Tick l side) plain off = cc off
changed-home shape by _ plain off = refl

-- such a head has the effects of its node
plain-effects : (shape : Shape) (P : List Step) (node : ℕ) (me : Option Inc) (head : Head)
    (es : List Effect) → restarted_node head ≡ None → side_reached head ≡ None
    → HasEffects shape P node me head es → es ≡ effects_by P node me head
plain-effects shape P node me (heads.Restart m) es plain off has = cc
plain-effects shape P node me (heads.Wire l side verdict) es plain off has = cc off
plain-effects shape P node me (heads.Tick l side) es plain off has = cc off
plain-effects shape P node me _ es plain off has = has

module _ (P : List Step) (t : Known) (left : AreLeft P t) (short : IsShort P) (a : ℕ)
    (above : 0 < a) (within : a ≤ length t.shape.actors) (es : List Effect) where
  abbrev pub step_of : Head → Step
  step_of head = record { by = Actor a; head = head; effects = es }

  abbrev at : ℕ
  at = suc (length P)

  abbrev home : ℕ
  home = node_by t.shape (Actor a)

  abbrev before : ℕ → NodeState
  before n = node_left P (record { 0 = n })

  abbrev after : Head → ℕ → NodeState
  after head n = node_left (step_of head ∷ P) (record { 0 = n })

  -- every other node stays
  elsewhere : (head : Head) → IsLegalStep t.shape P (step_of head) → (n : ℕ)
      → changed_node t.shape (Actor a) head ≢ n → after head n ≡ before n
  elsewhere head step n other =
      node_left-elsewhere t.shape P left.legal short (step_of head)
      (step-about t.shape P left.legal short (step_of head) step) (record { 0 = n }) other

  -- a call changes the kernel of the maker's node
  call-next : (head : Head) → restarted_node head ≡ None → side_reached head ≡ None
      → IsLegalStep t.shape P (step_of head)
      → AnswersAs (before home) (endpoint_of P a) head
      → AreNodesLeft (step_of head ∷ P)
      (slice_set t.kernels (home - 1)
      (call_after (kernel_of_maker t (Actor a)) at (endpoint_of_maker t (Actor a)) head))
  call-next head plain off step answers =
      let node = home-node P t left a above within in
      let back : home ≡ suc (home - 1) =
      let over : 0 < home = node.0 in omega arith in
      let inside : home - 1 < length t.kernels =
      let over : 0 < home = node.0 in let under : home ≤ length t.kernels = node.1 in omega arith in
      let same : es ≡ effects_by P home (endpoint_of P a) head =
      plain-effects t.shape P home (endpoint_of P a) head es plain off step.nodes.effects in
      let is : call_after (before home) at (endpoint_of P a) head ≡ after head home =
      sym (ap (λ (xs : List Effect). node_left (record { by = Actor a; head = head; effects = xs }
      ∷ P) (record { 0 = home })) same
      ∙ called-left t.shape P left.legal short a (record { 0 = home }) refl head plain
      step.nodes.endpoints answers) in
      let told : call_after (kernel_of_maker t (Actor a)) at (endpoint_of_maker t (Actor a)) head
      ≡ after head (suc (home - 1)) =
      ap (λ (n : NodeState). call_after n at (endpoint_of_maker t (Actor a)) head)
      (maker-left P t left a above within)
      ∙ ap (λ (e : Option Inc). call_after (before home) at e head)
      (endpoint-is P t left a above within)
      ∙ is ∙ ap (after head) back in
      set-left before (after head) t.kernels left.kernels (home - 1)
      (λ n other. elsewhere head step (suc n) (λ same. other (
      let e : home ≡ suc n = sym (changed-home t.shape (Actor a) head plain off) ∙ same in
      omega arith)))
      (call_after (kernel_of_maker t (Actor a)) at (endpoint_of_maker t (Actor a)) head)
      inside told

  -- a restart that of its node, if there is one
  module _ (m : NodeNo) (step : IsLegalStep t.shape P (step_of (heads.Restart m))) where
    abbrev restart : Head
    restart = heads.Restart m

    abbrev Next : List NodeState → Type 0
    Next kernels = AreNodesLeft (step_of restart ∷ P) kernels

    stay : (kernels : List NodeState) → kernels ≡ t.kernels
        → ((n : ℕ) → n < length t.kernels → m.0 ≢ suc n) → Next kernels
    stay kernels same off n under =
        let inside : n < length t.kernels =
        subst (λ (xs : List NodeState). n < length xs) same under in
        ap (λ (xs : List NodeState). slice_get xs n) same
        ∙ left.kernels n inside
        ∙ ap (λ (x : NodeState). Some x) (sym (elsewhere restart step (suc n) (off n inside)))

    set_node : (n : ℕ) → m.0 ≡ suc n → n < length t.kernels
        → Next (restarted_in (kernel_of t.kernels (suc n)) t.kernels (suc n))
    set_node n is inside =
        let back : n ≡ suc n - 1 = omega arith in
        let restarted : after_restart (before (suc n)) ≡ after restart (suc n) =
        ap (λ (x : ℕ). after_restart (before x)) (sym is)
        ∙ sym (node-restart t.shape P left.legal short (Actor a) m
        (let h : m.0 ≡ suc n = is in omega arith))
        ∙ ap (λ (xs : List Effect). node_left (record { by = Actor a; head = restart; effects = xs }
        ∷ P) m) (sym step.nodes.effects)
        ∙ ap (after restart) is in
        subst (λ (o : Option NodeState). Next (restarted_in o t.kernels (suc n)))
        (sym (left.kernels n inside))
        (subst (λ (p : ℕ). Next (slice_set t.kernels p (after_restart (before (suc n))))) back
        (set-left before (after restart) t.kernels left.kernels n
        (λ j other. elsewhere restart step (suc j) (λ same. other (
        let h : m.0 ≡ suc n = is in omega arith)))
        (after_restart (before (suc n))) inside restarted))

    past_all : (n : ℕ) → m.0 ≡ suc n → length t.kernels ≤ n
        → Next (restarted_in (kernel_of t.kernels (suc n)) t.kernels (suc n))
    past_all n is beyond =
        let none : kernel_of t.kernels (suc n) ≡ None =
        kernel-past P t left short (suc n)
        (λ at. let h : suc n ≤ length t.kernels = at.1 in omega arith) in
        stay (restarted_in (kernel_of t.kernels (suc n)) t.kernels (suc n))
        (ap (λ (o : Option NodeState). restarted_in o t.kernels (suc n)) none)
        (λ j inside same. let h : m.0 ≡ suc n = is in
        let beyond_it : length t.kernels ≤ n = beyond in omega arith)

    by_place : (n : ℕ) → m.0 ≡ suc n → (b : Bool) → nat_lt n (length t.kernels) ≡ b
        → Next (restarted_in (kernel_of t.kernels (suc n)) t.kernels (suc n))
    by_place n is true e = set_node n is (ltb-true n (length t.kernels) e)
    by_place n is false e = past_all n is (ltb-false n (length t.kernels) e)

    by_number : (n : ℕ) → m.0 ≡ n → Next (restarted_in (kernel_of t.kernels n) t.kernels n)
    by_number zero is =
        stay t.kernels refl (λ j inside same. let h : m.0 ≡ 0 = is in omega arith)
    by_number (suc n) is = by_place n is (nat_lt n (length t.kernels)) refl

    restart-next : Next (restarted_in (kernel_of t.kernels m.0) t.kernels m.0)
    restart-next = by_number m.0 refl

  -- THE KERNELS
  pub kernels-next : (head : Head) → side_reached head ≡ None
      → IsLegalStep t.shape P (step_of head)
      → AnswersAs (before home) (endpoint_of P a) head
      → AreNodesLeft (step_of head ∷ P) (kernels_after t at (Actor a) head)
  kernels-next (heads.Restart m) off step answers = restart-next m step
  kernels-next _ off step answers = call-next _ refl off step answers
