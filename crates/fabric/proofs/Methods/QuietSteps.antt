-- A look, a refusal, and the end of an actor without an endpoint, as the fabric's methods make
-- them.
use Rattle.std.proofs.Common.{◌≡◌, ℕ, suc, Bool, true, false, ◌&&◌, ◌||◌, List, [], ◌∷◌, length}
use Rattle.std.proofs.Common.{Option, Some, None, get_or, refl, sym, ◌∙◌, ap, subst, arith, is_some}
use Rattle.std.proofs.Common.{filter, true≢false}
use Rattle.std.proofs.lemmas.Bool.{and_parts}
use Rattle.linx_base.specs.declared.identity.Inc.{Inc}
use Rattle.linx_base.specs.declared.item.Item.{Item}
use Rattle.sigsel.specs.Selection.{first_selected}
use Rattle.sigsel.specs.declared.sigsel.Sigsel.{Sigsel}
use Rattle.journal.specs.declared.by.By.TheVariants.{Actor}
use Rattle.journal.specs.declared.effect.Effect.{Effect}
use Rattle.journal.specs.declared.effect.Step.{Step}
use Rattle.journal.specs.declared.event.Event.TheVariants as asks
use Rattle.journal.specs.declared.head.Head.{Head}
use Rattle.journal.specs.declared.head.Head.TheVariants as heads
use Rattle.journal.specs.declared.head.Refusal.{Refusal}
use Rattle.journal.specs.Effects.{ending}
use Rattle.journal.specs.History.{is_end}
use Rattle.journal.specs.Logs.{Log}
use Rattle.journal.specs.Pending.{owed, attach_in, detaches, hunt_in}
use Rattle.journal.specs.Queues.{queued}
use Rattle.journal.specs.Rest.{queue_of, waits_in, waits_with}
use Rattle.journal.specs.Shapes.{node_by}
use Rattle.journal.specs.Laws.{effects_by}
use Rattle.node_kernel.specs.declared.answers.StepAnswer.{StepAnswer}
use Rattle.node_kernel.specs.declared.answers.StepAnswer.TheVariants as answers
use Rattle.node_kernel.specs.Answers.{refused, answer_of}
use Rattle.node_kernel.specs.Nodes.{NodeState, items_at}
use Rattle.fabric.specs.declared.standing.Standing.{Standing}
use Rattle.fabric.specs.Looks.{after_take, with_take}
use Rattle.fabric.specs.Actings.{HasMade, asking}
use Rattle.fabric.specs.Machine.{is_at_rest, look, signal_in, vain_look}
use Rattle.fabric.specs.Remains.{IsKept, Parts, node_left}
use Rattle.fabric.specs.Run.{IsStepFor, Layout, IsStepOf}
use Rattle.trunk_moves.specs.Steps.{trunks_ending}
use Rattle.trunk_moves.specs.Trunks.{Become}
use Rattle.fabric.proofs.AfterStep.QueuePositions.{item-came}
use Rattle.fabric.proofs.AfterStep.Effects.{only-none}
use Rattle.fabric.proofs.AfterStep.OtherNodes.{changed_node}
use Rattle.fabric.proofs.Methods.Legal.{IsLawful, LawfulIf, is_restart, refused-lawful}
use Rattle.fabric.proofs.Methods.Legal.{effects-plain}
use Rattle.fabric.proofs.Trunks.Lines.{IsApart}
use Rattle.fabric.proofs.AfterStep.NodeOffTheLinks.{node-quiet, node-take, own-items}
use Rattle.fabric.proofs.Standings.MakerAfterStep.{own-none}
use Rattle.fabric.proofs.Standings.AfterStep.{standing_past}
use Rattle.fabric.proofs.Standings.KernelAndStanding.{Acts, before, kernel-is, standing-is}
use Rattle.fabric.proofs.Trunks.Resting.{rests-all}
use Rattle.fabric.proofs.Methods.AllSteps.{MakesTrunks, calm_own, granted, granted-own, is-step}
use Rattle.fabric.proofs.Methods.AllSteps.{with_own, with_standing, IsLogged, logged-as, made-items}
use Rattle.fabric.proofs.AfterStep.EndpointsStay.{TakesNone}
use Rattle.fabric.proofs.Methods.StepsOnLinks.{laid}
use Rattle.linx_base.specs.declared.pending.PendingAttach.{PendingAttach}

module _ {f : Layout} {parts : Parts} {actor place home : ℕ} (acts : Acts f parts actor place home)
  where
    open f use {shape, log, log.{steps as P}}
    open acts use {at}
    open before acts use {trunks, calm_links, node, now, old, stood, me, step_by, legal_log, fits}

    -- A LOOK. What its endpoint's kernel selects is what its queue has
    selected-is : (j : Inc) (f : Sigsel) → me ≡ Some j → (kernel : NodeState)
        → kernel ≡ get_or parts.kernels home kernel
        → first_selected f (items_at kernel.endpoints j) ≡ first_selected f (queued P j)
    selected-is j f mine kernel is =
        ap (λ (k : NodeState). first_selected f (items_at k.endpoints j)) (kernel-is at kernel is)
        ∙ ap (first_selected f) (own-items shape P legal_log fits actor node at.home_is j mine)

    queue-is : (j : Inc) (f : Sigsel) → me ≡ Some j
        → first_selected f (queue_of P me) ≡ first_selected f (queued P j)
    queue-is j f mine = ap (λ (e : Option Inc). first_selected f (queue_of P e)) mine

    -- the trunks as they were
    abbrev pub lay_still : Log → Layout
    lay_still new = laid f new f.trunks

    -- the head of a look, by what is selected
    abbrev looks : Sigsel → Option Item → Option Head
    looks filter o = look shape P calm_links actor filter o

    pub made-take : (j : Inc) (filter : Sigsel) (item : Item) → me ≡ Some j
        → (kernel next : NodeState) → kernel ≡ get_or parts.kernels home kernel
        → first_selected filter (items_at kernel.endpoints j) ≡ Some item
        → next ≡ after_take kernel j filter
        → (standing then : Standing) → standing ≡ get_or parts.standings place standing
        → then ≡ record standing { waits = None }
        → (new : Log) → new ≡ record log {
          steps = with_take (Actor actor) filter
              (first_selected filter (items_at kernel.endpoints j)) P;
        }
        → IsKept (lay_still new) (with_own acts next then)
        × HasMade f (lay_still new) actor (asking (asks.Look filter) None) (answers.Took item)
    made-take j filter item mine kernel next is selected next_eq standing then stands then_eq new
        new_eq =
        let k_is : kernel ≡ old = kernel-is at kernel is in
        let in_queue : first_selected filter (queued P j) ≡ Some item = sym
        (selected-is j filter mine kernel is) ∙ selected in
        let of_me : first_selected filter (queue_of P me) ≡ Some item = queue-is j filter mine
        ∙ in_queue in
        let head : Head = heads.Take filter item.pos in
        let legal : IsLawful (length f.log.names.nodes) shape P trunks (step_by head) =
        subst (λ (o : Option Item). LawfulIf (length f.log.names.nodes) shape P trunks actor
        acts.maker acts.room (looks filter o)) of_me
        (granted acts (asks.Look filter) (signal_in None) (granted-own acts (asks.Look filter)
        refl j mine) tt
        (omega arith) tt)
        in
        let both = made-items acts kernel next is standing then stands new f.trunks
        at.kept.counted.trunks head refl (λ l. tt) at.home_is refl refl legal []
        (new_eq ∙ ap (λ (o : Option Item). let l : Log = record log
        { steps = with_take (Actor actor) filter o P } in l) selected) refl only-none
        (next_eq ∙ ap (λ (k : NodeState). after_take k j filter) k_is
        ∙ sym (node-take shape P legal_log fits actor node at.home_is j filter item mine in_queue))
        then_eq (λ l of_shape. refl) (answers.Took item)
        (ap (λ (x : Item). answers.Took x) (sym (item-came P j filter item in_queue)))
        in (
          both.0,
          subst (λ (o : Option Item). IsStepFor f (lay_still new) (Actor actor) (looks filter o)
              (answers.Took item)) (sym of_me) both.1,
        )

    -- a look in vain takes nothing
    pub vain-queue : (j : Inc) (filter : Sigsel) → me ≡ Some j → (kernel : NodeState)
        → kernel ≡ get_or parts.kernels home kernel
        → first_selected filter (items_at kernel.endpoints j) ≡ None
        → first_selected filter (queue_of P me) ≡ None
    vain-queue j filter mine kernel is none =
        queue-is j filter mine ∙ sym (selected-is j filter mine kernel is) ∙ none

    -- A STEP OF NO EFFECTS that leaves its node and the trunks
    made-quiet : (head : Head) → is_restart head ≡ false → ((l : ℕ) → IsApart l head)
        → changed_node shape (Actor actor) head ≡ suc home
        → ((n : ℕ) → effects_by P n me head ≡ []) → TakesNone head
        → hunt_in node.0 now me head ≡ [] → ((a : PendingAttach) → detaches me head a ≡ false)
        → attach_in node.0 now me head ≡ []
        → IsLawful (length f.log.names.nodes) shape P trunks (step_by head)
        → MakesTrunks acts head f.trunks
        → (standing then : Standing) → standing ≡ get_or parts.standings place standing
        → then ≡ record standing { waits = waits_in head; ended = is_end head || standing.ended }
        → (new : Log) → IsLogged acts new head []
        → (answer : StepAnswer) → answer ≡ answer_of P head (step_by head).effects
        → IsKept (lay_still new) (with_standing acts then)
        × IsStepOf f (lay_still new) (Actor actor) head answer
    made-quiet head calm_it off changed none takes hunts cancels attaches legal makes standing then
        stands then_eq new new_eq answer answered =
        let s_is : standing ≡ stood = standing-is at standing stands in
        let plain : (step_by head).effects ≡ effects_by P (node_by shape (Actor actor)) me head =
        effects-plain shape P (node_by shape (Actor actor)) me head calm_it in
        let own_es : (step_by head).effects ≡ [] = plain ∙ none (node_by shape (Actor actor)) in
        let logged : new ≡ record log { steps = step_by head ∷ P } =
        logged-as acts new head [] new_eq own_es in (
          calm_own acts head calm_it off changed legal
              (ap (λ (es : List Effect). let s : Step = record
              { by = Actor actor; head = head; effects = es } in node_left (s ∷ P) node) plain
              ∙ node-quiet shape P legal_log fits actor node at.home_is head (none node.0) takes
              hunts cancels attaches)
              then (then_eq ∙ ap (λ (s : Standing). let t : Standing = record s
              { waits = waits_in head; ended = is_end head || s.ended } in t) s_is
              ∙ sym (own-none now head stood)
              ∙ ap (λ (es : List Effect). standing_past true now head es stood) (sym own_es))
              new logged f.trunks at.kept.counted.trunks makes,
          is-step acts head legal new (ap (λ (l : Log). l.steps) logged) f.trunks makes answer
              answered,
        )

    -- a look in vain, by whether all else is at rest, and whether its actor waits
    looked-vain : (filter : Sigsel) (rest waits : Bool)
        → (is_at_rest shape P actor && calm_links) ≡ rest → is_some (waits_with P actor) ≡ waits
        → first_selected filter (queue_of P me) ≡ None
        → looks filter (first_selected filter (queue_of P me)) ≡ vain_look rest waits filter
    looked-vain filter rest waits rest_is waits_is none =
        ap (looks filter) none
        ∙ ap (λ (b : Bool). vain_look b (is_some (waits_with P actor)) filter) rest_is
        ∙ ap (λ (b : Bool). vain_look rest b filter) waits_is

    -- it is lawful
    vain-legal : (filter : Sigsel) → is_some me ≡ true → (rest waits : Bool)
        → (is_at_rest shape P actor && calm_links) ≡ rest → is_some (waits_with P actor) ≡ waits
        → first_selected filter (queue_of P me) ≡ None
        → LawfulIf (length f.log.names.nodes) shape P trunks actor acts.maker acts.room (vain_look rest waits
        filter)
    vain-legal filter owns rest waits rest_is waits_is none =
        subst (λ (h : Option Head). LawfulIf (length f.log.names.nodes) shape P trunks actor
        acts.maker acts.room h)
        (looked-vain filter rest waits rest_is waits_is none)
        (granted acts (asks.Look filter) (signal_in None)
        (record { opening = λ o. absurd (true≢false (sym o)); needing = λ n. owns }) tt
        (omega arith) tt)

    pub made-find_none : (filter : Sigsel) → is_some me ≡ true
        → first_selected filter (queue_of P me) ≡ None
        → (is_at_rest shape P actor && calm_links) ≡ true
        → (standing then : Standing) → standing ≡ get_or parts.standings place standing
        → then ≡ record standing { waits = None }
        → (new : Log) → IsLogged acts new (heads.TakeNone filter) []
        → IsKept (lay_still new) (with_standing acts then)
        × HasMade f (lay_still new) actor (asking (asks.Look filter) None) answers.Nothing
    made-find_none filter owns none rest standing then stands then_eq new new_eq =
        let waits : Bool = is_some (waits_with P actor) in
        let both = made-quiet (heads.TakeNone filter) refl (λ l. tt) at.home_is (λ n. refl)
        (λ x. refl) refl (λ a. refl) refl (vain-legal filter owns true waits rest refl none)
        (record {
          resting = rests-all shape P trunks
              (and_parts (is_at_rest shape P actor) calm_links rest).1;
          makes = λ l of_shape. refl;
        }) standing then stands then_eq new new_eq answers.Nothing refl in (
          both.0,
          subst (λ (h : Option Head). IsStepFor f (lay_still new) (Actor actor) h answers.Nothing)
              (sym (looked-vain filter true waits rest refl none)) both.1,
        )

    pub made-wait : (filter : Sigsel) → is_some me ≡ true
        → first_selected filter (queue_of P me) ≡ None
        → (is_at_rest shape P actor && calm_links) ≡ false → waits_with P actor ≡ None
        → (standing then : Standing) → standing ≡ get_or parts.standings place standing
        → then ≡ record standing { waits = Some filter }
        → (new : Log) → IsLogged acts new (heads.Waits filter) []
        → IsKept (lay_still new) (with_standing acts then)
        × HasMade f (lay_still new) actor (asking (asks.Look filter) None) answers.NotYet
    made-wait filter owns none busy first standing then stands then_eq new new_eq =
        let waits_not : is_some (waits_with P actor) ≡ false = ap is_some first in
        let both = made-quiet (heads.Waits filter) refl (λ l. tt) at.home_is (λ n. refl)
        (λ x. refl) refl (λ a. refl) refl (vain-legal filter owns false false busy waits_not none)
        (λ l of_shape. refl) standing then stands then_eq new new_eq answers.NotYet refl in (
          both.0,
          subst (λ (h : Option Head). IsStepFor f (lay_still new) (Actor actor) h answers.NotYet)
              (sym (looked-vain filter false false busy waits_not none)) both.1,
        )

    -- A REFUSAL
    pub made-refuse : (reason : Refusal)
        → (standing then : Standing) → standing ≡ get_or parts.standings place standing
        → then ≡ record standing { waits = None }
        → (new : Log) → IsLogged acts new (heads.Refused reason) []
        → IsKept (lay_still new) (with_standing acts then)
        × HasMade f (lay_still new) actor (refused reason) (answers.Refused reason)
    made-refuse reason standing then stands then_eq new new_eq =
        made-quiet (heads.Refused reason) refl (λ l. tt) at.home_is (λ n. refl) (λ x. refl) refl
        (λ a. refl) refl (refused-lawful (length f.log.names.nodes) shape P trunks actor acts.maker acts.room
        reason)
        (λ l of_shape. refl) standing then stands then_eq new new_eq (answers.Refused reason) refl

    -- THE END of one that has no endpoint
    pub made-end_closed : me ≡ None
        → (standing then : Standing) → standing ≡ get_or parts.standings place standing
        → then ≡ record standing { waits = None; ended = true }
        → (new : Log) → IsLogged acts new heads.Ended []
        → IsKept (lay_still new) (with_standing acts then)
        × HasMade f (lay_still new) actor (asking asks.End None) answers.Done
    made-end_closed none standing then stands then_eq new new_eq =
        made-quiet heads.Ended refl (λ l. tt) at.home_is
        (λ n. ap (λ (e : Option Inc). ending e (owed P n)) none) (λ x. refl) refl (λ a. refl) refl
        (granted acts asks.End (signal_in None)
        (record {
          opening = λ o. absurd (true≢false (sym o));
          needing = λ n. absurd (true≢false (sym n));
        }) tt (omega arith) tt)
        (subst (λ (e : Option Inc). Become shape trunks
        (trunks_ending shape (node_by shape (Actor actor)) e trunks)) (sym none)
        (λ l of_shape. refl))
        standing then stands then_eq new new_eq answers.Done refl
