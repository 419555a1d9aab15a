-- Each kind of step as the fabric's methods make it: what is kept, and that it is the machine's.
use Rattle.std.proofs.Common.{◌≡◌, ◌≢◌, ℕ, suc, ◌+◌, ◌<◌, ◌≤◌, Bool, true, false, ◌||◌, List, []}
use Rattle.std.proofs.Common.{◌∷◌, length, Option, Some, None, get_or, refl, sym, ◌∙◌, ap, subst}
use Rattle.std.proofs.Common.{add-one, arith, is_some, is_none, slice_set, filter, true≢false}
use Rattle.linx_base.specs.Content.{data_limit}
use Rattle.linx_base.specs.NameText.{is_name}
use Rattle.linx_base.specs.declared.identity.AttRef.{AttRef}
use Rattle.linx_base.specs.declared.identity.Inc.{Inc}
use Rattle.linx_base.specs.declared.identity.Peer.{Peer}
use Rattle.linx_base.specs.declared.identity.Peer.TheVariants.{Here}
use Rattle.linx_base.specs.declared.name.Path.{Path}
use Rattle.linx_base.specs.declared.name.Path.TheVariants.{Local}
use Rattle.linx_base.specs.declared.pending.PendingAttach.{PendingAttach}
use Rattle.linx_base.specs.declared.pending.PendingHunt.{PendingHunt}
use Rattle.linx_base.specs.declared.signal.Reason.TheVariants as reasons
use Rattle.linx_base.specs.SigNotes.{SigNote}
use Rattle.linx_base.specs.Peers.{same_peer}
use Rattle.sigsel.specs.declared.sigsel.Sigsel.{Sigsel}
use Rattle.journal.specs.declared.by.By.TheVariants.{Actor}
use Rattle.journal.specs.declared.effect.Effect.{Effect}
use Rattle.journal.specs.declared.event.Event.{Event}
use Rattle.journal.specs.declared.event.Event.TheVariants as asks
use Rattle.journal.specs.declared.head.Detached.{Detached}
use Rattle.journal.specs.declared.head.Head.{Head}
use Rattle.journal.specs.declared.head.Head.TheVariants as heads
use Rattle.journal.specs.Effects.{arrivals_of, attached, closing, founds, held_elsewhere, hunted}
use Rattle.journal.specs.Effects.{hunts_for, opening, send_answer, ending, notices}
use Rattle.journal.specs.History.{endpoint_of, is_end, is_lost}
use Rattle.journal.specs.Laws.{detached_as}
use Rattle.journal.specs.Living.{find, is_alive}
use Rattle.journal.specs.Logs.{Log}
use Rattle.journal.specs.Pending.{hunting, owed}
use Rattle.journal.specs.Rest.{waits_in}
use Rattle.journal.specs.Shapes.{node_by}
use Rattle.node_kernel.specs.declared.answers.StepAnswer.{StepAnswer}
use Rattle.node_kernel.specs.declared.answers.StepAnswer.TheVariants as answers
use Rattle.node_kernel.specs.Answers.{answer_of, opened_as, asks_to_open}
use Rattle.node_kernel.specs.Calls.{after_attach, after_close, after_detach, after_hunt, after_open}
use Rattle.node_kernel.specs.Calls.{after_send, detached, after_detach_of}
use Rattle.node_kernel.specs.Nodes.{NodeState, find_at, is_living, next_of}
use Rattle.fabric.specs.declared.standing.Standing.{Standing}
use Rattle.fabric.specs.Actings.{HasMade, asking}
use Rattle.fabric.specs.Asks.{FitsEvent}
use Rattle.fabric.specs.Fits.{LeavesBy}
use Rattle.fabric.specs.Links.{line_left}
use Rattle.fabric.specs.Machine.{head_of, signal_in}
use Rattle.fabric.specs.Remains.{AreStandingsLeft, IsKept, Parts}
use Rattle.fabric.specs.Remains.{node_left, standing_left, AreNodesLeft}
use Rattle.fabric.specs.Run.{IsStepOf, Layout}
use Rattle.run_trunks.specs.Laws.{AreTrunksOf}
use Rattle.run_trunks.specs.States.{trunks_of}
use Rattle.trunk.specs.Events.{TrunkState}
use Rattle.trunk_moves.specs.Steps.{IsTrunkStep, Makes}
use Rattle.fabric.proofs.AfterStep.Effects.{OnlyItems, only-arrivals, only-attached, only-founds}
use Rattle.fabric.proofs.AfterStep.Effects.{only-hunted}
use Rattle.fabric.proofs.AfterStep.Effects.{leaves_open, only-none, only-notices, LeavesOpen}
use Rattle.fabric.proofs.AfterStep.OtherNodes.{changed_node}
use Rattle.fabric.proofs.Methods.Keeps.{kept-next, length-set, other-not_lost, same-left}
use Rattle.fabric.proofs.Methods.Keeps.{standings-next}
use Rattle.fabric.proofs.Methods.Legal.{IsGranted, IsLawful, IsNamedEvent, LawfulIf}
use Rattle.fabric.proofs.Methods.Legal.{effects-plain, effects_for, granted-lawful, is_restart}
use Rattle.fabric.proofs.Trunks.Lines.{IsApart, line-apart}
use Rattle.fabric.proofs.AfterStep.NodeOffTheLinks.{detached-left, find-left, living-left}
use Rattle.fabric.proofs.AfterStep.NodeOffTheLinks.{node-attach, node-close, node-detach, node-end}
use Rattle.fabric.proofs.AfterStep.NodeOffTheLinks.{node-hunt, node-open, node-send}
use Rattle.fabric.proofs.Standings.MakerAfterStep.{own-close, own-open, own-quiet, opens-same}
use Rattle.fabric.proofs.Standings.AfterStep.{standing_past}
use Rattle.fabric.proofs.Standings.KernelAndStanding.{Acts, before, kernel-is, standing-is}
use Rattle.fabric.proofs.Methods.StepsOnLinks.{boots-same, kernels-same, kernels-set, laid}
use Rattle.node_kernel.specs.declared.ask.Ask.{Ask}

module _ {f : Layout} {parts : Parts} {actor place home : ℕ} (acts : Acts f parts actor place home)
  where
    open f use {shape, log, log.{steps as P}}
    open acts use {at}
    open before acts use {trunks, calm_links, node, now, old, stood, me, step_by, legal_log, fits}

    next_is : length P + 1 ≡ now
    next_is = add-one (length P)

    -- the parts after it, where the kernel and the standing of the maker change alone
    abbrev pub with_own : NodeState → Standing → Parts
    with_own kernel standing =
        record parts {
          kernels = slice_set parts.kernels home kernel;
          standings = slice_set parts.standings place standing;
        }

    -- or the standing alone
    abbrev pub with_standing : Standing → Parts
    with_standing standing = record parts { standings = slice_set parts.standings place standing }

    -- what the step with a head makes of the trunks
    abbrev pub MakesTrunks : Head → List TrunkState → Type 0
    MakesTrunks head after =
        Makes shape P trunks (trunks_of after) (node_by shape (Actor actor)) me head
        (step_by head).effects

    -- a lawful step that makes this of the trunks
    run-step : (head : Head)
        → IsLawful (length f.log.names.nodes) shape P trunks (step_by head)
        → (after : List TrunkState) → MakesTrunks head after
        → IsTrunkStep shape P trunks (step_by head) (trunks_of after)
    run-step head lawful after makes =
        record { laws = lawful.laws; makes = makes }

    -- and is what was asked for, answered so
    pub is-step : (head : Head) → IsLawful (length f.log.names.nodes) shape P trunks (step_by head)
        → (new : Log) → new.steps ≡ step_by head ∷ P → (after : List TrunkState)
        → MakesTrunks head after → (answer : StepAnswer)
        → answer ≡ answer_of P head (step_by head).effects
        → IsStepOf f (laid f new after) (Actor actor) head answer
    is-step head lawful new steps after makes answer answered = record {
      effects = (step_by head).effects;
      steps = steps;
      makes = run-step head lawful after makes;
      answered = answered;
    }

    -- what other nodes, actors and links are left as
    others-left : (head : Head) → is_restart head ≡ false → (m : ℕ) → suc place ≢ m
        → is_lost (step_by head).effects (endpoint_of P m) ≡ false
    others-left head calm m other =
        other-not_lost shape P legal_log fits (step_by head) place (ap Actor at.own)
        (effects-plain shape P (node_by shape (Actor actor)) me head calm) calm m other
        (endpoint_of P m) refl

    standings-left : (head : Head) → is_restart head ≡ false → (standing : Standing)
        → standing ≡ standing_past true now head (step_by head).effects stood
        → AreStandingsLeft (step_by head ∷ P) (slice_set parts.standings place standing)
    standings-left head calm standing is =
        standings-next P (step_by head) place (ap Actor at.own) (others-left head calm)
        parts.standings at.kept.left.standings at.inside standing
        (is ∙ ap (λ (a : ℕ). standing_past true now head (step_by head).effects
        (standing_left P a)) at.own)

    -- WHAT IS KEPT where the kernels and the standing of the maker change alone
    kept-with : (kernels : List NodeState) → length kernels ≡ length parts.kernels
        → (head : Head) → is_restart head ≡ false → ((l : ℕ) → IsApart l head)
        → IsLawful (length f.log.names.nodes) shape P trunks (step_by head)
        → AreNodesLeft (step_by head ∷ P) kernels
        → (standing : Standing)
        → standing ≡ standing_past true now head (step_by head).effects stood
        → (new : Log) → new ≡ record log { steps = step_by head ∷ P }
        → (after : List TrunkState) → AreTrunksOf shape after → MakesTrunks head after
        → IsKept (laid f new after) (record parts
        { kernels = kernels; standings = slice_set parts.standings place standing })
    kept-with kernels counted head calm_it off lawful nodes standing standing_is new new_is after
        count makes =
        let step : IsTrunkStep shape P trunks (step_by head) (trunks_of after) =
        run-step head lawful after makes in
        subst (λ (l : Log). IsKept (laid f l after) (record parts
        { kernels = kernels; standings = slice_set parts.standings place standing })) (sym new_is)
        (kept-next f parts (step_by head) after _ at.kept acts.short step lawful.made
        (record {
          kernels = counted ∙ at.kept.counted.kernels;
          booted = at.kept.counted.booted;
          standings = length-set parts.standings place standing ∙ at.kept.counted.standings;
          lines = at.kept.counted.lines;
          trunks = count;
        })
        (record {
          kernels = nodes;
          booted = boots-same at.kept acts.short (step_by head) after step calm_it;
          standings = standings-left head calm_it standing standing_is;
          lines = same-left (line_left P) (line_left (step_by head ∷ P)) parts.lines
              at.kept.left.lines
              (λ n. line-apart P (Actor actor) (step_by head).effects (suc n) head (off (suc n)));
        }))

    -- where the kernel of its node changes
    calm : (head : Head) → is_restart head ≡ false → ((l : ℕ) → IsApart l head)
        → changed_node shape (Actor actor) head ≡ suc home
        → IsLawful (length f.log.names.nodes) shape P trunks (step_by head)
        → (kernel : NodeState) → kernel ≡ node_left (step_by head ∷ P) node
        → (standing : Standing)
        → standing ≡ standing_past true now head (step_by head).effects stood
        → (new : Log) → new ≡ record log { steps = step_by head ∷ P }
        → (after : List TrunkState) → AreTrunksOf shape after → MakesTrunks head after
        → IsKept (laid f new after) (with_own kernel standing)
    calm head calm_it off changed lawful kernel kernel_is standing standing_is new new_is after
        count makes =
        kept-with (slice_set parts.kernels home kernel) (length-set parts.kernels home kernel)
        head calm_it off lawful (kernels-set at.kept acts.short (step_by head) after
        (run-step head lawful after makes) home changed at.there kernel kernel_is)
        standing standing_is new new_is after count makes

    -- where none does
    pub calm_own : (head : Head) → is_restart head ≡ false → ((l : ℕ) → IsApart l head)
        → changed_node shape (Actor actor) head ≡ suc home
        → IsLawful (length f.log.names.nodes) shape P trunks (step_by head)
        → node_left (step_by head ∷ P) node ≡ old
        → (standing : Standing)
        → standing ≡ standing_past true now head (step_by head).effects stood
        → (new : Log) → new ≡ record log { steps = step_by head ∷ P }
        → (after : List TrunkState) → AreTrunksOf shape after → MakesTrunks head after
        → IsKept (laid f new after) (with_standing standing)
    calm_own head calm_it off changed lawful same standing standing_is new new_is after count
        makes =
        kept-with parts.kernels refl head calm_it off lawful
        (kernels-same at.kept acts.short (step_by head) after (run-step head lawful after makes)
        node changed same) standing standing_is new new_is after count makes

    -- what is granted is lawful
    pub granted : (event : Event) (note : SigNote) → IsGranted me event → IsNamedEvent event
        → length note.bytes ≤ data_limit → FitsEvent f (node_by shape (Actor actor)) event note
        → LawfulIf (length f.log.names.nodes) shape P trunks actor acts.maker acts.room
        (head_of shape P calm_links actor (node_by shape (Actor actor)) me event note)
    granted event note g named short fit =
        granted-lawful (length f.log.names.nodes) shape P trunks actor acts.maker acts.room event note g
        named short fit

    -- an event of the endpoint's is granted where there is one
    pub granted-own : (event : Event) → asks_to_open event ≡ false → (j : Inc) → me ≡ Some j
        → IsGranted me event
    granted-own event opens_not j mine = record
        { opening = λ o. absurd (true≢false (sym o ∙ opens_not)); needing = λ n. ap is_some mine }

    -- the log with one step more: with this head and these effects
    abbrev pub IsLogged : Log → Head → List Effect → Type 0
    IsLogged new head es =
        new ≡ record log { steps = record { by = Actor actor; head = head; effects = es } ∷ P }

    -- it is the step with the head, where the effects are its own
    pub logged-as : (new : Log) (head : Head) (es : List Effect) → IsLogged new head es
        → (step_by head).effects ≡ es → new ≡ record log { steps = step_by head ∷ P }
    logged-as new head es is own_es =
        is ∙ ap (λ (x : List Effect). let l : Log = record log
        { steps = record { by = Actor actor; head = head; effects = x } ∷ P } in l) (sym own_es)

    -- WHAT A CALL MAKES, with the kernel and the standing of its maker before and after it
    module _ (kernel next : NodeState) (is : kernel ≡ get_or parts.kernels home kernel)
        (standing then : Standing) (stands : standing ≡ get_or parts.standings place standing)
        (new : Log) (after : List TrunkState) (count : AreTrunksOf shape after) where
      k_is : kernel ≡ old
      k_is = kernel-is at kernel is

      s_is : standing ≡ stood
      s_is = standing-is at standing stands

      alive-is : (q : Peer) → is_living kernel q ≡ is_alive P (node_by shape (Actor actor)) q
      alive-is q =
          ap (λ (k : NodeState). is_living k q) k_is ∙ living-left P node q
          ∙ ap (λ (n : ℕ). is_alive P n q) (sym at.home_is)

      found-is : (path : Path) → find_at kernel path ≡ find P (node_by shape (Actor actor)) path
      found-is path =
          ap (λ (k : NodeState). find_at k path) k_is ∙ find-left P node path
          ∙ ap (λ (n : ℕ). find P n path) (sym at.home_is)

      -- the effects of its step, by its endpoint
      own-effects : (j : Inc) → me ≡ Some j → (head : Head) → (step_by head).effects
          ≡ effects_for shape P (node_by shape (Actor actor)) (Some j) head
      own-effects j mine head =
          ap (λ (e : Option Inc). effects_for shape P (node_by shape (Actor actor)) e head) mine

      -- what is kept, and that what was asked for was made and answered
      abbrev pub IsMadeOf : Ask → StepAnswer → Type 0
      IsMadeOf ask answer =
          IsKept (laid f new after) (with_own next then) × HasMade f (laid f new after) actor ask
          answer

      -- AN OPENING
      pub made-open : (name : List ℕ) → me ≡ None → is_name name ≡ true
          → next ≡ after_open kernel name (length P + 1)
          → then ≡ record standing { endpoint = Some (next_of kernel); waits = None }
          → IsLogged new (heads.Open name) (opening (next_of kernel) name kernel.hunts)
          → MakesTrunks (heads.Open name) after
          → IsMadeOf (asking (asks.Open name) None) (answers.Opened (next_of kernel))
      made-open name none named next_eq then_eq new_eq makes =
          let i : Inc = next_of old in
          let fs : List Effect = founds (Local name) (Here i) (hunting P (suc home)) in
          let only : OnlyItems fs = only-founds (Here i)
          (hunts_for (Local name) (hunting P (suc home))) in
          let own_es : (step_by (heads.Open name)).effects ≡ opening i name (hunting P (suc home))
          = ap
          (λ (n : ℕ). effects_for shape P n me (heads.Open name)) at.home_is in
          let logged : new ≡ record log { steps = step_by (heads.Open name) ∷ P } =
          logged-as new (heads.Open name) (opening (next_of kernel) name kernel.hunts) new_eq
          (own_es ∙ ap (λ (k : NodeState). opening (next_of k) name k.hunts) (sym k_is)) in
          let legal : IsLawful (length f.log.names.nodes) shape P trunks (step_by (heads.Open
          name)) =
          granted (asks.Open name) (signal_in None)
          (record { opening = λ o. ap is_none none; needing = λ n. absurd (true≢false (sym n)) })
          named (omega arith) tt
          in (
            calm (heads.Open name) refl (λ l. tt) at.home_is legal
                next (next_eq ∙ ap (λ (k : NodeState). after_open k name (length P + 1)) k_is
                ∙ ap (after_open old name) next_is
                ∙ sym (node-open shape P legal_log fits actor node at.home_is name none))
                then (then_eq ∙ ap (λ (s : Standing). let t : Standing = record s
                { endpoint = Some (next_of kernel); waits = None } in t) s_is
                ∙ ap (λ (k : NodeState). let t : Standing = record stood
                { endpoint = Some (next_of k); waits = None } in t) k_is
                ∙ sym (own-open fs (leaves_open only) now i name stood none)
                ∙ ap (λ (es : List Effect). standing_past true now (heads.Open name) es stood)
                (sym own_es))
                new logged after count makes,
            is-step (heads.Open name) legal new (ap (λ (l : Log). l.steps) logged) after makes
                (answers.Opened (next_of kernel))
                (ap (λ (k : NodeState). answers.Opened (next_of k)) k_is
                ∙ ap opened_as (sym (opens-same fs (leaves_open only) (Some i)))
                ∙ ap (λ (es : List Effect). answer_of P (heads.Open name) es) (sym own_es)),
          )

      -- A CLOSING, by a head that ends what its maker has
      made-closing : (head : Head) → is_restart head ≡ false
          → ((l : ℕ) → IsApart l head) → changed_node shape (Actor actor) head ≡ suc home
          → (ends : (n : ℕ) (e : Option Inc) → effects_for shape P n e head ≡ ending e (owed P n))
          → (j : Inc) → me ≡ Some j
          → IsLawful (length f.log.names.nodes) shape P trunks (step_by head)
          → node_left (step_by head ∷ P) node ≡ after_close old j now
          → next ≡ after_close kernel j (length P + 1)
          → (step : ℕ) → step ≡ length new.steps
          → then ≡ record standing {
            endpoint = None;
            closed = step;
            waits = waits_in head;
            ended = is_end head || standing.ended;
          }
          → IsLogged new head (closing j kernel.attaches) → MakesTrunks head after
          → (answer : StepAnswer) → answer ≡ answer_of P head (step_by head).effects
          → IsKept (laid f new after) (with_own next then)
          × IsStepOf f (laid f new after) (Actor actor) head answer
      made-closing head calm_it off changed ends j mine legal left next_eq step counted then_eq
          new_eq makes answer answered =
          let fs : List Effect = notices reasons.Closed (same_peer (Here j))
          (held_elsewhere j (owed P (suc home))) in
          let only : OnlyItems fs = only-notices reasons.Closed
          (filter (λ (a : PendingAttach). same_peer (Here j) a.peer)
          (held_elsewhere j (owed P (suc home)))) in
          let own_es : (step_by head).effects ≡ closing j (owed P (suc home)) = ap
          (λ (n : ℕ). effects_for shape P n me head) at.home_is ∙ ends (suc home) me
          ∙ ap (λ (e : Option Inc). ending e (owed P (suc home))) mine in
          let logged : new ≡ record log { steps = step_by head ∷ P } =
          logged-as new head (closing j kernel.attaches) new_eq
          (own_es ∙ ap (λ (k : NodeState). closing j k.attaches) (sym k_is)) in
          let step_is : step ≡ now = counted ∙ ap (λ (l : Log). length l.steps) logged in (
            calm head calm_it off changed legal
                next (next_eq ∙ ap (λ (k : NodeState). after_close k j (length P + 1)) k_is
                ∙ ap (after_close old j) next_is ∙ sym left)
                then (then_eq ∙ ap (λ (s : Standing). let t : Standing = record s {
                  endpoint = None;
                  closed = step;
                  waits = waits_in head;
                  ended = is_end head || s.ended;
                } in t) s_is
                ∙ ap (λ (k : ℕ). let t : Standing = record stood {
                  endpoint = None;
                  closed = k;
                  waits = waits_in head;
                  ended = is_end head || stood.ended;
                } in t) step_is
                ∙ sym (own-close fs (leaves_open only) now j head stood mine)
                ∙ ap (λ (es : List Effect). standing_past true now head es stood) (sym own_es))
                new logged after count makes,
            is-step head legal new (ap (λ (l : Log). l.steps) logged) after makes answer answered,
          )

      pub made-close : (j : Inc) → me ≡ Some j → next ≡ after_close kernel j (length P + 1)
          → (step : ℕ) → step ≡ length new.steps
          → then ≡ record standing { endpoint = None; closed = step; waits = None }
          → IsLogged new heads.Close (closing j kernel.attaches) → MakesTrunks heads.Close after
          → IsMadeOf (asking asks.Close None) answers.Closed
      made-close j mine next_eq step counted then_eq new_eq makes =
          made-closing heads.Close refl (λ l. tt) at.home_is (λ n e. refl) j mine
          (granted asks.Close (signal_in None) (granted-own asks.Close refl j mine) tt (omega arith)
          tt)
          (node-close shape P legal_log fits actor node at.home_is j mine) next_eq step counted
          then_eq new_eq makes answers.Closed refl

      pub made-end_open : (j : Inc) → me ≡ Some j → next ≡ after_close kernel j (length P + 1)
          → (step : ℕ) → step ≡ length new.steps
          → then ≡ record standing { endpoint = None; closed = step; waits = None; ended = true }
          → IsLogged new heads.Ended (closing j kernel.attaches) → MakesTrunks heads.Ended after
          → IsMadeOf (asking asks.End None) answers.Done
      made-end_open j mine next_eq step counted then_eq new_eq makes =
          made-closing heads.Ended refl (λ l. tt) at.home_is (λ n e. refl) j mine
          (granted asks.End (signal_in None) (granted-own asks.End refl j mine) tt (omega arith) tt)
          (node-end shape P legal_log fits actor node at.home_is j mine) next_eq step counted
          then_eq new_eq makes answers.Done refl

      -- A STEP THAT ONLY BRINGS ITEMS, as its kernel tells, and after which its maker doesn't wait
      pub made-items : (head : Head) → is_restart head ≡ false
          → ((l : ℕ) → IsApart l head) → changed_node shape (Actor actor) head ≡ suc home
          → is_end head ≡ false → waits_in head ≡ None
          → IsLawful (length f.log.names.nodes) shape P trunks (step_by head)
          → (told : List Effect) → IsLogged new head told → (step_by head).effects ≡ told
          → OnlyItems told → next ≡ node_left (step_by head ∷ P) node
          → then ≡ record standing { waits = None } → MakesTrunks head after
          → (answer : StepAnswer) → answer ≡ answer_of P head (step_by head).effects
          → IsKept (laid f new after) (with_own next then)
          × IsStepOf f (laid f new after) (Actor actor) head answer
      made-items head calm_it off changed goes_on no_wait legal told new_eq own_es only left then_eq
          makes answer answered =
          let logged : new ≡ record log { steps = step_by head ∷ P } =
          logged-as new head told new_eq own_es in
          let leaves : LeavesOpen (step_by head).effects =
          leaves_open (subst OnlyItems (sym own_es) only) in (
            calm head calm_it off changed legal next left
                then (then_eq ∙ ap (λ (t : Standing). let u : Standing = record t { waits = None }
                in u)
                s_is
                ∙ ap (λ (w : Option Sigsel). let u : Standing = record stood { waits = w } in u)
                (sym no_wait)
                ∙ sym (own-quiet (step_by head).effects leaves now head stood goes_on))
                new logged after count makes,
            is-step head legal new (ap (λ (l : Log). l.steps) logged) after makes answer answered,
          )

      pub made-send : (j : Inc) (q : Peer) (note : SigNote) → me ≡ Some j
          → length note.bytes ≤ data_limit → next ≡ after_send kernel j q note (length P + 1)
          → then ≡ record standing { waits = None }
          → IsLogged new (heads.Send q note (send_answer (is_living kernel q) q))
          (arrivals_of j note (is_living kernel q) q)
          → MakesTrunks (heads.Send q note (send_answer (is_alive P (node_by shape (Actor
          actor)) q) q)) after
          → IsMadeOf (asking (asks.Send q) (Some note))
          (answers.Sent (send_answer (is_living kernel q) q))
      made-send j q note mine bounded next_eq then_eq new_eq makes =
          let alive : Bool = is_alive P (node_by shape (Actor actor)) q in
          let head : Head = heads.Send q note (send_answer alive q) in
          made-items head refl (λ l. tt) at.home_is refl refl
          (granted (asks.Send q) note (granted-own (asks.Send q) refl j mine) tt bounded tt)
          (arrivals_of j note alive q)
          (subst (λ (b : Bool). IsLogged new (heads.Send q note (send_answer b q))
          (arrivals_of j note b q)) (alive-is q) new_eq)
          (own-effects j mine head) (only-arrivals j note alive q)
          (next_eq ∙ ap (λ (k : NodeState). after_send k j q note (length P + 1)) k_is
          ∙ ap (after_send old j q note) next_is
          ∙ sym (node-send shape P legal_log fits actor node at.home_is j q note
          (send_answer alive q) mine))
          then_eq makes (answers.Sent (send_answer (is_living kernel q) q))
          (ap (λ (b : Bool). answers.Sent (send_answer b q)) (alive-is q))

      pub made-hunt : (j : Inc) (path : Path) (note : SigNote) (number : ℕ) → me ≡ Some j
          → LeavesBy shape (node_by shape (Actor actor)) path → IsNamedEvent (asks.Hunt path)
          → length note.bytes ≤ data_limit → number ≡ length P + 1
          → (let h : ℕ → PendingHunt = λ n. record
          { at = j; path = path; signal = note; number = n } in
          next ≡ after_hunt kernel (h (length P + 1)) → then ≡ record standing { waits = None }
          → IsLogged new (heads.Hunt path note) (hunted (find_at kernel path) (h (length P + 1)))
          → MakesTrunks (heads.Hunt path note) after
          → IsMadeOf (asking (asks.Hunt path) (Some note)) (answers.Hunted number))
      made-hunt j path note number mine leaves named bounded counted next_eq then_eq new_eq makes =
          let h : ℕ → PendingHunt = λ n. record
          { at = j; path = path; signal = note; number = n } in
          made-items (heads.Hunt path note) refl (λ l. tt) at.home_is refl refl
          (granted (asks.Hunt path) note (granted-own (asks.Hunt path) refl j mine) named bounded
          leaves)
          (hunted (find_at kernel path) (h (length P + 1))) new_eq
          (own-effects j mine (heads.Hunt path note)
          ∙ ap (λ (p : Option Peer). hunted p (h now)) (sym (found-is path))
          ∙ ap (λ (n : ℕ). hunted (find_at kernel path) (h n)) (sym next_is))
          (only-hunted (find_at kernel path) (h (length P + 1)))
          (next_eq ∙ ap (λ (k : NodeState). after_hunt k (h (length P + 1))) k_is
          ∙ ap (λ (n : ℕ). after_hunt old (h n)) next_is
          ∙ sym (node-hunt shape P legal_log fits actor node at.home_is j path note mine))
          then_eq makes (answers.Hunted number) (ap (λ (n : ℕ). answers.Hunted n) counted)

      pub made-attach : (j : Inc) (q : Peer) (note : SigNote) (r : AttRef) → me ≡ Some j
          → length note.bytes < data_limit → r ≡ record { 0 = length P + 1 }
          → (let a : ℕ → PendingAttach = λ n. record
          { at = j; peer = q; signal = note; reference = record { 0 = n } } in
          next ≡ after_attach kernel (a (length P + 1)) → then ≡ record standing { waits = None }
          → IsLogged new (heads.Attach q note) (attached (is_living kernel q) (a (length P + 1)))
          → MakesTrunks (heads.Attach q note) after
          → IsMadeOf (asking (asks.Attach q) (Some note)) (answers.Attached r))
      made-attach j q note r mine bounded counted next_eq then_eq new_eq makes =
          let a : ℕ → PendingAttach = λ n. record
          { at = j; peer = q; signal = note; reference = record { 0 = n } } in
          let answered = granted (asks.Attach q) note (granted-own (asks.Attach q) refl j mine) tt
          (omega arith) bounded in
          made-items (heads.Attach q note) refl (λ l. tt) at.home_is refl refl answered
          (attached (is_living kernel q) (a (length P + 1))) new_eq
          (own-effects j mine (heads.Attach q note)
          ∙ ap (λ (b : Bool). attached b (a now)) (sym (alive-is q))
          ∙ ap (λ (n : ℕ). attached (is_living kernel q) (a n)) (sym next_is))
          (only-attached (is_living kernel q) (a (length P + 1)))
          (next_eq ∙ ap (λ (n : ℕ). after_attach kernel (a n)) next_is
          ∙ ap (λ (k : NodeState). after_attach k (a now)) k_is
          ∙ sym (node-attach shape P legal_log fits actor node at.home_is j q note mine))
          then_eq makes (answers.Attached r) (ap (λ (x : AttRef). answers.Attached x) counted)

      pub made-detach : (j : Inc) (r : AttRef) → me ≡ Some j → next ≡ after_detach kernel j r
          → then ≡ record standing { waits = None }
          → IsLogged new (heads.Detach r (detached kernel j r)) []
          → MakesTrunks (heads.Detach r (detached_as P (node_by shape (Actor actor)) me r)) after
          → IsMadeOf (asking (asks.Detach r) None) (answers.Detached (detached kernel j r))
      made-detach j r mine next_eq then_eq new_eq makes =
          let answer : Detached = detached_as P (node_by shape (Actor actor)) me r in
          let old_answer : detached old j r
          ≡ answer = detached-left shape P legal_log fits actor node at.home_is j r mine in
          let answer_is : detached kernel j r ≡ answer = ap (λ (k : NodeState). detached k j r) k_is
          ∙ old_answer in
          made-items (heads.Detach r answer) refl (λ l. tt) at.home_is refl refl
          (granted (asks.Detach r) (signal_in None) (granted-own (asks.Detach r) refl j mine) tt
          (omega arith) tt)
          [] (subst (λ (a : Detached). IsLogged new (heads.Detach r a) []) answer_is new_eq) refl
          only-none
          (next_eq ∙ ap (λ (k : NodeState). after_detach k j r) k_is
          ∙ ap (λ (a : Detached). after_detach_of a old j r) old_answer
          ∙ sym (node-detach shape P legal_log fits actor node at.home_is j r answer mine))
          then_eq makes (answers.Detached (detached kernel j r))
          (ap (λ (a : Detached). answers.Detached a) answer_is)
