-- A call at an actor's open endpoint, as the fabric makes it: what is kept, and that it is the
-- machine's.
use Rattle.std.proofs.Common.{◌≡◌, ℕ, ◌+◌, ◌<◌, Bool, true, false, None, List, length, Option, Some}
use Rattle.std.proofs.Common.{get_or, refl, sym, ◌∙◌, ap, subst, add-one}
use Rattle.linx_base.specs.declared.identity.Inc.{Inc}
use Rattle.linx_base.specs.declared.identity.LinkNo.{LinkNo}
use Rattle.linx_base.specs.declared.identity.NodeNo.{NodeNo}
use Rattle.linx_base.specs.declared.identity.Peer.{Peer}
use Rattle.linx_base.specs.declared.identity.Peer.TheVariants.{Here, There}
use Rattle.linx_base.specs.declared.identity.Session.{Session}
use Rattle.linx_base.specs.declared.name.Path.{Path}
use Rattle.linx_base.specs.declared.name.Path.TheVariants.{Local, Over}
use Rattle.linx_base.specs.SigNotes.{SigNote}
use Rattle.journal.specs.declared.by.By.TheVariants.{Actor}
use Rattle.journal.specs.Effects.{send_answer}
use Rattle.journal.specs.History.{endpoint_of}
use Rattle.journal.specs.Living.{find, is_alive}
use Rattle.journal.specs.Logs.{Log}
use Rattle.journal.specs.Shapes.{node_by}
use Rattle.node_kernel.specs.declared.answers.StepAnswer.{StepAnswer}
use Rattle.node_kernel.specs.Nodes.{NodeState, find_at, is_living}
use Rattle.run_trunks.specs.Changes.{each_does}
use Rattle.run_trunks.specs.Laws.{AreTrunksOf}
use Rattle.run_trunks.specs.States.{trunks_of}
use Rattle.run_trunks.proofs.Lists.{length-each}
use Rattle.trunk.specs.Events.{TrunkState, closed_at}
use Rattle.trunk_moves.specs.Steps.{HuntMakes, SendMakes, trunks_ending}
use Rattle.trunk_moves.specs.Trunks.{Become}
use Rattle.trunk_moves.proofs.Peers.{peer-end}
use Rattle.fabric.specs.Actings.{HasMade}
use Rattle.fabric.specs.Asks.{FitsEvent}
use Rattle.fabric.specs.Fits.{HasSideOn, LeavesBy}
use Rattle.fabric.specs.Calls.{CallMade, IsBounded, IsCallMade, IsTyped, ask_of_call, call_made}
use Rattle.fabric.specs.Calls.{event_of_call, hand_of_call, stands_after}
use Rattle.fabric.specs.declared.call.Call.{Call}
use Rattle.fabric.specs.declared.call.Call.TheVariants.{Attach, Close, Detach, End, Hunt, Send}
use Rattle.fabric.specs.declared.standing.Standing.{Standing}
use Rattle.fabric.specs.Machine.{signal_in}
use Rattle.fabric.specs.Remains.{IsKept, Parts, node_left}
use Rattle.fabric.specs.Run.{Layout}
use Rattle.fabric.specs.Tellings.{asked_over, sent_over, told_of_call}
use Rattle.fabric.proofs.Methods.Keeps.{length-set}
use Rattle.fabric.proofs.Methods.AllSteps.{made-attach, made-close, made-detach, made-end_open}
use Rattle.fabric.proofs.Methods.AllSteps.{made-hunt, made-send, with_own}
use Rattle.fabric.proofs.AfterStep.NodeOffTheLinks.{find-left, living-left}
use Rattle.fabric.proofs.Standings.KernelAndStanding.{Acts, own_kernel-is, own_open}
use Rattle.fabric.proofs.Methods.Runs.{whole-run}
use Rattle.fabric.proofs.Trunks.ToldOfCalls.{told-closes, told-hunts, told-sends}
use Rattle.fabric.proofs.Methods.StepsOnLinks.{laid}

module _ {f : Layout} {parts : Parts} {actor place home : ℕ} (acts : Acts f parts actor place home)
    (j : Inc) (mine : endpoint_of f.log.steps actor ≡ Some j) (kernel next : NodeState)
    (is : kernel ≡ get_or parts.kernels home kernel) (standing then : Standing)
    (stands : standing ≡ get_or parts.standings place standing) (new : Log) (answer : StepAnswer)
  where
    open f use {log.{steps as P}}

    abbrev n : ℕ
    n = node_by f.shape (Actor actor)

    abbrev node : NodeNo
    node = record { 0 = n }

    count : AreTrunksOf f.shape f.trunks
    count = acts.at.kept.counted.trunks

    -- the kernel is what the history left of the actor's node
    left : kernel ≡ node_left P node
    left = own_kernel-is acts.at kernel is

    open_it : Rattle.node_kernel.specs.Nodes.is_open kernel.endpoints j ≡ true
    open_it = own_open acts.at kernel is j mine

    -- the call is made of the kernel and the journal
    abbrev MakesIt : CallMade → Type 0
    MakesIt made = IsCallMade made (Actor actor) f.log new next answer

    -- the trunks after it
    abbrev after : Call → List TrunkState
    after call = told_of_call f.shape.links kernel j call f.trunks

    -- so what is kept is kept, and what is granted is made
    abbrev IsMadeSo : Call → StepAnswer → Type 0
    IsMadeSo call a =
        IsKept (laid f new (after call)) (with_own acts next then)
        × HasMade f (laid f new (after call)) actor (ask_of_call call) a

    counted : (made : CallMade) → MakesIt made → length P + 1 ≡ length new.steps
    counted made c = add-one (length P) ∙ sym (ap (λ (l : Log). length l.steps) c.logged)

    -- a living peer over a link is over one with a side on the node
    side-of : (q : Peer) → (l : LinkNo) (x : Session) (b : Inc) → is_living kernel q ≡ true
        → q ≡ There l x b → HasSideOn f.shape n l
    side-of q l x b lives same =
        let alive : is_alive P n (There l x b) ≡ true =
        ap (is_alive P n) (sym same) ∙ sym (living-left P node q)
        ∙ ap (λ (k : NodeState). is_living k q) (sym left) ∙ lives in
        let ended = peer-end f.shape P (trunks_of f.trunks) (whole-run f parts acts.at.kept) n l x b
        alive in
        record { of_shape = ended.0; at = ended.1.0; node_is = ended.1.1 }

    -- what the trunks are told is what the step makes of them
    closes : Become f.shape (trunks_of (each_does f.shape.links kernel.node.0
        (λ side. closed_at side j) f.trunks))
        (trunks_ending f.shape n (endpoint_of P actor) (trunks_of f.trunks))
    closes =
        subst (λ (e : Option Inc). Become f.shape (trunks_of (each_does f.shape.links kernel.node.0
        (λ side. closed_at side j) f.trunks)) (trunks_ending f.shape n e (trunks_of f.trunks)))
        (sym mine)
        (told-closes f.shape f.trunks count P node kernel left j open_it)

    alive-is : (q : Peer) → is_living kernel q ≡ is_alive P n q
    alive-is q = ap (λ (k : NodeState). is_living k q) left ∙ living-left P node q

    sends : (q : Peer) (note : SigNote) → note.number < 4294967296 → IsBounded (Send q note)
        → SendMakes f.shape P (trunks_of f.trunks)
        (trunks_of (sent_over f.shape.links kernel j (is_living kernel q) q note f.trunks)) n
        (endpoint_of P actor) q note (send_answer (is_alive P n q) q)
    sends q note numbered bounded =
        subst (λ (e : Option Inc). SendMakes f.shape P (trunks_of f.trunks)
        (trunks_of (sent_over f.shape.links kernel j (is_living kernel q) q note f.trunks)) n
        e q note (send_answer (is_alive P n q) q)) (sym mine)
        (subst (λ (b : Bool). SendMakes f.shape P (trunks_of f.trunks)
        (trunks_of (sent_over f.shape.links kernel j (is_living kernel q) q note f.trunks)) n
        (Some j) q note (send_answer b q)) (alive-is q)
        (told-sends f.shape f.trunks count P node kernel left j open_it q note (is_living kernel q)
        (side-of q)
        (record { number_fits = numbered; data_fit = bounded })))

    hunts : (path : Path) → LeavesBy f.shape n path
        → HuntMakes f.shape (trunks_of f.trunks)
        (trunks_of (asked_over f.shape.links kernel (find_at kernel path) path f.trunks)) n path
        (find P n path)
    hunts path leaves =
        subst (λ (o : Option Peer). HuntMakes f.shape (trunks_of f.trunks)
        (trunks_of (asked_over f.shape.links kernel (find_at kernel path) path f.trunks)) n path o)
        (ap (λ (k : NodeState). find_at k path) left ∙ find-left P node path)
        (told-hunts f.shape f.trunks count P node kernel left j open_it path (find_at kernel path)
        (λ l v same. subst (LeavesBy f.shape n) same leaves))

    -- there is still a trunk for each link
    trunks-count : (call : Call) → AreTrunksOf f.shape (after call)
    trunks-count Close = length-each _ f.shape.links f.trunks ∙ count
    trunks-count End = length-each _ f.shape.links f.trunks ∙ count
    trunks-count (Send (Here i) signal) = go (is_living kernel (Here i))
      where
        go : (b : Bool) → AreTrunksOf f.shape
            (sent_over f.shape.links kernel j b (Here i) signal f.trunks)
        go true = count
        go false = count
    trunks-count (Send (There l x b) signal) = go (is_living kernel (There l x b))
      where
        go : (c : Bool) → AreTrunksOf f.shape
            (sent_over f.shape.links kernel j c (There l x b) signal f.trunks)
        go true = length-set f.trunks _ _ ∙ count
        go false = count
    trunks-count (Hunt path signal) = go path (find_at kernel path)
      where
        go : (p : Path) (o : Option Peer) → AreTrunksOf f.shape
            (asked_over f.shape.links kernel o p f.trunks)
        go (Local v) None = count
        go (Local v) (Some q) = count
        go (Over l v) None = length-set f.trunks _ _ ∙ count
        go (Over l v) (Some q) = count
    trunks-count (Attach q signal) = count
    trunks-count (Detach r) = count

    made-with : (call : Call) → FitsEvent f n (event_of_call call) (signal_in (hand_of_call call))
        → IsTyped call → IsBounded call
        → (let made : CallMade = call_made kernel (length P + 1) j call in
        MakesIt made → then ≡ stands_after (length P + 1) made.answer standing
        → IsMadeSo call made.answer)
    made-with Close fits typed bounded c then_is =
        made-close acts kernel next is standing then stands new (after Close) (trunks-count Close) j
        mine c.node_is (length P + 1) (counted _ c) then_is c.logged closes
    made-with End fits typed bounded c then_is =
        made-end_open acts kernel next is standing then stands new (after End) (trunks-count End) j
        mine c.node_is (length P + 1) (counted _ c) then_is c.logged closes
    made-with (Send q signal) fits typed bounded c then_is =
        made-send acts kernel next is standing then stands new (after (Send q signal))
        (trunks-count (Send q signal)) j q signal mine bounded c.node_is then_is c.logged
        (sends q signal typed bounded)
    made-with (Hunt path signal) fits typed bounded c then_is =
        made-hunt acts kernel next is standing then stands new (after (Hunt path signal))
        (trunks-count (Hunt path signal)) j path signal (length P + 1) mine fits
        typed bounded refl c.node_is then_is c.logged (hunts path fits)
    made-with (Attach q signal) fits typed bounded c then_is =
        made-attach acts kernel next is standing then stands new f.trunks count j q signal
        (record { 0 = length P + 1 }) mine fits refl c.node_is then_is c.logged
        (λ l of_shape. refl)
    made-with (Detach r) fits typed bounded c then_is =
        made-detach acts kernel next is standing then stands new f.trunks count j r mine c.node_is
        then_is c.logged (λ l of_shape. refl)

    pub made-call : (call : Call)
        → FitsEvent f n (event_of_call call) (signal_in (hand_of_call call))
        → IsTyped call → IsBounded call
        → MakesIt (call_made kernel (length P + 1) j call)
        → (step : ℕ) → step ≡ length new.steps → then ≡ stands_after step answer standing
        → IsMadeSo call answer
    made-call call fits typed bounded c step step_is then_is =
        let made : CallMade = call_made kernel (length P + 1) j call in
        let at_step : step ≡ length P + 1 = step_is ∙ sym (counted made c) in
        let stood : then ≡ stands_after (length P + 1) made.answer standing =
        then_is ∙ ap (λ m. stands_after m answer standing) at_step
        ∙ ap (λ a. stands_after (length P + 1) a standing) c.answered
        in
        rw (c.answered) (made-with call fits typed bounded c stood)
