-- The steps of a packet as the fabric's methods make them: what is kept, and that each is the one
-- that was asked for.
use Rattle.std.proofs.Common.{◌≡◌, ℕ, suc, ◌+◌, ◌<◌, Bool, true, false, List, [], ◌∷◌, length, None}
use Rattle.std.proofs.Common.{get_or, refl, sym, ◌∙◌, ap, subst, add-one, ◌-◌, slice_set}
use Rattle.linx_base.specs.Sides.{other_of}
use Rattle.linx_base.specs.declared.frame.Verdict.{Verdict}
use Rattle.linx_base.specs.declared.frame.Verdict.TheVariants.{Deliver, Lose, Repeat, Swap}
use Rattle.linx_base.specs.declared.identity.Inc.{Inc}
use Rattle.linx_base.specs.declared.identity.LinkNo.{LinkNo}
use Rattle.linx_base.specs.declared.identity.NodeNo.{NodeNo}
use Rattle.linx_base.specs.declared.identity.Peer.TheVariants.{Here}
use Rattle.linx_base.specs.declared.identity.Session.{Session}
use Rattle.linx_base.specs.declared.identity.Side.{Side}
use Rattle.linx_base.specs.declared.identity.Side.TheVariants.{First, Second}
use Rattle.linx_base.specs.SigNotes.{SigNote}
use Rattle.rlnh_end.specs.declared.heard.Heard.{Heard}
use Rattle.carrier.specs.Events.{handed_by}
use Rattle.journal.specs.declared.by.By.{By}
use Rattle.journal.specs.declared.by.By.TheVariants.{Actor, Pump}
use Rattle.journal.specs.declared.effect.Effect.{Effect}
use Rattle.journal.specs.declared.effect.Step.{Step}
use Rattle.journal.specs.declared.event.Event.TheVariants as asks
use Rattle.journal.specs.declared.head.Head.{Head}
use Rattle.journal.specs.declared.head.Head.TheVariants as heads
use Rattle.journal.specs.History.{open_endpoints}
use Rattle.journal.specs.Laws.{may_make}
use Rattle.journal.specs.Living.{is_alive}
use Rattle.journal.specs.Logs.{Log}
use Rattle.node_kernel.specs.declared.answers.StepAnswer.TheVariants as answers
use Rattle.node_kernel.specs.Nodes.{NodeState}
use Rattle.link_laws.specs.Brought.{Brought, MayBring, arrives, brought_at}
use Rattle.link_laws.specs.Brought.{meets, nothing}
use Rattle.journal.specs.Shapes.{Shape}
use Rattle.link_laws.specs.Ends.{IsLinkOf, node_at}
use Rattle.link_laws.specs.Laws.{ArePacketEffects, IsHandedOver, IsLegalStep, delivers}
use Rattle.run_trunks.specs.Changes.{at_link}
use Rattle.run_trunks.specs.States.{TrunksState, trunks_of}
use Rattle.run_trunks.proofs.Numbered.{one-changes}
use Rattle.run_trunks.proofs.Rested.{reads-changed}
use Rattle.run_numbers.specs.Laws.{HasNumbersToAsk}
use Rattle.trunk.specs.Events.{HasNumbersLeft, IsReading, TrunkState, asked_at, delivered, kept_of}
use Rattle.trunk.specs.Events.{side_of, told_by}
use Rattle.trunk.specs.Laws.{MayPublish}
use Rattle.trunk.specs.declared.up.TrunkUp.{TrunkUp}
use Rattle.trunk.specs.declared.up.TrunkUp.TheVariants.{WentUp}
use Rattle.trunk.specs.declared.up.TrunkUp.TheVariants.{Arrived as UpArrived, Asked}
use Rattle.trunk_moves.specs.Packets.{Comes, Meets, answered, names_hunted, told_brings}
use Rattle.trunk_moves.specs.Steps.{IsTrunkStep}
use Rattle.trunk_moves.specs.Trunks.{RunTrunks}
use Rattle.fabric.specs.declared.bringing.At.{At}
use Rattle.fabric.specs.declared.line.Line.{Line}
use Rattle.fabric.specs.declared.wires.Coming.TheVariants.{Never}
use Rattle.fabric.specs.Actings.{MayMake}
use Rattle.fabric.specs.Asks.{MayMeet, may_ask}
use Rattle.fabric.specs.Brings.{after_brought}
use Rattle.fabric.specs.Bringings.{HasNumbersOver, IsDelivered, IsThere, MayTellNode}
use Rattle.fabric.specs.Bringings.{answers_told, brought_on}
use Rattle.fabric.specs.Bringings.{comes_by, coming_kept, node_told, passed_by, passes_by, told_on}
use Rattle.fabric.specs.Lines.{counted}
use Rattle.fabric.specs.Remains.{AreNodesLeft, IsKept, Parts, node_left}
use Rattle.fabric.specs.Run.{IsStepOf, Layout}
use Rattle.fabric.proofs.Trunks.Answers.{answers-are, brought-on, holder-is}
use Rattle.fabric.proofs.AfterStep.NodeAtALink.{node-wire}
use Rattle.fabric.proofs.Methods.Keeps.{length-set}
use Rattle.fabric.proofs.Methods.Legal.{IsLawful, wire-lawful}
use Rattle.fabric.proofs.Trunks.Lines.{own-wire}
use Rattle.fabric.proofs.AfterStep.NodeOffTheLinks.{open-left_of}
use Rattle.fabric.proofs.Methods.KernelAndLine.{back-there, kernel-at, kernel-there, line-is}
use Rattle.fabric.proofs.Methods.KernelAndLine.{there-by}
use Rattle.fabric.proofs.Methods.StepsOnLinks.{brought-leaves, kernels-same, kernels-set, laid}
use Rattle.fabric.proofs.Methods.StepsOnLinks.{made-on_link, wire-on, with_line}
use Rattle.fabric.proofs.Methods.Runs.{grants-answer, grants-then, legal-next}

-- ---- what a maker asks for on a link may be made

-- a maker that may ask for it may make it
makes-wire : (by : By) (l : LinkNo) (from : Side) (verdict : Verdict)
    → may_ask by (asks.Wire l from verdict) ≡ true
    → may_make by (heads.Wire l from verdict) ≡ true
makes-wire (Actor k) l from verdict may = refl
makes-wire (Pump link) l from verdict may = may

-- a verdict by which the packet comes, or passes
comes-handed : (verdict : Verdict) (keep : Bool) → comes_by verdict ≡ coming_kept keep
    → delivers verdict ≡ true
comes-handed Deliver keep comes = refl
comes-handed Repeat keep comes = refl
comes-handed Lose true comes = absurd cc
comes-handed Lose false comes = absurd cc
comes-handed (Swap k) true comes = absurd cc
comes-handed (Swap k) false comes = absurd cc

comes-meets : (P : List Step) (n : ℕ) (l : LinkNo) (from : Side) (verdict : Verdict) (keep : Bool)
    (es : List Effect) (before after : TrunkState) → comes_by verdict ≡ coming_kept keep
    → Comes P n l from keep es before after → Meets P n l from verdict es before after
comes-meets P n l from Deliver false es before after comes come = come
comes-meets P n l from Deliver true es before after comes come = absurd cc
comes-meets P n l from Repeat true es before after comes come = come
comes-meets P n l from Repeat false es before after comes come = absurd cc
comes-meets P n l from Lose true es before after comes come = absurd cc
comes-meets P n l from Lose false es before after comes come = absurd cc
comes-meets P n l from (Swap k) true es before after comes come = absurd cc
comes-meets P n l from (Swap k) false es before after comes come = absurd cc

passes-meets : (P : List Step) (n : ℕ) (l : LinkNo) (from : Side) (verdict : Verdict)
    (t : TrunkState) → comes_by verdict ≡ Never
    → Meets P n l from verdict [] t (passed_by from verdict t)
passes-meets P n l from Deliver t passes = absurd cc
passes-meets P n l from Repeat t passes = absurd cc
passes-meets P n l from Lose t passes = record { effects = refl; makes = refl }
passes-meets P n l from (Swap k) t passes =
    record { effects = refl; makes = refl }

-- an arrival may come where its receiver is open
arrival-may : (P : List Step) (n m : ℕ) (l : LinkNo) (x : Session) (a b : Inc) (note : SigNote)
    (what : Brought) → brought_at P n l (arrives x a b note) ≡ brought_at P n l what
    → MayBring P n m l what → is_alive P n (Here b) ≡ true
arrival-may P n m l x a b note (arrives y c d other) is may =
    let same : d ≡ b = cc in
    subst (λ (j : Inc). is_alive P n (Here j) ≡ true) same may.receiver
arrival-may P n m l x a b note _ is may = absurd cc

-- ---- A STEP OF A PACKET

-- a side has numbers for the next question
numbers-first : (side : Side) (names : List (List ℕ)) (t : TrunkState)
    → HasNumbersToAsk side names t → HasNumbersLeft side t
numbers-first side [] t has = has
numbers-first side (v ∷ names) t has = has.0

-- and for each of them, as a fabric has its trunks
numbers-over : (shape : Shape) (l : LinkNo) → IsLinkOf shape l → (side : Side)
    (names : List (List ℕ)) (ts : List TrunkState) → length ts ≡ length shape.links
    → HasNumbersToAsk side names (trunks_of ts l.0) → HasNumbersOver l side names ts
numbers-over shape l of_shape side [] ts same has = has
numbers-over shape l of_shape side (v ∷ names) ts same has = (
  has.0,
  numbers-over shape l of_shape side names (at_link l (asked_at side v) ts)
      (length-set ts (l.0 - 1) (asked_at side v (trunks_of ts l.0)) ∙ same)
      (subst (HasNumbersToAsk side names)
      (sym (reads-changed shape l (asked_at side v) ts same of_shape)) has.1),
)

module _ {f : Layout} {parts : Parts} (kept : IsKept f parts) (by : By) (l : LinkNo) (from : Side)
    (verdict : Verdict)
    (asked : MayMake f by (record { event = asks.Wire l from verdict; hand = None })) where
  open f use {shape, log.{steps as P}}

  abbrev trunks : RunTrunks
  trunks = trunks_of f.trunks

  -- the trunk of the link
  abbrev t : TrunkState
  t = trunks l.0

  -- the side and the node that it comes to
  abbrev to : Side
  to = other_of from

  abbrev n : ℕ
  n = node_at shape l to

  abbrev node : NodeNo
  node = record { 0 = n }

  abbrev meeting : MayMeet f l from verdict
  meeting = asked.may.fits

  abbrev of_shape : IsLinkOf shape l
  of_shape = meeting.of_shape

  abbrev head : Head
  head = heads.Wire l from verdict

  -- the step, by what it brings
  abbrev step_of : Brought → Step
  step_of what = record { by = by; head = head; effects = brought_at P n l what }

  lawful : (what : Brought) → IsLawful (length f.log.names.nodes) shape P trunks (step_of what)
  lawful what =
      wire-lawful (length f.log.names.nodes) shape P trunks (brought_at P n l what) by
      asked.may.maker asked.room l from verdict
      (makes-wire by l from verdict asked.may.may) meeting

  -- with what it makes of the trunk it is a step of a run
  run-step : (what : Brought) (change : TrunkState → TrunkState)
      → Meets P n l from verdict (brought_at P n l what) t (change t)
      → IsTrunkStep shape P trunks (step_of what) (trunks_of (at_link l change f.trunks))
  run-step what change met = record {
    laws = (lawful what).laws;
    makes = record {
      of_shape = of_shape;
      flies = meeting.flies;
      cuts = meeting.lost;
      trunk = change t;
      meets = met;
      makes = one-changes shape l change f.trunks kept.counted.trunks of_shape;
    };
  }

  -- what is kept after it, and what it is
  made-wire : (what : Brought) (change : TrunkState → TrunkState)
      → Meets P n l from verdict (brought_at P n l what) t (change t)
      → (kernels : List NodeState) → length kernels ≡ length parts.kernels
      → AreNodesLeft (step_of what ∷ P) kernels
      → (line then : Line) → line ≡ get_or parts.lines (l.0 - 1) line → then ≡ counted from line
      → (new : Log) → new ≡ record f.log { steps = step_of what ∷ P }
      → (after : List TrunkState) → after ≡ at_link l change f.trunks
      → IsKept (laid f new after) (with_line parts by l kernels then)
      × IsStepOf f (laid f new after) by head answers.Done
  made-wire what change met kernels count nodes line then lines_is then_eq new new_eq after
      after_eq =
      made-on_link kept asked.short (step_of what) (at_link l change f.trunks)
      (run-step what change met) (lawful what) asked.may.maker
      (length-set f.trunks (l.0 - 1) (change t) ∙ kept.counted.trunks) l of_shape
      (wire-on l from verdict) (brought-leaves P n l what) then
      (then_eq ∙ ap (counted from) (line-is kept l of_shape line lines_is)
      ∙ sym (own-wire P by (brought_at P n l what) l from verdict))
      kernels count nodes new new_eq after after_eq

  -- A PACKET THAT IS LOST, or exchanged with another one
  pub made-passed : comes_by verdict ≡ Never → (line then : Line)
      → line ≡ get_or parts.lines (l.0 - 1) line → then ≡ counted from line
      → (new : Log) → new ≡ record f.log {
        steps = record { by = by; head = head; effects = [] } ∷ P;
      }
      → (after : List TrunkState) → after ≡ passes_by l from verdict f.trunks
      → IsKept (laid f new after) (with_line parts by l parts.kernels then)
      × IsStepOf f (laid f new after) by head answers.Done
  made-passed passes line then line_is then_eq new new_eq after after_eq =
      let met : Meets P n l from verdict [] t (passed_by from verdict t) =
      passes-meets P n l from verdict t passes in
      made-wire nothing (passed_by from verdict) met parts.kernels refl
      (kernels-same kept asked.short (step_of nothing) (passes_by l from verdict f.trunks)
      (run-step nothing (passed_by from verdict) met) node refl
      (node-wire P by node l nothing from verdict))
      line then line_is then_eq new new_eq after after_eq

  -- A PACKET THAT COMES to the node, and is told there in this session
  abbrev session : Session
  session = (kept_of to t).now.session

  -- where it comes
  abbrev there_is : At
  there_is = record { node = node; link = l; side = to; session = session }

  -- what is told of it, by its reading
  abbrev told : Heard → TrunkUp
  told heard = told_by from 0 heard t

  abbrev brings : Heard → Brought
  brings heard = told_brings session (told heard)

  -- what it makes of the trunk, with what the node answers
  abbrev becomes : Bool → Heard → TrunkState → TrunkState
  becomes keep heard u = answered P n l to (told heard) (delivered from 0 keep heard u)

  module _ (keep : Bool) (comes : comes_by verdict ≡ coming_kept keep) (heard : Heard)
      (reading : IsReading (handed_by from 0 t.link) heard) where
    coming : Meets P n l from verdict (brought_at P n l (brings heard)) t (becomes keep heard t)
    coming =
        comes-meets P n l from verdict keep (brought_at P n l (brings heard)) t
        (becomes keep heard t) comes
        (record { heard = heard; reading = reading; effects = refl; makes = refl })

    -- its step is legal
    legal_coming : IsLegalStep shape P (step_of (brings heard))
    legal_coming =
        legal-next f parts kept (step_of (brings heard))
        (trunks_of (at_link l (becomes keep heard) f.trunks)) asked.short
        (run-step (brings heard) (becomes keep heard) coming)

    packet : ArePacketEffects P n (node_at shape l from) l (brought_at P n l (brings heard))
    packet =
        subst (λ (b : Bool). IsHandedOver b P n (node_at shape l from) l
        (brought_at P n l (brings heard))) (comes-handed verdict keep comes) legal_coming.packets

    -- what it makes of the trunk, and that its side has numbers left then
    came : trunks_of (at_link l (delivered from 0 keep heard) f.trunks) l.0
        ≡ delivered from 0 keep heard t
    came = reads-changed shape l (delivered from 0 keep heard) f.trunks kept.counted.trunks of_shape

    left_to_ask : HasNumbersToAsk to (names_hunted P n l) (delivered from 0 keep heard t)
    left_to_ask = grants-then f parts kept asked.short l of_shape from keep heard reading

    -- so its node may be told of it
    may-tell : (up : TrunkUp) → told heard ≡ up
        → MayTellNode (node_left P node) there_is up
        (at_link l (delivered from 0 keep heard) f.trunks)
    may-tell (UpArrived a b note) is =
        open-left_of P b (open_endpoints P n)
        ∙ arrival-may P n (node_at shape l from) l session a b note packet.what
        (ap (λ (u : TrunkUp). brought_at P n l (told_brings session u)) (sym is)
        ∙ packet.effects) packet.may
    may-tell (Asked name) is = (
      λ i first. subst (λ (u : TrunkState). MayPublish (side_of to u) i name) (sym came)
          ((grants-answer f parts kept asked.short l of_shape from).answers keep heard reading name
          is i (sym (holder-is P node name) ∙ first)),
      subst (HasNumbersLeft to) (sym came)
          (numbers-first to (names_hunted P n l) (delivered from 0 keep heard t) left_to_ask),
    )
    may-tell (WentUp x y) is =
        numbers-over shape l of_shape to (names_hunted P n l)
        (at_link l (delivered from 0 keep heard) f.trunks)
        (length-set f.trunks (l.0 - 1) (delivered from 0 keep heard t) ∙ kept.counted.trunks)
        (subst (HasNumbersToAsk to (names_hunted P n l)) (sym came) left_to_ask)
    may-tell _ is = tt

    -- WHAT IS KEPT, and that it is the step that was asked for
    delivered-made : (kernel next : NodeState) → kernel ≡ node_left P node
        → next ≡ node_told kernel there_is (told heard) (length P + 1)
        → (home : ℕ) → n ≡ suc home → home < length parts.kernels
        → (line then : Line) → line ≡ get_or parts.lines (l.0 - 1) line → then ≡ counted from line
        → (new : Log) → new ≡ record f.log {
          steps = record {
            by = by;
            head = head;
            effects = told_on kernel there_is (told heard);
          } ∷ P;
        }
        → (after : List TrunkState)
        → after ≡ answers_told kernel there_is (told heard)
        (at_link l (delivered from 0 keep heard) f.trunks)
        → IsKept (laid f new after)
        (with_line parts by l (slice_set parts.kernels home next) then)
        × IsStepOf f (laid f new after) by head answers.Done
    delivered-made kernel next kernel_is next_eq home home_is inside line then line_is then_eq new
        new_eq after after_eq =
        let what : Brought = brings heard in
        let effects : told_on kernel there_is (told heard) ≡ brought_at P n l what =
        ap (λ (k : NodeState). brought_on k l what) kernel_is ∙ brought-on P node l what in
        let left : next ≡ node_left (step_of what ∷ P) (record { 0 = suc home }) =
        next_eq ∙ ap (λ (k : NodeState). after_brought k l what (length P + 1)) kernel_is
        ∙ ap (after_brought (node_left P node) l what) (add-one (length P))
        ∙ sym (node-wire P by node l what from verdict)
        ∙ ap (λ (k : ℕ). node_left (step_of what ∷ P) (record { 0 = k })) home_is in
        made-wire what (becomes keep heard) coming (slice_set parts.kernels home next)
        (length-set parts.kernels home next)
        (kernels-set kept asked.short (step_of what)
        (at_link l (becomes keep heard) f.trunks)
        (run-step what (becomes keep heard) coming) home home_is inside next left)
        line then line_is then_eq new
        (new_eq ∙ ap (λ (es : List Effect). let x : Log = record f.log
        { steps = record { by = by; head = head; effects = es } ∷ P } in x) effects)
        after
        (after_eq ∙ ap (λ (k : NodeState). answers_told k there_is (told heard)
        (at_link l (delivered from 0 keep heard) f.trunks)) kernel_is
        ∙ answers-are P node l to (delivered from 0 keep heard) f.trunks there_is refl refl
        (told heard))

-- ---- as the fabric's methods see it

-- the packet that has come to a side, by the side that it is from
record IsCome (log new : Log) (ts : List TrunkState) (after : TrunksState) (k next : NodeState)
    (by : By) (head : Head) (from : Side) (at : At) (keep : Bool) : Type 0 where
  heard : Heard
  reading : IsReading (handed_by from 0 (trunks_of ts at.link.0).link) heard
  logged :
      new ≡ record log {
        steps = record {
          by = by;
          head = head;
          effects = told_on k at (told_by from 0 heard (trunks_of ts at.link.0));
        } ∷ log.steps;
      }
  node_is :
      next ≡ node_told k at (told_by from 0 heard (trunks_of ts at.link.0)) (length log.steps + 1)
  trunks_are :
      after.is ≡ answers_told k at (told_by from 0 heard (trunks_of ts at.link.0))
      (at_link at.link (delivered from 0 keep heard) ts)

-- the side across from the one across
across : (from side : Side) → side ≡ other_of from → other_of side ≡ from
across First side is = ap other_of is
across Second side is = ap other_of is

module _ {f : Layout} {parts : Parts} (kept : IsKept f parts) (by : By) (l : LinkNo) (from : Side)
    (verdict : Verdict)
    (asked : MayMake f by (record { event = asks.Wire l from verdict; hand = None })) (keep : Bool)
    (comes : comes_by verdict ≡ coming_kept keep) (at : At) (there : IsThere f l (other_of from) at)
    (s : TrunksState) (same : s.is ≡ f.trunks) (kernel : NodeState)
    (kernel_is : kernel ≡ get_or parts.kernels (at.node.0 - 1) kernel) where
  abbrev here : At
  here = there_is kept by l from verdict asked

  at_is : at ≡ here
  at_is = there-by f l (other_of from) at there

  of_link : IsLinkOf f.shape l
  of_link = asked.may.fits.of_shape

  left_is : kernel ≡ node_left f.log.steps at.node
  left_is = kernel-at kept l of_link there kernel kernel_is

  -- WHAT ITS DELIVERY ASKS FOR: its node may be told of it
  abbrev MayDeliver : List TrunkState → Side → NodeState → At → Type 0
  MayDeliver ts side k a =
      (heard : Heard) → IsReading (handed_by side 0 (trunks_of ts a.link.0).link) heard
      → MayTellNode k a (told_by side 0 heard (trunks_of ts a.link.0))
      (at_link a.link (delivered side 0 keep heard) ts)

  pub may-deliver : MayDeliver s.is (other_of at.side) kernel at
  may-deliver =
      subst (λ (ts : List TrunkState). MayDeliver ts (other_of at.side) kernel at) (sym same)
      (subst (λ (side : Side). MayDeliver f.trunks side kernel at)
      (sym (across from at.side there.side_is))
      (subst (λ (k : NodeState). MayDeliver f.trunks from k at) (sym left_is)
      (subst (λ (a : At). MayDeliver f.trunks from (node_left f.log.steps a.node) a) (sym at_is)
      (λ heard reading. may-tell kept by l from verdict asked keep comes heard reading
      (told_by from 0 heard (trunks_of f.trunks l.0)) refl))))

  -- WHAT IT MAKES: a packet that has come
  pub made-delivered : (next : NodeState) (line then : Line)
      → line ≡ get_or parts.lines (l.0 - 1) line → then ≡ counted from line
      → (new : Log) (after : TrunksState)
      → IsDelivered f.log new s after kernel next by (heads.Wire l from verdict) at keep
      → IsKept (laid f new after.is)
      (with_line parts by l (slice_set parts.kernels (at.node.0 - 1) next) then)
      × IsStepOf f (laid f new after.is) by (heads.Wire l from verdict) answers.Done
  made-delivered next line then line_is then_eq new after done =
      let head : Head = heads.Wire l from verdict in
      let come : IsCome f.log new s.is after kernel next by head (other_of at.side) at keep =
      record {
        heard = done.heard;
        reading = done.reading;
        logged = done.logged;
        node_is = done.node_is;
        trunks_are = ap (λ (x : TrunksState). x.is) done.trunks_are;
      } in
      let c : IsCome f.log new f.trunks after kernel next by head from here keep =
      subst (λ (a : At). IsCome f.log new f.trunks after kernel next by head from a keep) at_is
      (subst (λ (side : Side). IsCome f.log new f.trunks after kernel next by head side at keep)
      (across from at.side there.side_is)
      (subst (λ (ts : List TrunkState). IsCome f.log new ts after kernel next by head
      (other_of at.side) at keep) same come)) in
      delivered-made kept by l from verdict asked keep comes c.heard c.reading kernel next
      (left_is ∙ ap (λ (k : ℕ). node_left f.log.steps (record { 0 = k })) there.node) c.node_is
      (at.node.0 - 1) (sym there.node ∙ sym (back-there kept l of_link there))
      (kernel-there kept l of_link there) line then line_is then_eq new c.logged after.is
      c.trunks_are
