-- The step of a tick as the fabric's method makes it: what is kept, and that it is the one that was
-- asked for.
use Rattle.std.proofs.Common.{◌≡◌, ℕ, suc, ◌+◌, ◌<◌, true, List, ◌∷◌, length, None, get_or, refl}
use Rattle.std.proofs.Common.{sym, ◌∙◌, ap, subst, add-one, ◌-◌, slice_set}
use Rattle.linx_base.specs.declared.identity.LinkNo.{LinkNo}
use Rattle.linx_base.specs.declared.identity.NodeNo.{NodeNo}
use Rattle.linx_base.specs.declared.identity.Session.{Session}
use Rattle.linx_base.specs.declared.identity.Side.{Side}
use Rattle.carrier.specs.Events.{link_told_by}
use Rattle.journal.specs.declared.by.By.{By}
use Rattle.journal.specs.declared.by.By.TheVariants.{Actor, Pump}
use Rattle.journal.specs.declared.effect.Effect.{Effect}
use Rattle.journal.specs.declared.effect.Step.{Step}
use Rattle.journal.specs.declared.event.Event.TheVariants as asks
use Rattle.journal.specs.declared.head.Head.{Head}
use Rattle.journal.specs.declared.head.Head.TheVariants as heads
use Rattle.journal.specs.Laws.{may_make}
use Rattle.journal.specs.Logs.{Log}
use Rattle.node_kernel.specs.declared.answers.StepAnswer.TheVariants as answers
use Rattle.node_kernel.specs.Nodes.{NodeState}
use Rattle.link_laws.specs.Brought.{Brought, brought_at}
use Rattle.link_laws.specs.Ends.{IsLinkOf, node_at}
use Rattle.run_trunks.specs.Changes.{at_link}
use Rattle.run_trunks.specs.States.{TrunksState, resting, trunks_of}
use Rattle.run_trunks.proofs.Numbered.{one-changes}
use Rattle.trunk.specs.Events.{TrunkState, kept_of, ticked_at}
use Rattle.trunk.specs.Tells.{up_of_tick}
use Rattle.trunk.specs.declared.up.TrunkUp.{TrunkUp}
use Rattle.trunk_moves.specs.Packets.{told_brings}
use Rattle.trunk_moves.specs.Steps.{IsTrunkStep}
use Rattle.fabric.specs.declared.bringing.At.{At}
use Rattle.fabric.specs.declared.line.Line.{Line}
use Rattle.fabric.specs.Actings.{MayMake}
use Rattle.fabric.specs.Asks.{may_ask}
use Rattle.fabric.specs.Brings.{after_brought}
use Rattle.fabric.specs.Bringings.{IsThere, brought_on, node_told, told_on}
use Rattle.fabric.specs.Lines.{ticked_more}
use Rattle.fabric.specs.Remains.{IsKept, Parts, node_left}
use Rattle.fabric.specs.Run.{IsStepOf, Layout}
use Rattle.fabric.proofs.Trunks.Answers.{brought-on}
use Rattle.fabric.proofs.AfterStep.NodeAtALink.{node-tick}
use Rattle.fabric.proofs.Methods.Keeps.{length-set}
use Rattle.fabric.proofs.Methods.Legal.{IsLawful, tick-lawful}
use Rattle.fabric.proofs.Trunks.Lines.{own-tick}
use Rattle.fabric.proofs.Methods.StepsOnLinks.{brought-leaves, kernels-set, laid}
use Rattle.fabric.proofs.Methods.StepsOnLinks.{made-on_link, tick-on, with_line}
use Rattle.fabric.proofs.Methods.KernelAndLine.{back-there, kernel-at, kernel-there, line-is}
use Rattle.fabric.proofs.Methods.KernelAndLine.{there-by}

-- a maker that may ask for a tick may make it
makes-tick : (by : By) (l : LinkNo) (side : Side) → may_ask by (asks.Tick l side) ≡ true
    → may_make by (heads.Tick l side) ≡ true
makes-tick (Actor k) l side may = refl
makes-tick (Pump link) l side may = may

-- A TICK of a side

module _ {f : Layout} {parts : Parts} (kept : IsKept f parts) (by : By) (l : LinkNo) (side : Side)
    (asked : MayMake f by (record { event = asks.Tick l side; hand = None })) where
  open f use {shape, log.{steps as P}}

  abbrev t : TrunkState
  t = trunks_of f.trunks l.0

  abbrev n : ℕ
  n = node_at shape l side

  abbrev node : NodeNo
  node = record { 0 = n }

  abbrev of_shape : IsLinkOf shape l
  of_shape = asked.may.fits

  abbrev head : Head
  head = heads.Tick l side

  abbrev session : Session
  session = (kept_of side t).now.session

  -- where it is felt, and what is told there of it
  abbrev there_is : At
  there_is = record { node = node; link = l; side = side; session = session }

  abbrev told : TrunkUp
  told = up_of_tick (link_told_by side t.link)

  abbrev what : Brought
  what = told_brings session told

  -- its step
  abbrev step : Step
  step = record { by = by; head = head; effects = brought_at P n l what }

  abbrev becomes : List TrunkState
  becomes = at_link l (ticked_at side) f.trunks

  lawful : IsLawful (length f.log.names.nodes) shape P (trunks_of f.trunks) step
  lawful =
      tick-lawful (length f.log.names.nodes) shape P (trunks_of f.trunks) (brought_at P n l what)
      by asked.may.maker asked.room l side
      (makes-tick by l side asked.may.may) of_shape

  run-step : IsTrunkStep shape P (trunks_of f.trunks) step (trunks_of becomes)
  run-step = record {
    laws = lawful.laws;
    makes = record {
      of_shape = of_shape;
      trunk = ticked_at side t;
      beat = record { effects = refl; makes = refl };
      makes = one-changes shape l (ticked_at side) f.trunks kept.counted.trunks of_shape;
    };
  }

  -- WHAT IT MAKES of the fabric
  ticked-made : (kernel next : NodeState) → kernel ≡ node_left P node
      → next ≡ node_told kernel there_is told (length P + 1)
      → (home : ℕ) → n ≡ suc home → home < length parts.kernels
      → (line then : Line) → line ≡ get_or parts.lines (l.0 - 1) line → then ≡ ticked_more line
      → (new : Log) → new ≡ record f.log {
        steps = record { by = by; head = head; effects = told_on kernel there_is told } ∷ P;
      }
      → (after : List TrunkState) → after ≡ becomes
      → IsKept (laid f new after) (with_line parts by l (slice_set parts.kernels home next) then)
      × IsStepOf f (laid f new after) by head answers.Done
  ticked-made kernel next kernel_is next_eq home home_is inside line then lines_is then_eq new
      new_eq after after_eq =
      let effects : told_on kernel there_is told ≡ brought_at P n l what =
      ap (λ (k : NodeState). brought_on k l what) kernel_is ∙ brought-on P node l what in
      let left : next ≡ node_left (step ∷ P) (record { 0 = suc home }) =
      next_eq ∙ ap (λ (k : NodeState). after_brought k l what (length P + 1)) kernel_is
      ∙ ap (after_brought (node_left P node) l what) (add-one (length P))
      ∙ sym (node-tick P by node l what side)
      ∙ ap (λ (k : ℕ). node_left (step ∷ P) (record { 0 = k })) home_is in
      made-on_link kept asked.short step becomes run-step lawful asked.may.maker
      (length-set f.trunks (l.0 - 1) (ticked_at side t) ∙ kept.counted.trunks) l of_shape
      (tick-on l side) (brought-leaves P n l what) then
      (then_eq ∙ ap ticked_more (line-is kept l of_shape line lines_is)
      ∙ sym (own-tick P by (brought_at P n l what) l side))
      (slice_set parts.kernels home next) (length-set parts.kernels home next)
      (kernels-set kept asked.short step becomes run-step home home_is inside next left)
      new
      (new_eq ∙ ap (λ (es : List Effect). let x : Log = record f.log
      { steps = record { by = by; head = head; effects = es } ∷ P } in x) effects)
      after after_eq

-- the tick that was felt at a side
record IsFelt (log new : Log) (ts after : List TrunkState) (k next : NodeState) (by : By)
    (head : Head) (at : At) : Type 0 where
  logged :
      new ≡ record log {
        steps = record {
          by = by;
          head = head;
          effects = told_on k at
              (up_of_tick (link_told_by at.side (trunks_of ts at.link.0).link));
        } ∷ log.steps;
      }
  node_is :
      next ≡ node_told k at (up_of_tick (link_told_by at.side (trunks_of ts at.link.0).link))
      (length log.steps + 1)
  trunks_are : after ≡ at_link at.link (ticked_at at.side) ts

-- AS THE FABRIC'S METHOD SEES IT
pub made-ticked : {f : Layout} {parts : Parts} (kept : IsKept f parts) (by : By) (l : LinkNo)
    (side : Side) (asked : MayMake f by (record { event = asks.Tick l side; hand = None }))
    (at : At) → IsThere f l side at → (s : TrunksState) → s.is ≡ f.trunks
    → (kernel next : NodeState) → kernel ≡ get_or parts.kernels (at.node.0 - 1) kernel
    → next ≡ node_told kernel at (up_of_tick
    (link_told_by at.side (trunks_of s.is at.link.0).link)) (length f.log.steps + 1)
    → (line then : Line) → line ≡ get_or parts.lines (l.0 - 1) line → then ≡ ticked_more line
    → (new : Log) → new ≡ record f.log {
      steps = record {
        by = by;
        head = heads.Tick at.link at.side;
        effects = told_on kernel at (up_of_tick
            (link_told_by at.side (trunks_of s.is at.link.0).link));
      } ∷ f.log.steps;
    }
    → (after : TrunksState)
    → after ≡ resting s.links (at_link at.link (ticked_at at.side) s.is)
    → IsKept (laid f new after.is)
    (with_line parts by l (slice_set parts.kernels (at.node.0 - 1) next) then)
    × IsStepOf f (laid f new after.is) by (heads.Tick l side) answers.Done
made-ticked {f = f} {parts = parts} kept by l side asked at there s same kernel next kernel_is
    next_eq line then line_is then_eq new new_eq after after_eq =
    let of_link : IsLinkOf f.shape l = asked.may.fits in
    let here : At = there_is kept by l side asked in
    let felt : IsFelt f.log new s.is after.is kernel next by (heads.Tick at.link at.side) at =
    record {
      logged = new_eq;
      node_is = next_eq;
      trunks_are = ap (λ (x : TrunksState). x.is) after_eq;
    } in
    let c : IsFelt f.log new f.trunks after.is kernel next by (heads.Tick l side) here =
    subst (λ (a : At). IsFelt f.log new f.trunks after.is kernel next by
    (heads.Tick a.link a.side) a) (there-by f l side at there)
    (subst (λ (ts : List TrunkState). IsFelt f.log new ts after.is kernel next by
    (heads.Tick at.link at.side) at) same felt) in
    ticked-made kept by l side asked kernel next
    (kernel-at kept l of_link there kernel kernel_is
    ∙ ap (λ (k : ℕ). node_left f.log.steps (record { 0 = k })) there.node)
    c.node_is (at.node.0 - 1) (sym there.node ∙ sym (back-there kept l of_link there))
    (kernel-there kept l of_link there) line then line_is then_eq new c.logged after.is c.trunks_are
