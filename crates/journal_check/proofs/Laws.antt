-- EACH LAW of a step that keeps those before it is what the tables tell.
use Rattle.std.proofs.Common.{◌≡◌, ◌↔◌, ℕ, suc, ◌<◌, ◌≤◌, Bool, true, false, List, length, Option}
use Rattle.std.proofs.Common.{None, refl, sym, ◌∙◌, ap, subst, arith, true≢false}
use Rattle.std.specs.List.{AllByRecursion}
use Rattle.linx_base.specs.Sides.{other_of}
use Rattle.linx_base.specs.declared.identity.Inc.{Inc}
use Rattle.linx_base.specs.declared.identity.LinkNo.{LinkNo}
use Rattle.linx_base.specs.declared.identity.NodeNo.{NodeNo}
use Rattle.journal.specs.declared.by.By.{By}
use Rattle.journal.specs.declared.by.By.TheVariants.{Actor, Pump}
use Rattle.journal.specs.declared.effect.Effect.{Effect}
use Rattle.journal.specs.declared.effect.Step.{Step}
use Rattle.journal.specs.declared.head.Head.{Head}
use Rattle.journal.specs.Effects.{send_answer}
use Rattle.journal.specs.History.{endpoint_by, endpoint_of}
use Rattle.journal.specs.Rest.{queue_of}
use Rattle.journal.specs.Laws.{KeepsEndpoints, KeepsReceives, KeepsSends, effects_by, may_make}
use Rattle.journal.specs.Shapes.{node_by}
use Rattle.journal.specs.declared.head.Head.TheVariants as heads
use Rattle.journal.proofs.Openings.{IsShort}
use Rattle.link_laws.specs.Laws.{HasEffects, KeepsPackets, KeepsTicks}
use Rattle.node_kernel.specs.Nodes.{NodeState}
use Rattle.link_check.specs.Judging.{TellLinkLaws}
use Rattle.link_check.specs.Links.{is_of_link}
use Rattle.link_check.proofs.AtLinks.{there-of}
use Rattle.link_check.proofs.Coming.{packets-join, splits, ticks-join}
use Rattle.link_check.proofs.Judging.{tells}
use Rattle.fabric.specs.Remains.{node_left}
use Rattle.fabric.proofs.AfterStep.NodeOffTheLinks.{living-left}
use Rattle.journal_check.specs.Calls.{AnswersAs, AreEffects, SendsAs, call_effects, is_on_link}
use Rattle.journal_check.specs.Calls.{own_items, suits}
use Rattle.journal_check.specs.Earliest.{earliest_of}
use Rattle.journal_check.specs.Faults.{Keeps, laws_before, told_beside}
use Rattle.journal_check.specs.Tables.{AreLeft, Known, effects_in, endpoint_of_maker}
use Rattle.journal_check.specs.Tables.{is_made_by_maker, is_patient, kernel_of_maker, restarted_node}
use Rattle.journal_check.specs.Told.{ArePacketsTold, AreTicksTold, Told, earliest_told}
use Rattle.journal_check.specs.declared.law.Law.{Law}
use Rattle.journal_check.specs.declared.law.Law.TheVariants as laws
use Rattle.journal_check.proofs.Actors.{actor-there, endpoint-is, endpoint-of, kept-maker}
use Rattle.journal_check.proofs.Actors.{maker-kept, pump-may}
use Rattle.journal_check.proofs.Books.{book-ready, both-left}
use Rattle.journal_check.proofs.Bringing.{exact-kept, kept-exact}
use Rattle.journal_check.proofs.Downs.{restart-same}
use Rattle.journal_check.proofs.Heads.{bounded-kept, kept-bounded, kept-suits, suits-kept}
use Rattle.journal_check.proofs.Nodes.{effects-same, maker-left}
use Rattle.journal_check.proofs.Resting.{answered, own-same, patient, received}

-- A SEND, at the node that the history leaves
sends-law : (P : List Step) (node : NodeNo) (head : Head)
    → SendsAs (node_left P node) head ↔ KeepsSends P node.0 head
sends-law P node (heads.Send q note answer) = (
  λ told. told ∙ ap (λ (b : Bool). send_answer b q) (living-left P node q),
  λ kept. kept ∙ sym (ap (λ (b : Bool). send_answer b q) (living-left P node q)),
)
sends-law P node head = (λ told. tt, λ kept. tt)

module _ (P : List Step) (t : Known) (left : AreLeft P t) (few : length P < 4294967294) where
  pub short : IsShort P
  short = omega arith

  abbrev k : ℕ
  k = suc (length P)

  abbrev T : By → Head → List Effect → Law → Type 0
  T by head es law = Told t k (record { by = by; head = head; effects = es }) law

  abbrev K : By → Head → List Effect → Law → Type 0
  K by head es law = Keeps t.shape P (record { by = by; head = head; effects = es }) law

  -- AN ACTOR'S STEP
  module _ (a : ℕ) (above : 0 < a) (within : a ≤ length t.shape.actors) where
    abbrev home : ℕ
    home = node_by t.shape (Actor a)

    abbrev me : Option Inc
    me = endpoint_of P a

    abbrev old : NodeState
    old = node_left P (record { 0 = home })

    mine : endpoint_of_maker t (Actor a) ≡ me
    mine = endpoint-is P t left a above within

    kernel : kernel_of_maker t (Actor a) ≡ old
    kernel = maker-left P t left a above within

    plain-same : (head : Head) → restarted_node head ≡ None
        → call_effects (kernel_of_maker t (Actor a)) k (endpoint_of_maker t (Actor a)) head
        ≡ effects_by P home me head
    plain-same head plain =
        ap (λ (n : NodeState). call_effects n k (endpoint_of_maker t (Actor a)) head) kernel
        ∙ ap (λ (e : Option Inc). call_effects old k e head) mine
        ∙ effects-same P (record { 0 = home }) me head plain

    actor-effects : (head : Head) (es : List Effect)
        → AreEffects (is_on_link head) es (effects_in t k (Actor a) head)
        ↔ HasEffects t.shape P home me head es
    actor-effects (heads.Restart m) es = (
      λ told. told ∙ restart-same P t left few m.0 short,
      λ kept. kept ∙ sym (restart-same P t left few m.0 short),
    )
    actor-effects (heads.Wire l side verdict) es = (λ told. tt, λ kept. tt)
    actor-effects (heads.Tick l side) es = (λ told. tt, λ kept. tt)
    actor-effects head es =
        (λ told. told ∙ plain-same head refl, λ kept. kept ∙ sym (plain-same head refl))

    actor-sends : (head : Head)
        → SendsAs (kernel_of_maker t (Actor a)) head ↔ KeepsSends P home head
    actor-sends head = (
      λ told. (sends-law P (record { 0 = home }) head).0
          (subst (λ (n : NodeState). SendsAs n head) kernel told),
      λ kept. subst (λ (n : NodeState). SendsAs n head) (sym kernel)
          ((sends-law P (record { 0 = home }) head).1 kept),
    )

    pub actor-answers : (head : Head)
        → AnswersAs (kernel_of_maker t (Actor a)) (endpoint_of_maker t (Actor a)) head
        → AnswersAs old me head
    actor-answers head told =
        subst (λ (e : Option Inc). AnswersAs old e head) mine
        (subst (λ (n : NodeState). AnswersAs n (endpoint_of_maker t (Actor a)) head) kernel told)

    answers-from : (head : Head) → AnswersAs old me head
        → AnswersAs (kernel_of_maker t (Actor a)) (endpoint_of_maker t (Actor a)) head
    answers-from head told =
        subst (λ (n : NodeState). AnswersAs n (endpoint_of_maker t (Actor a)) head) (sym kernel)
        (subst (λ (e : Option Inc). AnswersAs old e head) (sym mine) told)

    actor-receives : (head : Head) → KeepsEndpoints me head
        → (AnswersAs (kernel_of_maker t (Actor a)) (endpoint_of_maker t (Actor a)) head
        × (is_patient t (Actor a) head ≡ true))
        ↔ KeepsReceives t.shape P home (Actor a) me head
    actor-receives head ends = (
      λ told. received P t left short a above within me refl head ends
          (actor-answers head told.0) told.1,
      λ kept. (
        answers-from head (answered P t left short a above within me refl head kept),
        patient P t left short a above within me head kept,
      ),
    )

    actor-items : own_items (kernel_of_maker t (Actor a)) (endpoint_of_maker t (Actor a))
        ≡ queue_of P me
    actor-items =
        ap (λ (n : NodeState). own_items n (endpoint_of_maker t (Actor a))) kernel
        ∙ ap (own_items old) mine
        ∙ own-same P t left short a above within me refl

  -- A PUMP'S is a packet or a tick
  module _ (l : LinkNo) (es : List Effect) where
    pump-effects : (head : Head) → may_make (Pump l) head ≡ true
        → T (Pump l) head es laws.Effects ↔ K (Pump l) head es laws.Effects
    pump-effects (heads.Wire m from verdict) may = (λ told. tt, λ kept. tt)
    pump-effects (heads.Tick m side) may = (λ told. tt, λ kept. tt)
    pump-effects _ may = absurd (true≢false (sym may))

    pump-sends : (head : Head) → may_make (Pump l) head ≡ true
        → T (Pump l) head es laws.Sends ↔ K (Pump l) head es laws.Sends
    pump-sends (heads.Wire m from verdict) may = (λ told. tt, λ kept. tt)
    pump-sends (heads.Tick m side) may = (λ told. tt, λ kept. tt)
    pump-sends _ may = absurd (true≢false (sym may))

    pump-receives : (head : Head) → may_make (Pump l) head ≡ true
        → T (Pump l) head es laws.Receives ↔ K (Pump l) head es laws.Receives
    pump-receives (heads.Wire m from verdict) may = (λ told. tt, λ kept. (tt, refl))
    pump-receives (heads.Tick m side) may = (λ told. tt, λ kept. (tt, refl))
    pump-receives _ may = absurd (true≢false (sym may))

  -- ANY STEP
  module _ (head : Head) (es : List Effect) where
    endpoints-agree : (by : By) → is_made_by_maker t by head ≡ true
        → T by head es laws.Endpoints ↔ K by head es laws.Endpoints
    endpoints-agree by made =
        let mine : endpoint_of_maker t by ≡ endpoint_by P by = endpoint-of P t left by head made in (
          λ told. suits-kept (endpoint_by P by) head
              (sym (ap (λ (e : Option Inc). suits e head) mine) ∙ told),
          λ kept. ap (λ (e : Option Inc). suits e head) mine
              ∙ kept-suits (endpoint_by P by) head kept,
        )

    effects-agree : (by : By) → is_made_by_maker t by head ≡ true
        → T by head es laws.Effects ↔ K by head es laws.Effects
    effects-agree (Actor a) made =
        let at = actor-there P t left a made in actor-effects a at.0 at.1 head es
    effects-agree (Pump l) made = pump-effects l es head (pump-may P t left l head made)

    sends-agree : (by : By) → is_made_by_maker t by head ≡ true
        → T by head es laws.Sends ↔ K by head es laws.Sends
    sends-agree (Actor a) made =
        let at = actor-there P t left a made in actor-sends a at.0 at.1 head
    sends-agree (Pump l) made = pump-sends l es head (pump-may P t left l head made)

    receives-agree : (by : By) → is_made_by_maker t by head ≡ true
        → K by head es laws.Endpoints
        → T by head es laws.Receives ↔ K by head es laws.Receives
    receives-agree (Actor a) made ends =
        let at = actor-there P t left a made in actor-receives a at.0 at.1 head ends
    receives-agree (Pump l) made ends = pump-receives l es head (pump-may P t left l head made)

    -- the items of the maker's endpoint are those of its queue
    items-agree : (by : By) → is_made_by_maker t by head ≡ true
        → own_items (kernel_of_maker t by) (endpoint_of_maker t by)
        ≡ queue_of P (endpoint_by P by)
    items-agree (Actor a) made =
        let at = actor-there P t left a made in actor-items a at.0 at.1
    items-agree (Pump l) made = refl

  -- THE LAWS OF LINKS
  told-laws : (s : Step) → TellLinkLaws t.shape P t.book t.kernels s
  told-laws s =
      tells t.shape P t.book t.kernels (both-left P t left few) (book-ready P t left few) s

  module _ (by : By) (es : List Effect) where
    abbrev of_head : Head → Step
    of_head head = record { by = by; head = head; effects = es }

    packets-kept : (head : Head) → is_of_link (length t.book.links) head ≡ true
        → ArePacketsTold t head es → KeepsPackets t.shape P head es
    packets-kept (heads.Wire l from verdict) links told =
        packets-join P t.shape (heads.Wire l from verdict) es
        (((told-laws (of_head (heads.Wire l from verdict))).packets links).0 told.0)
        (exact-kept P t left few l (there-of t.book l links) (other_of from) es told.1)
    packets-kept _ links told = tt

    kept-packets : (head : Head) → is_of_link (length t.book.links) head ≡ true
        → KeepsPackets t.shape P head es → ArePacketsTold t head es
    kept-packets (heads.Wire l from verdict) links kept =
        let parts = splits P t.shape (heads.Wire l from verdict) es kept tt in (
          ((told-laws (of_head (heads.Wire l from verdict))).packets links).1 parts.0,
          kept-exact P t left few l (there-of t.book l links) (other_of from) es parts.1.1,
        )
    kept-packets _ links kept = tt

    ticks-kept : (head : Head) → is_of_link (length t.book.links) head ≡ true
        → AreTicksTold t head es → KeepsTicks t.shape P head es
    ticks-kept (heads.Tick l side) links told =
        ticks-join P t.shape (heads.Tick l side) es
        (((told-laws (of_head (heads.Tick l side))).ticks links).0 told.0)
        (exact-kept P t left few l (there-of t.book l links) side es told.1)
    ticks-kept _ links told = tt

    kept-ticks : (head : Head) → is_of_link (length t.book.links) head ≡ true
        → KeepsTicks t.shape P head es → AreTicksTold t head es
    kept-ticks (heads.Tick l side) links kept =
        let parts = splits P t.shape (heads.Tick l side) es tt kept in (
          ((told-laws (of_head (heads.Tick l side))).ticks links).1 parts.1.0,
          kept-exact P t left few l (there-of t.book l links) side es parts.1.1,
        )
    kept-ticks _ links kept = tt

  -- EACH LAW, where those before it are kept as the tables tell it
  module _ (s : Step) where
    abbrev Before : Law → Type 0
    Before law = AllByRecursion (Told t k s) (laws_before law)

    abbrev Agrees : Law → Type 0
    Agrees law = Told t k s law ↔ Keeps t.shape P s law

    ends-kept : Before laws.Bounds → Keeps t.shape P s laws.Endpoints
    ends-kept before = (endpoints-agree s.head s.effects s.by before.1.0).0 before.0

    pub agrees : (law : Law) → Before law → Agrees law
    agrees laws.Makers before =
        (maker-kept P t left s.by s.head, kept-maker P t left s.by s.head)
    agrees laws.Endpoints before = endpoints-agree s.head s.effects s.by before.0
    agrees laws.Bounds before = (bounded-kept s.head, kept-bounded s.head)
    agrees laws.Effects before = effects-agree s.head s.effects s.by before.1.1.0
    agrees laws.Sends before = sends-agree s.head s.effects s.by before.1.1.1.0
    agrees laws.Receives before =
        receives-agree s.head s.effects s.by before.1.1.1.1.0 (ends-kept before.1.1.1)
    agrees laws.Links before = (told-laws s).links
    agrees laws.Rest before = (told-laws s).rest
    agrees laws.Packets before = (
      packets-kept s.by s.effects s.head before.1.0,
      kept-packets s.by s.effects s.head before.1.0,
    )
    agrees laws.Cuts before = (told-laws s).cuts before.1.1.0
    agrees laws.Ticks before = (
      ticks-kept s.by s.effects s.head before.1.1.1.0,
      kept-ticks s.by s.effects s.head before.1.1.1.0,
    )

    -- AND WHAT IS TOLD BESIDE IT
    pub tells-beside : (law : Law) → Before law → earliest_told t s law ≡ told_beside law P s
    tells-beside laws.Receives before =
        ap (λ items. earliest_of items s.head)
        (items-agree s.head s.effects s.by before.1.1.1.1.0)
    tells-beside _ before = refl

    abbrev Kept : Law → Type 0
    Kept law = AllByRecursion (Keeps t.shape P s) (laws_before law)

    -- so what is kept before one, as they tell it, is
    to-endpoints : Before laws.Endpoints → Kept laws.Endpoints
    to-endpoints before = ((agrees laws.Makers before.1).0 before.0, tt)

    to-bounds : Before laws.Bounds → Kept laws.Bounds
    to-bounds before = ((agrees laws.Endpoints before.1).0 before.0, to-endpoints before.1)

    to-effects : Before laws.Effects → Kept laws.Effects
    to-effects before = ((agrees laws.Bounds before.1).0 before.0, to-bounds before.1)

    to-sends : Before laws.Sends → Kept laws.Sends
    to-sends before = ((agrees laws.Effects before.1).0 before.0, to-effects before.1)

    to-receives : Before laws.Receives → Kept laws.Receives
    to-receives before = ((agrees laws.Sends before.1).0 before.0, to-sends before.1)

    to-links : Before laws.Links → Kept laws.Links
    to-links before = ((agrees laws.Receives before.1).0 before.0, to-receives before.1)

    to-rest : Before laws.Rest → Kept laws.Rest
    to-rest before = ((agrees laws.Links before.1).0 before.0, to-links before.1)

    to-packets : Before laws.Packets → Kept laws.Packets
    to-packets before = ((agrees laws.Rest before.1).0 before.0, to-rest before.1)

    to-cuts : Before laws.Cuts → Kept laws.Cuts
    to-cuts before = ((agrees laws.Packets before.1).0 before.0, to-packets before.1)

    to-ticks : Before laws.Ticks → Kept laws.Ticks
    to-ticks before = ((agrees laws.Cuts before.1).0 before.0, to-cuts before.1)

    pub all-kept : (law : Law) → Before law → Kept law
    all-kept laws.Makers before = tt
    all-kept laws.Endpoints before = to-endpoints before
    all-kept laws.Bounds before = to-bounds before
    all-kept laws.Effects before = to-effects before
    all-kept laws.Sends before = to-sends before
    all-kept laws.Receives before = to-receives before
    all-kept laws.Links before = to-links before
    all-kept laws.Rest before = to-rest before
    all-kept laws.Packets before = to-packets before
    all-kept laws.Cuts before = to-cuts before
    all-kept laws.Ticks before = to-ticks before
