-- When a step on a link is legal: what a packet brings, a session that is lost at a tick, a
-- restart.
use Rattle.std.proofs.Common.{◌≡◌, ◌≤◌, ℕ, Bool, true, false, List, Option, Some, refl, sym, ◌∙◌}
use Rattle.std.proofs.Common.{subst, true≢false}
use Rattle.linx_base.specs.Sides.{other_of}
use Rattle.linx_base.specs.declared.frame.Verdict.{Verdict}
use Rattle.linx_base.specs.declared.identity.Inc.{Inc}
use Rattle.linx_base.specs.declared.identity.LinkNo.{LinkNo}
use Rattle.linx_base.specs.declared.identity.Session.{Session}
use Rattle.linx_base.specs.declared.identity.Side.{Side}
use Rattle.journal.specs.Effects.{losing}
use Rattle.journal.specs.History.{endpoint_by}
use Rattle.journal.specs.Laws.{IsBounded, KeepsEndpoints, KeepsMakers, KeepsReceives, KeepsSends}
use Rattle.journal.specs.Laws.{is_endpoints, is_opening}
use Rattle.journal.specs.Pending.{owed}
use Rattle.journal.specs.Sessions.{up_session}
use Rattle.journal.specs.Shapes.{Shape, node_by}
use Rattle.journal.specs.declared.by.By.{By}
use Rattle.journal.specs.declared.effect.Effect.{Effect}
use Rattle.journal.specs.declared.effect.Step.{Step}
use Rattle.journal.specs.declared.head.Head.{Head}
use Rattle.journal.specs.declared.head.Head.TheVariants.{Restart, TakeNone, Tick, Wire}
use Rattle.link_laws.specs.Brought.{Brought, MayBring, brought_at}
use Rattle.link_laws.specs.Ends.{IsLinkOf, node_at}
use Rattle.link_laws.specs.Laws.{ArePacketEffects, HasEffects, IsHandedOver, IsLegalStep, IsTick}
use Rattle.link_laws.specs.Laws.{KeepsLinks, KeepsNodeLaws, delivers, loses, restarting}
use Rattle.link_laws.specs.Sessions.{LosesIfCut, is_cut, silent_ticks}

-- no endpoint is needed for what is no opening and no step of an endpoint
pub no_endpoint : {me : Option Inc} {head : Head} → is_opening head ≡ false
    → is_endpoints head ≡ false → KeepsEndpoints me head
no_endpoint {me} {head} opens needs = record {
  opens = λ is. absurd (true≢false (sym is ∙ opens));
  needs = λ is. absurd (true≢false (sym is ∙ needs));
}

-- the head is that of a step of an actor off the links, which doesn't ask for rest
abbrev pub is_plain_head : Head → Bool
is_plain_head (TakeNone filter) = false
is_plain_head (Wire l from verdict) = false
is_plain_head (Tick l side) = false
is_plain_head _ = true

-- such a step is legal where it keeps the laws of nodes, since the others ask nothing of it
pub legal_plain : (shape : Shape) (P : List Step) (by : By) (head : Head) (es : List Effect)
    → is_plain_head head ≡ true
    → KeepsNodeLaws shape P (record { by = by; head = head; effects = es })
    → IsLegalStep shape P (record { by = by; head = head; effects = es })
legal_plain shape P by (TakeNone filter) es plain laws = absurd (true≢false (sym plain))
legal_plain shape P by (Wire k from verdict) es plain laws = absurd (true≢false (sym plain))
legal_plain shape P by (Tick k side) es plain laws = absurd (true≢false (sym plain))
legal_plain shape P by head es plain laws =
    record { nodes = laws; rest = tt; packets = tt; cuts = tt; ticks = tt }

-- a step that needs no endpoint keeps the laws of nodes where what they ask of its head is kept
pub node_laws : {shape : Shape} {P : List Step} {by : By} {head : Head} {es : List Effect}
    → KeepsMakers shape P by head → is_opening head ≡ false → is_endpoints head ≡ false
    → IsBounded head → HasEffects shape P (node_by shape by) (endpoint_by P by) head es
    → KeepsSends P (node_by shape by) head
    → KeepsReceives shape P (node_by shape by) by (endpoint_by P by) head → KeepsLinks shape head
    → KeepsNodeLaws shape P (record { by = by; head = head; effects = es })
node_laws makers opens needs bounds effects sends receives links = record {
  makers = makers;
  endpoints = no_endpoint opens needs;
  bounds = bounds;
  effects = effects;
  sends = sends;
  receives = receives;
  links = links;
}

-- a packet that meets a verdict
pub legal_passing : (shape : Shape) (P : List Step) (by : By) (l : LinkNo) (from : Side)
    (verdict : Verdict) (es : List Effect) → KeepsMakers shape P by (Wire l from verdict)
    → IsLinkOf shape l → LosesIfCut P l verdict
    → IsHandedOver (delivers verdict) P (node_at shape l (other_of from)) (node_at shape l from) l
    es
    → IsLegalStep shape P (record { by = by; head = Wire l from verdict; effects = es })
legal_passing shape P by l from verdict es maker of_shape cuts handed =
    record {
      nodes = node_laws maker refl refl tt tt tt tt of_shape;
      rest = tt;
      packets = handed;
      cuts = cuts;
      ticks = tt;
    }

-- the step of a packet that brings this
abbrev pub wire_step : Shape → List Step → By → LinkNo → Side → Verdict → Brought → Step
wire_step shape P by l from verdict what = record {
  by = by;
  head = Wire l from verdict;
  effects = brought_at P (node_at shape l (other_of from)) l what;
}

pub legal_wire : (shape : Shape) (P : List Step) (by : By) (l : LinkNo) (from : Side)
    (verdict : Verdict) (what : Brought) → KeepsMakers shape P by (Wire l from verdict)
    → IsLinkOf shape l → delivers verdict ≡ true → is_cut P l.0 ≡ false
    → MayBring P (node_at shape l (other_of from)) (node_at shape l from) l what
    → IsLegalStep shape P (wire_step shape P by l from verdict what)
legal_wire shape P by l from verdict what maker of_shape hands whole may =
    let n : ℕ = node_at shape l (other_of from) in
    let m : ℕ = node_at shape l from in
    let packet : ArePacketEffects P n m l (brought_at P n l what) =
    record { what = what; effects = refl; may = may } in
    legal_passing shape P by l from verdict (brought_at P n l what) maker of_shape
    (λ cut. absurd (true≢false (sym cut ∙ whole)))
    (subst (λ (t : Bool). IsHandedOver t P n m l (brought_at P n l what)) (sym hands) packet)

-- a tick
pub legal_tick : (shape : Shape) (P : List Step) (by : By) (l : LinkNo) (side : Side)
    (es : List Effect) → KeepsMakers shape P by (Tick l side) → IsLinkOf shape l
    → IsTick P (node_at shape l side) l side es
    → IsLegalStep shape P (record { by = by; head = Tick l side; effects = es })
legal_tick shape P by l side es maker of_shape tick =
    record {
      nodes = node_laws maker refl refl tt tt tt tt of_shape;
      rest = tt;
      packets = tt;
      cuts = tt;
      ticks = tick;
    }

-- the step of a tick at which a session is lost
abbrev pub lost_step : Shape → List Step → By → LinkNo → Side → Session → Step
lost_step shape P by l side x = record {
  by = by;
  head = Tick l side;
  effects = losing (record { 0 = node_at shape l side }) l x (owed P (node_at shape l side));
}

pub legal_lost : (shape : Shape) (P : List Step) (by : By) (l : LinkNo) (side : Side) (x : Session)
    → KeepsMakers shape P by (Tick l side) → IsLinkOf shape l
    → up_session P (node_at shape l side) l.0 ≡ Some x
    → 2 ≤ silent_ticks P (node_at shape l side) l.0 side
    → IsLegalStep shape P (lost_step shape P by l side x)
legal_lost shape P by l side x maker of_shape up silent =
    legal_tick shape P by l side (lost_step shape P by l side x).effects maker of_shape
    (loses x up silent refl)

-- the step of a restart
abbrev pub restart_step : Shape → List Step → By → ℕ → Step
restart_step shape P by n = record {
  by = by;
  head = Restart (record { 0 = n });
  effects = restarting shape P n;
}

pub legal_restart : (shape : Shape) (P : List Step) (by : By) (n : ℕ)
    → KeepsMakers shape P by (Restart (record { 0 = n }))
    → IsLegalStep shape P (restart_step shape P by n)
legal_restart shape P by n maker =
    legal_plain shape P by (Restart (record { 0 = n })) (restarting shape P n) refl
    (node_laws maker refl refl tt refl tt tt tt)
