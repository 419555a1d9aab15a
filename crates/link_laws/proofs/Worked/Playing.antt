-- How a worked run is shown to be legal, step by step, and the words of worked runs over a link.
use Rattle.std.proofs.Common.{◌≡◌, ℕ, true, false, List, [], ◌∷◌, refl, sym, ◌∙◌, ◌≤◌, ◌<◌, Bool}
use Rattle.std.proofs.Common.{◌&&◌, ap, arith, length, nat_le, nat_lt, subst, leb-true, ltb-true}
use Rattle.std.proofs.Common.{true≢false}
use Rattle.std.proofs.lemmas.Bool.{and_parts}
use Rattle.linx_base.specs.Numbers.{inc_of, session_of}
use Rattle.linx_base.specs.Sides.{other_of}
use Rattle.linx_base.specs.declared.frame.Verdict.{Verdict}
use Rattle.linx_base.specs.declared.frame.Verdict.TheVariants.{Deliver}
use Rattle.linx_base.specs.declared.identity.Inc.{Inc}
use Rattle.linx_base.specs.declared.identity.LinkNo.{LinkNo}
use Rattle.linx_base.specs.declared.identity.NodeNo.{NodeNo}
use Rattle.linx_base.specs.declared.identity.Peer.TheVariants.{There}
use Rattle.linx_base.specs.declared.identity.Session.{Session}
use Rattle.linx_base.specs.declared.identity.Side.{Side}
use Rattle.linx_base.specs.declared.identity.Side.TheVariants.{First, Second}
use Rattle.linx_base.specs.SigNotes.{SigNote}
use Rattle.sigsel.specs.declared.sigsel.Sigsel.{Sigsel}
use Rattle.journal.specs.History.{endpoint_of}
use Rattle.journal.specs.Laws.{IsBounded, KeepsMakers, KeepsReceives, KeepsSends, may_make}
use Rattle.journal.specs.Shapes.{Shape, node_by}
use Rattle.journal.specs.declared.by.By.TheVariants.{Actor, Pump}
use Rattle.journal.specs.declared.effect.Effect.{Effect}
use Rattle.journal.specs.declared.effect.Effect.TheVariants.{Up, Down, Met, Gone}
use Rattle.journal.specs.declared.effect.Step.{Step}
use Rattle.journal.specs.declared.head.Head.{Head}
use Rattle.journal.specs.declared.head.Head.TheVariants.{Send, TakeNone, Cut, Mend, Settle}
use Rattle.journal.specs.declared.head.Head.TheVariants.{Wire, Tick}
use Rattle.journal.specs.declared.head.SentTo.TheVariants.{Link}
use Rattle.journal.proofs.Playing.{endpoint_kept, has_endpoint, is_actor, made_by, on_node}
use Rattle.link_laws.specs.Brought.{MayBring, Brought, brought_at}
use Rattle.link_laws.specs.Ends.{IsLinkOf, node_at}
use Rattle.link_laws.specs.Laws.{HasEffects, IsHandedOver, IsLegal, IsLegalStep, IsTick}
use Rattle.link_laws.specs.Laws.{KeepsLinks, KeepsNodeLaws, delivers}
use Rattle.link_laws.specs.Sessions.{LosesIfCut, is_cut}
use Rattle.link_laws.specs.Still.{AllStill, IsStill}
use Rattle.link_laws.proofs.Legal.{is_plain_head, legal_passing, legal_plain, legal_tick, node_laws}

-- the test of a link: it is one of the shape
abbrev is_link : Shape → LinkNo → Bool
is_link shape k = nat_lt 0 k.0 && nat_le k.0 (length shape.links)

is_link-of : (shape : Shape) (k : LinkNo) → is_link shape k ≡ true → IsLinkOf shape k
is_link-of shape k is =
    let parts = and_parts (nat_lt 0 k.0) (nat_le k.0 (length shape.links)) is in
    (ltb-true 0 k.0 parts.0, leb-true k.0 (length shape.links) parts.1)

-- the test of a head: if it is of a link, of one of the shape
abbrev has_link : Shape → Head → Bool
has_link shape (Wire k from verdict) = is_link shape k
has_link shape (Tick k side) = is_link shape k
has_link shape (Cut k) = is_link shape k
has_link shape (Mend k) = is_link shape k
has_link shape (Settle k) = is_link shape k
has_link shape _ = true

links_kept : (shape : Shape) (head : Head) → has_link shape head ≡ true → KeepsLinks shape head
links_kept shape (Wire k from verdict) is = is_link-of shape k is
links_kept shape (Tick k side) is = is_link-of shape k is
links_kept shape (Cut k) is = is_link-of shape k is
links_kept shape (Mend k) is = is_link-of shape k is
links_kept shape (Settle k) is = is_link-of shape k is
links_kept shape _ is = tt

-- the test of a head for an actor: it may act, and its endpoint and its link are as the head needs
abbrev may_act : Shape → List Step → ℕ → Head → Bool
may_act shape P k head =
    is_actor shape P k && (has_endpoint (endpoint_of P k) head && has_link shape head)

-- a step of an actor keeps the laws of nodes where that test, and what is said of its head, compute
pub keeps_laws : {shape : Shape} {P : List Step} {k : ℕ} {head : Head} {effects : List Effect}
    → may_act shape P k head ≡ true → IsBounded head
    → HasEffects shape P (node_by shape (Actor k)) (endpoint_of P k) head effects
    → KeepsSends P (node_by shape (Actor k)) head
    → KeepsReceives shape P (node_by shape (Actor k)) (Actor k) (endpoint_of P k)
    head
    → KeepsNodeLaws shape P (record { by = Actor k; head = head; effects = effects })
keeps_laws {shape} {P} {k} {head} {effects} may bounds same sends receives =
    let parts =
    and_parts (is_actor shape P k) (has_endpoint (endpoint_of P k) head && has_link shape head) may
    in
    let others = and_parts (has_endpoint (endpoint_of P k) head) (has_link shape head) parts.1 in
    record {
      makers = made_by parts.0;
      endpoints = endpoint_kept others.0;
      bounds = bounds;
      effects = same;
      sends = sends;
      receives = receives;
      links = links_kept shape head others.1;
    }

-- it is legal where its head is plain, too
pub acts : {shape : Shape} {P : List Step} {k : ℕ} {head : Head} {effects : List Effect}
    → (may_act shape P k head && is_plain_head head) ≡ true → IsBounded head
    → HasEffects shape P (node_by shape (Actor k)) (endpoint_of P k) head effects
    → KeepsSends P (node_by shape (Actor k)) head
    → KeepsReceives shape P (node_by shape (Actor k)) (Actor k) (endpoint_of P k)
    head
    → IsLegalStep shape P (record { by = Actor k; head = head; effects = effects })
acts {shape} {P} {k} {head} {effects} may bounds same sends receives =
    let parts = and_parts (may_act shape P k head) (is_plain_head head) may in
    legal_plain shape P (Actor k) head effects parts.1
    (keeps_laws parts.0 bounds same sends receives)

-- a step of an actor that finds none, where the links are still
pub finds_none : {shape : Shape} {P : List Step} {k : ℕ} {filter : Sigsel}
    → may_act shape P k (TakeNone filter) ≡ true
    → KeepsReceives shape P (node_by shape (Actor k)) (Actor k) (endpoint_of P k)
    (TakeNone filter) → AllStill shape P → IsLegalStep shape P
    (record { by = Actor k; head = TakeNone filter; effects = [] })
finds_none {shape} {P} {k} {filter} may receives still = record {
  nodes = keeps_laws may tt refl tt receives;
  rest = still;
  packets = tt;
  cuts = tt;
  ticks = tt;
}

-- a legal run goes on with a legal step
infixl 1 ◌▸◌
pub ◌▸◌ : {shape : Shape} {P : List Step} {s : Step} → IsLegal shape P → IsLegalStep shape P s
    → IsLegal shape (s ∷ P)
before ▸ step = (before, step)

-- RUNS OVER A LINK. The one link of these runs, between nodes 1 and 2, with an actor on each
abbrev pub l : LinkNo
l = record { 0 = 1 }

abbrev pub two_ends : Shape
two_ends = record {
  links = record { first = record { 0 = 1 }; second = record { 0 = 2 }; window = 32; piece = 1400 }
      ∷ [];
  actors = record { 0 = 1 } ∷ record { 0 = 2 } ∷ [];
}

-- it is one of the shape, and all that is
pub one_of : IsLinkOf two_ends l
one_of = (omega arith, omega arith)

pub only_link : (k : LinkNo) → IsLinkOf two_ends k → l ≡ k
only_link k of_shape =
    let low : 0 < k.0 = of_shape.0 in
    let high : k.0 ≤ 1 = of_shape.1 in
    ap (λ (n : ℕ). let m : LinkNo = record { 0 = n } in m) (omega arith)

-- what holds of both sides of the one link holds of all
pub each : (Holds : LinkNo → Side → Type 0) → Holds l First → Holds l Second → (k : LinkNo)
    → IsLinkOf two_ends k → (side : Side) → Holds k side
each Holds first second k of_shape side =
    subst (λ (h : LinkNo). Holds h side) (only_link k of_shape) (by_side side)
  where
    by_side : (at : Side) → Holds l at
    by_side First = first
    by_side Second = second

-- its pump may make what is on it
pub pumped : {P : List Step} {head : Head} → may_make (Pump l) head ≡ true
    → KeepsMakers two_ends P (Pump l) head
pumped {P} {head} may = record { maker = (omega arith, omega arith); may = may }

-- a step of the pump: a packet that meets a verdict
pub passes : {P : List Step} {from : Side} {verdict : Verdict} {es : List Effect}
    → LosesIfCut P l verdict
    → IsHandedOver (delivers verdict) P (node_at two_ends l (other_of from))
    (node_at two_ends l from) l es
    → IsLegalStep two_ends P (record { by = Pump l; head = Wire l from verdict; effects = es })
passes {P} {from} {verdict} {es} cuts handed =
    legal_passing two_ends P (Pump l) l from verdict es (pumped refl) one_of cuts handed

-- the same, while the link is whole
pub goes_through : {P : List Step} {from : Side} {verdict : Verdict} {es : List Effect}
    → is_cut P 1 ≡ false → IsHandedOver (delivers verdict) P (node_at two_ends l (other_of from))
    (node_at two_ends l from) l es → IsLegalStep two_ends P
    (record { by = Pump l; head = Wire l from verdict; effects = es })
goes_through uncut handed = passes (λ cut. absurd (true≢false (sym cut ∙ uncut))) handed

-- a packet that is handed over while the link is whole
pub brings : {P : List Step} {from : Side} {es : List Effect} → (what : Brought)
    → is_cut P 1 ≡ false → es ≡ brought_at P (node_at two_ends l (other_of from)) l what
    → MayBring P (node_at two_ends l (other_of from)) (node_at two_ends l from) l what
    → IsLegalStep two_ends P (record { by = Pump l; head = Wire l from Deliver; effects = es })
brings what uncut same may = goes_through uncut (record { what = what; effects = same; may = may })

-- a tick of a side
pub ticked : {P : List Step} {side : Side} {es : List Effect}
    → IsTick P (node_at two_ends l side) l side es
    → IsLegalStep two_ends P (record { by = Pump l; head = Tick l side; effects = es })
ticked {P} {side} {es} tick = legal_tick two_ends P (Pump l) l side es (pumped refl) one_of tick

-- the laws of nodes ask little of a packet and of a tick
pub wire_laws : {P : List Step} {from : Side} {verdict : Verdict} {es : List Effect}
    → KeepsNodeLaws two_ends P (record { by = Pump l; head = Wire l from verdict; effects = es })
wire_laws = node_laws (pumped refl) refl refl tt tt tt tt one_of

pub tick_laws : {P : List Step} {side : Side} {es : List Effect}
    → KeepsNodeLaws two_ends P (record { by = Pump l; head = Tick l side; effects = es })
tick_laws = node_laws (pumped refl) refl refl tt tt tt tt one_of

-- the first sessions of two boots, and the second of the first
abbrev pub x11 : Session
x11 = session_of 1 1

abbrev pub x12 : Session
x12 = session_of 1 2

abbrev pub x21 : Session
x21 = session_of 2 1

-- the first endpoints of the two nodes, and the second of node 2
abbrev pub a : Inc
a = inc_of 1 1

abbrev pub b : Inc
b = inc_of 2 1

abbrev pub c : Inc
c = inc_of 2 2

-- a step of the pump, and the words of its steps: from the first side to the second, and back
abbrev pub pump : Head → List Effect → Step
pump head effects = record { by = Pump l; head = head; effects = effects }

abbrev pub there : List Effect → Step
there effects = pump (Wire l First Deliver) effects

abbrev pub back : List Effect → Step
back effects = pump (Wire l Second Deliver) effects

-- what node 1 sends over the link
abbrev pub posts : Session → Inc → SigNote → Step
posts x to note = record { by = Actor 1; head = Send (There l x to) note Link; effects = [] }

-- effects at the two nodes
abbrev pub up : ℕ → Session → Session → Effect
up n x y = Up (record { 0 = n }) l x y

abbrev pub down : ℕ → Session → Effect
down n x = Down (record { 0 = n }) l x

abbrev pub met_at : ℕ → Session → Inc → List ℕ → Effect
met_at n x i name = Met (record { 0 = n }) (There l x i) name

abbrev pub gone_at : ℕ → Session → Inc → Effect
gone_at n x i = Gone (record { 0 = n }) (There l x i)

-- where the one link is still, all are
pub one_still : {P : List Step} → IsStill two_ends P l → AllStill two_ends P
one_still {P} still k of_shape = subst (IsStill two_ends P) (only_link k of_shape) still
