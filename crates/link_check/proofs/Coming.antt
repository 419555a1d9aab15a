-- A STEP IS LEGAL exactly where it keeps the laws of nodes and of links, with exact effects.
use Rattle.std.proofs.Common.{◌≡◌, ℕ, Bool, true, false, List, Option, Some, None, refl, sym, subst}
use Rattle.std.specs.Prelude.{IsSomeAnd}
use Rattle.linx_base.specs.Sides.{other_of}
use Rattle.linx_base.specs.declared.identity.LinkNo.{LinkNo}
use Rattle.linx_base.specs.declared.identity.Side.{Side}
use Rattle.journal.specs.Shapes.{Shape}
use Rattle.journal.specs.declared.effect.Effect.{Effect}
use Rattle.journal.specs.declared.effect.Step.{Step}
use Rattle.journal.specs.declared.head.Head.{Head}
use Rattle.journal.specs.declared.head.Head.TheVariants.{Tick, Wire}
use Rattle.link_laws.specs.Brought.{Brought, MayBring, brought_at, goes_down, nothing}
use Rattle.link_laws.specs.Ends.{node_at}
use Rattle.link_laws.specs.Laws.{IsHandedOver, IsLegalStep, IsTick, KeepsPackets, KeepsTicks}
use Rattle.link_laws.specs.Laws.{delivers, loses, stays}
use Rattle.link_check.specs.Coming.{AreExact, HasExact, MayComeIf, MayLose, MayPass, MayTick}
use Rattle.link_check.specs.Judging.{IsLegalBy, LegalByLaws}
use Rattle.link_check.specs.Reading.{brought_by}
use Rattle.link_check.proofs.Reading.{IsRightlyRead, kept-read, read-kept}

module _ (P : List Step) where
  -- PACKETS
  split : (n m : ℕ) (l : LinkNo) (es : List Effect) (o : Option Brought)
      → IsSomeAnd o (IsRightlyRead P n m l es)
      → IsSomeAnd o (MayBring P n m l) × IsSomeAnd o (λ what. es ≡ brought_at P n l what)
  split n m l es None is = absurd is
  split n m l es (Some what) is = (is.may, is.effects)

  join : (n m : ℕ) (l : LinkNo) (es : List Effect) (o : Option Brought)
      → IsSomeAnd o (MayBring P n m l) → IsSomeAnd o (λ what. es ≡ brought_at P n l what)
      → IsSomeAnd o (IsRightlyRead P n m l es)
  join n m l es None may exact = absurd may
  join n m l es (Some what) may exact = record { effects = exact; may = may }

  packet-splits : (b : Bool) (n m : ℕ) (l : LinkNo) (es : List Effect)
      → IsHandedOver b P n m l es → MayComeIf b P n m l es × AreExact P n l es
  packet-splits true n m l es packet =
      split n m l es (brought_by es) (kept-read P n m l es packet)
  packet-splits false n m l es none = (none, subst (AreExact P n l) (sym none) refl)

  packet-joins : (b : Bool) (n m : ℕ) (l : LinkNo) (es : List Effect)
      → MayComeIf b P n m l es → AreExact P n l es → IsHandedOver b P n m l es
  packet-joins true n m l es may exact =
      read-kept P n m l es (join n m l es (brought_by es) may exact)
  packet-joins false n m l es none exact = none

  -- TICKS
  abbrev MayTell : ℕ → LinkNo → Side → List Effect → Type 0
  MayTell n l side es = IsSomeAnd (brought_by es) (MayLose P n l side)

  abbrev Both : ℕ → LinkNo → Side → List Effect → Type 0
  Both n l side es = MayTell n l side es × AreExact P n l es

  tick-splits : (n : ℕ) (l : LinkNo) (side : Side) (es : List Effect) → IsTick P n l side es
      → Both n l side es
  tick-splits n l side es (stays none) = subst (Both n l side) (sym none) (tt, refl)
  tick-splits n l side es (loses x up silent same) =
      subst (Both n l side) (sym same) (record { up = up; silent = silent }, refl)

  tick-joins : (n : ℕ) (l : LinkNo) (side : Side) (es : List Effect) → MayTell n l side es
      → AreExact P n l es → IsTick P n l side es
  tick-joins n l side es may exact = go (brought_by es) may exact
    where
      go : (o : Option Brought) → IsSomeAnd o (MayLose P n l side)
          → IsSomeAnd o (λ what. es ≡ brought_at P n l what) → IsTick P n l side es
      go None may exact = absurd may
      go (Some nothing) may exact = stays exact
      go (Some (goes_down x)) may exact = loses x may.up may.silent exact
      go (Some _) may exact = absurd may

  -- BOTH, by the head
  module _ (shape : Shape) where
    pub splits : (head : Head) (es : List Effect) → KeepsPackets shape P head es
        → KeepsTicks shape P head es
        → MayPass shape P head es × (MayTick shape P head es × HasExact shape P head es)
    splits (Wire l from verdict) es packet tick =
        let parts = packet-splits (delivers verdict) (node_at shape l (other_of from))
        (node_at shape l from) l es packet in (parts.0, (tt, parts.1))
    splits (Tick l side) es packet tick =
        let parts = tick-splits (node_at shape l side) l side es tick in (tt, (parts.0, parts.1))
    splits _ es packet tick = (tt, (tt, tt))

    pub packets-join : (head : Head) (es : List Effect) → MayPass shape P head es
        → HasExact shape P head es → KeepsPackets shape P head es
    packets-join (Wire l from verdict) es may exact =
        packet-joins (delivers verdict) (node_at shape l (other_of from)) (node_at shape l from) l
        es may exact
    packets-join _ es may exact = tt

    pub ticks-join : (head : Head) (es : List Effect) → MayTick shape P head es
        → HasExact shape P head es → KeepsTicks shape P head es
    ticks-join (Tick l side) es may exact =
        tick-joins (node_at shape l side) l side es may exact
    ticks-join _ es may exact = tt

-- THE LAWS ARE WHOLE
pub legal-by-laws : LegalByLaws
legal-by-laws shape P s = (to, back)
  where
    to : IsLegalStep shape P s → IsLegalBy shape P s
    to legal =
        let parts = splits P shape s.head s.effects legal.packets legal.ticks in
        record {
          nodes = legal.nodes;
          links = record {
            links = legal.nodes.links;
            rest = legal.rest;
            packets = parts.0;
            cuts = legal.cuts;
            ticks = parts.1.0;
          };
          exact = parts.1.1;
        }

    back : IsLegalBy shape P s → IsLegalStep shape P s
    back by = record {
      nodes = by.nodes;
      rest = by.links.rest;
      packets = packets-join P shape s.head s.effects by.links.packets by.exact;
      cuts = by.links.cuts;
      ticks = ticks-join P shape s.head s.effects by.links.ticks by.exact;
    }
