-- A packet that meets a verdict, and a tick.
use Rattle.std.proofs.Common.{◌≡◌, ◌≤◌, Bool, true, false, ◌&&◌, List, [], ◌∷◌, refl, sym, ◌∙◌, ap}
use Rattle.std.proofs.Common.{subst, arith, eq-eqb}
use Rattle.linx_base.specs.Sides.{other_of}
use Rattle.linx_base.specs.declared.frame.Verdict.{Verdict}
use Rattle.linx_base.specs.declared.identity.LinkNo.{LinkNo}
use Rattle.linx_base.specs.declared.identity.Side.{Side}
use Rattle.journal.specs.History.{endpoint_by}
use Rattle.journal.specs.Shapes.{Shape}
use Rattle.journal.specs.declared.by.By.{By}
use Rattle.journal.specs.declared.effect.Effect.{Effect}
use Rattle.journal.specs.declared.effect.Step.{Step}
use Rattle.journal.specs.declared.head.Head.TheVariants.{Tick, Wire}
use Rattle.link_laws.specs.Brought.{nothing}
use Rattle.link_laws.specs.Ends.{IsLinkOf, node_at}
use Rattle.link_laws.specs.Sides.{Links, records_of}
use Rattle.link_laws.specs.Laws.{IsHandedOver, KeepsNodeLaws, delivers, stays}
use Rattle.link_laws.specs.Moves.{AllLeft, Delivers, HandsOver, IsLeft, IsTicked}
use Rattle.link_laws.specs.Moves.{OthersLeft, Passes, TicksAt, TicksOver, brings_down}
use Rattle.link_laws.specs.Moves.{brings_nothing, brings_up, gives, is_side, loses_it, ticks_on}
use Rattle.link_laws.specs.Sessions.{same_side, silent_ticks, ticks}
use Rattle.link_laws.proofs.AllLinks.SameSides.{IsSame, hunted-alike, left-same, linked-alike}
use Rattle.link_laws.proofs.AllLinks.SameSides.{one-each, opened-alike, trunks-alike}
use Rattle.link_laws.proofs.Sides.WordsAfterStep.{IsDone}
use Rattle.link_laws.proofs.Moves.Shown.{IsGood, IsKnown, TouchesNone, left_kept, linked_untouched}
use Rattle.link_laws.proofs.Moves.Shown.{step_of}
use Rattle.link_laws.proofs.Hunts.EachStep.{IsCalm, calm_here, hunted_calm}
use Rattle.link_laws.proofs.Legal.{legal_passing, legal_tick}
use Rattle.link_laws.proofs.Moves.Givings.{giving_good, whole_link}
use Rattle.link_laws.proofs.Moves.Turns.{down_good, losing_good, up_good}
use Rattle.link_laws.proofs.AllLinks.OneSideKept.{raises-none, silence-side}
use Rattle.link_laws.proofs.AllLinks.Publishings.{opened_step}
use Rattle.link_laws.proofs.AllLinks.OthersStay.{at-side, no_signal, same_side-itself}
use Rattle.link_laws.proofs.Sides.Silence.{silence-tick}

-- a packet or a tick without effects touches nothing
module _ (P : List Step) (by : By) (l : LinkNo) (from : Side) (verdict : Verdict) where
  pub empty_wire : TouchesNone P (step_of by (Wire l from verdict) [])
  empty_wire = record {
    es = [];
    items = [];
    done = record { effects = refl; items_only = tt };
    touches_none = λ n h. refl;
    opens_none = refl;
    closes_none = λ i. refl;
    stays = λ n. refl;
    says_none = λ n h x. no_signal n h x (endpoint_by P by) (Wire l from verdict) (λ j. refl);
  }

  wire_calm : IsCalm P (step_of by (Wire l from verdict) [])
  wire_calm = record { begins_none = λ n h w. refl; opens_none = refl }

-- A PACKET
module _ (shape : Shape) (P : List Step) (before after : Links) (known : IsKnown shape P before)
    (by : By) (l : LinkNo) (from : Side) (verdict : Verdict) where
  -- that brings nothing
  nothing_good : (es : List Effect) → KeepsNodeLaws shape P (step_of by (Wire l from verdict) es)
      → Passes shape P before after l from verdict es → es ≡ []
      → IsHandedOver (delivers verdict) P (node_at shape l (other_of from)) (node_at shape l from) l
      [] → AllLeft shape before after → IsGood shape P (step_of by (Wire l from verdict) es) after
  nothing_good es laws passes none handed left =
      subst (λ (fs : List Effect). IsGood shape P (step_of by (Wire l from verdict) fs) after)
      (sym none) (record {
        legal = legal_passing shape P by l from verdict [] laws.makers passes.of_shape passes.cuts
            handed;
        kept = left_kept shape P (step_of by (Wire l from verdict) []) before after
            (empty_wire P by l from verdict)
            (λ n m h. calm_here P (step_of by (Wire l from verdict) [])
            (wire_calm P by l from verdict) n m h) left known.kept;
        promised = tt;
      })

  by_verdict : (es : List Effect) → KeepsNodeLaws shape P (step_of by (Wire l from verdict) es)
      → Passes shape P before after l from verdict es → (t : Bool) → delivers verdict ≡ t
      → HandsOver t shape P before after l from es
      → IsGood shape P (step_of by (Wire l from verdict) es) after
  by_verdict es laws passes false loses handed =
      nothing_good es laws passes handed.0
      (subst (λ (t : Bool). IsHandedOver t P (node_at shape l (other_of from))
      (node_at shape l from) l []) (sym loses) refl) handed.1
  by_verdict es laws passes true hands handed = by_delivery handed.0
    where
      by_delivery : Delivers P (node_at shape l (other_of from)) l (before l.0 (other_of from))
          (after l.0 (other_of from)) (before l.0 from) es
          → IsGood shape P (step_of by (Wire l from verdict) es) after
      by_delivery (brings_nothing none left) =
          nothing_good es laws passes none
          (subst (λ (t : Bool). IsHandedOver t P (node_at shape l (other_of from))
          (node_at shape l from) l []) (sym hands)
          (record { what = nothing; effects = refl; may = tt }))
          (one-each shape before after l (other_of from) handed.1 IsLeft (λ C D it. it) left)
      by_delivery (brings_up up) =
          up_good shape P before after known by l from verdict passes.of_shape
          (whole_link P l verdict passes.cuts hands) hands laws.makers handed.1 es up
      by_delivery (brings_down down) =
          down_good shape P before after known by l from verdict passes.of_shape
          (whole_link P l verdict passes.cuts hands) hands laws.makers handed.1 es down
      by_delivery (gives given) =
          giving_good shape P before after known by l from verdict passes.of_shape
          (whole_link P l verdict passes.cuts hands) hands laws.makers handed.1 es given

  pub passing_good : (es : List Effect)
      → KeepsNodeLaws shape P (step_of by (Wire l from verdict) es)
      → Passes shape P before after l from verdict es
      → IsGood shape P (step_of by (Wire l from verdict) es) after
  passing_good es laws passes = by_verdict es laws passes (delivers verdict) refl passes.handed

-- A TICK
module _ (shape : Shape) (P : List Step) (before after : Links) (known : IsKnown shape P before)
    (by : By) (l : LinkNo) (side : Side) where
  abbrev tick : Step
  tick = step_of by (Tick l side) []

  quiet : TouchesNone P tick
  quiet = record {
    es = [];
    items = [];
    done = record { effects = refl; items_only = tt };
    touches_none = λ n h. refl;
    opens_none = refl;
    closes_none = λ i. refl;
    stays = λ n. refl;
    says_none = λ n h x. no_signal n h x (endpoint_by P by) (Tick l side) (λ j. refl);
  }

  -- at which the side stays
  module _ (of_shape : IsLinkOf shape l) (it : IsTicked (before l.0 side) (after l.0 side) [])
      (others : OthersLeft shape before after l side) where
    same : (h : LinkNo) → IsLinkOf shape h → (at : Side) → IsSame (before h.0 at) (after h.0 at)
    same = one-each shape before after l side others IsSame left-same
        (record { side = it.side; noted = it.noted })

    ticks_it : ticks l.0 side (Tick l side) ≡ true
    ticks_it = ap (λ t. t && same_side side side) (eq-eqb l.0 l.0 refl) ∙ same_side-itself side

    here : (after l.0 side).silent ≤ silent_ticks (tick ∷ P) (node_at shape l side) l.0 side
    here =
        let one = silence-tick P tick (node_at shape l side) l.0 side (before l.0 side).silent
        (known.kept.silent l of_shape side) refl ticks_it in
        let now = it.silent in
        omega arith

    silent : (h : LinkNo) → IsLinkOf shape h → (at : Side) → (t : Bool) → is_side l side h at ≡ t
        → (after h.0 at).silent ≤ silent_ticks (tick ∷ P) (node_at shape h at) h.0 at
    silent h of_h at false e =
        silence-side P tick (node_at shape h at) h.0 at (before h.0 at).silent (after h.0 at).silent
        (known.kept.silent h of_h at) (others h of_h at e).silent refl
    silent h of_h at true e =
        at-side (λ k a. (after k.0 a).silent ≤ silent_ticks (tick ∷ P) (node_at shape k a) k.0 a) l
        side h at e here

    ticked_good : KeepsNodeLaws shape P tick → IsGood shape P tick after
    ticked_good laws = record {
      legal = legal_tick shape P by l side [] laws.makers of_shape (stays refl);
      kept = record {
        trunks = trunks-alike shape (records_of before) (records_of after)
            (λ h of_h at. (same h of_h at).side) known.kept.trunks;
        linked = linked-alike shape (tick ∷ P) (records_of before) (records_of after)
            (λ h of_h at. (same h of_h at).side)
            (linked_untouched shape P tick before quiet known.kept);
        opened = opened-alike shape (tick ∷ P) (records_of before) (records_of after)
            (λ h of_h at. (same h of_h at).side)
            (opened_step shape P (records_of before) tick known.kept.opened
            (raises-none tick [] [] quiet_done (λ n h x. refl)));
        hunted = hunted-alike shape (tick ∷ P) before after same
            (hunted_calm shape P before tick
            (record { begins_none = λ n h w. refl; opens_none = refl }) known.kept.hunted);
        silent = λ h of_h at. silent h of_h at (is_side l side h at) refl;
      };
      promised = tt;
    }
      where
        quiet_done : IsDone (step_of by (Tick l side) []) [] []
        quiet_done = record { effects = refl; items_only = tt }

  pub ticking_good : (es : List Effect) → KeepsNodeLaws shape P (step_of by (Tick l side) es)
      → TicksOver shape P before after l side es
      → IsGood shape P (step_of by (Tick l side) es) after
  ticking_good es laws over = by_tick es laws over.ticked
    where
      by_tick : (fs : List Effect) → KeepsNodeLaws shape P (step_of by (Tick l side) fs)
          → TicksAt P (node_at shape l side) l (before l.0 side) (after l.0 side) fs
          → IsGood shape P (step_of by (Tick l side) fs) after
      by_tick fs kept (ticks_on it) =
          subst (λ (gs : List Effect). IsGood shape P (step_of by (Tick l side) gs) after)
          (sym it.effects) (ticked_good over.of_shape (record {
            effects = refl;
            side = it.side;
            noted = it.noted;
            silent = it.silent;
          }) over.others
          (subst (λ (gs : List Effect). KeepsNodeLaws shape P (step_of by (Tick l side) gs))
          it.effects kept))
      by_tick fs kept (loses_it it) =
          losing_good shape P before after known by l side over.of_shape kept.makers over.others fs
          it
